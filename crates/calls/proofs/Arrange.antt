-- Calls that do not conflict may change places, and so calls may be rearranged job by job where the order of conflicting ones is
-- kept.
use Rattle.std.proofs.Common.{◌≡◌, ℕ, Bool, true, false, not, ◌≢◌, ◌||◌, List, [], ◌∷◌, ◌++◌, length, sum_by, sym, refl, ap, ◌∙◌, inl, inr, arith}
use Rattle.std.proofs.lemmas.Bool.{cases_Bool, or_cases, or_left, or_right}
use Rattle.stores.specs.Sets.{beyond}
use Rattle.stores.proofs.Sets.{equal_self, same_rows, kept_agrees}
use Rattle.tables.specs.Lists.{is, In, keep}
use Rattle.tables.proofs.Lists.{not_true, is_means, not_is}
use Rattle.calls.specs.declared.data.DataAnswer.TheVariants.{Total as Figures, Next as Found}
use Rattle.calls.specs.declared.data.DataCall.{DataCall}
use Rattle.calls.specs.declared.data.DataCall.TheVariants.{Total, Next, Add, Drop, Change}
use Rattle.calls.specs.Kinds.{Kinds}
use Rattle.calls.specs.Orders.{Pairs}
use Rattle.calls.specs.Plain.{Done, has, found, effect, after, touches, writes, Conflict, Replays}
use Rattle.calls.specs.Serial.{calls_of, whole_jobs}
use Rattle.calls.proofs.Laws.{Laws}
use Rattle.calls.proofs.Listed.{Ahead, keep_in, others_in, keep_others, pairs_keep, pairs_map, flat_same}
use Rattle.calls.proofs.Changes.{Sorted, sorted_after, same_at, outside}

-- an order of the jobs that keeps the conflicts: of two calls of different jobs that conflict, the earlier one's job comes first
pub record Keeps {P R : Type 0} (K : Kinds P R) (js : List ℕ) (C : List (Done P R)) : Type 0 where
  pub distinct : Pairs ◌≢◌ js
  pub all_jobs : (e : Done P R) → In e C → In e.job js
  pub conflicts : Pairs (λ e f. e.job ≢ f.job → Conflict K e.call f.call → Ahead e.job f.job js) C

-- the calls of the other jobs
abbrev pub others : {P R : Type 0} → ℕ → List (Done P R) → List (Done P R)
others j C = keep (λ e. not (is j e.job)) C

module _ {P R : Type 0} (K : Kinds P R) (L : Laws K) where
  -- an answer is the same in two sets that agree on the rows that the call touches
  agrees : (d : DataCall P R) (x y : List R) → Sorted K L x → Sorted K L y → ((r : R) → touches K d r ≡ true → has K x r ≡ has K y r) → found K d x ≡ found K d y
  agrees (Total p) x y g k h = ap (λ (rs : List R). Figures (length rs) (sum_by K.amount rs)) (kept_agrees L.strict (K.holds p) x y g k h)
  agrees (Next p given) x y g k h = ap (λ (rs : List R). Found (beyond K.order given rs)) (kept_agrees L.strict (K.holds p) x y g k h)
  agrees (Add r) x y g k h = rw (h r (equal_self L.strict r))
  agrees (Drop r) x y g k h = rw (h r (equal_self L.strict r))
  agrees (Change o n) x y g k h =
      rw (h o (or_left _ _ (equal_self L.strict o)), h n (or_right _ _ (equal_self L.strict n)))

  at_row : (d : DataCall P R) (r : R) (x y : List R) → Sorted K L x → Sorted K L y → found K d x ≡ found K d y → has K x r ≡ has K y r → has K (after K d x) r ≡ has K (after K d y) r
  at_row d r x y g k p q = rw p (same_at K L (effect K d (found K d y)) r x y g k q)

  pub record Swaps (d e : DataCall P R) (x : List R) : Type 0 where
    pub left : found K d (after K e x) ≡ found K d x
    pub right : found K e (after K d x) ≡ found K e x
    pub order : after K d (after K e x) ≡ after K e (after K d x)

  swap_apart : (d e : DataCall P R) (x : List R) → Sorted K L x → ((r : R) → touches K d r ≡ true → touches K e r ≡ true → ⊥) → Swaps d e x
  swap_apart d e x g apart =
      let gd = sorted_after K L d x g in
      let ge = sorted_after K L e x g in
      let l = agrees d (after K e x) x ge g (λ s t. outside K L e s x g (not_true (touches K e s) (λ u. apart s t u))) in
      let r = agrees e (after K d x) x gd g (λ s t. outside K L d s x g (not_true (touches K d s) (λ u. apart s u t))) in
      record {
        left = l;
        right = r;
        order = same_rows L.strict _ _ (sorted_after K L d (after K e x) ge) (sorted_after K L e (after K d x) gd) (λ s. elim (cases_Bool (touches K d s)) [
          | inl t ↦
              let n = not_true (touches K e s) (λ u. apart s t u) in
              at_row d s (after K e x) x ge g l (outside K L e s x g n) ∙ sym (outside K L e s (after K d x) gd n)
          | inr t ↦ outside K L d s (after K e x) ge t ∙ sym (at_row e s (after K d x) x gd g r (outside K L d s x g t))
        ]);
      }

  -- a call that does not write leaves the rows as they are
  reads_only : (d : DataCall P R) (x : List R) → writes d ≡ false → after K d x ≡ x
  reads_only (Total p) x e = refl
  reads_only (Next p given) x e = refl
  reads_only (Add r) x e = cc
  reads_only (Drop r) x e = cc
  reads_only (Change o n) x e = cc

  pub swap : (d e : DataCall P R) (x : List R) → Sorted K L x → (Conflict K d e → ⊥) → Swaps d e x
  swap d e x g nc = elim (cases_Bool (writes d || writes e)) [
    | inl w ↦ swap_apart d e x g (λ r t u. nc (or_cases (writes d) (writes e) w, (r, t, u)))
    | inr w ↦
        let i = reads_only d x (grind arith) in
        let j = reads_only e x (grind arith) in
        let k = reads_only d (after K e x) (grind arith) in
        let l = reads_only e (after K d x) (grind arith) in
        record { left = rw j; right = rw i; order = grind arith }
  ]

  -- a call goes behind calls that it does not conflict with
  past : (B C : List (Done P R)) (e : Done P R) (x y : List R) → Sorted K L x → ((b : Done P R) → In b B → Conflict K e.call b.call → ⊥)
      → Replays K x (e ∷ (B ++ C)) y → Replays K x (B ++ (e ∷ C)) y
  past [] C e x y g nc r = r
  past (b ∷ B) C e x y g nc r =
      let s = swap e.call b.call x g (nc b (inl refl)) in (
        sym s.right ∙ r.1.0,
        past B C e (after K b.call x) y (sorted_after K L b.call x g) (λ f m. nc f (inr m))
            (s.left ∙ r.0, rw s.order r.1.1),
      )

  -- the calls that pass the test go to the front, where none of them conflicts with an earlier one that does not
  pub front : (p q : Done P R → Bool) → ((e : Done P R) → q e ≡ not (p e)) → (C : List (Done P R)) (x y : List R) → Sorted K L x
      → Pairs (λ e f. p e ≡ false → p f ≡ true → Conflict K e.call f.call → ⊥) C → Replays K x C y → Replays K x (keep p C ++ keep q C) y
  front p q h [] x y g nc r = r
  front p q h (e ∷ C) x y g nc r =
      let s = front p q h C (after K e.call x) y (sorted_after K L e.call x g) nc.1 r.1 in elim (cases_Bool (p e)) [
        | inl t ↦ rw (h e, t) (r.0, s)
        | inr t ↦ rw (h e, t) (past (keep p C) (keep q C) e x y g (λ f m. let k = keep_in f p C m in nc.0 f k.0 t k.1) (r.0, s))
      ]

  pub replay_split : (B C : List (Done P R)) (x y : List R) → Replays K x (B ++ C) y → (u : List R) × Replays K x B u × Replays K u C y
  replay_split [] C x y r = (x, refl, r)
  replay_split (b ∷ B) C x y r = let s = replay_split B C (after K b.call x) y r.1 in (s.0, (r.0, s.1), s.2)

  pub replay_join : (B C : List (Done P R)) (x u y : List R) → Replays K x B u → Replays K u C y → Replays K x (B ++ C) y
  replay_join [] C x u y p r = rw p r
  replay_join (b ∷ B) C x u y p r = (p.0, replay_join B C (after K b.call x) u y p.1 r)

  pub replay_sorted : (B : List (Done P R)) (x u : List R) → Sorted K L x → Replays K x B u → Sorted K L u
  replay_sorted [] x u g p = rw (← p) g
  replay_sorted (b ∷ B) x u g p = replay_sorted B (after K b.call x) u (sorted_after K L b.call x g) p.1

  -- calls that replay do so rearranged into whole jobs, in any order of the jobs that keeps the conflicts
  pub arrange : (js : List ℕ) (C : List (Done P R)) (x y : List R) → Sorted K L x → Keeps K js C → Replays K x C y → Replays K x (whole_jobs js C) y
  arrange [] [] x y g k r = r
  arrange [] (e ∷ C) x y g k r = absurd (k.all_jobs e (inl refl))
  arrange (j ∷ js) C x y g k r =
      let s = replay_split (calls_of j C) (others j C) x y (front (λ e. is j e.job) (λ e. not (is j e.job)) (λ e. refl) C x y g
      (pairs_map _ _ C (λ e f m n h p q c. let i = is_means j f.job q in let o = not_is j e.job p in let a = h (λ t. o (i ∙ sym t)) c in grind arith) k.conflicts) r) in
      replay_join (calls_of j C) (whole_jobs js C) x s.0 y s.1
      (rw (flat_same (λ i. calls_of i C) (λ i. calls_of i (others j C)) js (λ i m. sym (keep_others (λ (e : Done P R). e.job) j i C (k.distinct.0 i m))))
      (arrange js (others j C) s.0 y (replay_sorted (calls_of j C) x s.0 g s.1) rest s.2))
    where
      rest : Keeps K js (others j C)
      rest = let away = others_in (λ (e : Done P R). e.job) j C in record {
        distinct = k.distinct.1;
        all_jobs = λ e m. let a = away e m in let i = k.all_jobs e a.0 in grind arith;
        conflicts = pairs_map _ _ (others j C) (λ e f m n h p c. let a = away e m in let i = h p c in grind arith) (pairs_keep (λ (e : Done P R). not (is j e.job)) _ C k.conflicts);
      }
