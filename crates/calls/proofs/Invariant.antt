-- What holds of keeper, lists and store all along a run, and that each accepted call keeps it.
use Rattle.std.proofs.Common.{◌≡◌, ℕ, suc, ◌+◌, ◌<◌, ◌≤◌, true, false, not, ◌||◌, ◌≢◌, ◌⊎◌, List, [], ◌∷◌, ◌++◌, length, Some, None, Option, sym, refl, ap, ◌∙◌, inl, inr, append-nil, arith, length-append}
use Rattle.std.proofs.lemmas.Bool.{cases_eq, not-true}
use Rattle.std.proofs.lemmas.List.Elements.{filter-append}
use Rattle.tables.specs.declared.entries.Alteration.{Alteration}
use Rattle.tables.specs.declared.entries.LockEntry.{LockEntry}
use Rattle.tables.specs.declared.entries.Mode.{Mode}
use Rattle.tables.specs.declared.entries.UndoEntry.{UndoEntry}
use Rattle.tables.specs.declared.ledger.JobRecord.{JobRecord}
use Rattle.tables.specs.Lists.{is, In}
use Rattle.tables.specs.Locks.{is_write}
use Rattle.tables.specs.Undo.{removals, alterations_of, undone}
use Rattle.tables.specs.Jobs.{job_of, open_ledger}
use Rattle.tables.proofs.Lists.{is_means, not_is}
use Rattle.calls.specs.declared.data.DataCall.{DataCall}
use Rattle.calls.specs.Kinds.{Kinds}
use Rattle.calls.specs.Orders.{Pairs, Place}
use Rattle.calls.specs.Plain.{Done, found, effect, after, Conflict, Replays}
use Rattle.calls.specs.Serial.{calls_of}
use Rattle.calls.specs.States.{lock_of, with_ledger, with_locks, grant, turn_job}
use Rattle.calls.specs.Systems.{System, with_state, entries_due, altered, without}
use Rattle.calls.proofs.Laws.{Laws}
use Rattle.calls.proofs.Listed.{Ahead, at_end, in_left, in_end, last_in, others_in, in_others, keep_others, keep_none, pairs_keep, pairs_map, pairs_end, flat_append, ahead_in, ahead_append, ahead_new, place_end, place_append, place_in}
use Rattle.calls.proofs.Changes.{Sorted, removes, adds, alterations_in, replay_size, undo_all, size_after, carried_after}
use Rattle.calls.proofs.Arrange.{others, front, replay_split, replay_join, replay_sorted}
use Rattle.calls.proofs.Books.{fill_in, turn_in, clear_in, Against, Covering, Clashing, against_covering, conflict_against, clashing_flip, alterations_of_append, alterations_of_due, alterations_of_rest, removals_due, removals_rest}

-- a number and class under which a job was opened
abbrev pub Opened : List (ℕ × ℕ) → ℕ → Type 0
Opened os k = (c : ℕ) × In (k, c) os

-- a job with this turn number, or none yet
abbrev pub Listed : List ℕ → Option ℕ → ℕ → Type 0
Listed ts None k = In k ts → ⊥
Listed ts (Some n) k = Place n k ts

opened_more : (os ps : List (ℕ × ℕ)) (k : ℕ) → Opened os k → Opened (os ++ ps) k
opened_more os ps k o = (o.0, in_left (k, o.0) os ps o.1)

module _ {P R : Type 0} (K : Kinds P R) (L : Laws K) where
  -- a lock covers what the call touched
  abbrev pub Held : List (LockEntry P) → Done P R → Type 0
  Held ls e = (l : LockEntry P) × In l ls × (l.job ≡ e.job) × Covering K L l e.call

  -- from the rows x₀ on: os were opened, ts have turned, ws have withdrawn; C are the calls of those that have not withdrawn, as
  -- they came
  pub record Inv (x₀ : List R) (os : List (ℕ × ℕ)) (ts ws : List ℕ) (C : List (Done P R)) (ω : System P R) : Type 0 where
    pub replays : Replays K x₀ C ω.rows
    -- of two that conflict, the earlier's job has turned ahead of the other's
    pub ordered : Pairs (λ e f. e.job ≢ f.job → Conflict K e.call f.call → Ahead e.job f.job ts) C
    pub rising : Pairs (λ o p. o.0 < p.0) os
    pub below : (o : ℕ × ℕ) → In o os → o.0 < ω.state.ledger.opening
    pub few : ω.state.ledger.opening ≤ 1000001
    pub opened : (k : ℕ) → In k ts ⊎ In k ws → Opened os k
    pub done_opened : (e : Done P R) → In e C → Opened os e.job
    pub open_jobs : (b : JobRecord) → In (Some b) ω.state.ledger.records → In (b.number, b.class) os × (In b.number ws → ⊥) × Listed ts b.turn b.number
    pub lock_opened : (l : LockEntry P) → In l ω.state.locks → In (l.job, l.class) os
    pub count : ω.state.ledger.turning ≡ suc (length ts)
    -- whoever conflicts with a held lock has turned ahead of its owner
    pub guarded : (l : LockEntry P) → In l ω.state.locks → (e : Done P R) → In e C → l.job ≢ e.job → Against K L l e.call → Ahead e.job l.job ts
    -- what a job touched that has not turned is covered by a lock that it holds
    pub covered : (e : Done P R) → In e C → In e.job ts ⊎ Held ω.state.locks e
    pub clear : (l : LockEntry P) → In l ω.state.locks → (m : LockEntry P) → In m ω.state.locks → l.job ≢ m.job → Clashing K L l m → ⊥
    -- every removed row that may return has a place
    pub room : length ω.rows + removals ω.state.undo ≤ ω.places
    -- the undo log has exactly what each job altered that has not turned
    pub logged : (k : ℕ) → (In k ts → ⊥) → alterations_of k ω.state.undo ≡ alterations_in K L (calls_of k C)

module _ {P R : Type 0} {K : Kinds P R} {L : Laws K} {x₀ : List R} {os : List (ℕ × ℕ)} {ts ws : List ℕ} {C : List (Done P R)} {ω : System P R} (I : Inv K L x₀ os ts ws C ω) where
  -- a job that asks was opened, and has neither withdrawn nor turned
  asks : (j c : ℕ) → In (Some (job_of j c None)) ω.state.ledger.records → In (j, c) os × (In j ws → ⊥) × (In j ts → ⊥)
  asks j c a = I.open_jobs (job_of j c None) a

  -- OPEN
  pub inv_open : (c : ℕ) → ω.state.ledger.opening ≤ 1000000 → Inv K L x₀ (os ++ ((ω.state.ledger.opening, c) ∷ [])) ts ws C (with_state (with_ledger (open_ledger c ω.state.ledger) ω.state) ω)
  inv_open c left = record {
    replays = I.replays;
    ordered = I.ordered;
    rising = pairs_end _ os (n, c) I.rising I.below;
    below = at_end _ os (n, c) (λ o m. let h = I.below o m in omega arith) (omega arith);
    few = omega arith;
    opened = λ k m. opened_more os ((n, c) ∷ []) k (I.opened k m);
    done_opened = λ e m. opened_more os ((n, c) ∷ []) e.job (I.done_opened e m);
    open_jobs = λ b m. elim (fill_in b (job_of n c None) ω.state.ledger.records m) [
      | inl i ↦ let h = I.open_jobs b i in (in_left (b.number, b.class) os ((n, c) ∷ []) h.0, h.1, h.2)
      | inr e ↦ rw e (last_in os (n, c), (λ m. new (inr m)), λ m. new (inl m))
    ];
    lock_opened = λ l m. in_left (l.job, l.class) os ((n, c) ∷ []) (I.lock_opened l m);
    count = I.count;
    guarded = I.guarded;
    covered = I.covered;
    clear = I.clear;
    room = I.room;
    logged = I.logged;
  }
    where
      n : ℕ
      n = ω.state.ledger.opening

      new : In n ts ⊎ In n ws → ⊥
      new m = let o = I.opened n m in let h = I.below (n, o.0) o.1 in omega arith

  -- LOCK granted
  pub inv_grant : (j c : ℕ) (w : Mode) (p : P) → In (Some (job_of j c None)) ω.state.ledger.records
      → ((l : LockEntry P) → In l ω.state.locks → j ≢ l.job → (is_write w || is_write l.mode) ≡ true → K.apart l.predicate p ≡ false → ⊥)
      → Inv K L x₀ os ts ws C (with_state (grant j c w p ω.state) ω)
  inv_grant j c w p a free = record {
    replays = I.replays;
    ordered = I.ordered;
    rising = I.rising;
    below = I.below;
    few = I.few;
    opened = I.opened;
    done_opened = I.done_opened;
    open_jobs = I.open_jobs;
    lock_opened = at_end _ ω.state.locks new I.lock_opened (asks j c a).0;
    count = I.count;
    guarded = at_end _ ω.state.locks new I.guarded (λ e m n h. elim (I.covered e m) [
      | inl t ↦ ahead_new e.job j ts t (asks j c a).2
      | inr v ↦ absurd (no_clash v.0 v.1 (λ q. n (q ∙ v.2)) (against_covering K L new v.0 e.call h v.3))
    ]);
    covered = λ e m. elim (I.covered e m) [ inl t ↦ inl t | inr h ↦ inr (h.0, in_left h.0 ω.state.locks (new ∷ []) h.1, h.2, h.3) ];
    clear = at_end _ ω.state.locks new
        (λ l i. at_end _ ω.state.locks new (I.clear l i) (λ n h. no_clash l i (λ o. n (sym o)) (clashing_flip K L l new h)))
        (at_end _ ω.state.locks new no_clash (λ n h. n refl));
    room = I.room;
    logged = I.logged;
  }
    where
      new : LockEntry P
      new = lock_of j c ω.state.ledger.granting w p

      no_clash : (m : LockEntry P) → In m ω.state.locks → j ≢ m.job → Clashing K L new m → ⊥
      no_clash m i n h = free m i n h.0 h.1

  -- TURN
  pub inv_turn : (j c : ℕ) → In (Some (job_of j c None)) ω.state.ledger.records → Inv K L x₀ os (ts ++ (j ∷ [])) ws C (with_state (turn_job j ω.state) ω)
  inv_turn j c a = record {
    replays = I.replays;
    ordered = pairs_map _ _ C (λ e f m k h n q. ahead_append e.job f.job ts (j ∷ []) (h n q)) I.ordered;
    rising = I.rising;
    below = I.below;
    few = I.few;
    opened = λ k m. elim m [ inl i ↦ elim (in_end k ts j i) [ inl t ↦ I.opened k (inl t) | inr e ↦ (c, rw e (asks j c a).0) ] | inr i ↦ I.opened k (inr i) ];
    done_opened = I.done_opened;
    open_jobs = λ b m. elim (turn_in b j ω.state.ledger.turning ω.state.ledger.records m) [
      | inl i ↦ let h = I.open_jobs b i.0 in (h.0, h.1, listed b.turn b.number i.1 h.2)
      | inr i ↦ let h = I.open_jobs i.0 i.1 in rw i.3 (rw i.2 h.0, (asks j c a).1, rw I.count (place_end j ts))
    ];
    lock_opened = I.lock_opened;
    count = let h = I.count in omega (arith, length-append ts (j ∷ []));
    guarded = λ l m e k n h. ahead_append e.job l.job ts (j ∷ []) (I.guarded l m e k n h);
    covered = λ e m. elim (I.covered e m) [ inl t ↦ inl (in_left e.job ts (j ∷ []) t) | inr h ↦ inr h ];
    clear = I.clear;
    room = let h = I.room in omega (arith, removals_rest j ω.state.undo);
    logged = λ k n. alterations_of_rest j k ω.state.undo (λ e. n (rw (← e) (last_in ts j))) ∙ I.logged k (λ m. n (in_left k ts (j ∷ []) m));
  }
    where
      listed : (t : Option ℕ) (k : ℕ) → j ≢ k → Listed ts t k → Listed (ts ++ (j ∷ [])) t k
      listed None k n h = λ m. elim (in_end k ts j m) [ inl i ↦ h i | inr e ↦ n (sym e) ]
      listed (Some i) k n h = place_append i k ts (j ∷ []) h

  -- fewer jobs and fewer locks, where only a job that has turned gives up locks: RELEASE, and the end of a job that has turned
  abbrev pub fewer : List (Option JobRecord) → List (LockEntry P) → System P R
  fewer js ls =
      with_state (with_ledger (record { records = js; opening = ω.state.ledger.opening; granting = ω.state.ledger.granting; turning = ω.state.ledger.turning }) (with_locks ls ω.state)) ω

  pub inv_fewer : (j : ℕ) (js : List (Option JobRecord)) (ls : List (LockEntry P)) → In j ts
      → ((b : JobRecord) → In (Some b) js → In (Some b) ω.state.ledger.records) → ((l : LockEntry P) → In l ls → In l ω.state.locks) → ((l : LockEntry P) → In l ω.state.locks → j ≢ l.job → In l ls)
      → Inv K L x₀ os ts ws C (fewer js ls)
  inv_fewer j js ls t jobs-in locks_in stays = record {
    replays = I.replays;
    ordered = I.ordered;
    rising = I.rising;
    below = I.below;
    few = I.few;
    opened = I.opened;
    done_opened = I.done_opened;
    open_jobs = λ b m. I.open_jobs b (jobs-in b m);
    lock_opened = λ l m. I.lock_opened l (locks_in l m);
    count = I.count;
    guarded = λ l m. I.guarded l (locks_in l m);
    covered = λ e m. elim (I.covered e m) [
      | inl i ↦ inl i
      | inr h ↦ elim (cases_eq j e.job) [ inl p ↦ inl (rw (← p) t) | inr n ↦ inr (h.0, stays h.0 h.1 (λ p. n (p ∙ h.2)), h.2, h.3) ]
    ];
    clear = λ l p m q. I.clear l (locks_in l p) m (locks_in m q);
    room = I.room;
    logged = I.logged;
  }

  -- WITHDRAW: the job's calls go to the end and are undone there
  pub inv_withdraw : Sorted K L x₀ → (j c : ℕ) → In (Some (job_of j c None)) ω.state.ledger.records → Inv K L x₀ os ts (ws ++ (j ∷ [])) (others j C) (without K.order j ω)
  inv_withdraw sorted j c a =
      let kept = others_in (λ (e : Done P R). e.job) j C in
      let locks_in = others_in (λ (l : LockEntry P). l.job) j ω.state.locks in
      let z = replay_split K L (others j C) (calls_of j C) x₀ ω.rows
      (front K L (λ e. not (is j e.job)) (λ e. is j e.job) (λ e. grind arith) C x₀ ω.rows sorted (pairs_map _ _ C (λ e f m k h p q n.
      let i = is_means j e.job (grind arith) in
      let t = ahead_in e.job f.job ts (h (λ r. not_is j f.job (not-true (is j f.job) q) (i ∙ r)) n) in
      let u = (asks j c a).2 in
      grind arith) I.ordered) I.replays) in
      let z_sorted = replay_sorted K L (others j C) x₀ z.0 sorted z.1 in
      let r = I.room in
      let own = I.logged j (asks j c a).2 in
      let taken_back : undone K.order ω.places (alterations_of j ω.state.undo) ω.rows ≡ z.0 =
      rw own (undo_all K L ω.places (calls_of j C) z.0 ω.rows z_sorted z.2 (omega (arith, removals_rest j ω.state.undo, ap removes own))) in
      record {
        replays = rw taken_back z.1;
        ordered = pairs_keep _ _ C I.ordered;
        rising = I.rising;
        below = I.below;
        few = I.few;
        opened = λ k m. elim m [ inl i ↦ I.opened k (inl i) | inr i ↦ elim (in_end k ws j i) [ inl w ↦ I.opened k (inr w) | inr e ↦ (c, rw e (asks j c a).0) ] ];
        done_opened = λ e m. I.done_opened e (kept e m).0;
        open_jobs = λ b m.
            let i = clear_in b j ω.state.ledger.records m in
            let h = I.open_jobs b i.0 in
            (h.0, (λ k. elim (in_end b.number ws j k) [ inl w ↦ h.1 w | inr e ↦ i.1 (sym e) ]), h.2);
        lock_opened = λ l m. I.lock_opened l (locks_in l m).0;
        count = I.count;
        guarded = λ l m e k. I.guarded l (locks_in l m).0 e (kept e k).0;
        covered = λ e m. let k = kept e m in elim (I.covered e k.0) [
          | inl t ↦ inl t
          | inr h ↦ inr (h.0, in_others (λ (l : LockEntry P). l.job) j ω.state.locks h.0 h.1 (λ p. k.1 (p ∙ h.2)), h.2, h.3)
        ];
        clear = λ l p m q. I.clear l (locks_in l p).0 m (locks_in m q).0;
        room = rw taken_back (omega (arith, removals_rest j ω.state.undo, ap removes own, replay_size K L (calls_of j C) z.0 ω.rows z_sorted z.2));
        logged = λ k n. elim (cases_eq j k) [
          | inl p ↦ rw (← p) (rw (keep_none (λ (e : Done P R). e.job) j C, keep_none (λ (u : UndoEntry R). u.job) j ω.state.undo))
          | inr p ↦ rw (keep_others (λ (e : Done P R). e.job) j k C p) (alterations_of_rest j k ω.state.undo p ∙ I.logged k n)
        ];
      }

  -- an accepted data call
  pub inv_does : Sorted K L x₀ → (b : JobRecord) (d : DataCall P R) → In (Some b) ω.state.ledger.records → (l : LockEntry P) → In l ω.state.locks → l.job ≡ b.number → Covering K L l d
      → length ω.rows + (adds (effect K d (found K d ω.rows)) + removals ω.state.undo) ≤ ω.places
      → Inv K L x₀ os ts ws (C ++ (record { job = b.number; call = d; answer = found K d ω.rows } ∷ [])) (altered K.order b.number b.turn (effect K d (found K d ω.rows)) ω)
  inv_does sorted b d a l held own cover fits =
      let rows_sorted = replay_sorted K L C x₀ ω.rows sorted I.replays in
      let carried = carried_after K L ω.places d ω.rows rows_sorted (omega arith) in
      let size = size_after K L d ω.rows rows_sorted in
      record {
        replays = rw carried (replay_join K L C (e ∷ []) x₀ ω.rows (after K d ω.rows) I.replays (refl, refl));
        ordered = pairs_end _ C e I.ordered (λ f m n k. rw (← own) (I.guarded l held f m (λ p. n (sym p ∙ own)) (conflict_against K L l f.call d k cover)));
        rising = I.rising;
        below = I.below;
        few = I.few;
        opened = I.opened;
        done_opened = at_end _ C e I.done_opened (b.class, (I.open_jobs b a).0);
        open_jobs = I.open_jobs;
        lock_opened = I.lock_opened;
        count = I.count;
        guarded = λ k m. at_end _ C e (I.guarded k m) (λ n h. absurd (I.clear k m l held (λ o. n (o ∙ own)) (against_covering K L k l d h cover)));
        covered = at_end _ C e I.covered (inr (l, held, own, cover));
        clear = I.clear;
        room = rw carried (omega (arith, removals_due ω.state.undo b.number b.turn made));
        logged = λ k n.
            alterations_of_append k ω.state.undo (entries_due b.number b.turn made)
            ∙ rw (I.logged k n, filter-append (λ (e : Done P R). is k e.job) C (e ∷ []), flat_append (λ (e : Done P R). effect K e.call e.answer) (calls_of k C) (calls_of k (e ∷ [])))
            (ap (λ (l : List (Alteration R)). alterations_in K L (calls_of k C) ++ l) (logged' k n b.turn (I.open_jobs b a).2));
      }
    where
      made : List (Alteration R)
      made = effect K d (found K d ω.rows)

      e : Done P R
      e = record { job = b.number; call = d; answer = found K d ω.rows }

      logged' : (k : ℕ) → (In k ts → ⊥) → (t : Option ℕ) → Listed ts t b.number → alterations_of k (entries_due b.number t made) ≡ alterations_in K L (calls_of k (e ∷ []))
      logged' k n None h = let a = alterations_of_due b.number k made in let z = append-nil made in grind arith
      logged' k n (Some i) h = let p = place_in i b.number ts h in let q = is_means k b.number in grind arith
