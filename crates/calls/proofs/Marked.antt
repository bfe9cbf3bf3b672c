-- What holds along a run, in terms of its marks; one mark more.
use Rattle.std.proofs.Common.{◌≡◌, ℕ, not, ◌≢◌, List, [], ◌∷◌, ◌++◌, map, sym, refl, ap, ◌∙◌, ap₂, inl, inr, append-nil, arith}
use Rattle.std.proofs.lemmas.List.{map-append}
use Rattle.std.proofs.lemmas.List.Elements.{filter-append}
use Rattle.tables.specs.Lists.{is, In, keep}
use Rattle.calls.specs.Kinds.{Kinds}
use Rattle.calls.specs.Orders.{flat, among, add_new, Place}
use Rattle.calls.specs.Plain.{Done, Conflict}
use Rattle.calls.specs.Serial.{Mark, opens, turns, withdraws, does, opened_by, turned_by, withdrawn_by, done_by, turned, withdrawn, came}
use Rattle.calls.specs.Systems.{System}
use Rattle.calls.proofs.Laws.{Laws}
use Rattle.calls.proofs.Listed.{Ahead, in_left, in_end, in_keep, in_flat, pairs_last, ahead_in, keep_keep, flat_append, flat_idle, flat_end, stands?, not_among, in_among, among_end, add_new_append, ahead_append, place_append, split_end}
use Rattle.calls.proofs.Arrange.{others}
use Rattle.calls.proofs.Invariant.{Inv}

module _ {P R : Type 0} where
  turned_end : (m : List (Mark P R)) (x : Mark P R) → turned (m ++ (x ∷ [])) ≡ add_new (turned m) (turned_by x ++ [])
  turned_end m x = ap (add_new []) (flat_append turned_by m (x ∷ [])) ∙ add_new_append [] (flat turned_by m) (turned_by x ++ [])

  pub turned_new : (m : List (Mark P R)) (j n : ℕ) → (In j (turned m) → ⊥) → turned (m ++ (turns j n ∷ [])) ≡ turned m ++ (j ∷ [])
  turned_new m j n h = turned_end m (turns j n) ∙ rw (not_among j (turned m) h)

  pub turned_again : (m : List (Mark P R)) (j n : ℕ) → In j (turned m) → turned (m ++ (turns j n ∷ [])) ≡ turned m
  turned_again m j n h = turned_end m (turns j n) ∙ rw (in_among j (turned m) h)

  turned_grows : (m : List (Mark P R)) (x : Mark P R) → (us : List ℕ) × (turned (m ++ (x ∷ [])) ≡ turned m ++ us)
  turned_grows m (opens j) = ([], turned_end m (opens j) ∙ sym (append-nil (turned m)))
  turned_grows m (withdraws j) = ([], turned_end m (withdraws j) ∙ sym (append-nil (turned m)))
  turned_grows m (does e) = ([], turned_end m (does e) ∙ sym (append-nil (turned m)))
  turned_grows m (turns j n) = elim (stands? j (turned m)) [ inl i ↦ ([], turned_again m j n i ∙ sym (append-nil (turned m))) | inr i ↦ (j ∷ [], turned_new m j n i) ]

  -- the calls of those that have not withdrawn
  abbrev live : List ℕ → List (Done P R) → List (Done P R)
  live ws D = keep (λ e. not (among e.job ws)) D

  came_same : (m : List (Mark P R)) (x : Mark P R) → withdrawn_by x ≡ [] → done_by x ≡ [] → came (m ++ (x ∷ [])) ≡ came m
  came_same m x p q = ap₂ live (flat_idle withdrawn_by m x p) (flat_idle done_by m x q)

  came_without : (m : List (Mark P R)) (j : ℕ) → came (m ++ (withdraws j ∷ [])) ≡ others j (came m)
  came_without m j =
      ap₂ live (flat_end withdrawn_by m (withdraws j) j refl) (flat_idle done_by m (withdraws j) refl)
      ∙ sym (keep_keep (λ e. not (among e.job (withdrawn m))) (λ e. not (is j e.job)) (λ e. not (among e.job (withdrawn m ++ (j ∷ [])))) (flat done_by m) (λ e. among_end e.job j (withdrawn m)))

  came_more : (m : List (Mark P R)) (e : Done P R) → (In e.job (withdrawn m) → ⊥) → came (m ++ (does e ∷ [])) ≡ came m ++ (e ∷ [])
  came_more m e n =
      ap₂ live (flat_idle withdrawn_by m (does e) refl) (flat_end done_by m (does e) e refl)
      ∙ filter-append (λ e. not (among e.job (withdrawn m))) (flat done_by m) (e ∷ []) ∙ rw (not_among e.job (withdrawn m) n)

module _ {P R : Type 0} (K : Kinds P R) (L : Laws K) (x₀ : List R) where
  pub record Holds (m : List (Mark P R)) (ω : System P R) : Type 0 where
    pub os : List (ℕ × ℕ)
    pub names : map (λ o. o.0) os ≡ flat opened_by m
    pub inv : Inv K L x₀ os (turned m) (withdrawn m) (came m) ω
    pub counts : (j n : ℕ) → In (turns j n) m → Place n j (turned m)
    pub touches : (before later : List (Mark P R)) (e f : Done P R) → m ≡ before ++ (does f ∷ later) → In (does e) before → e.job ≢ f.job → Conflict K e.call f.call → (In e.job (withdrawn m) → ⊥)
        → In e.job (turned before) × Ahead e.job f.job (turned m)

inv_at : {P R : Type 0} {K : Kinds P R} {L : Laws K} {x₀ : List R} {os : List (ℕ × ℕ)} {ts us ws vs : List ℕ} {C D : List (Done P R)} {ω : System P R} → us ≡ ts → vs ≡ ws → D ≡ C → Inv K L x₀ os ts ws C ω → Inv K L x₀ os us vs D ω
inv_at p q r I = rw (p, q, r) I

module _ {P R : Type 0} {K : Kinds P R} {L : Laws K} {x₀ : List R} {m : List (Mark P R)} {τ : System P R} (H : Holds K L x₀ m τ) where
  -- nothing more
  pub stay : (ω : System P R) → Inv K L x₀ H.os (turned m) (withdrawn m) (came m) ω → Holds K L x₀ (m ++ []) ω
  stay ω I = rw (append-nil m) (record { os = H.os; names = H.names; inv = I; counts = H.counts; touches = H.touches })

  -- one mark more
  grow : (x : Mark P R) (ω : System P R) (os : List (ℕ × ℕ)) → map (λ o. o.0) os ≡ flat opened_by (m ++ (x ∷ []))
      → Inv K L x₀ os (turned (m ++ (x ∷ []))) (withdrawn (m ++ (x ∷ []))) (came (m ++ (x ∷ []))) ω
      → ((j n : ℕ) → turns j n ≡ x → Place n j (turned (m ++ (x ∷ []))))
      → ((e f : Done P R) → In f (done_by x) → In (does e) m → e.job ≢ f.job → Conflict K e.call f.call → (In e.job (withdrawn m) → ⊥) → In e.job (turned m) × Ahead e.job f.job (turned m))
      → Holds K L x₀ (m ++ (x ∷ [])) ω
  grow x ω os names I count touch = let g = turned_grows m x in record {
    os = os;
    names = names;
    inv = I;
    counts = λ j n i. elim (in_end (turns j n) m x i) [ inl i ↦ rw g.1 (place_append n j (turned m) g.0 (H.counts j n i)) | inr e ↦ count j n e ];
    touches = λ before later e f q i n k w.
        let v : In e.job (withdrawn m) → ⊥ = λ o. w (rw (flat_append withdrawn_by m (x ∷ [])) (in_left e.job (withdrawn m) (withdrawn_by x ++ []) o)) in
        let h : In e.job (turned before) × Ahead e.job f.job (turned m) = elim (split_end m before later x (does f) q) [
          | inl s ↦ rw (← s.1) (touch e f (rw s.0 (inl refl)) (rw s.1 i) n k v)
          | inr s ↦ H.touches before s.0 e f s.1 i n k v
        ] in
        (h.0, rw g.1 (ahead_append e.job f.job (turned m) g.0 h.1));
  }

  pub grow_opens : (j c : ℕ) (ω : System P R) → Inv K L x₀ (H.os ++ ((j, c) ∷ [])) (turned m) (withdrawn m) (came m) ω → Holds K L x₀ (m ++ (opens j ∷ [])) ω
  grow_opens j c ω I =
      grow (opens j) ω (H.os ++ ((j, c) ∷ [])) (map-append (λ (o : ℕ × ℕ). o.0) H.os ((j, c) ∷ []) ∙ rw H.names (sym (flat_end opened_by m (opens j) j refl)))
      (inv_at (turned_end m (opens j)) (flat_idle withdrawn_by m (opens j) refl) (came_same m (opens j) refl refl) I)
      (λ i n q. grind arith) (λ e f i. absurd i)

  -- a turn, of a job that had turned or not
  pub grow_turns : (j n : ℕ) (ts : List ℕ) (ω : System P R) → turned (m ++ (turns j n ∷ [])) ≡ ts → Place n j ts → Inv K L x₀ H.os ts (withdrawn m) (came m) ω → Holds K L x₀ (m ++ (turns j n ∷ [])) ω
  grow_turns j n ts ω t p I =
      grow (turns j n) ω H.os (H.names ∙ sym (flat_idle opened_by m (turns j n) refl))
      (inv_at t (flat_idle withdrawn_by m (turns j n) refl) (came_same m (turns j n) refl refl) I)
      (λ i k q. let e : i ≡ j = cc in let f : k ≡ n = cc in rw (e, f, t) p) (λ e f i. absurd i)

  pub grow_withdraws : (j : ℕ) (ω : System P R) → Inv K L x₀ H.os (turned m) (withdrawn m ++ (j ∷ [])) (others j (came m)) ω → Holds K L x₀ (m ++ (withdraws j ∷ [])) ω
  grow_withdraws j ω I =
      grow (withdraws j) ω H.os (H.names ∙ sym (flat_idle opened_by m (withdraws j) refl))
      (inv_at (turned_end m (withdraws j)) (flat_end withdrawn_by m (withdraws j) j refl) (came_without m j) I)
      (λ i n q. grind arith) (λ e f i. absurd i)

  pub grow_does : (d : Done P R) (ω : System P R) → (In d.job (withdrawn m) → ⊥) → Inv K L x₀ H.os (turned m) (withdrawn m) (came m ++ (d ∷ [])) ω → Holds K L x₀ (m ++ (does d ∷ [])) ω
  grow_does d ω n I =
      grow (does d) ω H.os (H.names ∙ sym (flat_idle opened_by m (does d) refl))
      (inv_at (turned_end m (does d)) (flat_idle withdrawn_by m (does d) refl) (came_more m d n) I)
      (λ i k q. grind arith)
      (λ e f i u p k w.
      let q : f ≡ d = elim i [ inl q ↦ q | inr z ↦ absurd z ] in
      let c : In e (came m) = in_keep e (λ (e : Done P R). not (among e.job (withdrawn m))) (flat done_by m) (in_flat (does e) e done_by m u (inl refl)) (ap not (not_among e.job (withdrawn m) w)) in
      let a = pairs_last _ (came m) d I.ordered e c (rw q at p) (rw q at k) in
      rw q (ahead_in e.job d.job (turned m) a, a))
