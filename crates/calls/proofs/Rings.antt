-- Nobody waits on itself through others: along every wait the rank rises.
use Rattle.std.proofs.Common.{◌≡◌, ℕ, ◌^◌, ◌<◌, Bool, List, [], ◌∷◌, None, Ok, subst, arith}
use Rattle.policies.specs.Ranks.{Ranked}
use Rattle.tables.specs.Lists.{In}
use Rattle.tables.specs.Jobs.{job_of}
use Rattle.calls.specs.declared.lock_answer.LockAnswer.TheVariants.{Wait}
use Rattle.calls.specs.Kinds.{Kinds}
use Rattle.calls.specs.Orders.{Pairs}
use Rattle.calls.specs.Plain.{Done}
use Rattle.calls.specs.Serial.{Waits, Chain}
use Rattle.calls.specs.Systems.{System}
use Rattle.calls.proofs.Laws.{Laws}
use Rattle.calls.proofs.Invariant.{Inv}
use Rattle.calls.proofs.Cases.{by_lock}

-- a job has one class
one_class : (os : List (ℕ × ℕ)) → Pairs (λ o p. o.0 < p.0) os → (k c d : ℕ) → In (k, c) os → In (k, d) os → c ≡ d
one_class [] h k c d m n = absurd m
one_class (o ∷ os) h k c d m n = let ih = one_class os h.1 k c d in let p = h.0 (k, d) in let q = h.0 (k, c) in grind arith

module _ (allows : ℕ → ℕ → ℕ → ℕ → Bool) (rank : ℕ → ℕ → ℕ) (ranked : Ranked allows rank) {P R : Type 0} {K : Kinds P R} {L : Laws K} {x₀ : List R}
    {os : List (ℕ × ℕ)} {ts ws : List ℕ} {C : List (Done P R)} {ω : System P R} (I : Inv K L x₀ os ts ws C ω) where
  -- both were opened, and the first has the smaller rank
  Above : ℕ → ℕ → Type 0
  Above j k = (c d : ℕ) × In (j, c) os × In (k, d) os × (rank c j < rank d k)

  fits : (j c : ℕ) → In (j, c) os → j < 2 ^ 32
  fits j c m = let h = I.below (j, c) m in let f = I.few in omega arith

  above : (j k : ℕ) → Waits K allows ω.state j k → Above j k
  unfolding Above
  above j k w =
      let l = w.lock in
      by_lock K.apart allows (λ o. o.reply ≡ Ok (Wait w.holder) → Above j k) j w.mode w.predicate ω.state
      (λ n e. grind arith) (λ c i h e. grind arith)
      (λ c i h n e.
      let asker = (I.open_jobs (job_of j c None) i).0 in
      let holder = I.lock_opened l w.held in
      subst (λ (k : ℕ). Above j k) w.owned (c, l.class, asker, holder, ranked c j l.class l.job (fits j c asker) (fits l.job l.class holder) (h l w.held w.conflict)))
      (λ n e. grind arith) w.answer

  chain : (j k : ℕ) (through : List ℕ) → Chain K allows ω.state j through k → Above j k
  unfolding Above
  chain j k [] w = above j k w
  chain j k (i ∷ is) w =
      let a = above j i w.0 in
      let b = chain i k is w.1 in
      let p = a.4 in
      let q = subst (λ (c : ℕ). rank c i < rank b.1 k) (one_class os I.rising i b.0 a.1 b.2 a.3) b.4 in
      (a.0, b.1, a.2, b.3, omega arith)

  pub no_ring : (j : ℕ) (through : List ℕ) → Chain K allows ω.state j through j → ⊥
  unfolding Above
  no_ring j is w =
      let a = chain j j is w in
      let p = subst (λ (c : ℕ). rank c j < rank a.1 j) (one_class os I.rising j a.0 a.1 a.2 a.3) a.4 in
      omega arith
