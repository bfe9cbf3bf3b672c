-- What holds of every way that a call's checks can go holds of the call.
use Rattle.std.proofs.Common.{◌≡◌, ℕ, Bool, true, false, ltb, leb, List, [], ◌∷◌, length, Some, None, Option, refl, arith}
use Rattle.tables.specs.declared.entries.LockEntry.{LockEntry}
use Rattle.tables.specs.declared.entries.Mode.{Mode}
use Rattle.tables.specs.declared.ledger.JobRecord.{JobRecord}
use Rattle.tables.specs.declared.refusal.Refusal.{Refusal}
use Rattle.tables.specs.declared.refusal.Refusal.TheVariants.{NoSuchJob, HasTurned, NumbersSpent, BookFull}
use Rattle.tables.specs.Lists.{In, keep}
use Rattle.tables.specs.Locks.{conflicts, barred, smallest_of, barred_of}
use Rattle.tables.specs.Jobs.{Outcome, refuse, give, check, on_found, not_turned, find, job_of}
use Rattle.calls.specs.declared.lock_answer.LockAnswer.{LockAnswer}
use Rattle.calls.specs.declared.lock_answer.LockAnswer.TheVariants.{Granted, Wait, Withdraw}
use Rattle.calls.specs.States.{State, grant, judge, lock_call}
use Rattle.calls.proofs.Listed.{in_keep}
use Rattle.calls.proofs.Books.{find_in}

module _ {S A : Type 0} (Q : Outcome S A → Type 0) (σ : S) where
  pub by_check : (b : Bool) (n : Refusal) (o : Outcome S A) → Q (refuse n σ) → (b ≡ true → Q o) → Q (check b n σ o)
  by_check true n o no_way way = way refl
  by_check false n o no_way way = no_way

  pub by_found : (x : Option JobRecord) (f : JobRecord → Outcome S A) → Q (refuse NoSuchJob σ) → ((b : JobRecord) → x ≡ Some b → Q (f b)) → Q (on_found x σ f)
  by_found None f no_way way = no_way
  by_found (Some b) f no_way way = way b refl

  pub by_asking : (t : Option ℕ) (o : Outcome S A) → Q (refuse HasTurned σ) → (t ≡ None → Q o) → Q (not_turned t σ o)
  by_asking None o no_way way = way refl
  by_asking (Some n) o no_way way = no_way

  -- the job is open, with some class and turn
  pub by_open : (j : ℕ) (ss : List (Option JobRecord)) (f : JobRecord → Outcome S A) → Q (refuse NoSuchJob σ) → ((c : ℕ) (t : Option ℕ) → In (Some (job_of j c t)) ss → Q (f (job_of j c t))) → Q (on_found (find j ss) σ f)
  by_open j ss f no_way way = by_found (find j ss) f no_way (λ b e. let k = find_in j ss b e in let w = rw (← k.1) at way in w b.class b.turn k.0)

  -- the job is open and has not turned
  pub by_asker : (j : ℕ) (ss : List (Option JobRecord)) (f : JobRecord → Outcome S A) → ((n : Refusal) → Q (refuse n σ)) → ((c : ℕ) → In (Some (job_of j c None)) ss → Q (f (job_of j c None))) → Q (on_found (find j ss) σ (λ b. not_turned b.turn σ (f b)))
  by_asker j ss f no_way way = by_open j ss (λ b. not_turned b.turn σ (f b)) (no_way NoSuchJob) go
    where
      go : (c : ℕ) (t : Option ℕ) → In (Some (job_of j c t)) ss → Q (not_turned t σ (f (job_of j c t)))
      go c None m = way c m
      go c (Some n) m = no_way HasTurned

no_holder : {P : Type 0} (ls : List (LockEntry P)) → smallest_of ls ≡ None → ls ≡ []
no_holder [] e = refl
no_holder (l ∷ ls) e = absurd (grind arith)

module _ {P R : Type 0} (apart : P → P → Bool) (allows : ℕ → ℕ → ℕ → ℕ → Bool) where
  -- LOCK: refused, granted, told to wait where the policy allows it for every conflict, or told to withdraw
  pub by_lock : (Q : Outcome (State P R) LockAnswer → Type 0) (j : ℕ) (w : Mode) (p : P) (σ : State P R) → ((n : Refusal) → Q (refuse n σ))
      → ((c : ℕ) → In (Some (job_of j c None)) σ.ledger.records → ((l : LockEntry P) → In l σ.locks → conflicts apart j w p l ≡ true → ⊥) → Q (give (Granted σ.ledger.granting) (grant j c w p σ)))
      → ((c : ℕ) → In (Some (job_of j c None)) σ.ledger.records → ((l : LockEntry P) → In l σ.locks → conflicts apart j w p l ≡ true → allows c j l.class l.job ≡ true) → (k : ℕ) → Q (give (Wait k) σ))
      → ((k : ℕ) → Q (give (Withdraw k) σ)) → Q (lock_call apart allows j w p σ)
  by_lock Q j w p σ refusal granted waits leaves =
      by_asker Q σ j σ.ledger.records _ refusal (λ c m. by_check Q σ (leb σ.ledger.granting 4000000) NumbersSpent _ (refusal NumbersSpent) (λ _.
      by_check Q σ (ltb (length σ.locks) σ.table) BookFull _ (refusal BookFull) (λ _.
      judged c m (smallest_of hits) (barred_of allows c j hits) refl refl)))
    where
      hits : List (LockEntry P)
      hits = keep (conflicts apart j w p) σ.locks

      hit : (l : LockEntry P) → In l σ.locks → conflicts apart j w p l ≡ true → In l hits
      hit l i h = in_keep l (conflicts apart j w p) σ.locks i h

      judged : (c : ℕ) → In (Some (job_of j c None)) σ.ledger.records → (any bar : Option ℕ) → smallest_of hits ≡ any → barred_of allows c j hits ≡ bar → Q (judge j c w p any bar σ)
      judged c m None bar e q = granted c m (λ l i h. let n = no_holder hits e in let k = hit l i h in grind arith)
      judged c m (Some h) None e q =
          waits c m (λ l i k. let n = no_holder (keep (barred allows c j) hits) q in let b = in_keep l (barred allows c j) hits (hit l i k) in grind arith) h
      judged c m (Some h) (Some b) e q = leaves b
