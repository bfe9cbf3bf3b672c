-- Each call keeps what holds along a run.
use Rattle.std.proofs.Common.{◌≡◌, ℕ, ◌+◌, ◌≤◌, Bool, true, leb, List, [], ◌∷◌, ◌++◌, map, length, Some, None, Option, sym, arith}
use Rattle.std.proofs.lemmas.Bool.{leb-true, ltb-true}
use Rattle.tables.specs.declared.entries.Alteration.{Alteration}
use Rattle.tables.specs.declared.entries.Alteration.TheVariants.{Added, Removed, Changed}
use Rattle.tables.specs.declared.entries.LockEntry.{LockEntry}
use Rattle.tables.specs.declared.ledger.Ledger.{Ledger}
use Rattle.tables.specs.declared.refusal.Refusal.TheVariants.{BadClass, NoPlace, NumbersSpent, NotYourLock, NotCovered, NotesFull, StoreFull}
use Rattle.tables.specs.Lists.{In, some_of}
use Rattle.tables.specs.Locks.{is_lock, conflicts, release_one}
use Rattle.tables.specs.Lent.{of_others}
use Rattle.tables.specs.Undo.{removals}
use Rattle.tables.specs.Jobs.{Outcome, give, is_free, job_of, clear_slot, open_ledger}
use Rattle.tables.proofs.Lists.{is_means, is_other}
use Rattle.calls.specs.declared.data.DataAnswer.{DataAnswer}
use Rattle.calls.specs.declared.transcript.Call.{Call}
use Rattle.calls.specs.declared.transcript.Call.TheVariants.{Open, Lock, Turn, Release, Close, Withdraw, Data}
use Rattle.calls.specs.Kinds.{Kinds}
use Rattle.calls.specs.Plain.{found, effect}
use Rattle.calls.specs.States.{State, with_ledger, with_locks, grant, end_job, release_turned, close_turned}
use Rattle.calls.specs.Systems.{System, with_state, entries_due, log_fits, store_fits, permits}
use Rattle.calls.specs.Runs.{said, answered, leaving}
use Rattle.calls.specs.declared.transcript.Answer.TheVariants.{Job, Turned, Closed, Withdrawn, Data as Answered}
use Rattle.calls.specs.Serial.{Mark, turns, marks, turned, withdrawn, came}
use Rattle.calls.proofs.Laws.{Laws}
use Rattle.calls.proofs.Listed.{others_in, in_others, some_of_in, last_in, place_in, place_end}
use Rattle.calls.proofs.Changes.{Sorted, adds, effect_of, Effect, idle, real}
use Rattle.calls.proofs.Books.{clear_in, release_in, release_stays, covering}
use Rattle.calls.proofs.Invariant.{Inv, inv_open, inv_grant, inv_turn, inv_fewer, inv_withdraw, inv_does}
use Rattle.calls.proofs.Marked.{Holds, turned_new, turned_again, stay, grow_opens, grow_turns, grow_withdraws, grow_does}
use Rattle.calls.proofs.Cases.{by_check, by_open, by_asker, by_lock}

module _ {P R : Type 0} (K : Kinds P R) (L : Laws K) (allows : ℕ → ℕ → ℕ → ℕ → Bool) (x₀ : List R) (sorted : Sorted K L x₀) (m : List (Mark P R)) (ω : System P R) (H : Holds K L x₀ m ω) where
  idle_holds : Holds K L x₀ (m ++ []) ω
  idle_holds = stay H ω H.inv

  -- a job that has turned ends
  ends : (j : ℕ) {ts : List ℕ} {τ : System P R} → In j ts → Inv K L x₀ H.os ts (withdrawn m) (came m) τ → Inv K L x₀ H.os ts (withdrawn m) (came m) (with_state (end_job j τ.state) τ)
  ends j {ts} {τ} t I =
      inv_fewer I j (map (clear_slot j) τ.state.ledger.records) (of_others (λ (l : LockEntry P). l.job) j τ.state.locks) t (λ b i. (clear_in b j τ.state.ledger.records i).0)
      (λ l i. (others_in (λ (l : LockEntry P). l.job) j τ.state.locks l i).0) (in_others (λ (l : LockEntry P). l.job) j τ.state.locks)

  turns_now : (j c : ℕ) → In (Some (job_of j c None)) ω.state.ledger.records → (τ : System P R) → Inv K L x₀ H.os (turned m ++ (j ∷ [])) (withdrawn m) (came m) τ
      → Holds K L x₀ (m ++ (turns j ω.state.ledger.turning ∷ [])) τ
  turns_now j c i τ I =
      grow_turns H j ω.state.ledger.turning (turned m ++ (j ∷ [])) τ (turned_new m j ω.state.ledger.turning (H.inv.open_jobs (job_of j c None) i).2)
      (rw H.inv.count (place_end j (turned m))) I

  pub call_keeps : (c : Call P R) → Holds K L x₀ (m ++ marks c (Some (answered K allows c ω))) (leaving K allows c ω)
  call_keeps (Open c) =
      by_check Q s (leb c 7) BadClass _ idle_holds (λ _. by_check Q s (some_of is_free s.records) NoPlace _ idle_holds (λ _.
      by_check Q s (leb s.opening 1000000) NumbersSpent (give s.opening (open_ledger c s)) idle_holds (λ e.
      grow_opens H s.opening c _ (inv_open H.inv c (leb-true s.opening 1000000 e)))))
    where
      s : Ledger
      s = ω.state.ledger

      Q : Outcome Ledger ℕ → Type 0
      Q o = Holds K L x₀ (m ++ marks {P = P} {R = R} (Open c) (Some (said Job o.reply))) (with_state (with_ledger o.state ω.state) ω)
  call_keeps (Lock j w p) = by_lock K.apart allows (λ o. Holds K L x₀ (m ++ []) (with_state o.state ω)) j w p ω.state (λ n. idle_holds) granted (λ c i h k. idle_holds) (λ k. idle_holds)
    where
      granted : (c : ℕ) → In (Some (job_of j c None)) ω.state.ledger.records → ((l : LockEntry P) → In l ω.state.locks → conflicts K.apart j w p l ≡ true → ⊥) → Holds K L x₀ (m ++ []) (with_state (grant j c w p ω.state) ω)
      granted c i free = stay H _ (inv_grant H.inv j c w p i
          (λ l k n q a. free l k (rw (is_other j l.job n, q, a))))
  call_keeps (Turn j) =
      by_asker (λ o. Holds K L x₀ (m ++ marks {P = P} {R = R} (Turn j) (Some (said Turned o.reply))) (with_state o.state ω)) ω.state j ω.state.ledger.records _ (λ n. idle_holds)
      (λ c i. turns_now j c i _ (inv_turn H.inv j c i))
  call_keeps (Release j n) = by_open Q ω.state j ω.state.ledger.records _ idle_holds go
    where
      Q : Outcome (State P R) (Unit {0}) → Type 0
      Q o = Holds K L x₀ (m ++ []) (with_state o.state ω)

      go : (c : ℕ) (t : Option ℕ) → In (Some (job_of j c t)) ω.state.ledger.records → Q (release_turned j n t ω.state)
      go c None i = idle_holds
      go c (Some t) i =
          by_check Q ω.state (some_of (is_lock j n) ω.state.locks) NotYourLock (give tt (with_locks (release_one j n ω.state.locks) ω.state)) idle_holds (λ _. stay H _
          (inv_fewer H.inv j ω.state.ledger.records (release_one j n ω.state.locks) (place_in t j (turned m) (H.inv.open_jobs (job_of j c (Some t)) i).2)
          (λ b k. k) (λ l k. release_in j n l ω.state.locks k) (λ l k a. release_stays j n l ω.state.locks k a)))
  call_keeps (Close j) = by_open Q ω.state j ω.state.ledger.records _ idle_holds go
    where
      Q : Outcome (State P R) (ℕ × ℕ) → Type 0
      Q o = Holds K L x₀ (m ++ marks {P = P} {R = R} (Close j) (Some (said (λ n. Closed n.0 n.1) o.reply))) (with_state o.state ω)

      go : (c : ℕ) (t : Option ℕ) → In (Some (job_of j c t)) ω.state.ledger.records → Q (close_turned j t ω.state)
      go c None i = turns_now j c i _ (ends j (last_in (turned m) j) (inv_turn H.inv j c i))
      go c (Some t) i =
          let p = (H.inv.open_jobs (job_of j c (Some t)) i).2 in
          let k = place_in t j (turned m) p in
          grow_turns H j t (turned m) _ (turned_again m j t k) p (ends j k H.inv)
  call_keeps (Withdraw j) =
      by_asker (λ o. Holds K L x₀ (m ++ marks {P = P} {R = R} (Withdraw j) (Some (said (λ n. Withdrawn n.0 n.1) o.reply))) o.state) ω j ω.state.ledger.records _ (λ n. idle_holds)
      (λ c i. grow_withdraws H j _ (inv_withdraw H.inv sorted j c i))
  call_keeps (Data j d) =
      by_open Q ω j ω.state.ledger.records _ idle_holds (λ c t i. by_check Q ω (some_of (permits K j d) ω.state.locks) NotCovered _ idle_holds (λ h.
      by_check Q ω (log_fits (entries_due j t made) ω.state.undo ω.state.log) NotesFull _ idle_holds (λ _.
      by_check Q ω (store_fits made ω.state.undo ω.rows ω.places) StoreFull _ idle_holds (λ f.
      let l = some_of_in (permits K j d) ω.state.locks h in
      let a = covering K L j l.0 d l.2 in
      grow_does H (record { job = j; call = d; answer = found K d ω.rows }) _ (H.inv.open_jobs (job_of j c t) i).1
      (inv_does H.inv sorted (job_of j c t) d i l.0 l.1 (sym (is_means j l.0.job a.0)) a.1 (fits f (effect_of K L d ω.rows)))))))
    where
      made : List (Alteration R)
      made = effect K d (found K d ω.rows)

      Q : Outcome (System P R) (DataAnswer R) → Type 0
      Q o = Holds K L x₀ (m ++ marks (Data j d) (Some (said Answered o.reply))) o.state

      one : (a : Alteration R) → store_fits (a ∷ []) ω.state.undo ω.rows ω.places ≡ true → length ω.rows + (adds (a ∷ []) + removals ω.state.undo) ≤ ω.places
      one (Added r) f = let h = ltb-true (length ω.rows + removals ω.state.undo) ω.places f in omega arith
      one (Removed r) f = let h = H.inv.room in omega arith
      one (Changed o r) f = let h = H.inv.room in omega arith

      fits : store_fits made ω.state.undo ω.rows ω.places ≡ true → Effect K L d ω.rows → length ω.rows + (adds made + removals ω.state.undo) ≤ ω.places
      fits f (idle e) = rw e (let h = H.inv.room in omega arith)
      fits f (real a e v t) = rw e (one a (rw e at f))
