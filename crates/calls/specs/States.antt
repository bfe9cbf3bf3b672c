-- What keeper and lent lists hold between them, and what each call answers and makes of it. Checks run by rising number.
use Rattle.std.specs.Prelude.{ℕ, Bool, List, [], ◌∷◌, ◌++◌, length, Some, None, Option, nat_le, nat_lt}
use Rattle.tables.specs.declared.entries.LockEntry.{LockEntry}
use Rattle.tables.specs.declared.entries.Mode.{Mode}
use Rattle.tables.specs.declared.entries.UndoEntry.{UndoEntry}
use Rattle.tables.specs.declared.ledger.Ledger.{Ledger}
use Rattle.tables.specs.declared.refusal.Refusal.TheVariants.{NotTurned, NotYourLock, NumbersSpent, BookFull}
use Rattle.tables.specs.Lists.{keep, some_of}
use Rattle.tables.specs.Locks.{conflicts, smallest_of, barred_of, is_lock, release_one}
use Rattle.tables.specs.Lent.{of_job, of_others}
use Rattle.tables.specs.Jobs.{Outcome, refuse, give, check, on_found, not_turned, find, open_on, turn_ledger, end_ledger, grant_ledger}
use Rattle.calls.specs.declared.lock_answer.LockAnswer.{LockAnswer}
use Rattle.calls.specs.declared.lock_answer.LockAnswer.TheVariants.{Granted, Wait, Withdraw}

-- the open jobs and next numbers, the locks that are held, what can be undone, and the lengths of the lent lists
pub record State (P R : Type 0) : Type 0 where
  pub ledger : Ledger
  pub locks : List (LockEntry P)
  pub undo : List (UndoEntry R)
  pub table : ℕ
  pub log : ℕ

abbrev pub lock_of : {P : Type 0} → ℕ → ℕ → ℕ → Mode → P → LockEntry P
lock_of j c n w p = record { job = j; class = c; number = n; mode = w; predicate = p }

module _ {P R : Type 0} where
  abbrev pub with_ledger : Ledger → State P R → State P R
  with_ledger s σ = record { ledger = s; locks = σ.locks; undo = σ.undo; table = σ.table; log = σ.log }

  abbrev pub with_locks : List (LockEntry P) → State P R → State P R
  with_locks ls σ = record { ledger = σ.ledger; locks = ls; undo = σ.undo; table = σ.table; log = σ.log }

  -- OPEN
  abbrev pub open_call : ℕ → State P R → Outcome (State P R) ℕ
  open_call c σ = record { reply = (open_on c σ.ledger).reply; state = with_ledger (open_on c σ.ledger).state σ }

  -- LOCK: a lock goes to the end of the table, and uses up its number
  abbrev pub grant : ℕ → ℕ → Mode → P → State P R → State P R
  grant j c w p σ = with_ledger (grant_ledger σ.ledger) (with_locks (σ.locks ++ (lock_of j c σ.ledger.granting w p ∷ [])) σ)

  -- by the smallest conflicting holder, and the smallest of those that may not be waited for
  abbrev pub judge : ℕ → ℕ → Mode → P → Option ℕ → Option ℕ → State P R → Outcome (State P R) LockAnswer
  judge j c w p None b σ = give (Granted σ.ledger.granting) (grant j c w p σ)
  judge j c w p (Some h) None σ = give (Wait h) σ
  judge j c w p (Some h) (Some b) σ = give (Withdraw b) σ

  abbrev pub lock_call : (P → P → Bool) → (ℕ → ℕ → ℕ → ℕ → Bool) → ℕ → Mode → P → State P R → Outcome (State P R) LockAnswer
  lock_call apart allows j w p σ =
      on_found (find j σ.ledger.records) σ (λ b. not_turned b.turn σ
      (check (nat_le σ.ledger.granting 4000000) NumbersSpent σ (check (nat_lt (length σ.locks) σ.table) BookFull σ
      (judge j b.class w p (smallest_of (keep (conflicts apart j w p) σ.locks)) (barred_of allows b.class j (keep (conflicts apart j w p) σ.locks)) σ))))

  -- TURN: the job's undo entries go
  abbrev pub turn_job : ℕ → State P R → State P R
  turn_job j σ = record { ledger = turn_ledger j σ.ledger; locks = σ.locks; undo = of_others (λ u. u.job) j σ.undo; table = σ.table; log = σ.log }

  abbrev pub turn_call : ℕ → State P R → Outcome (State P R) ℕ
  turn_call j σ = on_found (find j σ.ledger.records) σ (λ b. not_turned b.turn σ (give σ.ledger.turning (turn_job j σ)))

  -- RELEASE: the job's first lock of that number goes
  abbrev pub release_turned : ℕ → ℕ → Option ℕ → State P R → Outcome (State P R) (Unit {0})
  release_turned j n None σ = refuse NotTurned σ
  release_turned j n (Some t) σ = check (some_of (is_lock j n) σ.locks) NotYourLock σ (give tt (with_locks (release_one j n σ.locks) σ))

  abbrev pub release_call : ℕ → ℕ → State P R → Outcome (State P R) (Unit {0})
  release_call j n σ = on_found (find j σ.ledger.records) σ (λ b. release_turned j n b.turn σ)

  -- CLOSE: the job turns if it has not, and its locks and its place go
  abbrev pub end_job : ℕ → State P R → State P R
  end_job j σ = with_ledger (end_ledger j σ.ledger) (with_locks (of_others (λ l. l.job) j σ.locks) σ)

  abbrev pub close_turned : ℕ → Option ℕ → State P R → Outcome (State P R) (ℕ × ℕ)
  close_turned j None σ = give (σ.ledger.turning, length (of_job (λ l. l.job) j σ.locks)) (end_job j (turn_job j σ))
  close_turned j (Some t) σ = give (t, length (of_job (λ l. l.job) j σ.locks)) (end_job j σ)

  abbrev pub close_call : ℕ → State P R → Outcome (State P R) (ℕ × ℕ)
  close_call j σ = on_found (find j σ.ledger.records) σ (λ b. close_turned j b.turn σ)
