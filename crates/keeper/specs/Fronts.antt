-- What keeper and lent lists hold between them: the used fronts of the lists. What lies past them means nothing.
use Rattle.std.specs.Prelude.{◌≡◌, ℕ, ◌-◌, ◌≤◌, Bool, ◌&&◌, List, [], length, take, Ok, Err, Result, ◌==◌}
use Rattle.tables.specs.declared.entries.LockEntry.{LockEntry}
use Rattle.tables.specs.declared.entries.Mode.{Mode}
use Rattle.tables.specs.declared.entries.UndoEntry.{UndoEntry}
use Rattle.tables.specs.declared.refusal.Refusal.{Refusal}
use Rattle.tables.specs.declared.refusal.Refusal.TheVariants.{WrongBook}
use Rattle.tables.specs.Lent.{Dropped}
use Rattle.tables.specs.Jobs.{Reply, Outcome, Gives, check, fresh_ledger, end_ledger}
use Rattle.keeper.specs.declared.keeper.Keeper.{Keeper}
use Rattle.calls.specs.declared.lock_answer.LockAnswer.{LockAnswer}
use Rattle.calls.specs.States.{State, lock_call, turn_call, release_call, close_call}

abbrev pub front : {P R : Type 0} → Keeper → List (LockEntry P) → List (UndoEntry R) → State P R
front k table log = record { ledger = k.jobs.ledger; locks = take k.held table; undo = take k.logged log; table = k.table; log = k.log }

-- where a call is lent only one of the lists, the other one stays out of sight
abbrev pub locks_front : {P : Type 0} → Keeper → List (LockEntry P) → State P (Unit {0})
locks_front k table = front k table []

abbrev pub log_front : {R : Type 0} → Keeper → List (UndoEntry R) → State (Unit {0}) R
log_front k log = front k [] log

abbrev pub same_counts : Keeper → Keeper → Type 0
same_counts k k' = (k'.held ≡ k.held) × (k'.logged ≡ k.logged) × (k'.table ≡ k.table) × (k'.log ≡ k.log)

-- a refusal leaves the used counts as they were; otherwise they are the lengths of the lists that are left
module _ {P R A : Type 0} where
  abbrev pub held_of : Outcome (State P R) A → Reply A → Keeper → ℕ
  held_of o (Ok a) k = length o.state.locks
  held_of o (Err e) k = k.held

  abbrev pub logged_of : Outcome (State P R) A → Reply A → Keeper → ℕ
  logged_of o (Ok a) k = length o.state.undo
  logged_of o (Err e) k = k.logged

-- the call answers so, and leaves that in keeper and lists
pub record LeavesSo {P R A : Type 0} (o : Outcome (State P R) A) (r : Reply A) (k k' : Keeper) (table : List (LockEntry P)) (log : List (UndoEntry R)) : Type 0 where
  pub gives : Gives o r (front k' table log)
  pub held : k'.held ≡ held_of o r k
  pub logged : k'.logged ≡ logged_of o r k

pub record LocksSo {P A : Type 0} (o : Outcome (State P (Unit {0})) A) (r : Reply A) (k k' : Keeper) (table : List (LockEntry P)) : Type 0 where
  pub gives : Gives o r (locks_front k' table)
  pub held : k'.held ≡ held_of o r k
  pub logged : k'.logged ≡ k.logged

pub record LogsSo {R A : Type 0} (o : Outcome (State (Unit {0}) R) A) (r : Reply A) (k k' : Keeper) (log : List (UndoEntry R)) : Type 0 where
  pub gives : Gives o r (log_front k' log)
  pub held : k'.held ≡ k.held
  pub logged : k'.logged ≡ logged_of o r k

-- NEW: 1 to 1,024 places of the lock table and 1 to 4,096 of the undo log
abbrev pub Made : ℕ → ℕ → Result Keeper Refusal → Type 0
Made n m (Ok k) = (1 ≤ n) × (n ≤ 1024) × (1 ≤ m) × (m ≤ 4096) × (k.jobs.ledger ≡ fresh_ledger) × (k.held ≡ 0) × (k.logged ≡ 0) × (k.table ≡ n) × (k.log ≡ m)
Made n m (Err e) = (((1 ≤ n) × (n ≤ 1024) × (1 ≤ m) × (m ≤ 4096)) → ⊥) × (e ≡ WrongBook)

-- refused unless the lists that are lent have the lengths that the keeper was made for
abbrev pub lock_with : {P : Type 0} → (P → P → Bool) → (ℕ → ℕ → ℕ → ℕ → Bool) → ℕ → Mode → P → Keeper → List (LockEntry P) → Outcome (State P (Unit {0})) LockAnswer
lock_with apart allows j w p k table = check (length table == k.table) WrongBook (locks_front k table) (lock_call apart allows j w p (locks_front k table))

abbrev pub turn_with : {R : Type 0} → ℕ → Keeper → List (UndoEntry R) → Outcome (State (Unit {0}) R) ℕ
turn_with j k log = check (length log == k.log) WrongBook (log_front k log) (turn_call j (log_front k log))

abbrev pub release_with : {P : Type 0} → ℕ → ℕ → Keeper → List (LockEntry P) → Outcome (State P (Unit {0})) (Unit {0})
release_with j n k table = check (length table == k.table) WrongBook (locks_front k table) (release_call j n (locks_front k table))

abbrev pub close_with : {P R : Type 0} → ℕ → Keeper → List (LockEntry P) → List (UndoEntry R) → Outcome (State P R) (ℕ × ℕ)
close_with j k table log = check (length table == k.table && length log == k.log) WrongBook (front k table log) (close_call j (front k table log))

-- the job's locks are given up, n of them, and its place is free; nothing else is altered
pub record EndsJob {P : Type 0} (j : ℕ) (k : Keeper) (table : List (LockEntry P)) (n : ℕ) (k' : Keeper) (table' : List (LockEntry P)) : Type 0 where
  pub locks : Dropped (λ (l : LockEntry P). l.job) j (take k.held table) k'.held table'
  pub count : n ≡ k.held - k'.held
  pub ledger : k'.jobs.ledger ≡ end_ledger j k.jobs.ledger
  pub logged : k'.logged ≡ k.logged
  pub table_len : k'.table ≡ k.table
  pub log_len : k'.log ≡ k.log
