-- What a run of lock calls leaves, and the law of every such run from a fresh keeper.
use Rattle.std.specs.Prelude.{◌≡◌, ℕ, ◌≤◌, Bool, List, length, Ok, Err, Result}
use Rattle.tables.specs.declared.entries.LockEntry.{LockEntry}
use Rattle.tables.specs.declared.entries.UndoEntry.{UndoEntry}
use Rattle.tables.specs.declared.refusal.Refusal.{Refusal}
use Rattle.tables.specs.declared.refusal.Refusal.TheVariants.{WrongBook}
use Rattle.tables.specs.Jobs.{Reply, fresh_ledger}
use Rattle.calls.specs.Examples.{new_state}
use Rattle.keeper.specs.declared.keeper.Keeper.{Keeper}
use Rattle.keeper.specs.declared.transcript.Answer.{Answer}
use Rattle.keeper.specs.declared.transcript.Call.{Call}
use Rattle.keeper.specs.declared.transcript.Entry.{Entry}
use Rattle.keeper.specs.Fronts.{front}
use Rattle.keeper.specs.Runs.{answered, leaving, answers, left_by, calls, told}
use Rattle.keeper.specs.Serial.{history, OneAfterAnother}

-- fresh from NEW: nobody is open, nothing is held or logged, and all numbers begin at 1
pub record Fresh (k : Keeper) : Type 0 where
  pub nobody : k.jobs.ledger ≡ fresh_ledger
  pub no_locks : k.held ≡ 0
  pub no_undo : k.logged ≡ 0

-- the lists have the lengths for which the keeper was made
abbrev pub Fitting : {P R : Type 0} → Keeper → List (LockEntry P) → List (UndoEntry R) → Type 0
Fitting k table log = (length table ≡ k.table) × (length log ≡ k.log)

-- the lengths of a lock table and an undo log for which a keeper can be made
abbrev pub Allowed : ℕ → ℕ → Type 0
Allowed n m = (1 ≤ n) × (n ≤ 1024) × (1 ≤ m) × (m ≤ 4096)

module _ {P R : Type 0} (apart : P → P → Bool) (allows : ℕ → ℕ → ℕ → ℕ → Bool) where
  -- one call
  pub record Steps (c : Call P) (k : Keeper) (table : List (LockEntry P)) (log : List (UndoEntry R)) (a : Reply Answer) (k' : Keeper) (table' : List (LockEntry P)) (log' : List (UndoEntry R)) : Type 0 where
    pub answer : a ≡ answered apart allows c (front k table log)
    pub state : front k' table' log' ≡ leaving apart allows c (front k table log)

  -- the calls stay as they were, each has its answer beside it, and keeper and lists hold what the last one leaves
  pub record Went (k : Keeper) (table : List (LockEntry P)) (log : List (UndoEntry R)) (script : List (Entry P)) (k' : Keeper) (table' : List (LockEntry P)) (log' : List (UndoEntry R)) (script' : List (Entry P)) : Type 0 where
    pub lists : Fitting k table log
    pub calls_kept : calls script' ≡ calls script
    pub answers_are : told script' ≡ answers apart allows (calls script) (front k table log)
    pub leaves : front k' table' log' ≡ left_by apart allows (calls script) (front k table log)

  abbrev pub Ran : Keeper → List (LockEntry P) → List (UndoEntry R) → List (Entry P) → Result (Unit {0}) Refusal → Keeper → List (LockEntry P) → List (UndoEntry R) → List (Entry P) → Type 0
  Ran k table log script (Err e) k' table' log' script' = (e ≡ WrongBook) × (Fitting k table log → ⊥) × (script' ≡ script) × (table' ≡ table) × (log' ≡ log) × (k' ≡ k)
  Ran k table log script (Ok u) k' table' log' script' = Went k table log script k' table' log' script'

  -- the law, of the transcript that a run from a fresh keeper leaves
  abbrev pub Lawful : Keeper → Result (Unit {0}) Refusal → Keeper → List (LockEntry P) → List (UndoEntry R) → List (Entry P) → Type 0
  Lawful k (Err e) k' table' log' script' = Unit {0}
  Lawful k (Ok u) k' table' log' script' = Fresh k → OneAfterAnother apart allows (history script') (front k' table' log')

  -- the same of a run from a new keeper for these lists
  pub record BeganWell (table : List (LockEntry P)) (log : List (UndoEntry R)) (script : List (Entry P)) (k' : Keeper) (table' : List (LockEntry P)) (log' : List (UndoEntry R)) (script' : List (Entry P)) : Type 0 where
    pub lists : Allowed (length table) (length log)
    pub calls_kept : calls script' ≡ calls script
    pub answers_are : told script' ≡ answers {R = R} apart allows (calls script) (new_state (length table) (length log))
    pub leaves : front k' table' log' ≡ left_by {R = R} apart allows (calls script) (new_state (length table) (length log))
    pub law : OneAfterAnother apart allows (history script') (front k' table' log')

  abbrev pub Began : List (LockEntry P) → List (UndoEntry R) → List (Entry P) → Result Keeper Refusal → List (LockEntry P) → List (UndoEntry R) → List (Entry P) → Type 0
  Began table log script (Err e) table' log' script' = (e ≡ WrongBook) × (Allowed (length table) (length log) → ⊥) × (script' ≡ script) × (table' ≡ table) × (log' ≡ log)
  Began table log script (Ok k') table' log' script' = BeganWell table log script k' table' log' script'
