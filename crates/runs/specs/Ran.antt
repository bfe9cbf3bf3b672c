-- What a run leaves, and the law of every run from a fresh keeper.
use Rattle.std.specs.Prelude.{◌≡◌, ℕ, ◌≤◌, Bool, List, length, Ok, Err, Result}
use Rattle.tables.specs.declared.entries.LockEntry.{LockEntry}
use Rattle.tables.specs.declared.entries.UndoEntry.{UndoEntry}
use Rattle.tables.specs.declared.refusal.Refusal.{Refusal}
use Rattle.tables.specs.declared.refusal.Refusal.TheVariants.{WrongBook}
use Rattle.tables.specs.Jobs.{Reply, fresh_ledger}
use Rattle.calls.specs.declared.data.DataAnswer.{DataAnswer}
use Rattle.calls.specs.declared.data.DataCall.{DataCall}
use Rattle.calls.specs.declared.transcript.Answer.{Answer}
use Rattle.calls.specs.declared.transcript.Call.{Call}
use Rattle.calls.specs.declared.transcript.Entry.{Entry}
use Rattle.calls.specs.Examples.{new_state}
use Rattle.calls.specs.Kinds.{Kinds}
use Rattle.calls.specs.Systems.{System, data_call}
use Rattle.calls.specs.Runs.{answered, leaving, answers, left_by, calls, told}
use Rattle.calls.specs.Serial.{history, OneAfterAnother}
use Rattle.keeper.specs.declared.keeper.Keeper.{Keeper}
use Rattle.keeper.specs.Fronts.{front}
use Rattle.keeper.specs.Dealings.{system}

-- fresh from NEW: nobody is open, nothing is held or logged, and all numbers begin at 1
pub record Fresh (k : Keeper) : Type 0 where
  pub nobody : k.jobs.ledger ≡ fresh_ledger
  pub no_locks : k.held ≡ 0
  pub no_undo : k.logged ≡ 0

-- the lists have the lengths for which the keeper was made
abbrev pub Fitting : {P R : Type 0} → Keeper → List (LockEntry P) → List (UndoEntry R) → Type 0
Fitting k table log = (length table ≡ k.table) × (length log ≡ k.log)

-- the lengths of a lock table and an undo log for which a keeper can be made
abbrev pub Allowed : ℕ → ℕ → Type 0
Allowed n m = (1 ≤ n) × (n ≤ 1024) × (1 ≤ m) × (m ≤ 4096)

-- a new keeper for lists of these lengths, over a store
abbrev pub new_system : {P R : Type 0} → ℕ → ℕ → List R → ℕ → System P R
new_system n m rows places = record { state = new_state n m; rows = rows; places = places }

-- a data call of a run
pub record DataSteps {P R : Type 0} (K : Kinds P R) (j : ℕ) (d : DataCall P R) (k : Keeper) (table : List (LockEntry P)) (log : List (UndoEntry R)) (rows : List R) (places : ℕ)
    (a : Reply (DataAnswer R)) (k' : Keeper) (log' : List (UndoEntry R)) (rows' : List R) (places' : ℕ) : Type 0 where
  pub answer : a ≡ (data_call K j d (system k table log rows places)).reply
  pub state : system k' table log' rows' places' ≡ (data_call K j d (system k table log rows places)).state

module _ {P R : Type 0} (K : Kinds P R) (allows : ℕ → ℕ → ℕ → ℕ → Bool) where
  -- one call
  pub record Steps (c : Call P R) (k : Keeper) (table : List (LockEntry P)) (log : List (UndoEntry R)) (rows : List R) (places : ℕ)
      (a : Reply (Answer R)) (k' : Keeper) (table' : List (LockEntry P)) (log' : List (UndoEntry R)) (rows' : List R) (places' : ℕ) : Type 0 where
    pub answer : a ≡ answered K allows c (system k table log rows places)
    pub state : system k' table' log' rows' places' ≡ leaving K allows c (system k table log rows places)

  -- the calls stay as they were, each has its answer beside it, and keeper, lists and store hold what the last one leaves
  pub record Went (k : Keeper) (table : List (LockEntry P)) (log : List (UndoEntry R)) (rows : List R) (places : ℕ) (script : List (Entry P R))
      (k' : Keeper) (table' : List (LockEntry P)) (log' : List (UndoEntry R)) (rows' : List R) (places' : ℕ) (script' : List (Entry P R)) : Type 0 where
    pub lists : Fitting k table log
    pub calls_kept : calls script' ≡ calls script
    pub answers_are : told script' ≡ answers K allows (calls script) (system k table log rows places)
    pub leaves : system k' table' log' rows' places' ≡ left_by K allows (calls script) (system k table log rows places)

  abbrev pub Ran : Keeper → List (LockEntry P) → List (UndoEntry R) → List R → ℕ → List (Entry P R) → Result (Unit {0}) Refusal → Keeper → List (LockEntry P) → List (UndoEntry R) → List R → ℕ → List (Entry P R) → Type 0
  Ran k table log rows places script (Err e) k' table' log' rows' places' script' =
      (e ≡ WrongBook) × (Fitting k table log → ⊥) × (script' ≡ script) × (table' ≡ table) × (log' ≡ log) × (k' ≡ k) × (rows' ≡ rows) × (places' ≡ places)
  Ran k table log rows places script (Ok u) k' table' log' rows' places' script' = Went k table log rows places script k' table' log' rows' places' script'

  -- the law, of the transcript that a run from a fresh keeper leaves
  abbrev pub Lawful : Keeper → List R → Result (Unit {0}) Refusal → Keeper → List (LockEntry P) → List (UndoEntry R) → List R → List (Entry P R) → Type 0
  Lawful k rows (Err e) k' table' log' rows' script' = Unit {0}
  Lawful k rows (Ok u) k' table' log' rows' script' = Fresh k → OneAfterAnother K allows rows (history script') rows' (front k' table' log')

  -- the same of a run from a new keeper for these lists
  pub record BeganWell (table : List (LockEntry P)) (log : List (UndoEntry R)) (rows : List R) (places : ℕ) (script : List (Entry P R))
      (k' : Keeper) (table' : List (LockEntry P)) (log' : List (UndoEntry R)) (rows' : List R) (places' : ℕ) (script' : List (Entry P R)) : Type 0 where
    pub lists : Allowed (length table) (length log)
    pub calls_kept : calls script' ≡ calls script
    pub answers_are : told script' ≡ answers K allows (calls script) (new_system (length table) (length log) rows places)
    pub leaves : system k' table' log' rows' places' ≡ left_by K allows (calls script) (new_system (length table) (length log) rows places)
    pub law : OneAfterAnother K allows rows (history script') rows' (front k' table' log')

  abbrev pub Began : List (LockEntry P) → List (UndoEntry R) → List R → ℕ → List (Entry P R) → Result Keeper Refusal → List (LockEntry P) → List (UndoEntry R) → List R → ℕ → List (Entry P R) → Type 0
  Began table log rows places script (Err e) table' log' rows' places' script' =
      (e ≡ WrongBook) × (Allowed (length table) (length log) → ⊥) × (script' ≡ script) × (table' ≡ table) × (log' ≡ log) × (rows' ≡ rows) × (places' ≡ places)
  Began table log rows places script (Ok k') table' log' rows' places' script' = BeganWell table log rows places script k' table' log' rows' places' script'
