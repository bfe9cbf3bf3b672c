-- What the calls that use the store answer, and what they leave in keeper, lent lists and store.
use Rattle.std.specs.Prelude.{◌≡◌, ℕ, Bool, true, false, ◌&&◌, ◌⊎◌, List, [], ◌∷◌, ◌++◌, length, take, Some, None, Ok, Err, Option, ◌==◌, nat_lt}
use Rattle.std.specs.declared.cmp.Ordering.{Ordering}
use Rattle.tables.specs.declared.entries.Alteration.{Alteration}
use Rattle.tables.specs.declared.entries.LockEntry.{LockEntry}
use Rattle.tables.specs.declared.entries.UndoEntry.{UndoEntry}
use Rattle.tables.specs.declared.ledger.JobRecord.{JobRecord}
use Rattle.tables.specs.declared.refusal.Refusal.{Refusal}
use Rattle.tables.specs.declared.refusal.Refusal.TheVariants.{WrongBook, NoSuchJob, NotCovered, NotesFull, StoreFull}
use Rattle.tables.specs.Lists.{some_of}
use Rattle.tables.specs.Coverage.{lets_read, lets_write}
use Rattle.tables.specs.Undo.{carried_out}
use Rattle.tables.specs.Jobs.{Reply, Outcome, Gives, check, find}
use Rattle.calls.specs.declared.data.DataAnswer.{DataAnswer}
use Rattle.calls.specs.declared.data.DataAnswer.TheVariants.{Total as Figures, Edit as Edited}
use Rattle.calls.specs.declared.data.DataCall.{DataCall}
use Rattle.calls.specs.declared.data.EditAnswer.{EditAnswer}
use Rattle.calls.specs.Kinds.{Kinds}
use Rattle.calls.specs.Runs.{said}
use Rattle.calls.specs.Systems.{System, entries_due, store_fits, data_call, withdraw_call}
use Rattle.keeper.specs.declared.keeper.Keeper.{Keeper}
use Rattle.keeper.specs.Fronts.{front}

abbrev pub figures : {R : Type 0} → ℕ × ℕ → DataAnswer R
figures t = Figures t.0 t.1

-- keeper, lent lists and store
abbrev pub system : {P R : Type 0} → Keeper → List (LockEntry P) → List (UndoEntry R) → List R → ℕ → System P R
system k table log rows places = record { state = front k table log; rows = rows; places = places }

-- TOTAL and NEXT are not lent the undo log, and leave everything as it was
abbrev pub ask_with : {P R : Type 0} → Kinds P R → ℕ → DataCall P R → Keeper → List (LockEntry P) → List R → ℕ → Reply (DataAnswer R)
ask_with K j d k table rows places =
    (check (length table == k.table) WrongBook (system k table [] rows places) (data_call K j d (system k table [] rows places))).reply

-- ADD, DROP and CHANGE
abbrev pub edit_with : {P R : Type 0} → Kinds P R → ℕ → DataCall P R → Keeper → List (LockEntry P) → List (UndoEntry R) → List R → ℕ → Outcome (System P R) (DataAnswer R)
edit_with K j d k table log rows places =
    check (length table == k.table && length log == k.log) WrongBook (system k table log rows places) (data_call K j d (system k table log rows places))

abbrev pub withdraw_with : {P R : Type 0} → (R → R → Ordering) → ℕ → Keeper → List (LockEntry P) → List (UndoEntry R) → List R → ℕ → Outcome (System P R) (ℕ × ℕ)
withdraw_with order j k table log rows places =
    check (length table == k.table && length log == k.log) WrongBook (system k table log rows places) (withdraw_call order j (system k table log rows places))

-- a refusal leaves the used counts as they were; otherwise they are the lengths of the lists that are left
module _ {P R A : Type 0} where
  abbrev pub locks_of : Outcome (System P R) A → Reply A → Keeper → ℕ
  locks_of o (Ok a) k = length o.state.state.locks
  locks_of o (Err e) k = k.held

  abbrev pub undos_of : Outcome (System P R) A → Reply A → Keeper → ℕ
  undos_of o (Ok a) k = length o.state.state.undo
  undos_of o (Err e) k = k.logged

-- the call answers so, and leaves that in keeper, lists and store
pub record LeavesAll {P R A : Type 0} (o : Outcome (System P R) A) (r : Reply A) (k k' : Keeper) (table : List (LockEntry P)) (log : List (UndoEntry R)) (rows : List R) (places : ℕ) : Type 0 where
  pub gives : Gives o r (system k' table log rows places)
  pub held : k'.held ≡ locks_of o r k
  pub logged : k'.logged ≡ undos_of o r k

-- refused with n, unless the test passes; refused unless the job is open
module _ {A : Type 0} where
  abbrev pub checked : Bool → Refusal → Reply A → Reply A
  checked true n r = r
  checked false n r = Err n

  abbrev pub if_open : Option JobRecord → (JobRecord → Reply A) → Reply A
  if_open None f = Err NoSuchJob
  if_open (Some b) f = f b

-- whether the job may read what the predicate holds
abbrev pub admit_read : {P : Type 0} → (P → P → Bool) → ℕ → P → Keeper → List (LockEntry P) → Reply JobRecord
admit_read covers j p k table =
    checked (length table == k.table) WrongBook (if_open (find j k.jobs.ledger.records) (λ b.
    checked (some_of (lets_read covers j p) (take k.held table)) NotCovered (Ok b)))

-- whether it may write these rows
abbrev pub admit_write : {P R : Type 0} → (P → R → Bool) → ℕ → List R → Keeper → List (LockEntry P) → ℕ → Reply JobRecord
admit_write holds j rs k table log =
    checked (length table == k.table && log == k.log) WrongBook (if_open (find j k.jobs.ledger.records) (λ b.
    checked (some_of (lets_write holds j rs) (take k.held table)) NotCovered (Ok b)))

-- the undo log has a place left, if an entry of a job with this turn, or none, is due
abbrev pub entry_left : {R : Type 0} → Option ℕ → List (UndoEntry R) → ℕ → Bool
entry_left None undo log = nat_lt (length undo) log
entry_left (Some turn) undo log = true

-- the entry that is due, if one is, stands at the end of the undo log, and nothing else is altered
pub record LogsEntry {R : Type 0} (j : ℕ) (t : Option ℕ) (a : Alteration R) (k : Keeper) (log : List (UndoEntry R)) (k' : Keeper) (log' : List (UndoEntry R)) : Type 0 where
  pub undo : take k'.logged log' ≡ take k.logged log ++ entries_due j t (a ∷ [])
  pub logged : k'.logged ≡ length (take k.logged log ++ entries_due j t (a ∷ []))
  pub ledger : k'.jobs.ledger ≡ k.jobs.ledger
  pub held : k'.held ≡ k.held
  pub table : k'.table ≡ k.table
  pub log_len : k'.log ≡ k.log

-- an alteration by a job with this turn, or none: refused where an entry is due and none is left, or where the store has no
-- place; otherwise made, with its entry
module _ {R : Type 0} (order : R → R → Ordering) (j : ℕ) (t : Option ℕ) (a : Alteration R) (k : Keeper) (log : List (UndoEntry R)) (rows : List R) (places : ℕ) where
  pub record Alters (k' : Keeper) (log' : List (UndoEntry R)) (rows' : List R) : Type 0 where
    pub entry : entry_left t (take k.logged log) k.log ≡ true
    pub place : store_fits (a ∷ []) (take k.logged log) rows places ≡ true
    pub noted : LogsEntry j t a k log k' log'
    pub stored : rows' ≡ carried_out order places a rows

  pub record Refuses (e : Refusal) (k' : Keeper) (log' : List (UndoEntry R)) (rows' : List R) : Type 0 where
    pub why : ((e ≡ NotesFull) × (entry_left t (take k.logged log) k.log ≡ false))
        ⊎ ((e ≡ StoreFull) × (entry_left t (take k.logged log) k.log ≡ true) × (store_fits (a ∷ []) (take k.logged log) rows places ≡ false))
    pub same_log : log' ≡ log
    pub same_rows : rows' ≡ rows
    pub same_keeper : k' ≡ k

  abbrev pub AltersSo : Reply (Unit {0}) → Keeper → List (UndoEntry R) → List R → Type 0
  AltersSo (Ok u) k' log' rows' = Alters k' log' rows'
  AltersSo (Err e) k' log' rows' = Refuses e k' log' rows'

-- ADD, DROP and CHANGE answer so, and leave that; the lock table stays as it was
module _ {P R : Type 0} where
  abbrev pub logged_after : Outcome (System P R) (DataAnswer R) → Reply EditAnswer → Keeper → ℕ
  logged_after o (Ok a) k = length o.state.state.undo
  logged_after o (Err e) k = k.logged

  pub record EditsSo (o : Outcome (System P R) (DataAnswer R)) (r : Reply EditAnswer) (k k' : Keeper) (table : List (LockEntry P)) (log : List (UndoEntry R)) (rows : List R) (places : ℕ) : Type 0 where
    pub reply : said Edited r ≡ o.reply
    pub state : system k' table log rows places ≡ o.state
    pub held : k'.held ≡ k.held
    pub logged : k'.logged ≡ logged_after o r k
