-- Keeper, lent lists and store together: what the calls that use the store answer and make of them.
use Rattle.std.specs.Prelude.{ℕ, ◌+◌, Bool, true, List, [], ◌∷◌, ◌++◌, map, length, Some, None, Option, nat_lt}
use Rattle.std.specs.declared.cmp.Ordering.{Ordering}
use Rattle.tables.specs.declared.entries.Alteration.{Alteration}
use Rattle.tables.specs.declared.entries.Alteration.TheVariants.{Added, Removed, Changed}
use Rattle.tables.specs.declared.entries.LockEntry.{LockEntry}
use Rattle.tables.specs.declared.entries.UndoEntry.{UndoEntry}
use Rattle.tables.specs.declared.refusal.Refusal.TheVariants.{NotCovered, NotesFull, StoreFull}
use Rattle.tables.specs.Lists.{some_of}
use Rattle.tables.specs.Lent.{of_job, of_others}
use Rattle.tables.specs.Coverage.{lets_read, lets_write}
use Rattle.tables.specs.Undo.{removals, alterations_of, carried_out, undone}
use Rattle.tables.specs.Jobs.{Outcome, give, check, on_found, not_turned, find}
use Rattle.calls.specs.declared.data.DataAnswer.{DataAnswer}
use Rattle.calls.specs.declared.data.DataCall.{DataCall}
use Rattle.calls.specs.declared.data.DataCall.TheVariants.{Total, Next, Add, Drop, Change}
use Rattle.calls.specs.Kinds.{Kinds}
use Rattle.calls.specs.Plain.{found, effect}
use Rattle.calls.specs.States.{State, end_job}

-- what keeper and lent lists hold, the rows of the store and its number of places
pub record System (P R : Type 0) : Type 0 where
  pub state : State P R
  pub rows : List R
  pub places : ℕ

-- the entries that alterations of a job make in the undo log: none once it has turned
abbrev pub entries_due : {R : Type 0} → ℕ → Option ℕ → List (Alteration R) → List (UndoEntry R)
entries_due j None made = map (λ a. record { job = j; alteration = a }) made
entries_due j (Some turn) made = []

module _ {R : Type 0} where
  -- an undo log of so many places has one left, if an entry is due
  abbrev pub log_fits : List (UndoEntry R) → List (UndoEntry R) → ℕ → Bool
  log_fits [] undo log = true
  log_fits (u ∷ due) undo log = nat_lt (length undo) log

  -- a row is added only if a place is left beside those of the removed rows that may return
  abbrev pub store_fits : List (Alteration R) → List (UndoEntry R) → List R → ℕ → Bool
  store_fits [] undo rows places = true
  store_fits (Added r ∷ rest) undo rows places = nat_lt (length rows + removals undo) places
  store_fits (Removed r ∷ rest) undo rows places = true
  store_fits (Changed old new ∷ rest) undo rows places = true

  abbrev pub carried_all : (R → R → Ordering) → ℕ → List (Alteration R) → List R → List R
  carried_all order places [] rows = rows
  carried_all order places (a ∷ rest) rows = carried_all order places rest (carried_out order places a rows)

module _ {P R : Type 0} where
  abbrev pub with_state : State P R → System P R → System P R
  with_state σ ω = record { state = σ; rows = ω.rows; places = ω.places }

  -- a call that leaves the store alone
  abbrev pub beside_store : {A : Type 0} → (State P R → Outcome (State P R) A) → System P R → Outcome (System P R) A
  beside_store call ω = record { reply = (call ω.state).reply; state = with_state (call ω.state).state ω }

  abbrev pub with_undo : List (UndoEntry R) → State P R → State P R
  with_undo us σ = record { ledger = σ.ledger; locks = σ.locks; undo = us; table = σ.table; log = σ.log }

module _ {P R : Type 0} (order : R → R → Ordering) where
  -- after alterations by a job with this turn, or none
  abbrev pub altered : ℕ → Option ℕ → List (Alteration R) → System P R → System P R
  altered j turn made ω = record {
    state = with_undo (ω.state.undo ++ entries_due j turn made) ω.state;
    rows = carried_all order ω.places made ω.rows;
    places = ω.places;
  }

  -- WITHDRAW: what the job altered is taken back, and its undo entries, its locks and its place go
  abbrev pub without : ℕ → System P R → System P R
  without j ω = record {
    state = end_job j (with_undo (of_others (λ u. u.job) j ω.state.undo) ω.state);
    rows = undone order ω.places (alterations_of j ω.state.undo) ω.rows;
    places = ω.places;
  }

  -- gives how many locks and how many undo entries the job had
  abbrev pub withdraw_call : ℕ → System P R → Outcome (System P R) (ℕ × ℕ)
  withdraw_call j ω =
      on_found (find j ω.state.ledger.records) ω (λ b. not_turned b.turn ω
      (give (length (of_job (λ l. l.job) j ω.state.locks), length (of_job (λ u. u.job) j ω.state.undo)) (without j ω)))

module _ {P R : Type 0} (K : Kinds P R) where
  -- the lock alone lets the job make the call
  abbrev pub permits : ℕ → DataCall P R → LockEntry P → Bool
  permits j (Total p) l = lets_read K.covers j p l
  permits j (Next p given) l = lets_read K.covers j p l
  permits j (Add r) l = lets_write K.holds j (r ∷ []) l
  permits j (Drop r) l = lets_write K.holds j (r ∷ []) l
  permits j (Change old new) l = lets_write K.holds j (old ∷ new ∷ []) l

  -- TOTAL, NEXT, ADD, DROP and CHANGE
  abbrev pub data_call : ℕ → DataCall P R → System P R → Outcome (System P R) (DataAnswer R)
  data_call j d ω =
      on_found (find j ω.state.ledger.records) ω (λ b. check (some_of (permits j d) ω.state.locks) NotCovered ω
      (check (log_fits (entries_due j b.turn (effect K d (found K d ω.rows))) ω.state.undo ω.state.log) NotesFull ω
      (check (store_fits (effect K d (found K d ω.rows)) ω.state.undo ω.rows ω.places) StoreFull ω
      (give (found K d ω.rows) (altered K.order j b.turn (effect K d (found K d ω.rows)) ω)))))
