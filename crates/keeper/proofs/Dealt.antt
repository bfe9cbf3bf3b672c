-- What the calls that use the store answer and leave, from what their parts promise.
use Rattle.std.proofs.Common.{◌≡◌, ℕ, Bool, ◌&&◌, eqb, List, [], ◌∷◌, length, take, Some, Ok, Err, Option, sym, refl, inl, inr, append-nil, arith}
use Rattle.std.proofs.lemmas.List.{length-take-le}
use Rattle.std.proofs.lemmas.Bool.{eqb-true}
use Rattle.tables.specs.declared.entries.Alteration.{Alteration}
use Rattle.tables.specs.declared.entries.LockEntry.{LockEntry}
use Rattle.tables.specs.declared.entries.UndoEntry.{UndoEntry}
use Rattle.tables.specs.declared.ledger.JobRecord.{JobRecord}
use Rattle.tables.specs.declared.refusal.Refusal.{Refusal}
use Rattle.tables.specs.declared.refusal.Refusal.TheVariants.{WrongBook, NotCovered, NotesFull, StoreFull}
use Rattle.tables.specs.Lists.{some_of}
use Rattle.tables.specs.Jobs.{Reply, Outcome, refuse, give, check, find}
use Rattle.tables.proofs.Lists.{is_means}
use Rattle.tables.proofs.Tabled.{find_named}
use Rattle.calls.specs.declared.data.DataAnswer.{DataAnswer}
use Rattle.calls.specs.declared.data.DataAnswer.TheVariants.{Edit as Edited}
use Rattle.calls.specs.declared.data.DataCall.{DataCall}
use Rattle.calls.specs.declared.data.EditAnswer.{EditAnswer}
use Rattle.calls.specs.Kinds.{Kinds}
use Rattle.calls.specs.Plain.{found, effect}
use Rattle.calls.specs.Systems.{System, entries_due, log_fits, store_fits, permits, altered}
use Rattle.keeper.specs.declared.keeper.Keeper.{Keeper}
use Rattle.keeper.specs.Dealings.{system, checked, if_open, edit_with, entry_left, Alters, Refuses, EditsSo}

-- checks that come first
abbrev first_checks : Bool → Option JobRecord → Bool → Reply JobRecord
first_checks fits x covered = checked fits WrongBook (if_open x (λ b. checked covered NotCovered (Ok b)))

-- whether an entry is left does not depend on the alteration
due_left : {R : Type 0} (j : ℕ) (t : Option ℕ) (a : Alteration R) (us : List (UndoEntry R)) (n : ℕ) → log_fits (entries_due j t (a ∷ [])) us n ≡ entry_left t us n
due_left j t a us n = grind arith

-- nothing altered, no entry due
pub none_due : {R : Type 0} (j : ℕ) (t : Option ℕ) → entries_due {R = R} j t [] ≡ []
none_due j t = grind arith

module _ {P R : Type 0} (K : Kinds P R) (j : ℕ) (d : DataCall P R) where
  -- the rest of the call, with that answer and those alterations
  abbrev rest : System P R → DataAnswer R → List (Alteration R) → JobRecord → Outcome (System P R) (DataAnswer R)
  rest ω a made b =
      check (log_fits (entries_due j b.turn made) ω.state.undo ω.state.log) NotesFull ω
      (check (store_fits made ω.state.undo ω.rows ω.places) StoreFull ω (give a (altered K.order j b.turn made ω)))

  -- the checks of the lists, the job and its locks
  abbrev admission : Keeper → List (LockEntry P) → List (UndoEntry R) → Reply JobRecord
  admission k table log = first_checks (eqb (length table) k.table && eqb (length log) k.log) (find j k.jobs.ledger.records) (some_of (permits K j d) (take k.held table))

  module _ (k : Keeper) (table : List (LockEntry P)) (log : List (UndoEntry R)) where
    admitted : {b : JobRecord} → Ok b ≡ admission k table log → find j k.jobs.ledger.records ≡ Some b
    admitted e = grind arith

    pub fitting : {b : JobRecord} → Ok b ≡ admission k table log → length log ≡ k.log
    fitting e = grind (arith, eqb-true)

    module _ (rows : List R) (places : ℕ) where
      refused : {n : Refusal} → Err n ≡ admission k table log → edit_with K j d k table log rows places ≡ refuse n (system k table log rows places)
      refused e = grind arith

      -- what it answers and alters is known
      edits : {b : JobRecord} {f : EditAnswer} {made : List (Alteration R)} → Ok b ≡ admission k table log → found K d rows ≡ Edited f → effect K d (Edited f) ≡ made
          → edit_with K j d k table log rows places ≡ rest (system k table log rows places) (Edited f) made b
      edits e p q = grind arith

  module _ {k : Keeper} {table : List (LockEntry P)} {log : List (UndoEntry R)} {rows : List R} {places : ℕ} where
    pub edit_refused : {n : Refusal} → Err n ≡ admission k table log → EditsSo (edit_with K j d k table log rows places) (Err n) k k table log rows places
    edit_refused e = rw (refused k table log rows places e) (record { reply = refl; state = refl; held = refl; logged = refl })

    module _ (f : EditAnswer) {b : JobRecord} (e : Ok b ≡ admission k table log) (p : found K d rows ≡ Edited f) where
      -- nothing is altered
      pub edit_idle : effect K d (Edited f) ≡ [] → EditsSo (edit_with K j d k table log rows places) (Ok f) k k table log rows places
      edit_idle q =
          let few = k.undos in
          let long = fitting k table log e in
          rw (edits k table log rows places e p q, none_due, append-nil) (record { reply = refl; state = refl; held = refl; logged = sym (length-take-le k.logged log (omega arith)) })

      module _ {a : Alteration R} {k' : Keeper} {log' : List (UndoEntry R)} {rows' : List R} {places' : ℕ} (q : effect K d (Edited f) ≡ a ∷ []) (s : places' ≡ places) where
        -- there is no place for an entry, or for the row
        pub edit_full : {n : Refusal} → Refuses K.order b.number b.turn a k log rows places n k' log' rows' → EditsSo (edit_with K j d k table log rows places) (Err n) k k' table log' rows' places'
        edit_full F = rw (F.same_keeper, F.same_log, F.same_rows, s, edits k table log rows places e p q, due_left) (elim F.why [
          | inl h ↦ rw (h.1, h.0) (record { reply = refl; state = refl; held = refl; logged = refl })
          | inr h ↦ rw (h.1, h.2, h.0) (record { reply = refl; state = refl; held = refl; logged = refl })
        ])

        -- the alteration is made
        pub edit_made : Alters K.order b.number b.turn a k log rows places k' log' rows' → EditsSo (edit_with K j d k table log rows places) (Ok f) k k' table log' rows' places'
        edit_made A =
            let N = A.noted in
            let named : j ≡ b.number = is_means j b.number (find_named j k.jobs.ledger.records b (admitted k table log e)) in
            rw (edits k table log rows places e p q, due_left, A.entry, A.place) (record { reply = refl; state = cc; held = N.held; logged = cc })
