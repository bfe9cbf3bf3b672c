-- Places of the table of open jobs, one of which is lent to be changed.
use Rattle.std.specs.Prelude.{Bool, cond, List, [], ◌∷◌, Option}
use Rattle.std.specs.Borrow.{LendsIf, MutBor, Fml, Array}
use Rattle.std.specs.contracts.option.Option.{the_row as OptionOf}
use Rattle.tables.specs.declared.ledger.JobRecord.{JobRecord}
use Rattle.tables.specs.contracts.ledger.JobRecord.{the_row}

-- the list with another entry in place of the first that passes the test
abbrev pub with_first : {A : Type 0} → (A → Bool) → List A → A → List A
with_first p [] w = []
with_first p (x ∷ xs) w = cond (p x) (w ∷ xs) (x ∷ with_first p xs w)

-- once the borrow ends, the first place that passes has what was written last; where none passes, all is as before
abbrev pub LendsFirst : (Option JobRecord → Bool) → MutBor (List (Option JobRecord)) → Option (MutBor (Option JobRecord)) → Fml
LendsFirst p s r = LendsIf (Array (OptionOf the_row) 0) (OptionOf the_row) s r (with_first p s.now) s.now
