-- The numbers by which a fault's cause is printed.
use Rattle.std.specs.Prelude.{ℕ}
use Rattle.scripts.specs.declared.fault.Cause.{Cause}
use Rattle.scripts.specs.declared.fault.Cause.TheVariants.{Form, Number, Row, Predicate, TooLong}

abbrev pub cause_number : Cause → ℕ
cause_number Form = 1
cause_number Number = 2
cause_number Row = 3
cause_number Predicate = 4
cause_number TooLong = 5
