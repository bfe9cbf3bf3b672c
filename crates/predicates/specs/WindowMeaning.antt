-- How a window judges days: by sharing one with the hire.
use Rattle.std.specs.Prelude.{◌≡◌, ℕ, Bool, true, ◌&&◌, ◌==◌, nat_le}
use Rattle.rows.specs.declared.hire.state.HireState.{HireState}
use Rattle.rows.specs.declared.hire.state.HireState.TheVariants.{Booked, Out, Back}
use Rattle.predicates.specs.declared.interval.Interval.{Interval}
use Rattle.predicates.specs.Intervals.{has}

-- the days of a hire run from its first to its last; while the van is out, only its first is known
abbrev pub day_of : HireState → ℕ → Bool
day_of (Booked first last) d = nat_le first d && nat_le d last
day_of (Out first) d = first == d
day_of (Back first last metres) d = nat_le first d && nat_le d last

abbrev pub ADayInBoth : Interval → HireState → Type 0
ADayInBoth i s = (d : ℕ) × (has i d ≡ true) × (day_of s d ≡ true)
