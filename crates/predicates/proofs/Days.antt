-- What the test on days tells of the days of a hire.
use Rattle.std.proofs.Common.{◌≡◌, ℕ, ◌≤◌, ◌&&◌, nat_le, max, true, Decides, arith}
use Rattle.std.proofs.lemmas.Bool.Decides.{nat_tests}
use Rattle.rows.specs.declared.hire.state.HireState.{HireState}
use Rattle.rows.specs.declared.hire.state.HireState.TheVariants.{Booked, Out, Back}
use Rattle.rows.specs.HireStates.{state_limits}
use Rattle.predicates.specs.declared.interval.Interval.{Interval}
use Rattle.predicates.specs.Intervals.{has}
use Rattle.predicates.specs.Windows.{meets}
use Rattle.predicates.specs.WindowMeaning.{ADayInBoth}

-- a range and the days from f to l: where they meet, the later of the two first days is in both
span_exact : (i : Interval) (f l : ℕ) → f ≤ l → Decides (nat_le f i.high && nat_le i.low l) ((d : ℕ) × (has i d ≡ true) × ((nat_le f d && nat_le d l) ≡ true))
span_exact i f l w = (λ h. (max i.low f, grind (arith, nat_tests), grind (arith, nat_tests)), λ h. grind (arith, nat_tests, h.1, h.2))

pub meets_exact : (i : Interval) (s : HireState) → state_limits s ≡ true → Decides (meets i s) (ADayInBoth i s)
meets_exact i (Booked f l) w = span_exact i f l (grind (arith, nat_tests))
meets_exact i (Out f) w = (λ h. (f, h, grind (arith, nat_tests)), λ h. grind (arith, nat_tests, h.1, h.2))
meets_exact i (Back f l m) w = span_exact i f l (grind (arith, nat_tests))
