-- Worked examples of what is apart.
use Rattle.std.specs.Prelude.{◌≡◌, ℕ, Bool, true, false, T, List, [], ◌∷◌, ◌≢◌, nat_le}
use Rattle.std.proofs.Common.{lit≤}
use Rattle.rows.specs.declared.trip.Trip.{Trip}
use Rattle.predicates.specs.declared.both.Both.{Both}
use Rattle.predicates.specs.declared.hire_window.HireWindow.{HireWindow}
use Rattle.predicates.specs.declared.interval.Interval.{Interval}
use Rattle.predicates.specs.declared.state_set.StateSet.{StateSet}
use Rattle.predicates.specs.declared.trip_box.TripBox.{TripBox}
use Rattle.predicates.specs.Boxes.{box_holds, box_apart}
use Rattle.predicates.specs.Boths.{both_holds, both_apart}
use Rattle.predicates.specs.Windows.{window_apart}

abbrev pub from : (low high : ℕ) → T (nat_le low high) → Interval
from low high h = record { low = low; high = high; ordered = lit≤ h }

-- a box of all trips on some days
abbrev pub on_days : (i : Interval) → T (nat_le i.high 36524) → TripBox
on_days i h = record {
  van = from 1 9999 tt;
  day = i;
  second = from 0 86399 tt;
  metres = from 0 2000000 tt;
  limits = (lit≤ tt, lit≤ tt, lit≤ h, lit≤ tt, lit≤ tt);
}

-- a box of all trips of some vans
abbrev pub of_vans : (i : Interval) → T (nat_le 1 i.low) → T (nat_le i.high 9999) → TripBox
of_vans i h k = record {
  van = i;
  day = from 0 36524 tt;
  second = from 0 86399 tt;
  metres = from 0 2000000 tt;
  limits = (lit≤ h, lit≤ k, lit≤ tt, lit≤ tt, lit≤ tt);
}

abbrev pub only_booked : StateSet
only_booked = record { booked = true; out = false; back = false; inhabited = λ i. true }

abbrev pub only_out : StateSet
only_out = record { booked = false; out = true; back = false; inhabited = λ i. true }

-- a window on van 7
abbrev pub window : StateSet → (i : Interval) → T (nat_le i.high 36524) → HireWindow
window s i h = record { van = from 7 7 tt; states = s; day = i; limits = (lit≤ tt, lit≤ tt, lit≤ h) }

-- vans 1 to 5 that are also vans 4 to 9, and vans 1 to 3 that are also vans 1 to 9
abbrev pub four_and_five : Both TripBox TripBox
four_and_five = record { first = of_vans (from 1 5 tt) tt tt; second = of_vans (from 4 9 tt) tt tt }

abbrev pub one_to_three : Both TripBox TripBox
one_to_three = record { first = of_vans (from 1 3 tt) tt tt; second = of_vans (from 1 9 tt) tt tt }

-- whether these are apart, in turn: the days 100 and 101; 100 to 101 and 101 to 105; booked windows 10 to 12 and 20 to 22;
-- the same windows with Out alone; the two pairs of vans
abbrev pub answers : List Bool
answers =
    box_apart (on_days (from 100 100 tt) tt) (on_days (from 101 101 tt) tt)
    ∷ box_apart (on_days (from 100 101 tt) tt) (on_days (from 101 105 tt) tt)
    ∷ window_apart (window only_booked (from 10 12 tt) tt) (window only_booked (from 20 22 tt) tt)
    ∷ window_apart (window only_out (from 10 12 tt) tt) (window only_out (from 20 22 tt) tt)
    ∷ both_apart box_apart box_apart four_and_five one_to_three
    ∷ []

-- the answers, and that the last one is given although the two share no row
pub record Examples : Type 0 where
  pub answered : answers ≡ true ∷ false ∷ false ∷ true ∷ false ∷ []
  pub no_row_shared : (t : Trip) → both_holds box_holds box_holds four_and_five t ≡ true → both_holds box_holds box_holds one_to_three t ≢ true
