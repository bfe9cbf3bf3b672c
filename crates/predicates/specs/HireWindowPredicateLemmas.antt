-- What the tests of two windows tell of a hire, by its van and its state.
use Rattle.std.specs.Prelude.{◌≡◌, ℕ, true, ◌&&◌, ◌||◌, ◌≢◌}
use Rattle.std.proofs.Common.{arith}
use Rattle.std.proofs.lemmas.Bool.Decides.{nat_tests}
use Rattle.rows.specs.declared.hire.state.HireState.{HireState}
use Rattle.rows.specs.declared.hire.state.HireState.TheVariants.{Booked, Out, Back}
use Rattle.predicates.specs.declared.hire_window.HireWindow.{HireWindow}
use Rattle.predicates.specs.declared.interval.Interval.{Interval}
use Rattle.predicates.specs.declared.state_set.StateSet.{StateSet}
use Rattle.predicates.specs.Intervals.{has, separate, encloses}
use Rattle.predicates.specs.StateSets.{admits, no_shared, only_out_shared, includes}
use Rattle.predicates.specs.Windows.{meets, window_apart, window_covers}

pub windows_disjoint : (w v : HireWindow) (n : ℕ) (s : HireState) → window_apart w v ≡ true → (has w.van n && (admits w.states s && meets w.day s)) ≡ true → (has v.van n && (admits v.states s && meets v.day s)) ≢ true
windows_disjoint w v n (Booked f l) a h k = grind (arith, nat_tests)
windows_disjoint w v n (Out f) a h k = grind (arith, nat_tests)
windows_disjoint w v n (Back f l m) a h k = grind (arith, nat_tests)

pub windows_contained : (w v : HireWindow) (n : ℕ) (s : HireState) → window_covers w v ≡ true → (has v.van n && (admits v.states s && meets v.day s)) ≡ true → (has w.van n && (admits w.states s && meets w.day s)) ≡ true
windows_contained w v n (Booked f l) a h = grind (arith, nat_tests)
windows_contained w v n (Out f) a h = grind (arith, nat_tests)
windows_contained w v n (Back f l m) a h = grind (arith, nat_tests)

-- the same of any sets of states and any ranges
pub states_disjoint : (s t : StateSet) (i j : Interval) (x : HireState) → (no_shared s t || (only_out_shared s t && separate i j)) ≡ true → (admits s x && meets i x) ≡ true → (admits t x && meets j x) ≢ true
states_disjoint s t i j (Booked f l) a h k = grind (arith, nat_tests)
states_disjoint s t i j (Out f) a h k = grind (arith, nat_tests)
states_disjoint s t i j (Back f l m) a h k = grind (arith, nat_tests)

pub states_contained : (s t : StateSet) (x : HireState) → includes s t ≡ true → admits t x ≡ true → admits s x ≡ true
states_contained s t (Booked f l) a h = grind (arith, nat_tests)
states_contained s t (Out f) a h = grind (arith, nat_tests)
states_contained s t (Back f l m) a h = grind (arith, nat_tests)

pub days_contained : (i j : Interval) (x : HireState) → encloses i j ≡ true → meets j x ≡ true → meets i x ≡ true
days_contained i j (Booked f l) a h = grind (arith, nat_tests)
days_contained i j (Out f) a h = grind (arith, nat_tests)
days_contained i j (Back f l m) a h = grind (arith, nat_tests)
