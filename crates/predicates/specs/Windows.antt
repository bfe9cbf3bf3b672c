-- What a window on hires means.
use Rattle.std.specs.Prelude.{Bool, ◌&&◌, ◌||◌, nat_le}
use Rattle.rows.specs.declared.hire.Hire.{Hire}
use Rattle.rows.specs.declared.hire.state.HireState.{HireState}
use Rattle.rows.specs.declared.hire.state.HireState.TheVariants.{Booked, Out, Back}
use Rattle.predicates.specs.declared.hire_window.HireWindow.{HireWindow}
use Rattle.predicates.specs.declared.interval.Interval.{Interval}
use Rattle.predicates.specs.Intervals.{has, separate, encloses}
use Rattle.predicates.specs.StateSets.{admits, no_shared, only_out_shared, includes}

-- the days of a booked or finished hire share a day with the range; of a van that is out, the first day lies in it
abbrev pub meets : Interval → HireState → Bool
meets i (Booked first last) = nat_le first i.high && nat_le i.low last
meets i (Out first) = has i first
meets i (Back first last metres) = nat_le first i.high && nat_le i.low last

abbrev pub window_holds : HireWindow → Hire → Bool
window_holds w h = has w.van h.van && (admits w.states h.state && meets w.day h.state)

-- no van is shared, or no state, or only Out and no day
abbrev pub window_apart : HireWindow → HireWindow → Bool
window_apart w v = separate w.van v.van || (no_shared w.states v.states || (only_out_shared w.states v.states && separate w.day v.day))

-- vans, states and days each contain the other's
abbrev pub window_covers : HireWindow → HireWindow → Bool
window_covers w v = encloses w.van v.van && (includes w.states v.states && encloses w.day v.day)
