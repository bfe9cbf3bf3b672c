-- How sets of states lie to states and to each other.
use Rattle.std.specs.Prelude.{Bool, not, ◌&&◌, ◌||◌}
use Rattle.rows.specs.declared.hire.state.HireState.{HireState}
use Rattle.rows.specs.declared.hire.state.HireState.TheVariants.{Booked, Out, Back}
use Rattle.predicates.specs.declared.state_set.StateSet.{StateSet}

-- the state is one of the set
abbrev pub admits : StateSet → HireState → Bool
admits s (Booked first last) = s.booked
admits s (Out first) = s.out
admits s (Back first last metres) = s.back

-- no state is in both
abbrev pub no_shared : StateSet → StateSet → Bool
no_shared s t = not (s.booked && t.booked) && (not (s.out && t.out) && not (s.back && t.back))

-- Out is in both, and no other state is
abbrev pub only_out_shared : StateSet → StateSet → Bool
only_out_shared s t = not (s.booked && t.booked) && ((s.out && t.out) && not (s.back && t.back))

-- every state of t is in s
abbrev pub includes : StateSet → StateSet → Bool
includes s t = (s.booked || not t.booked) && ((s.out || not t.out) && (s.back || not t.back))
