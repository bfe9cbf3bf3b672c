-- How ranges lie to numbers and to each other.
use Rattle.std.specs.Prelude.{◌≡◌, ℕ, Bool, ◌&&◌, ◌||◌, nat_le, nat_lt}
use Rattle.predicates.specs.declared.interval.Interval.{Interval}

-- n lies from the low end to the high one
abbrev pub has : Interval → ℕ → Bool
has i n = nat_le i.low n && nat_le n i.high

-- no number is in both: one ends before the other begins
abbrev pub separate : Interval → Interval → Bool
separate i j = nat_lt i.high j.low || nat_lt j.high i.low

-- every number of j is in i: its ends are
abbrev pub encloses : Interval → Interval → Bool
encloses i j = nat_le i.low j.low && nat_le j.high i.high

-- its ends are low and high
abbrev pub Spans : Interval → ℕ → ℕ → Type 0
Spans i low high = (i.low ≡ low) × (i.high ≡ high)
