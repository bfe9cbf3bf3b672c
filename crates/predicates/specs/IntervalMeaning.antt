-- How two ranges lie to each other, in terms of the numbers in them.
use Rattle.std.specs.Prelude.{◌≡◌, ℕ, true, ◌≢◌}
use Rattle.predicates.specs.declared.interval.Interval.{Interval}
use Rattle.predicates.specs.Intervals.{has}

abbrev pub NoNumberInBoth : Interval → Interval → Type 0
NoNumberInBoth i j = (n : ℕ) → has i n ≡ true → has j n ≢ true

abbrev pub EachNumberIn : Interval → Interval → Type 0
EachNumberIn i j = (n : ℕ) → has i n ≡ true → has j n ≡ true
