-- What the tests on ranges tell of the numbers in them.
use Rattle.std.specs.Prelude.{Decides}
use Rattle.std.proofs.Common.{arith}
use Rattle.std.proofs.lemmas.Bool.Decides.{nat_tests}
use Rattle.predicates.specs.declared.interval.Interval.{Interval}
use Rattle.predicates.specs.Intervals.{separate, encloses}
use Rattle.predicates.specs.IntervalMeaning.{NoNumberInBoth, EachNumberIn}

-- where two ranges overlap, the higher of the low ends is in both
pub separate_exact : (i j : Interval) → Decides (separate i j) (NoNumberInBoth i j)
separate_exact i j = (λ s n. grind (arith, nat_tests), λ f. grind (arith, nat_tests, f i.low, f j.low))

pub encloses_exact : (i j : Interval) → Decides (encloses j i) (EachNumberIn i j)
encloses_exact i j = (λ s n. grind (arith, nat_tests), λ f. grind (arith, nat_tests, f i.low, f i.high))
