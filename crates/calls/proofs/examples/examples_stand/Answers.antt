use Rattle.std.proofs.Common.{refl, arith}
use Rattle.predicates.proofs.Worked.{examples}
use Rattle.tables.specs.Lists.{is}
use Rattle.calls.specs.Examples.{Shown, call_examples}
use Rattle.calls.proofs.examples.examples_stand.Goals as goal

calls : Shown call_examples
unfolding is
calls = (
  record { up = refl; few = omega arith; limit = omega arith },
  refl,
  (
    record { up = refl; few = omega arith; limit = omega arith },
    refl,
    (
      record { up = refl; few = omega arith; limit = omega arith },
      refl,
      (
        record { up = refl; few = omega arith; limit = omega arith },
        refl,
        (record { up = refl; few = omega arith; limit = omega arith }, refl, tt),
      ),
    ),
  ),
)

pub returns : goal.returns
returns c = record { predicates = examples; calls = calls }
