use Rattle.std.proofs.Common.{refl}
use Rattle.predicates.proofs.Worked.{examples}
use Rattle.tables.specs.Lists.{is}
use Rattle.keeper.specs.Examples.{Shown, lock_examples}
use Rattle.keeper.proofs.examples.examples_stand.Goals as goal

locks : Shown lock_examples
unfolding is
locks = (refl, (refl, tt))

pub returns : goal.returns
returns c = record { predicates = examples; locks = locks }
