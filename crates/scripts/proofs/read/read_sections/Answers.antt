use Rattle.std.proofs.Common.{Ok, arith}
use Rattle.std.proofs.lemmas.Grind.{common_steps}
use Rattle.scripts.proofs.Whole.{accepts}
use Rattle.scripts.proofs.read.read_sections.Goals as goal

pub returns-clause-exact : goal.returns-clause-exact
returns-clause-exact c = accepts _ (Ok c.in_ok-sections.sections) (grind (arith, common_steps))
