use Rattle.std.proofs.Common.{arith}
use Rattle.std.proofs.lemmas.List.{at_drop_all}
use Rattle.tables.specs.Undo.{removals}
use Rattle.tables.proofs.undo.removals.Goals as goal

pub returns : goal.returns
returns g c = let none = at_drop_all removals c.args.log.now c.loop-entry.entry-index c.loop-entry-test.false in omega arith
