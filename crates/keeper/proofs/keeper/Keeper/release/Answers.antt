use Rattle.std.proofs.Common.{arith, sym, ◌∙◌}
use Rattle.keeper.proofs.Told.{release_refused}
use Rattle.keeper.proofs.keeper.Keeper.release.Goals as goal

pub returns-then-not-release : goal.returns-then-not-release
returns-then-not-release g c = release_refused c.args.table.now (omega arith) (sym c.in_ok-open.ensures.ok_part ∙ c.find.ensures) c.if-is_none.ensures c.if-not-release.ensures
