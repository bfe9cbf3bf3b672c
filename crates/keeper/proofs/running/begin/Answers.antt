use Rattle.std.proofs.Common.{refl}
use Rattle.calls.specs.Kinds.{kinds}
use Rattle.keeper.proofs.Told.{passed_on}
use Rattle.keeper.proofs.Went.{began_well}
use Rattle.keeper.proofs.running.begin.Goals as goal

-- no keeper is made for lists of these lengths
pub returns-in_err-keeper : goal.returns-in_err-keeper
returns-in_err-keeper g c =
    let m = c.in_err-keeper.ensures in
    rw (passed_on c.from_residual.ensures.1) (m.1, m.0, refl, refl, refl)

pub returns : goal.returns
returns g c = began_well (kinds g.P.Row.Row g.P.Predicate) c.in_ok-run.ensures.ran c.in_ok-keeper.ensures c.in_ok-run.ensures.lawful
