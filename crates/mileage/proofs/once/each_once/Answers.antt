use Rattle.std.proofs.Common.{sym, ap, ◌∙◌, subst, take_all}
use Rattle.mileage.specs.Once.{EachOnce, gathered}
use Rattle.mileage.proofs.Distinct.{gathered_once}
use Rattle.mileage.proofs.once.each_once.Goals as goal

pub returns-clause-once : goal.returns-clause-once
returns-clause-once g c =
    let list = c.loop-row.invariant.0 ∙ ap (gathered g.R.Row.order) (take_all _ _ c.loop-row-test.false) in
    subst (EachOnce c.args.rows.now) (sym list) (gathered_once g.met.R.Row.strict c.args.rows.now)
