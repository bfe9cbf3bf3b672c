use Rattle.std.proofs.Common.{refl}
use Rattle.keeper.proofs.Told.{passed_on}
use Rattle.calls.specs.declared.data.DataCall.TheVariants.{Add}
use Rattle.calls.specs.declared.data.EditAnswer.TheVariants.{Added, Already}
use Rattle.calls.specs.Kinds.{kinds}
use Rattle.keeper.proofs.Dealt.{fitting, edit_refused, edit_idle, edit_full, edit_made}
use Rattle.keeper.proofs.keeper.Keeper.add.Goals as goal

pub returns-in_err-open : goal.returns-in_err-open
returns-in_err-open g c =
    rw (passed_on c.from_residual.ensures.1) (edit_refused (kinds g.P.Row.Row g.P.Predicate) c.args.job (Add c.args.row) c.in_err-open.ensures)

pub alter-requires : goal.alter-requires
alter-requires g c = fitting (kinds g.P.Row.Row g.P.Predicate) c.args.job (Add c.args.row) c.args.self.now c.args.table.now c.args.log.now c.in_ok-open.ensures

pub returns-then-has : goal.returns-then-has
returns-then-has g c = edit_idle (kinds g.P.Row.Row g.P.Predicate) c.args.job (Add c.args.row) Already c.in_ok-open.ensures (rw (← c.if-has.ensures.answer)) refl

pub returns-in_err-alter : goal.returns-in_err-alter
returns-in_err-alter g c =
    let r = c.in_err-alter.ensures in
    rw (passed_on c.from_residual-in_err-alter.ensures.1) (edit_full (kinds g.P.Row.Row g.P.Predicate) c.args.job (Add c.args.row) Added c.in_ok-open.ensures (rw (← c.if-has.ensures.answer)) refl r.places r.made)

pub returns : goal.returns
returns g c =
    let r = c.in_ok-alter.ensures in
    edit_made (kinds g.P.Row.Row g.P.Predicate) c.args.job (Add c.args.row) Added c.in_ok-open.ensures (rw (← c.if-has.ensures.answer)) refl r.places r.made
