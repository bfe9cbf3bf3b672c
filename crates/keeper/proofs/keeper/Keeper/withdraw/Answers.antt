use Rattle.std.proofs.Common.{refl, sym, ◌∙◌}
use Rattle.tables.proofs.Sound.{turn_none}
use Rattle.keeper.proofs.Withdrawn.{withdraw_told}
use Rattle.keeper.proofs.keeper.Keeper.withdraw.Goals as goal

pub returns : goal.returns
returns g c =
    let u = c.undo_job-entries.ensures in
    withdraw_told g.S.Row.Row.order c.args.job c.args.table.now c.args.log.now (g.S.Store.rows c.args.store.now) c.if-table-self.false c.if-log-self.false (sym c.in_ok-open.ensures.ok_part ∙ c.find.ensures) (turn_none c.in_ok-open.open.turn c.if-is_some.ensures)
    refl refl refl refl c.end_job-locks.ensures c.drop_job-self.ensures u.count u.rows u.places
