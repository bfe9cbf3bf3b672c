use Rattle.std.proofs.Common.{sym, ◌∙◌}
use Rattle.std.proofs.lemmas.Bool.{eq-eqb}
use Rattle.keeper.proofs.Told.{turned_before, turned_now, close_told}
use Rattle.keeper.proofs.keeper.Keeper.close.Goals as goal
use Rattle.keeper.proofs.keeper.Keeper.close.Goals.{in-Some, in-None+in_ok-turn-in-None}

-- a job that has not turned may turn
pub returns-in_err-turn-in-None : goal.returns-in_err-turn-in-None
returns-in_err-turn-in-None g c =
    let told = rw (eq-eqb _ _ c.if-log-self.false, ← (sym c.in_ok-open.ensures.ok_part ∙ c.find.ensures), c.in-None.is) at c.in_err-turn-in-None.ensures in
    cc

pub returns : goal.returns
returns g c =
    let j = c.args.job in
    let k = c.args.self.now in
    let table = c.args.table.now in
    let log = c.args.log.now in
    let long = c.if-log-self.false in
    let found = sym c.in_ok-open.ensures.ok_part ∙ c.find.ensures in
    close_told j k table log long found c.match-open.self c.if-table-self.false (elim c.match-open.branch [
      | in-Some w ↦ rw (w.self-is, w.log-is, w.turn-is) (turned_before j k table log long found w.in-Some.is)
      | in-None+in_ok-turn-in-None w ↦ rw (w.self-is, w.log-is, w.turn-is) (turned_now j k table log long found w.in-None.is w.in_ok-turn-in-None.ensures)
    ]) c.end_job-locks.ensures
