use Rattle.std.proofs.Common.{length, ap, arith}
use Rattle.stores.proofs.Since.{step}
use Rattle.stores.proofs.ascending.AscendingIterator.next.Goals as goal

pub returns-clause-steps : goal.returns-clause-steps
returns-clause-steps g c = step g.met.S.Row.Row.strict (g.met.S.Store.sound c.args.self.now.store.now) c.args.self.now.last c.following.ensures c.in_ok-row.was

pub returns-clause-goes : goal.returns-clause-goes
returns-clause-goes g c =
    let fewer = ap length (step g.met.S.Row.Row.strict (g.met.S.Store.sound c.args.self.now.store.now) c.args.self.now.last c.following.ensures c.in_ok-row.was) in
    record { on = λ _. (tt, tt, omega arith); keeps = tt; rests = λ _. tt }
