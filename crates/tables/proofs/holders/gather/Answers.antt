use Rattle.std.proofs.Common.{rules}
use Rattle.tables.specs.Locks.{conflicts}
use Rattle.tables.proofs.Gathering.{gathered_taken, gathered_left}
use Rattle.tables.proofs.holders.gather.Goals as goal

pub loop-i-preserved : goal.loop-i-preserved
loop-i-preserved g c =
    let wanted = c.args.wanted.now in
    let hits = conflicts g.P.Predicate.apart wanted.job wanted.mode wanted.predicate in
    let taken = gathered_taken g.W.WaitPolicy.allows wanted.class wanted.job hits c.args.locks.now c.loop-i._i c.loop-i.holders c.index-locks-i.result c.loop-i-test.true c.index-locks-i.is c.loop-i.invariant in
    let left = gathered_left g.W.WaitPolicy.allows wanted.class wanted.job hits c.args.locks.now c.loop-i._i c.loop-i.holders c.index-locks-i.result c.loop-i-test.true c.index-locks-i.is c.loop-i.invariant in
    search (rules, taken, left)
