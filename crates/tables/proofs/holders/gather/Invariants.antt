use Rattle.std.proofs.Common.{◌≡◌, take}
use Rattle.tables.specs.Lists.{keep}
use Rattle.tables.specs.Locks.{conflicts}
use Rattle.tables.proofs.Gathering.{holders_of}
use Rattle.tables.proofs.holders.gather.Given as goal

abbrev pub invariant-loop-i : goal.invariant-loop-i
invariant-loop-i g l =
    l.holders ≡ holders_of g.W.WaitPolicy.allows l.wanted.class l.wanted.job (keep (conflicts g.P.Predicate.apart l.wanted.job l.wanted.mode l.wanted.predicate) (take l._i l.locks))
