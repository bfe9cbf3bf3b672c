use Rattle.std.proofs.Common.{length}
use Rattle.keeper.specs.Fronts.{front}
use Rattle.keeper.proofs.Went.{Running}
use Rattle.keeper.proofs.running.run.Given as goal

abbrev pub invariant-loop-entry : goal.invariant-loop-entry
invariant-loop-entry g l =
    Running g.P.Predicate.apart g.W.WaitPolicy.allows l.initial.transcript (front l.initial.keeper l.initial.table l.initial.log) l.entry-index l.transcript (front l.keeper l.table l.log) (length l.table) (length l.log)
