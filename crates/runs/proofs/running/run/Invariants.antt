use Rattle.std.proofs.Common.{length}
use Rattle.calls.specs.Kinds.{kinds}
use Rattle.keeper.specs.Dealings.{system}
use Rattle.runs.proofs.Went.{Running}
use Rattle.runs.proofs.running.run.Given as goal

abbrev pub invariant-loop-entry : goal.invariant-loop-entry
invariant-loop-entry g l =
    Running (kinds g.P.Row.Row g.P.Predicate) g.W.WaitPolicy.allows l.initial.transcript (system l.initial.keeper l.initial.table l.initial.log (g.S.Store.rows l.initial.store) (g.S.Store.places l.initial.store)) l.entry-index l.transcript
    (system l.keeper l.table l.log (g.S.Store.rows l.store) (g.S.Store.places l.store)) (length l.table) (length l.log)
