use Rattle.std.proofs.Common.{◌≡◌, ◌+◌, ◌≤◌, drop}
use Rattle.tables.specs.Undo.{removals}
use Rattle.tables.proofs.undo.removals.Given as goal

abbrev pub invariant-loop-entry : goal.invariant-loop-entry
invariant-loop-entry g l = (l.count ≤ l.entry-index) × (l.count + removals (drop l.entry-index l.log) ≡ removals l.log)
