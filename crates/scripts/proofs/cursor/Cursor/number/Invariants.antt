use Rattle.std.proofs.Common.{◌≡◌, length}
use Rattle.scripts.specs.Numbers.{digits}
use Rattle.scripts.proofs.cursor.Cursor.number.Given as goal

abbrev pub invariant-loop-digit : goal.invariant-loop-digit
invariant-loop-digit l = digits l.value l.self.rest.now ≡ digits l.initial.value l.initial.self.rest.now

abbrev pub decreases-loop-digit : goal.decreases-loop-digit
decreases-loop-digit l = length l.self.rest.now
