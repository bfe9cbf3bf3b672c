use Rattle.std.proofs.Common.{◌≡◌, ◌≤◌, take, vec_items, vec_len}
use Rattle.mileage.specs.Once.{gathered}
use Rattle.mileage.proofs.once.each_once.Given as goal

abbrev pub invariant-loop-row : goal.invariant-loop-row
invariant-loop-row g l = (vec_items l.seen ≡ gathered g.R.Row.order (take l.row-index l.rows)) × (vec_len l.seen ≤ l.row-index)
