use Rattle.std.proofs.Common.{◌≡◌, ◌+◌, ◌*◌, ◌≤◌, length, sum_by, filter}
use Rattle.stores.proofs.scans.total_of.Given as goal

abbrev pub invariant-loop-row : goal.invariant-loop-row
invariant-loop-row g l =
    let p = g.P.Predicate.holds l.predicate in
    (goal.iterator-loop-row g).can_next l.row-iterator × (goal.iterator-loop-row g).is_finite l.row-iterator
    × (length l.yielded + (goal.iterator-loop-row g).remaining l.row-iterator ≤ 65536)
    × (l.count ≤ length l.yielded) × (l.sum ≤ 4294967295 * length l.yielded)
    × (l.count ≡ length (filter p l.yielded)) × (l.sum ≡ sum_by g.P.Row.Row.amount (filter p l.yielded))
