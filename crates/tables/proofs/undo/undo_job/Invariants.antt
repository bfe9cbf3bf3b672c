use Rattle.std.proofs.Common.{◌≡◌, ◌+◌, ◌≤◌, length, map, reverse}
use Rattle.tables.specs.Lent.{of_job}
use Rattle.tables.specs.Undo.{alterations_of, undone}
use Rattle.tables.proofs.undo.undo_job.Given as goal

-- the entries gone through, of which the last is the oldest, are undone
abbrev pub invariant-loop-entry : goal.invariant-loop-entry
invariant-loop-entry g l =
    let order = g.S.Row.Row.order in
    let room = g.S.Store.places l.initial.store in
    let gone = reverse (map (λ entry. entry.now) l.yielded) in
    record {
      places : g.S.Store.places l.store ≡ room;
      rows : g.S.Store.rows l.store ≡ undone order room (alterations_of l.job gone) (g.S.Store.rows l.initial.store);
      count : l.count ≡ length (of_job (λ u. u.job) l.job gone);
      within : l.count + (goal.iterator-loop-entry g).remaining l.entry-iterator ≤ (goal.iterator-loop-entry g).remaining l.initial.entry-iterator;
    }
