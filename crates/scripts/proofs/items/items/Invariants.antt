use Rattle.std.proofs.Common.{◌≡◌, ◌+◌, ◌-◌, true, eqb, map, length, take, vec_items, vec_len}
use Rattle.scripts.specs.Lines.{words, items}
use Rattle.scripts.proofs.Steps.{before}
use Rattle.scripts.proofs.items.items.Given as goal

-- what is left of the line gives the numbers that are still to come
abbrev pub invariant-loop-j : goal.invariant-loop-j
invariant-loop-j g l =
    (length l.word-items ≡ g.row.N)
    × (words true g.row.N l.initial.cursor.rest.now ≡ before (take l.j l.word-items) (words (eqb l.j 0) (g.row.N - l.j) l.cursor.rest.now))

-- what is left of the text gives the items that are still to come
abbrev pub invariant-loop-line : goal.invariant-loop-line
invariant-loop-line g l =
    let read = items g.row.N g.T.Item.valid g.T.Item.fault in
    (l.first + vec_len l.list ≡ l.line)
    × (read l.count l.first l.initial.cursor.rest.now ≡ before (map g.T.Item.numbers (vec_items l.list)) (read (l.line-end - l.line) l.line l.cursor.rest.now))
