use Rattle.std.proofs.Common.{◌∙◌, arith, length-set}
use Rattle.scripts.proofs.Steps.{words_more, words_end, words_stop, items_more, items_stop}
use Rattle.scripts.proofs.items.items.Goals as goal
use Rattle.scripts.proofs.items.items.Goals.{then-loop-j-test+in-Err, else-loop-j-test+in-Err-finish}

pub loop-j-preserved : goal.loop-j-preserved
loop-j-preserved g c =
    let inv = c.loop-j.invariant in
    (length-set c.loop-j.word-items c.loop-j.j c.in-Ok.number ∙ inv.0, words_more _ _ _ _ _ inv.1 c.loop-j-test.true _ _ inv.0 c.in-Ok.ensures)

pub loop-line-preserved : goal.loop-line-preserved
loop-line-preserved g c =
    let inv = c.loop-j.invariant in
    let words = words_end _ _ _ _ _ inv.1 c.loop-j-test.false inv.0 in
    let more = items_more g.row.N _ _ _ _ _ _ c.loop-line.cursor.rest.now _ c.loop-line.invariant.1 c.loop-line-test.true c.in-Ok-finish.item c.finish.new.cursor.rest.now (rw words c.in-Ok-finish.ensures) in
    (omega (arith, c.in_ok-push-in-Ok-finish.ensures.len), rw c.in_ok-push-in-Ok-finish.ensures.items more)

pub returns-2-clause-read : goal.returns-2-clause-read
returns-2-clause-read g c =
    let inv = c.loop-j.invariant in
    let stop = items_stop g.row.N _ _ _ _ _ _ c.loop-line.cursor.rest.now _ c.loop-line.invariant.1 c.loop-line-test.true in
    elim c.loop-j-test.branch [
      | then-loop-j-test+in-Err w ↦
          let words = words_stop _ _ _ _ _ inv.1 w.loop-j-test.true _ w.in-Err.ensures in
          rw (c.into.ensures, c.on_line.ensures, w.line-is) (stop w.in-Err.cause (rw words))
      | else-loop-j-test+in-Err-finish w ↦
          let words = words_end _ _ _ _ _ inv.1 w.loop-j-test.false inv.0 in
          rw (c.into.ensures, c.on_line.ensures, w.line-is) (stop w.in-Err-finish.cause (rw words w.in-Err-finish.ensures))
    ]
