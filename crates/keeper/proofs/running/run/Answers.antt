use Rattle.std.proofs.Common.{refl, sym, ◌∙◌, arith}
use Rattle.calls.specs.Kinds.{kinds}
use Rattle.keeper.proofs.Went.{run_more, run_whole, went_lawful}
use Rattle.keeper.specs.Ran.{Fitting}
use Rattle.keeper.proofs.running.run.Goals as goal
use Rattle.keeper.proofs.running.run.Goals.{then-table-table_len-via-then-table-table_len, then-table-table_len-via-else-table-table_len+then-log-log_len}

-- lists of other lengths
pub returns-then-table-table_len : goal.returns-then-table-table_len
returns-then-table-table_len g c = record {
  ran = (refl, (λ f. other f), refl, refl, refl, refl);
  lawful = tt;
}
  where
    other : Fitting c.args.keeper.now c.args.table.now c.args.log.now → ⊥
    other f = elim c.then-table-table_len.branch [
      | then-table-table_len-via-then-table-table_len w ↦ w.if-table-table_len.true (f.0 ∙ sym c.table_len.ensures)
      | then-table-table_len-via-else-table-table_len+then-log-log_len w ↦ w.if-log-log_len.true (f.1 ∙ sym w.log_len.ensures)
    ]

pub loop-entry-preserved : goal.loop-entry-preserved
loop-entry-preserved g c = run_more c.loop-entry.invariant (omega arith) c.entry-item.is c.step.auto.table c.step.auto.log c.step.ensures

pub returns : goal.returns
returns g c =
    let K = kinds g.P.Row.Row g.P.Predicate in
    let went = run_whole K (c.if-table-table_len.false ∙ c.table_len.ensures, c.if-log-log_len.false ∙ c.log_len.ensures) c.loop-entry-test.false c.loop-entry.auto.transcript c.loop-entry.invariant in
    record {
      ran = went;
      lawful = went_lawful K went (record { strict = g.met.P.Row.Row.strict; symmetric = g.met.P.Predicate.symmetric; disjoint = g.met.P.Predicate.disjoint; contained = g.met.P.Predicate.contained })
          g.W.WaitPolicy.rank g.met.W.WaitPolicy.ranked;
    }
