use Rattle.std.proofs.Common.{◌≡◌, ◌∙◌, length, take, not, refl, sym, ap, arith}
use Rattle.std.proofs.lemmas.List.{length-take-le}
use Rattle.std.proofs.lemmas.List.Filters.{FiltersInPlace-more_no, FiltersInPlace-more_set, length-filter_both}
use Rattle.tables.specs.Lists.{is}
use Rattle.tables.specs.Lent.{of_others}
use Rattle.tables.proofs.Moves.{front_is}
use Rattle.tables.proofs.lent.drop_job.Goals as goal
use Rattle.tables.proofs.lent.drop_job.Goals.{then-not-is_of, else-not-is_of}

pub loop-i-preserved : goal.loop-i-preserved
loop-i-preserved g c =
    elim c.if-not-is_of.branch [
      | then-not-is_of w ↦ rw (w.list-is, w.rest-is) (FiltersInPlace-more_set c.loop-i.invariant (omega arith) (ap not (sym w.if-not-is_of.ensures)) c.index-list-i.is)
      | else-not-is_of w ↦ rw (w.list-is, w.rest-is) (FiltersInPlace-more_no c.loop-i.invariant (omega arith) (ap not (sym w.if-not-is_of.ensures)) c.index-list-i.is)
    ]

pub returns : goal.returns
returns g c =
    let owner = g.E.OfJob.owner in
    let first = c.args.list.now in
    let whole = front_is c.args.used first c.min-end.result c.min-end.ensures in
    let end : c.loop-i.i ≡ c.min-end.result = omega arith in
    let kept = c.loop-i.invariant.front ∙ ap (λ n. of_others owner c.args.job (take n first)) end ∙ ap (of_others owner c.args.job) whole.0 in
    let n = ap length kept in
    let m = length-take-le c.loop-i.rest c.loop-i.list (omega arith) in
    let both = length-filter_both (λ e. is c.args.job (owner e)) (λ e. not (is c.args.job (owner e))) (λ _. refl) (take c.args.used first) in
    record { rest = kept; count = omega arith }
