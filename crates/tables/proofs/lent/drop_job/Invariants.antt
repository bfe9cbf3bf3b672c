use Rattle.std.proofs.Common.{not}
use Rattle.std.proofs.lemmas.List.Filters.{FiltersInPlace}
use Rattle.tables.specs.Lists.{is}
use Rattle.tables.proofs.lent.drop_job.Given as goal

abbrev pub invariant-loop-i : goal.invariant-loop-i
invariant-loop-i g l = FiltersInPlace (λ e. not (is l.job (g.E.OfJob.owner e))) l.initial.list l.list l.rest l.i
