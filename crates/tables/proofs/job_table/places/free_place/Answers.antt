use Rattle.std.proofs.Common.{◌≡◌, position, None, sym, ◌∙◌, rules, tests, refl}
use Rattle.std.proofs.lemmas.Iterator.{YieldsList-from_slice}
use Rattle.std.proofs.lemmas.Iterator.Search.{position_from_yields_List}
use Rattle.tables.specs.Jobs.{is_free}
use Rattle.tables.proofs.Lists.{none_at, find_none, first_at}
use Rattle.tables.proofs.job_table.places.free_place.Goals as goal
use Rattle.tables.proofs.job_table.places.free_place.Goals.{After-position}

at : (c : After-position) → c.position.result ≡ position is_free c.args.records.now
at c = position_from_yields_List is_free _ _ c.position.result c.position.ensures.ran (YieldsList-from_slice c.args.records.now cc) (λ x b f k. search (rules, tests))

pub returns : goal.returns
returns c =
    let first = first_at is_free c.args.records.now c.in_ok-at.at None (sym (at (goal.at.returns c).After-position) ∙ c.in_ok-at.was) in
    (rw first.1, record { writes_back = tt; value = sym first.0 })

pub returns-in_err-at : goal.returns-in_err-at
returns-in_err-at c =
    let none = none_at is_free c.args.records.now (sym (at (goal.at.returns-in_err-at c).After-position) ∙ c.in_err-at.was) in
    rw c.from_residual.ensures (refl, record { writes_back = tt; value = sym (find_none is_free c.args.records.now none) })
