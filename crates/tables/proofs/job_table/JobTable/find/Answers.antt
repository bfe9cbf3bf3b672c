use Rattle.std.proofs.Common.{◌≡◌, Some, Bor, Option, sym, ap, ◌∙◌, rules, tests}
use Rattle.std.specs.Option.{option_map}
use Rattle.std.proofs.lemmas.Iterator.{YieldsList-from_slice}
use Rattle.std.proofs.lemmas.Iterator.Search.{find_from_yields_List}
use Rattle.tables.specs.declared.ledger.JobRecord.{JobRecord}
use Rattle.tables.specs.Jobs.{find, has_job}
use Rattle.tables.proofs.Tabled.{find_place, place_is, no_place}
use Rattle.tables.proofs.job_table.JobTable.find.Goals as goal
use Rattle.tables.proofs.job_table.JobTable.find.Goals.{After-find}

found : (c : After-find) → option_map (λ (x : Bor (Option JobRecord)). x.now) c.find.result ≡ option_map (λ b. Some b) (find c.args.job c.args.self.now.ledger.records)
found c =
    find_from_yields_List (has_job c.args.job) _ _ c.find.result c.find.ensures.ran (YieldsList-from_slice c.args.self.now.ledger.records cc) (λ x b f k. search (rules, tests))
    ∙ find_place c.args.job c.args.self.now.ledger.records

pub returns-in_err-place : goal.returns-in_err-place
returns-in_err-place c =
    c.from_residual.ensures ∙ sym (no_place _ (sym (ap (option_map (λ (x : Bor (Option JobRecord)). x.now)) c.in_err-place.was) ∙ found (goal.at.returns-in_err-place c).After-find))

pub returns : goal.returns
returns c =
    place_is _ _ (sym (ap (option_map (λ (x : Bor (Option JobRecord)). x.now)) c.in_ok-place.was) ∙ found (goal.at.returns c).After-find)
