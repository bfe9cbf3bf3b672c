use Rattle.std.proofs.Common.{sym, ◌∙◌}
use Rattle.tables.proofs.Tabled.{find_place, no_place}
use Rattle.tables.proofs.Sound.{held, end_is, end_sound, end_none}
use Rattle.tables.proofs.job_table.JobTable.end.Goals as goal

pub invariant_of-self : goal.invariant_of-self
invariant_of-self c =
    let k = c.args.self.now in
    let s = end_sound k.ledger (held k) c.args.job c.in-Some.place.now (find_place c.args.job k.ledger.records ∙ sym c.in-Some.ensures.value) in
    record { full = s.full; apart = s.apart; below = s.below; spent = s.spent; locks = s.locks; counted = s.counted }

pub returns-in_default : goal.returns-in_default
returns-in_default c = end_none c.args.self.now.ledger c.args.job (no_place _ c.in_default.ensures.value)

pub returns-in-Some : goal.returns-in-Some
returns-in-Some c =
    let k = c.args.self.now in
    end_is k.ledger (held k) c.args.job c.in-Some.place.now (find_place c.args.job k.ledger.records ∙ sym c.in-Some.ensures.value)
