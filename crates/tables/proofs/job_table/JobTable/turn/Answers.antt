use Rattle.std.proofs.Common.{◌≡◌, rules, Some, sym, subst, ◌∙◌}
use Rattle.std.specs.Option.{option_map}
use Rattle.tables.specs.Jobs.{Gives, find, has_job, turn_on}
use Rattle.tables.proofs.Tabled.{place_is}
use Rattle.tables.proofs.Sound.{held, same_ledger, same_sound, place_at, turn_sound, turn_is, turn_none, turn_again, turn_told}
use Rattle.tables.proofs.job_table.JobTable.turn.Goals as goal
use Rattle.tables.proofs.job_table.JobTable.turn.Goals.{In-Some}

open_found : (c : In-Some) → find c.args.job c.args.self.now.ledger.records ≡ Some c.in-Some.open
open_found c =
    let value : Some c.in_ok-place.place.now ≡ option_map (λ b. Some b) (find c.args.job c.args.self.now.ledger.records) = search rules in
    sym (place_is _ _ value) ∙ c.in-Some.is

pub invariant_of-self-then-is_some : goal.invariant_of-self-then-is_some
invariant_of-self-then-is_some c =
    let k = c.args.self.now in
    let found = open_found (goal.at.invariant_of-self-then-is_some c).In-Some in
    let s = same_sound k.ledger (held k) (has_job c.args.job) (Some c.in-Some.open) (place_at k.ledger c.args.job c.in-Some.open found) in
    record { full = s.full; apart = s.apart; below = s.below; spent = s.spent; locks = s.locks; counted = s.counted }

pub returns-then-is_some : goal.returns-then-is_some
returns-then-is_some c =
    let s = c.args.self.now.ledger in
    let found = open_found (goal.at.returns-then-is_some c).In-Some in
    subst (Gives (turn_on c.args.job s) _) (same_ledger (has_job c.args.job) s (Some c.in-Some.open) (place_at s c.args.job c.in-Some.open found)) (turn_again s c.args.job c.in-Some.open found c.if-is_some.ensures)

pub invariant_of-self-2 : goal.invariant_of-self-2
invariant_of-self-2 c =
    let k = c.args.self.now in
    let found = open_found (goal.at.invariant_of-self-2 c).In-Some in
    let s = turn_sound k.ledger (held k) c.args.job c.in-Some.open found (turn_none c.in-Some.open.turn c.if-is_some.ensures) in
    record { full = s.full; apart = s.apart; below = s.below; spent = s.spent; locks = s.locks; counted = s.counted }

pub returns : goal.returns
returns c =
    let k = c.args.self.now in
    let found = open_found (goal.at.returns c).In-Some in
    subst (Gives (turn_on c.args.job k.ledger) _) (sym (turn_is k.ledger (held k) c.args.job c.in-Some.open found)) (turn_told k.ledger c.args.job c.in-Some.open found (turn_none c.in-Some.open.turn c.if-is_some.ensures))
