use Rattle.std.proofs.Common.{◌≡◌, None, Some, Err, find, sym, subst, arith, rules}
use Rattle.tables.specs.declared.refusal.Refusal.TheVariants.{NoPlace}
use Rattle.tables.specs.Jobs.{Gives, open_on, is_free}
use Rattle.tables.proofs.Sound.{held, same_ledger, same_sound, open_sound, open_is, open_full, open_spent, open_told}
use Rattle.tables.proofs.job_table.JobTable.open.Goals as goal
use Rattle.tables.proofs.job_table.JobTable.open.Goals.{In_ok-place}

free : (c : In_ok-place) → find is_free c.args.self.now.ledger.records ≡ Some c.in_ok-place.place.now
free c = search rules

pub returns-in_err-place : goal.returns-in_err-place
returns-in_err-place c =
    let s = c.args.self.now.ledger in
    let none : find is_free s.records ≡ None = search rules in
    let error : c.from_residual.result ≡ Err NoPlace = search rules in
    rw error (open_full s c.args.class (omega arith) none)

pub invariant_of-self-then-number-gt1000000 : goal.invariant_of-self-then-number-gt1000000
invariant_of-self-then-number-gt1000000 c =
    let k = c.args.self.now in
    let s = same_sound k.ledger (held k) is_free c.in_ok-place.place.now (free (goal.at.invariant_of-self-then-number-gt1000000 c).In_ok-place) in
    record { full = s.full; apart = s.apart; below = s.below; spent = s.spent; locks = s.locks; counted = s.counted }

pub returns-then-number-gt1000000 : goal.returns-then-number-gt1000000
returns-then-number-gt1000000 c =
    let s = c.args.self.now.ledger in
    subst (Gives (open_on c.args.class s) _) (same_ledger is_free s c.in_ok-place.place.now (free (goal.at.returns-then-number-gt1000000 c).In_ok-place)) (open_spent s c.args.class (omega arith) c.in_ok-place.place.now (free (goal.at.returns-then-number-gt1000000 c).In_ok-place) (omega arith))

pub invariant_of-self-2 : goal.invariant_of-self-2
invariant_of-self-2 c =
    let k = c.args.self.now in
    let s = open_sound k.ledger (held k) c.args.class c.in_ok-place.place.now (free (goal.at.invariant_of-self-2 c).In_ok-place) (omega arith) in
    record { full = s.full; apart = s.apart; below = s.below; spent = s.spent; locks = s.locks; counted = s.counted }

pub returns : goal.returns
returns c =
    let k = c.args.self.now in
    subst (Gives (open_on c.args.class k.ledger) _) (sym (open_is k.ledger (held k) c.args.class)) (open_told k.ledger c.args.class (omega arith) c.in_ok-place.place.now (free (goal.at.returns c).In_ok-place) (omega arith))
