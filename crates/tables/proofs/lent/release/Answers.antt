use Rattle.std.proofs.Common.{◌≡◌, ◌-◌, ◌+◌, ◌++◌, length, take, drop, position, sym, ap, ◌∙◌, arith, rules, tests}
use Rattle.std.proofs.lemmas.Iterator.{YieldsList-from_slice}
use Rattle.std.proofs.lemmas.Iterator.Search.{position_from_yields_List}
use Rattle.tables.specs.Locks.{is_lock}
use Rattle.tables.proofs.Lists.{none_at}
use Rattle.tables.proofs.Moves.{front_is, gap_closed}
use Rattle.tables.proofs.Locking.{no_release, lock_at}
use Rattle.tables.proofs.lent.release.Goals as goal
use Rattle.tables.proofs.lent.release.Goals.{After-position}

at : (g : _) (c : After-position g) → c.position.result ≡ position (is_lock c.args.job c.args.number) (take c.args.used c.args.locks.now)
at g c =
    position_from_yields_List (is_lock c.args.job c.args.number) _ _ c.position.result c.position.ensures.ran
    (YieldsList-from_slice (take c.args.used c.args.locks.now) (c.iter.ensures.rest ∙ (front_is c.args.used c.args.locks.now c.min-end.result c.min-end.ensures).0)) (λ x b f k. search (rules, tests))

pub returns-in_default : goal.returns-in_default
returns-in_default g c =
    let all = c.args.locks.now in
    let whole = front_is c.args.used all c.min-end.result c.min-end.ensures in
    let none = none_at (is_lock c.args.job c.args.number) (take c.args.used all) (sym (at g (goal.at.returns-in_default g c).After-position) ∙ c.in_default.is) in
    let size : length (take c.args.used all) - 0 ≡ c.min-end.result = let s = whole.1 in omega arith in
    record { there = sym none; left = ap (λ n. take n all) size ∙ whole.0 ∙ sym (no_release c.args.job c.args.number (take c.args.used all) none) }

pub returns : goal.returns
returns g c =
    let all = c.args.locks.now in
    let whole = front_is c.args.used all c.min-end.result c.min-end.ensures in
    let found = lock_at c.args.job c.args.number (take c.args.used all) c.in-Some.at (sym (at g (goal.at.returns g c).After-position) ∙ c.in-Some.is) in
    let within = found.0 in
    let size : length (take c.args.used all) - 1 ≡ c.min-end.result - 1 = let s = whole.1 in omega arith in
    record {
      there = sym found.1;
      left = ap (λ n. take n c.copy_within.new.self) size ∙ ap (take (c.min-end.result - 1)) c.copy_within.ensures.after ∙ gap_closed all c.in-Some.at c.min-end.result (omega arith) (omega arith)
          ∙ ap (λ ys. take c.in-Some.at ys ++ drop (c.in-Some.at + 1) ys) whole.0 ∙ sym found.2;
    }
