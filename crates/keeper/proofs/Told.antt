-- What CLOSE, RELEASE and the checks before them answer and leave.
use Rattle.std.proofs.Common.{Result, ◌≡◌, ℕ, ◌-◌, ◌≤◌, Bool, true, false, not, List, length, take, is_some, Some, None, Ok, Err, sym, refl, ap, ◌∙◌, arith}
use Rattle.std.proofs.lemmas.List.{length-take-le}
use Rattle.std.proofs.lemmas.List.Filters.{length-filter_both}
use Rattle.std.proofs.lemmas.Bool.{eq-eqb}
use Rattle.std.proofs.lemmas.Result.{err_from_is_err_and}
use Rattle.std.specs.Result.{IsErrAnd}
use Rattle.tables.specs.declared.entries.LockEntry.{LockEntry}
use Rattle.tables.specs.declared.entries.UndoEntry.{UndoEntry}
use Rattle.tables.specs.declared.ledger.JobRecord.{JobRecord}
use Rattle.tables.specs.declared.refusal.Refusal.{Refusal}
use Rattle.tables.specs.declared.refusal.Refusal.TheVariants.{NotYourLock}
use Rattle.tables.specs.Lists.{is}
use Rattle.tables.specs.Lent.{of_job, of_others, Dropped, Released}
use Rattle.tables.specs.Jobs.{Outcome, give, check, find}
use Rattle.tables.proofs.Locking.{no_release}
use Rattle.keeper.specs.declared.keeper.Keeper.{Keeper}
use Rattle.calls.specs.States.{State, release_turned, end_job, close_call}
use Rattle.keeper.specs.Fronts.{EndsJob, front, locks_front, LocksSo, LogsSo, LeavesSo, turn_with, release_with, close_with}

-- what a `?` passes on
pub passed_on : {T E : Type 0} {r : Result T E} {x : E} → IsErrAnd r (λ y. y ≡ x) → r ≡ Err x
passed_on {r = r} h = let p = err_from_is_err_and r h in p.1 ∙ ap Err p.2

pub passes : {S A : Type 0} (b : Bool) (n : Refusal) (σ : S) (o : Outcome S A) → b ≡ true → check b n σ o ≡ o
passes b n σ o e = rw e

-- how many entries go, and how many are left
pub dropped : {E : Type 0} {owner : E → ℕ} {j n : ℕ} (list : List E) {r : ℕ} {after : List E} → Dropped owner j (take n list) r after → n ≤ length list → (r ≡ length (of_others owner j (take n list))) × (n - r ≡ length (of_job owner j (take n list)))
dropped {owner = owner} {j = j} {n = n} list D few =
    let count = D.count in
    let size = length-take-le n list few in
    let split = length-filter_both (λ e. is j (owner e)) (λ e. not (is j (owner e))) (λ e. refl) (take n list) in
    (omega arith, omega arith)

-- RELEASE
pub release_refused : {P : Type 0} {j n : ℕ} {k : Keeper} (table : List (LockEntry P)) {table' : List (LockEntry P)} {b : JobRecord} → length table ≡ k.table → Some b ≡ find j k.jobs.ledger.records → is_some b.turn ≡ true
    → Released j n (take k.held table) false table' → LocksSo (release_with j n k table) (Err NotYourLock) k k table'
release_refused {P} {j} {n} {k} table {table'} {b} long found turned r =
    let few = k.locks in
    let size = length-take-le k.held table (omega arith) in
    let whole : length (take k.held table) - 0 ≡ k.held = omega arith in
    let same = (rw whole at r.left) ∙ no_release j n (take k.held table) (sym r.there) in
    rw (eq-eqb (length table) k.table long, ← found) ((elim b.turn as (λ t. is_some t ≡ true → LocksSo (release_turned j n t (locks_front k table)) (Err NotYourLock) k k table') [
      | None ↦ λ e. cc
      | Some t ↦ λ e. rw (← r.there) (record { gives = record { reply = refl; state = cc }; held = refl; logged = refl })
    ]) turned)

-- CLOSE, once the job has turned
module _ {P R : Type 0} (j : ℕ) (k : Keeper) (table : List (LockEntry P)) (log : List (UndoEntry R)) where
  pub record Turned (t : ℕ) (k₁ : Keeper) (log₁ : List (UndoEntry R)) : Type 0 where
    pub held : k₁.held ≡ k.held
    pub count : k₁.logged ≡ length (take k₁.logged log₁)
    pub call : close_call j (front k table log) ≡ give (t, length (of_job (λ l. l.job) j (take k.held table))) (end_job j (front k₁ table log₁))

  module _ (long : length log ≡ k.log) {b : JobRecord} (found : Some b ≡ find j k.jobs.ledger.records) where
    pub turned_before : {t : ℕ} → b.turn ≡ Some t → Turned t k log
    turned_before turned = let few = k.undos in record { held = refl; count = sym (length-take-le k.logged log (omega arith)); call = rw (← found, turned) }

    pub turned_now : {t : ℕ} {k₁ : Keeper} {log₁ : List (UndoEntry R)} → b.turn ≡ None → LogsSo (turn_with j k log) (Ok t) k k₁ log₁ → Turned t k₁ log₁
    turned_now asks L =
        let M = rw (eq-eqb (length log) k.log long, ← found, asks) at L in
        let s = M.gives.state in
        record { held = L.held; count = cc; call = rw (← found, asks) (cc (ap (λ (x : State (Unit {0}) R). x.ledger) s, ap (λ (x : State (Unit {0}) R). x.undo) s, ap (λ (x : State (Unit {0}) R). x.table) s, ap (λ (x : State (Unit {0}) R). x.log) s)) }

    pub close_told : {t n : ℕ} (k₁ : Keeper) {k' : Keeper} {table' : List (LockEntry P)} {log₁ : List (UndoEntry R)} → length table ≡ k.table → Turned t k₁ log₁ → EndsJob j k₁ table n k' table'
        → LeavesSo (close_with j k table log) (Ok (t, n)) k k' table' log₁
    close_told k₁ longs T E =
        let few = k.locks in
        let d = dropped table E.locks (omega (arith, T.held)) in
        let count = E.count in
        let ledger = E.ledger in
        let logged = E.logged in
        let table_is = E.table_len in
        let log_is = E.log_len in
        rw (eq-eqb (length table) k.table longs, eq-eqb (length log) k.log long, T.call) (record { gives = record { reply = cc; state = cc }; held = cc; logged = cc })
