-- WITHDRAW, from what its parts promise.
use Rattle.std.proofs.Common.{◌≡◌, ℕ, List, length, take, Some, None, Ok, Ordering, arith}
use Rattle.std.proofs.lemmas.Bool.{eq-eqb}
use Rattle.tables.specs.declared.entries.LockEntry.{LockEntry}
use Rattle.tables.specs.declared.entries.UndoEntry.{UndoEntry}
use Rattle.tables.specs.declared.ledger.JobRecord.{JobRecord}
use Rattle.tables.specs.Lent.{of_job, Dropped}
use Rattle.tables.specs.Undo.{alterations_of, undone}
use Rattle.tables.specs.Jobs.{find}
use Rattle.keeper.specs.declared.keeper.Keeper.{Keeper}
use Rattle.keeper.specs.Dealings.{withdraw_with, LeavesAll}
use Rattle.keeper.specs.Fronts.{EndsJob}
use Rattle.keeper.proofs.Told.{dropped}

module _ {P R : Type 0} (order : R → R → Ordering) (j : ℕ) {k k₁ k' : Keeper} (table : List (LockEntry P)) {table' : List (LockEntry P)} (log : List (UndoEntry R)) {log' : List (UndoEntry R)} (rows : List R) {rows' : List R} {places places' m n : ℕ} {b : JobRecord} where
  pub withdraw_told : length table ≡ k.table → length log ≡ k.log → Some b ≡ find j k.jobs.ledger.records → b.turn ≡ None
      → k₁.jobs.ledger ≡ k.jobs.ledger → k₁.held ≡ k.held → k₁.table ≡ k.table → k₁.log ≡ k.log → EndsJob j k₁ table m k' table' → Dropped (λ (u : UndoEntry R). u.job) j (take k.logged log) k₁.logged log'
      → n ≡ length (of_job (λ (u : UndoEntry R). u.job) j (take k.logged log)) → rows' ≡ undone order places (alterations_of j (take k.logged log)) rows → places' ≡ places
      → LeavesAll (withdraw_with order j k table log rows places) (Ok (m, n)) k k' table' log' rows' places'
  withdraw_told long logs found asks ledger held table_is log_is E U count taken_back same =
      let few = k.locks in
      let few-undos = k.undos in
      let d = dropped table E.locks (omega (arith, held)) in
      let gone = E.count in
      let ended = E.ledger in
      let kept = E.logged in
      let table_len = E.table_len in
      let log_len = E.log_len in
      let u = dropped log U (omega arith) in
      rw (eq-eqb (length table) k.table long, eq-eqb (length log) k.log logs, ← found, asks) (record { gives = record { reply = cc; state = cc }; held = cc; logged = cc })
