-- Calls that are lent only one of the lists do the same where the other one stands beside it.
use Rattle.std.proofs.Common.{◌≡◌, ℕ, Bool, List, length, take, ap, arith}
use Rattle.std.proofs.lemmas.Bool.{eq-eqb}
use Rattle.tables.specs.declared.entries.LockEntry.{LockEntry}
use Rattle.tables.specs.declared.entries.Mode.{Mode}
use Rattle.tables.specs.declared.entries.UndoEntry.{UndoEntry}
use Rattle.tables.specs.Jobs.{Reply, Outcome, Gives}
use Rattle.calls.specs.declared.lock_answer.LockAnswer.{LockAnswer}
use Rattle.calls.specs.States.{State, lock_call, turn_call, release_call}
use Rattle.keeper.specs.declared.keeper.Keeper.{Keeper}
use Rattle.keeper.specs.Fronts.{front, locks_front, log_front, LocksSo, LogsSo, lock_with, turn_with, release_with}

-- the same outcome, seen through f
abbrev pub through : {S T A : Type 0} → (S → T) → Outcome S A → Outcome T A
through f o = record { reply = o.reply; state = f o.state }

module _ {P R : Type 0} (σ : State P R) where
  -- with another undo log beside it
  module _ {R' : Type 0} (us : List (UndoEntry R')) where
    abbrev pub beside : State P R → State P R'
    beside τ = record { ledger = τ.ledger; locks = τ.locks; undo = us; table = τ.table; log = τ.log }

    pub lock_beside : (apart : P → P → Bool) (allows : ℕ → ℕ → ℕ → ℕ → Bool) (j : ℕ) (w : Mode) (p : P) → lock_call apart allows j w p (beside σ) ≡ through beside (lock_call apart allows j w p σ)
    lock_beside apart allows j w p = grind arith

    pub release_beside : (j n : ℕ) → release_call j n (beside σ) ≡ through beside (release_call j n σ)
    release_beside j n = grind arith

  -- with another lock table beside it
  module _ {P' : Type 0} (ls : List (LockEntry P')) where
    abbrev pub apart_from : State P R → State P' R
    apart_from τ = record { ledger = τ.ledger; locks = ls; undo = τ.undo; table = τ.table; log = τ.log }

    pub turn_apart : (j : ℕ) → turn_call j (apart_from σ) ≡ through apart_from (turn_call j σ)
    turn_apart j = grind arith

module _ {P R : Type 0} {k k' : Keeper} (table : List (LockEntry P)) (log : List (UndoEntry R)) where
  pub lock_whole : (apart : P → P → Bool) (allows : ℕ → ℕ → ℕ → ℕ → Bool) (j : ℕ) (w : Mode) (p : P) {table' : List (LockEntry P)} {r : Reply LockAnswer} → length table ≡ k.table → LocksSo (lock_with apart allows j w p k table) r k k' table'
      → Gives (lock_call apart allows j w p (front k table log)) r (front k' table' log)
  lock_whole apart allows j w p long L =
      let us = take k.logged log in
      let M = rw (eq-eqb (length table) k.table long) at L in
      let B = lock_beside (locks_front k table) us apart allows j w p in
      record { reply = rw B M.gives.reply; state = rw (B, L.logged) (ap (beside (locks_front k table) us) M.gives.state) }

  pub release_whole : (j n : ℕ) {table' : List (LockEntry P)} {r : Reply (Unit {0})} → length table ≡ k.table → LocksSo (release_with j n k table) r k k' table' → Gives (release_call j n (front k table log)) r (front k' table' log)
  release_whole j n long L =
      let us = take k.logged log in
      let M = rw (eq-eqb (length table) k.table long) at L in
      let B = release_beside (locks_front k table) us j n in
      record { reply = rw B M.gives.reply; state = rw (B, L.logged) (ap (beside (locks_front k table) us) M.gives.state) }

  pub turn_whole : (j : ℕ) {log' : List (UndoEntry R)} {r : Reply ℕ} → length log ≡ k.log → LogsSo (turn_with j k log) r k k' log' → Gives (turn_call j (front k table log)) r (front k' table log')
  turn_whole j logs L =
      let ls = take k.held table in
      let M = rw (eq-eqb (length log) k.log logs) at L in
      let B = turn_apart (log_front k log) ls j in
      record { reply = rw B M.gives.reply; state = rw (B, L.held) (ap (apart_from (log_front k log) ls) M.gives.state) }
