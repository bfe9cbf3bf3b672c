-- Each call of a run of lock calls does what its definition says of keeper and both lists together.
use Rattle.std.proofs.Common.{◌≡◌, ℕ, Bool, List, length, ap, ◌∙◌}
use Rattle.tables.specs.declared.entries.LockEntry.{LockEntry}
use Rattle.tables.specs.declared.entries.Mode.{Mode}
use Rattle.tables.specs.declared.entries.UndoEntry.{UndoEntry}
use Rattle.tables.specs.Jobs.{Reply}
use Rattle.calls.specs.declared.lock_answer.LockAnswer.{LockAnswer}
use Rattle.calls.specs.Runs.{said}
use Rattle.keeper.specs.declared.keeper.Keeper.{Keeper}
use Rattle.keeper.specs.declared.transcript.Answer.{Answer}
use Rattle.keeper.specs.declared.transcript.Answer.TheVariants.{Lock as Locked, Turned, Released}
use Rattle.keeper.specs.declared.transcript.Call.{Call}
use Rattle.keeper.specs.declared.transcript.Call.TheVariants.{Lock, Turn, Release}
use Rattle.keeper.specs.Fronts.{LocksSo, LogsSo, lock_with, turn_with, release_with}
use Rattle.keeper.specs.Ran.{Steps}
use Rattle.keeper.proofs.Beside.{lock_whole, release_whole, turn_whole}

module _ {P R : Type 0} {apart : P → P → Bool} {allows : ℕ → ℕ → ℕ → ℕ → Bool} {k k' : Keeper} {table : List (LockEntry P)} {log : List (UndoEntry R)} {call : Call P} {a : Reply Answer} where
  pub steps_lock : {table' : List (LockEntry P)} {j : ℕ} {w : Mode} {p : P} {r : Reply LockAnswer} → length table ≡ k.table → call ≡ Lock j w p → a ≡ said Locked r → LocksSo (lock_with apart allows j w p k table) r k k' table' → Steps apart allows call k table log a k' table' log
  steps_lock {j = j} {w = w} {p = p} long e q L = let G = lock_whole table log apart allows j w p long L in rw e (record { answer = q ∙ ap (said Locked) G.reply; state = G.state })

  pub steps_release : {table' : List (LockEntry P)} {j n : ℕ} {r : Reply (Unit {0})} → length table ≡ k.table → call ≡ Release j n → a ≡ said (λ u. Released) r → LocksSo (release_with j n k table) r k k' table' → Steps apart allows call k table log a k' table' log
  steps_release {j = j} {n = n} long e q L = let G = release_whole table log j n long L in rw e (record { answer = q ∙ ap (said (λ u. Released)) G.reply; state = G.state })

  pub steps_turn : {log' : List (UndoEntry R)} {j : ℕ} {r : Reply ℕ} → length log ≡ k.log → call ≡ Turn j → a ≡ said Turned r → LogsSo (turn_with j k log) r k k' log' → Steps apart allows call k table log a k' table log'
  steps_turn {j = j} logs e q L = let G = turn_whole table log j logs L in rw e (record { answer = q ∙ ap (said Turned) G.reply; state = G.state })
