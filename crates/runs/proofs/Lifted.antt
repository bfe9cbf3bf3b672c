-- Each call of a run does what its definition says of keeper, both lists and store together.
use Rattle.std.proofs.Common.{arith, ◌≡◌, ℕ, Bool, eqb, List, [], length, take, Option, ap, ◌∙◌, append-nil}
use Rattle.std.proofs.lemmas.Bool.{eq-eqb}
use Rattle.tables.specs.declared.entries.LockEntry.{LockEntry}
use Rattle.tables.specs.declared.entries.Mode.{Mode}
use Rattle.tables.specs.declared.entries.UndoEntry.{UndoEntry}
use Rattle.tables.specs.declared.ledger.JobRecord.{JobRecord}
use Rattle.tables.specs.declared.refusal.Refusal.TheVariants.{WrongBook, NotCovered}
use Rattle.tables.specs.Lists.{some_of}
use Rattle.tables.specs.Jobs.{Reply, Outcome, give, check, on_found, find}
use Rattle.calls.specs.declared.data.DataAnswer.{DataAnswer}
use Rattle.calls.specs.declared.data.DataCall.{DataCall}
use Rattle.calls.specs.declared.lock_answer.LockAnswer.{LockAnswer}
use Rattle.calls.specs.declared.transcript.Answer.{Answer}
use Rattle.calls.specs.declared.transcript.Answer.TheVariants.{Lock as Locked, Turned, Released}
use Rattle.calls.specs.declared.transcript.Call.{Call}
use Rattle.calls.specs.declared.transcript.Call.TheVariants.{Lock, Turn, Release}
use Rattle.calls.specs.Kinds.{Kinds}
use Rattle.calls.specs.Plain.{found, effect}
use Rattle.calls.specs.States.{State}
use Rattle.calls.specs.Systems.{System, permits, data_call}
use Rattle.calls.specs.Runs.{said}
use Rattle.keeper.specs.declared.keeper.Keeper.{Keeper}
use Rattle.keeper.specs.Fronts.{LocksSo, LogsSo, lock_with, turn_with, release_with}
use Rattle.keeper.specs.Dealings.{system, ask_with}
use Rattle.keeper.proofs.Told.{passes}
use Rattle.keeper.proofs.Dealt.{none_due}
use Rattle.keeper.proofs.Beside.{lock_whole, release_whole, turn_whole}
use Rattle.runs.specs.Ran.{Steps, DataSteps}

-- beside the store, which most calls leave alone
abbrev beside : {P R : Type 0} → List R → ℕ → State P R → System P R
beside rows places σ = record { state = σ; rows = rows; places = places }

-- the steps of a run, from what each call promises
module _ {P R : Type 0} {K : Kinds P R} {allows : ℕ → ℕ → ℕ → ℕ → Bool} {k k' : Keeper} {table : List (LockEntry P)} {log : List (UndoEntry R)} {rows : List R} {places : ℕ} {call : Call P R} {a : Reply (Answer R)} where
  pub steps_lock : {table' : List (LockEntry P)} {j : ℕ} {w : Mode} {p : P} {r : Reply LockAnswer} → length table ≡ k.table → call ≡ Lock j w p → a ≡ said Locked r → LocksSo (lock_with K.apart allows j w p k table) r k k' table' → Steps K allows call k table log rows places a k' table' log rows places
  steps_lock {j = j} {w = w} {p = p} long e q L = let G = lock_whole table log K.apart allows j w p long L in rw e (record { answer = q ∙ ap (said Locked) G.reply; state = ap (beside rows places) G.state })

  pub steps_release : {table' : List (LockEntry P)} {j n : ℕ} {r : Reply (Unit {0})} → length table ≡ k.table → call ≡ Release j n → a ≡ said (λ u. Released) r → LocksSo (release_with j n k table) r k k' table' → Steps K allows call k table log rows places a k' table' log rows places
  steps_release {j = j} {n = n} long e q L = let G = release_whole table log j n long L in rw e (record { answer = q ∙ ap (said (λ u. Released)) G.reply; state = ap (beside rows places) G.state })

  pub steps_turn : {log' : List (UndoEntry R)} {j : ℕ} {r : Reply ℕ} → length log ≡ k.log → call ≡ Turn j → a ≡ said Turned r → LogsSo (turn_with j k log) r k k' log' → Steps K allows call k table log rows places a k' table log' rows places
  steps_turn {j = j} logs e q L = let G = turn_whole table log j logs L in rw e (record { answer = q ∙ ap (said Turned) G.reply; state = ap (beside rows places) G.state })

-- a data call that alters nothing: it answers, if it is let
abbrev told_only : {S R : Type 0} → Option JobRecord → Bool → DataAnswer R → S → Outcome S (DataAnswer R)
told_only x covered a ω = on_found x ω (λ b. check covered NotCovered ω (give a ω))

data_told : {P R : Type 0} (K : Kinds P R) (j : ℕ) (d : DataCall P R) (ω : System P R) → effect K d (found K d ω.rows) ≡ [] → data_call K j d ω ≡ told_only (find j ω.state.ledger.records) (some_of (permits K j d) ω.state.locks) (found K d ω.rows) ω
data_told K j d ω idle = simp (idle, none_due, append-nil)

-- what is told does not depend on the rest of the system
same_told : {S R : Type 0} (ω τ : S) (x : Option JobRecord) (b : Bool) (a : DataAnswer R) → (ω ≡ (told_only x b a ω).state) × ((told_only x b a τ).reply ≡ (told_only x b a ω).reply)
same_told ω τ x b a = (grind arith, grind arith)

-- TOTAL and NEXT
pub steps_ask : {P R : Type 0} {K : Kinds P R} {j : ℕ} {k : Keeper} {table : List (LockEntry P)} {log : List (UndoEntry R)} {rows : List R} {places : ℕ} {call d : DataCall P R} {a : Reply (DataAnswer R)} {A : Type 0} (word : A → DataAnswer R) (r : Reply A)
    → length table ≡ k.table → call ≡ d → effect K d (found K d rows) ≡ [] → a ≡ said word r → said word r ≡ ask_with K j d k table rows places → DataSteps K j call k table log rows places a k log rows places
steps_ask {P} {R} {K} {j} {k} {table} {log} {rows} {places} {call} {d} word r long is_call idle p q =
    let ω = system k table log rows places in
    let τ : System P R = system k table [] rows places in
    let s = same_told ω τ (find j k.jobs.ledger.records) (some_of (permits K j d) (take k.held table)) (found K d rows) in
    let B = data_told K j d ω idle in
    let asked = passes (eqb (length table) k.table) WrongBook τ (data_call K j d τ) (eq-eqb (length table) k.table long) ∙ data_told K j d τ idle in
    rw is_call (record { answer = p ∙ q ∙ ap (λ (x : Outcome (System P R) (DataAnswer R)). x.reply) asked ∙ s.1 ∙ rw B; state = rw B s.0 })
