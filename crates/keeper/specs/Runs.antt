-- Lock calls one after the other: what each answers, and what is held after it.
use Rattle.std.specs.Prelude.{ℕ, Bool, List, [], ◌∷◌, map, Some, Option}
use Rattle.tables.specs.Jobs.{Reply}
use Rattle.calls.specs.States.{State, open_call, lock_call, turn_call, release_call, close_call}
use Rattle.calls.specs.Runs.{said}
use Rattle.keeper.specs.declared.transcript.Answer.{Answer}
use Rattle.keeper.specs.declared.transcript.Answer.TheVariants.{Job, Lock as Locked, Turned, Released, Closed}
use Rattle.keeper.specs.declared.transcript.Call.{Call}
use Rattle.keeper.specs.declared.transcript.Call.TheVariants.{Open, Lock, Turn, Release, Close}
use Rattle.keeper.specs.declared.transcript.Entry.{Entry}

module _ {P R : Type 0} (apart : P → P → Bool) (allows : ℕ → ℕ → ℕ → ℕ → Bool) where
  abbrev pub answered : Call P → State P R → Reply Answer
  answered (Open c) σ = said Job (open_call c σ).reply
  answered (Lock j w p) σ = said Locked (lock_call apart allows j w p σ).reply
  answered (Turn j) σ = said Turned (turn_call j σ).reply
  answered (Release j n) σ = said (λ u. Released) (release_call j n σ).reply
  answered (Close j) σ = said (λ n. Closed n.0 n.1) (close_call j σ).reply

  abbrev pub leaving : Call P → State P R → State P R
  leaving (Open c) σ = (open_call c σ).state
  leaving (Lock j w p) σ = (lock_call apart allows j w p σ).state
  leaving (Turn j) σ = (turn_call j σ).state
  leaving (Release j n) σ = (release_call j n σ).state
  leaving (Close j) σ = (close_call j σ).state

  abbrev pub answers : List (Call P) → State P R → List (Option (Reply Answer))
  answers [] σ = []
  answers (c ∷ cs) σ = Some (answered c σ) ∷ answers cs (leaving c σ)

  abbrev pub left_by : List (Call P) → State P R → State P R
  left_by [] σ = σ
  left_by (c ∷ cs) σ = left_by cs (leaving c σ)

abbrev pub calls : {P : Type 0} → List (Entry P) → List (Call P)
calls = map (λ e. e.call)

abbrev pub told : {P : Type 0} → List (Entry P) → List (Option (Reply Answer))
told = map (λ e. e.answer)
