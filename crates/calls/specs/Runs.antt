-- Calls one after the other: what each answers, and what is held after it.
use Rattle.std.specs.Prelude.{ℕ, Bool, List, [], ◌∷◌, map, Some, Ok, Err, Option}
use Rattle.tables.specs.Jobs.{Reply}
use Rattle.calls.specs.declared.transcript.Answer.{Answer}
use Rattle.calls.specs.declared.transcript.Answer.TheVariants.{Job, Lock as Locked, Turned, Released, Closed, Withdrawn, Data as Answered}
use Rattle.calls.specs.declared.transcript.Call.{Call}
use Rattle.calls.specs.declared.transcript.Call.TheVariants.{Open, Lock, Turn, Release, Close, Withdraw, Data}
use Rattle.calls.specs.declared.transcript.Entry.{Entry}
use Rattle.calls.specs.Kinds.{Kinds}
use Rattle.calls.specs.States.{open_call, lock_call, turn_call, release_call, close_call}
use Rattle.calls.specs.Systems.{System, beside_store, data_call, withdraw_call}

-- the same reply, with what it gives made an answer
abbrev pub said : {A B : Type 0} → (A → B) → Reply A → Reply B
said word (Ok a) = Ok (word a)
said word (Err e) = Err e

module _ {P R : Type 0} (K : Kinds P R) (allows : ℕ → ℕ → ℕ → ℕ → Bool) where
  abbrev pub answered : Call P R → System P R → Reply (Answer R)
  answered (Open c) ω = said Job (open_call c ω.state).reply
  answered (Lock j w p) ω = said Locked (lock_call K.apart allows j w p ω.state).reply
  answered (Turn j) ω = said Turned (turn_call j ω.state).reply
  answered (Release j n) ω = said (λ u. Released) (release_call j n ω.state).reply
  answered (Close j) ω = said (λ n. Closed n.0 n.1) (close_call j ω.state).reply
  answered (Withdraw j) ω = said (λ n. Withdrawn n.0 n.1) (withdraw_call K.order j ω).reply
  answered (Data j d) ω = said Answered (data_call K j d ω).reply

  abbrev pub leaving : Call P R → System P R → System P R
  leaving (Open c) ω = (beside_store (open_call c) ω).state
  leaving (Lock j w p) ω = (beside_store (lock_call K.apart allows j w p) ω).state
  leaving (Turn j) ω = (beside_store (turn_call j) ω).state
  leaving (Release j n) ω = (beside_store (release_call j n) ω).state
  leaving (Close j) ω = (beside_store (close_call j) ω).state
  leaving (Withdraw j) ω = (withdraw_call K.order j ω).state
  leaving (Data j d) ω = (data_call K j d ω).state

  abbrev pub answers : List (Call P R) → System P R → List (Option (Reply (Answer R)))
  answers [] ω = []
  answers (c ∷ cs) ω = Some (answered c ω) ∷ answers cs (leaving c ω)

  abbrev pub left_by : List (Call P R) → System P R → System P R
  left_by [] ω = ω
  left_by (c ∷ cs) ω = left_by cs (leaving c ω)

abbrev pub calls : {P R : Type 0} → List (Entry P R) → List (Call P R)
calls = map (λ e. e.call)

abbrev pub told : {P R : Type 0} → List (Entry P R) → List (Option (Reply (Answer R)))
told = map (λ e. e.answer)
