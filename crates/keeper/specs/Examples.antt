-- Worked examples: those of predicates, and what LOCK answers.
use Rattle.std.specs.Prelude.{◌≡◌, List, [], ◌∷◌, map, Some, Ok}
use Rattle.policies.specs.Ages.{younger}
use Rattle.predicates.specs.declared.trip_box.TripBox.{TripBox}
use Rattle.predicates.specs.Boxes.{box_apart}
use Rattle.predicates.specs.Examples.{Examples as PredicateExamples}
use Rattle.rows.specs.declared.trip.Trip.{Trip}
use Rattle.tables.specs.declared.entries.Mode.TheVariants.{Read, Write}
use Rattle.tables.specs.Jobs.{Reply}
use Rattle.calls.specs.declared.lock_answer.LockAnswer.TheVariants.{Granted, Wait, Withdraw}
use Rattle.calls.specs.Examples.{new_state, monday, tuesday}
use Rattle.keeper.specs.declared.transcript.Answer.{Answer}
use Rattle.keeper.specs.declared.transcript.Answer.TheVariants.{Job, Lock as Locked}
use Rattle.keeper.specs.declared.transcript.Call.{Call}
use Rattle.keeper.specs.declared.transcript.Call.TheVariants.{Open, Lock}
use Rattle.keeper.specs.Runs.{answers}

-- calls made of a new keeper under Age, and what they are answered
pub record Example : Type 0 where
  pub calls : List (Call TripBox)
  pub expected : List (Reply Answer)

abbrev pub Shown : List Example → Type 0
Shown [] = Unit {0}
Shown (e ∷ es) = (answers {R = Trip} box_apart younger e.calls (new_state 4 4) ≡ map Some e.expected) × Shown es

abbrev pub lock_examples : List Example
lock_examples =
    -- two jobs read one box: both are granted
    record {
      calls = Open 0 ∷ Open 0 ∷ Lock 1 Read monday ∷ Lock 2 Read monday ∷ [];
      expected = Ok (Job 1) ∷ Ok (Job 2) ∷ Ok (Locked (Granted 1)) ∷ Ok (Locked (Granted 2)) ∷ [];
    }
    -- job 1 asking for what job 2 holds waits; job 2 asking for what job 1 holds is told to withdraw
    ∷ record {
      calls = Open 0 ∷ Open 0 ∷ Lock 2 Write monday ∷ Lock 1 Read monday ∷ Lock 1 Write tuesday ∷ Lock 2 Read tuesday ∷ [];
      expected = Ok (Job 1) ∷ Ok (Job 2) ∷ Ok (Locked (Granted 1)) ∷ Ok (Locked (Wait 2)) ∷ Ok (Locked (Granted 2)) ∷ Ok (Locked (Withdraw 1)) ∷ [];
    }
    ∷ []

pub record Examples : Type 0 where
  pub predicates : PredicateExamples
  pub locks : Shown lock_examples
