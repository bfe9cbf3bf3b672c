-- Worked examples: those of predicates, and what calls of a new keeper are answered.
use Rattle.std.specs.Prelude.{◌≡◌, ℕ, List, [], ◌∷◌, map, Some, Ok, Err}
use Rattle.std.proofs.Common.{lit≤}
use Rattle.policies.specs.Ages.{younger}
use Rattle.predicates.specs.declared.trip_box.TripBox.{TripBox}
use Rattle.predicates.specs.Boxes.{box_holds, box_apart, box_covers}
use Rattle.predicates.specs.Examples.{from, on_days, Examples as PredicateExamples}
use Rattle.rows.specs.declared.trip.Trip.{Trip}
use Rattle.rows.specs.Trips.{trip_order}
use Rattle.stores.specs.Stores.{Sound}
use Rattle.tables.specs.declared.entries.Mode.TheVariants.{Read, Write}
use Rattle.tables.specs.declared.refusal.Refusal.TheVariants.{NotCovered, StoreFull}
use Rattle.tables.specs.Jobs.{Reply, fresh_ledger}
use Rattle.calls.specs.declared.data.DataAnswer.TheVariants.{Total as Figures, Edit as Edited}
use Rattle.calls.specs.declared.data.DataCall.TheVariants.{Total, Add, Drop, Change}
use Rattle.calls.specs.declared.data.EditAnswer.TheVariants.{Added, Dropped}
use Rattle.calls.specs.declared.lock_answer.LockAnswer.TheVariants.{Granted, Wait, Withdraw as ToldToWithdraw}
use Rattle.calls.specs.declared.transcript.Answer.{Answer}
use Rattle.calls.specs.declared.transcript.Answer.TheVariants.{Job, Lock as Locked, Turned, Closed, Data as Answered}
use Rattle.calls.specs.declared.transcript.Call.{Call}
use Rattle.calls.specs.declared.transcript.Call.TheVariants.{Open, Lock, Turn, Close, Data}
use Rattle.calls.specs.Kinds.{Kinds}
use Rattle.calls.specs.States.{State}
use Rattle.calls.specs.Systems.{System}
use Rattle.calls.specs.Runs.{answers}

-- what a new keeper holds
abbrev pub new_state : {P R : Type 0} → ℕ → ℕ → State P R
new_state n m = record { ledger = fresh_ledger; locks = []; undo = []; table = n; log = m }

-- trips and boxes
abbrev pub trips_in_boxes : Kinds TripBox Trip
trips_in_boxes = record { order = trip_order; amount = λ t. t.metres; holds = box_holds; apart = box_apart; covers = box_covers }

-- calls made of a new keeper under Age, over a store with these rows and places, and what they are answered
pub record Example : Type 0 where
  pub rows : List Trip
  pub places : ℕ
  pub calls : List (Call TripBox Trip)
  pub expected : List (Reply (Answer Trip))

abbrev pub begin : Example → System TripBox Trip
begin e = record { state = new_state 4 4; rows = e.rows; places = e.places }

-- each begins with a store as stores are, and is answered so
abbrev pub Shown : List Example → Type 0
Shown [] = Unit {0}
Shown (e ∷ es) = Sound trip_order e.rows e.places × (answers trips_in_boxes younger e.calls (begin e) ≡ map Some e.expected) × Shown es

-- boxes of all trips of one day
abbrev pub monday : TripBox
monday = on_days (from 100 100 tt) tt

abbrev pub tuesday : TripBox
tuesday = on_days (from 101 101 tt) tt

-- trips of van 7: on Monday early and late, and on Tuesday
abbrev pub early : Trip
early = record { van = 7; day = 100; second = 3600; cell = 0; metres = 5000; limits = (lit≤ tt, lit≤ tt, lit≤ tt, lit≤ tt, lit≤ tt); cells = lit≤ tt }

abbrev pub late : Trip
late = record { van = 7; day = 100; second = 7200; cell = 0; metres = 3000; limits = (lit≤ tt, lit≤ tt, lit≤ tt, lit≤ tt, lit≤ tt); cells = lit≤ tt }

abbrev pub next_day : Trip
next_day = record { van = 7; day = 101; second = 0; cell = 0; metres = 900; limits = (lit≤ tt, lit≤ tt, lit≤ tt, lit≤ tt, lit≤ tt); cells = lit≤ tt }

abbrev pub call_examples : List Example
call_examples =
    -- two jobs read one box: both are granted
    record {
      rows = [];
      places = 4;
      calls = Open 0 ∷ Open 0 ∷ Lock 1 Read monday ∷ Lock 2 Read monday ∷ [];
      expected = Ok (Job 1) ∷ Ok (Job 2) ∷ Ok (Locked (Granted 1)) ∷ Ok (Locked (Granted 2)) ∷ [];
    }
    -- job 1 asking for what job 2 holds waits; job 2 asking for what job 1 holds is told to withdraw
    ∷ record {
      rows = [];
      places = 4;
      calls = Open 0 ∷ Open 0 ∷ Lock 2 Write monday ∷ Lock 1 Read monday ∷ Lock 1 Write tuesday ∷ Lock 2 Read tuesday ∷ [];
      expected = Ok (Job 1) ∷ Ok (Job 2) ∷ Ok (Locked (Granted 1)) ∷ Ok (Locked (Wait 2)) ∷ Ok (Locked (Granted 2)) ∷ Ok (Locked (ToldToWithdraw 1)) ∷ [];
    }
    -- one place, its row dropped by a job that has not turned: another job's ADD elsewhere is refused, for the row may return;
    -- once the job has turned the row is added
    ∷ record {
      rows = early ∷ [];
      places = 1;
      calls = Open 0 ∷ Open 0 ∷ Lock 1 Write monday ∷ Lock 2 Write tuesday ∷ Data 1 (Drop early) ∷ Data 2 (Add next_day) ∷ Turn 1 ∷ Data 2 (Add next_day) ∷ [];
      expected = Ok (Job 1) ∷ Ok (Job 2) ∷ Ok (Locked (Granted 1)) ∷ Ok (Locked (Granted 2)) ∷ Ok (Answered (Edited Dropped)) ∷ Err StoreFull ∷ Ok (Turned 1) ∷ Ok (Answered (Edited Added)) ∷ [];
    }
    -- CHANGE, each row under another lock: not covered
    ∷ record {
      rows = early ∷ [];
      places = 4;
      calls = Open 0 ∷ Lock 1 Write monday ∷ Lock 1 Write tuesday ∷ Data 1 (Change early next_day) ∷ [];
      expected = Ok (Job 1) ∷ Ok (Locked (Granted 1)) ∷ Ok (Locked (Granted 2)) ∷ Err NotCovered ∷ [];
    }
    -- an upload adds a trip that its own total counts, and a report that asks meanwhile is told to withdraw
    ∷ record {
      rows = early ∷ [];
      places = 4;
      calls = Open 0 ∷ Open 0 ∷ Lock 1 Write monday ∷ Lock 2 Read monday ∷ Data 1 (Add late) ∷ Data 1 (Total monday) ∷ Close 1 ∷ [];
      expected = Ok (Job 1) ∷ Ok (Job 2) ∷ Ok (Locked (Granted 1)) ∷ Ok (Locked (ToldToWithdraw 1)) ∷ Ok (Answered (Edited Added)) ∷ Ok (Answered (Figures 2 8000)) ∷ Ok (Closed 1 1) ∷ [];
    }
    ∷ []

pub record Examples : Type 0 where
  pub predicates : PredicateExamples
  pub calls : Shown call_examples
