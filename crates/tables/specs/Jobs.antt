-- The table of open jobs, and what OPEN, TURN and the end of a job make of it.
use Rattle.std.specs.Prelude.{◌≡◌, ℕ, ◌+◌, Bool, true, false, cond, List, [], ◌∷◌, map, replicate, Some, None, Ok, Err, Option, Result, is_none, nat_le}
use Rattle.tables.specs.declared.ledger.JobRecord.{JobRecord}
use Rattle.tables.specs.declared.ledger.Ledger.{Ledger}
use Rattle.tables.specs.declared.refusal.Refusal.{Refusal}
use Rattle.tables.specs.declared.refusal.Refusal.TheVariants.{BadClass, NoSuchJob, HasTurned, NoPlace, NumbersSpent}
use Rattle.tables.specs.Lists.{is, some_of}

abbrev pub job_of : ℕ → ℕ → Option ℕ → JobRecord
job_of j c t = record { number = j; class = c; turn = t }

-- a refusal, or what the call gives
abbrev pub Reply : Type 0 → Type 0
Reply A = Result A Refusal

-- what a call answers, and what is held after it
pub record Outcome (S A : Type 0) : Type 0 where
  pub reply : Reply A
  pub state : S

-- the call answers so, and leaves that
pub record Gives {S A : Type 0} (o : Outcome S A) (r : Reply A) (left : S) : Type 0 where
  pub reply : r ≡ o.reply
  pub state : left ≡ o.state

module _ {S A : Type 0} where
  -- a refusal alters nothing
  abbrev pub refuse : Refusal → S → Outcome S A
  refuse n σ = record { reply = Err n; state = σ }

  abbrev pub give : A → S → Outcome S A
  give a σ = record { reply = Ok a; state = σ }

  -- refused with n, unless the test passes
  abbrev pub check : Bool → Refusal → S → Outcome S A → Outcome S A
  check true n σ o = o
  check false n σ o = refuse n σ

  abbrev pub on_found : Option JobRecord → S → (JobRecord → Outcome S A) → Outcome S A
  on_found None σ f = refuse NoSuchJob σ
  on_found (Some b) σ f = f b

  abbrev pub not_turned : Option ℕ → S → Outcome S A → Outcome S A
  not_turned None σ o = o
  not_turned (Some n) σ o = refuse HasTurned σ

-- the open job of that number
abbrev pub find : ℕ → List (Option JobRecord) → Option JobRecord
find j [] = None
find j (None ∷ ss) = find j ss
find j (Some b ∷ ss) = cond (is j b.number) (Some b) (find j ss)

-- the place has the record of the open job of that number
abbrev pub has_job : ℕ → Option JobRecord → Bool
has_job j None = false
has_job j (Some b) = is j b.number

abbrev pub is_free : Option JobRecord → Bool
is_free o = is_none o

-- the first free place taken, the job's record marked, the job's place freed
abbrev pub fill : JobRecord → List (Option JobRecord) → List (Option JobRecord)
fill b [] = []
fill b (None ∷ ss) = Some b ∷ ss
fill b (Some x ∷ ss) = Some x ∷ fill b ss

abbrev pub set_turn : ℕ → ℕ → JobRecord → JobRecord
set_turn j n b = cond (is j b.number) (job_of b.number b.class (Some n)) b

abbrev pub turn_slot : ℕ → ℕ → Option JobRecord → Option JobRecord
turn_slot j n None = None
turn_slot j n (Some b) = Some (set_turn j n b)

abbrev pub clear_slot : ℕ → Option JobRecord → Option JobRecord
clear_slot j None = None
clear_slot j (Some b) = cond (is j b.number) None (Some b)

-- nobody is open, and all numbers begin at 1
abbrev pub fresh_ledger : Ledger
fresh_ledger = record { records = replicate 32 None; opening = 1; granting = 1; turning = 1 }

abbrev pub open_ledger : ℕ → Ledger → Ledger
open_ledger c s = record { records = fill (job_of s.opening c None) s.records; opening = s.opening + 1; granting = s.granting; turning = s.turning }

abbrev pub turn_ledger : ℕ → Ledger → Ledger
turn_ledger j s = record { records = map (turn_slot j s.turning) s.records; opening = s.opening; granting = s.granting; turning = s.turning + 1 }

abbrev pub end_ledger : ℕ → Ledger → Ledger
end_ledger j s = record { records = map (clear_slot j) s.records; opening = s.opening; granting = s.granting; turning = s.turning }

-- lock numbers run to 4,000,000
abbrev pub lock_number : Ledger → Option ℕ
lock_number s = cond (nat_le s.granting 4000000) (Some s.granting) None

abbrev pub grant_ledger : Ledger → Ledger
grant_ledger s = record { records = s.records; opening = s.opening; granting = cond (nat_le s.granting 4000000) (s.granting + 1) s.granting; turning = s.turning }

-- OPEN: classes are 0 to 7, and job numbers run to 1,000,000
abbrev pub open_on : ℕ → Ledger → Outcome Ledger ℕ
open_on c s =
    check (nat_le c 7) BadClass s (check (some_of is_free s.records) NoPlace s (check (nat_le s.opening 1000000) NumbersSpent s
    (give s.opening (open_ledger c s))))

-- TURN, as far as it concerns the table
abbrev pub turn_on : ℕ → Ledger → Outcome Ledger ℕ
turn_on j s = on_found (find j s.records) s (λ b. not_turned b.turn s (give s.turning (turn_ledger j s)))
