-- What every run of lock calls from a fresh keeper amounts to, in terms of its transcript.
use Rattle.std.specs.Prelude.{◌≡◌, ℕ, ◌<◌, Bool, not, List, [], ◌∷◌, map, Ok, Option, ◌≢◌, true}
use Rattle.tables.specs.declared.entries.LockEntry.{LockEntry}
use Rattle.tables.specs.declared.entries.Mode.{Mode}
use Rattle.tables.specs.Lists.{In, keep}
use Rattle.tables.specs.Locks.{conflicts}
use Rattle.tables.specs.Jobs.{Reply}
use Rattle.calls.specs.declared.lock_answer.LockAnswer.TheVariants.{Wait}
use Rattle.calls.specs.Orders.{Pairs, flat, among, add_new, Place}
use Rattle.calls.specs.States.{State, lock_call}
use Rattle.calls.specs.Serial.{of_accepted}
use Rattle.keeper.specs.declared.transcript.Answer.{Answer}
use Rattle.keeper.specs.declared.transcript.Answer.TheVariants.{Job, Lock as Locked, Turned, Released, Closed}
use Rattle.keeper.specs.declared.transcript.Call.{Call}
use Rattle.keeper.specs.declared.transcript.Call.TheVariants.{Open, Lock, Turn, Release, Close}
use Rattle.keeper.specs.declared.transcript.Entry.{Entry}

-- what an accepted call does for the order of the jobs
pub data Mark : Type 0 where
  opens : (j : ℕ) → Mark
  turns : (j turn : ℕ) → Mark

-- the number that an answer gives: of a job, of a turn
abbrev pub job_given : Answer → List ℕ
job_given (Job j) = j ∷ []
job_given (Locked a) = []
job_given (Turned n) = []
job_given Released = []
job_given (Closed n k) = []

abbrev pub turn_given : Answer → List ℕ
turn_given (Job j) = []
turn_given (Locked a) = []
turn_given (Turned n) = n ∷ []
turn_given Released = []
turn_given (Closed n k) = n ∷ []

module _ {P : Type 0} where
  abbrev pub marks : Call P → Option (Reply Answer) → List Mark
  marks (Open c) a = map opens (of_accepted job_given a)
  marks (Lock j w p) a = []
  marks (Turn j) a = map (turns j) (of_accepted turn_given a)
  marks (Release j n) a = []
  marks (Close j) a = map (turns j) (of_accepted turn_given a)

  -- what a transcript says of the order of the jobs
  abbrev pub history : List (Entry P) → List Mark
  history es = flat (λ e. marks e.call e.answer) es

abbrev pub opened_by : Mark → List ℕ
opened_by (opens j) = j ∷ []
opened_by (turns j n) = []

abbrev pub turned_by : Mark → List ℕ
turned_by (opens j) = []
turned_by (turns j n) = j ∷ []

-- the jobs that have turned, in the order of their first accepted TURN or CLOSE
abbrev pub turned : List Mark → List ℕ
turned m = add_new [] (flat turned_by m)

-- the jobs that were opened and have not turned
abbrev pub asking : List Mark → List ℕ
asking m = keep (λ j. not (among j (turned m))) (flat opened_by m)

module _ {P R : Type 0} (apart : P → P → Bool) (allows : ℕ → ℕ → ℕ → ℕ → Bool) where
  -- j waits on k: some LOCK of j, asked now, is answered WAIT, and k holds a lock that conflicts with it
  pub record Waits (σ : State P R) (j k : ℕ) : Type 0 where
    pub mode : Mode
    pub predicate : P
    pub holder : ℕ
    pub answer : (lock_call apart allows j mode predicate σ).reply ≡ Ok (Wait holder)
    pub lock : LockEntry P
    pub held : In lock σ.locks
    pub owned : lock.job ≡ k
    pub conflict : conflicts apart j mode predicate lock ≡ true

  -- j waits on the first of these jobs, each on the next, and the last on k
  abbrev pub Chain : State P R → ℕ → List ℕ → ℕ → Type 0
  Chain σ j [] k = Waits σ j k
  Chain σ j (m ∷ ms) k = Waits σ j m × Chain σ m ms k

  -- the run that left these marks led to σ
  pub record OneAfterAnother (m : List Mark) (σ : State P R) : Type 0 where
    -- turn numbers count the jobs that have turned: TURN and CLOSE answer the job's place in their order, from 1
    pub turns_count : (j n : ℕ) → In (turns j n) m → Place n j (turned m)
    -- the jobs that have not turned stand by their numbers
    pub by_number : Pairs ◌<◌ (asking m)
    -- no lock that is held conflicts with one of another job
    pub locks_apart : Pairs (λ (l m : LockEntry P). conflicts apart m.job m.mode m.predicate l ≢ true) σ.locks
    -- no job waits on itself through others
    pub no_ring : (j : ℕ) (through : List ℕ) → Chain σ j through j → ⊥
