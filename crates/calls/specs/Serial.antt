-- One after another: what every run of a fresh keeper amounts to, in terms of its transcript.
use Rattle.std.specs.Prelude.{◌≡◌, ℕ, ◌<◌, Bool, true, not, ◌≢◌, List, [], ◌∷◌, ◌++◌, map, Some, None, Ok, Err, Option}
use Rattle.tables.specs.declared.entries.LockEntry.{LockEntry}
use Rattle.tables.specs.declared.entries.Mode.{Mode}
use Rattle.tables.specs.Lists.{is, In, keep}
use Rattle.tables.specs.Jobs.{Reply}
use Rattle.tables.specs.Locks.{conflicts}
use Rattle.calls.specs.declared.data.DataAnswer.{DataAnswer}
use Rattle.calls.specs.declared.lock_answer.LockAnswer.TheVariants.{Wait}
use Rattle.calls.specs.declared.transcript.Answer.{Answer}
use Rattle.calls.specs.declared.transcript.Answer.TheVariants.{Job, Lock as Locked, Turned, Released, Closed, Withdrawn, Data as Answered}
use Rattle.calls.specs.declared.transcript.Call.{Call}
use Rattle.calls.specs.declared.transcript.Call.TheVariants.{Open, Lock, Turn, Release, Close, Withdraw, Data}
use Rattle.calls.specs.declared.transcript.Entry.{Entry}
use Rattle.calls.specs.Kinds.{Kinds}
use Rattle.calls.specs.Orders.{Pairs, flat, among, add_new, Place}
use Rattle.calls.specs.Plain.{Done, Conflict, Replays}
use Rattle.calls.specs.States.{State, lock_call}

-- what an accepted call does: a job opens, turns with a number, or withdraws, or a data call is done
pub data Mark (P R : Type 0) : Type 0 where
  opens : (j : ℕ) → Mark P R
  turns : (j turn : ℕ) → Mark P R
  withdraws : (j : ℕ) → Mark P R
  does : Done P R → Mark P R

-- what f makes of the answer of an accepted call, and nothing of a call that was refused or is still to be made
abbrev pub of_accepted : {A B : Type 0} → (A → List B) → Option (Reply A) → List B
of_accepted f None = []
of_accepted f (Some (Err e)) = []
of_accepted f (Some (Ok a)) = f a

module _ {R : Type 0} where
  -- the number of the job that an answer gives
  abbrev pub job_given : Answer R → List ℕ
  job_given (Job j) = j ∷ []
  job_given (Locked a) = []
  job_given (Turned n) = []
  job_given Released = []
  job_given (Closed n k) = []
  job_given (Withdrawn k n) = []
  job_given (Answered a) = []

  -- the turn number that it gives
  abbrev pub turn_given : Answer R → List ℕ
  turn_given (Job j) = []
  turn_given (Locked a) = []
  turn_given (Turned n) = n ∷ []
  turn_given Released = []
  turn_given (Closed n k) = n ∷ []
  turn_given (Withdrawn k n) = []
  turn_given (Answered a) = []

  -- the mark, where it is that a job has withdrawn
  abbrev pub if_withdrawn : {A : Type 0} → A → Answer R → List A
  if_withdrawn x (Job j) = []
  if_withdrawn x (Locked a) = []
  if_withdrawn x (Turned n) = []
  if_withdrawn x Released = []
  if_withdrawn x (Closed n k) = []
  if_withdrawn x (Withdrawn k n) = x ∷ []
  if_withdrawn x (Answered a) = []

  -- what a data call answers
  abbrev pub data_given : Answer R → List (DataAnswer R)
  data_given (Job j) = []
  data_given (Locked a) = []
  data_given (Turned n) = []
  data_given Released = []
  data_given (Closed n k) = []
  data_given (Withdrawn k n) = []
  data_given (Answered a) = a ∷ []

module _ {P R : Type 0} where
  abbrev pub marks : Call P R → Option (Reply (Answer R)) → List (Mark P R)
  marks (Open c) a = map opens (of_accepted job_given a)
  marks (Lock j w p) a = []
  marks (Turn j) a = map (turns j) (of_accepted turn_given a)
  marks (Release j n) a = []
  marks (Close j) a = map (turns j) (of_accepted turn_given a)
  marks (Withdraw j) a = of_accepted (if_withdrawn (withdraws j)) a
  marks (Data j d) a = map (λ f. does (record { job = j; call = d; answer = f })) (of_accepted data_given a)

  -- what a transcript tells of its jobs
  abbrev pub history : List (Entry P R) → List (Mark P R)
  history es = flat (λ e. marks e.call e.answer) es

  abbrev pub opened_by : Mark P R → List ℕ
  opened_by (opens j) = j ∷ []
  opened_by (turns j n) = []
  opened_by (withdraws j) = []
  opened_by (does e) = []

  abbrev pub turned_by : Mark P R → List ℕ
  turned_by (opens j) = []
  turned_by (turns j n) = j ∷ []
  turned_by (withdraws j) = []
  turned_by (does e) = []

  abbrev pub withdrawn_by : Mark P R → List ℕ
  withdrawn_by (opens j) = []
  withdrawn_by (turns j n) = []
  withdrawn_by (withdraws j) = j ∷ []
  withdrawn_by (does e) = []

  abbrev pub done_by : Mark P R → List (Done P R)
  done_by (opens j) = []
  done_by (turns j n) = []
  done_by (withdraws j) = []
  done_by (does e) = e ∷ []

  -- the jobs that have turned, in the order of their first accepted TURN or CLOSE
  abbrev pub turned : List (Mark P R) → List ℕ
  turned m = add_new [] (flat turned_by m)

  abbrev pub withdrawn : List (Mark P R) → List ℕ
  withdrawn m = flat withdrawn_by m

  -- the jobs that were opened and have neither turned nor withdrawn
  abbrev pub asking : List (Mark P R) → List ℕ
  asking m = keep (λ j. not (among j (turned m ++ withdrawn m))) (flat opened_by m)

  -- the accepted data calls of the jobs that have not withdrawn, as they came
  abbrev pub came : List (Mark P R) → List (Done P R)
  came m = keep (λ e. not (among e.job (withdrawn m))) (flat done_by m)

  abbrev pub calls_of : ℕ → List (Done P R) → List (Done P R)
  calls_of j c = keep (λ e. is j e.job) c

  -- the same calls, whole jobs in the given order, each job's in its own order
  abbrev pub whole_jobs : List ℕ → List (Done P R) → List (Done P R)
  whole_jobs js c = flat (λ j. calls_of j c) js

module _ {P R : Type 0} (K : Kinds P R) (allows : ℕ → ℕ → ℕ → ℕ → Bool) where
  -- j waits on k: some LOCK of j, asked now, is answered WAIT, and k holds a lock that conflicts with it
  pub record Waits (σ : State P R) (j k : ℕ) : Type 0 where
    pub mode : Mode
    pub predicate : P
    pub holder : ℕ
    pub answer : (lock_call K.apart allows j mode predicate σ).reply ≡ Ok (Wait holder)
    pub lock : LockEntry P
    pub held : In lock σ.locks
    pub owned : lock.job ≡ k
    pub conflict : conflicts K.apart j mode predicate lock ≡ true

  -- j waits on the first of these jobs, each on the next, and the last on k
  abbrev pub Chain : State P R → ℕ → List ℕ → ℕ → Type 0
  Chain σ j [] k = Waits σ j k
  Chain σ j (m ∷ ms) k = Waits σ j m × Chain σ m ms k

  -- the run that left these marks led from the rows x to the rows y, and to σ in keeper and lists
  pub record OneAfterAnother (x : List R) (m : List (Mark P R)) (y : List R) (σ : State P R) : Type 0 where
    -- the accepted data calls of the jobs that have turned, whole jobs in the order of turning, and then of those that still
    -- ask, fed to the plain store, give exactly the answers of the transcript and end with exactly the rows of the store
    pub serial : Replays K x (whole_jobs (turned m ++ asking m) (came m)) y
    -- turn numbers count the jobs that have turned: TURN and CLOSE answer the job's place in their order, from 1
    pub turns_count : (j n : ℕ) → In (turns j n) m → Place n j (turned m)
    -- the jobs that still ask stand by their numbers
    pub by_number : Pairs ◌<◌ (asking m)
    -- where a data call and a later one of another job touch one row, one of them writing, and neither job has withdrawn, the
    -- first job had turned before the later call, and the other has not turned or has the greater turn number
    pub touches_in_order : (before later : List (Mark P R)) (e f : Done P R) → m ≡ before ++ (does f ∷ later) → In (does e) before → e.job ≢ f.job → Conflict K e.call f.call
        → (In e.job (withdrawn m) → ⊥) → (In f.job (withdrawn m) → ⊥)
        → In e.job (turned before) × ((n i : ℕ) → In (turns e.job n) m → In (turns f.job i) m → n < i)
    -- no lock that is held conflicts with one of another job
    pub locks_apart : Pairs (λ (l m : LockEntry P). conflicts K.apart m.job m.mode m.predicate l ≢ true) σ.locks
    -- no job waits on itself through others
    pub no_ring : (j : ℕ) (through : List ℕ) → Chain σ j through j → ⊥
