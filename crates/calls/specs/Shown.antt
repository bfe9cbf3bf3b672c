-- Answers as they are printed: each with its word, its number and its values.
use Rattle.std.specs.Prelude.{ℕ, List, ◌∷◌, ◌++◌, Some, None, Ok, Err, codes, decimal, Option}
use Rattle.rows.specs.declared.trip.Trip.{Trip}
use Rattle.tables.specs.Refusals.{refused_text}
use Rattle.tables.specs.Jobs.{Reply}
use Rattle.calls.specs.declared.data.DataAnswer.{DataAnswer}
use Rattle.calls.specs.declared.data.DataAnswer.TheVariants.{Total, Next, Edit}
use Rattle.calls.specs.declared.data.EditAnswer.{EditAnswer}
use Rattle.calls.specs.declared.data.EditAnswer.TheVariants.{Added, Already, Dropped, Absent, Changed, Taken}
use Rattle.calls.specs.declared.lock_answer.LockAnswer.{LockAnswer}
use Rattle.calls.specs.declared.lock_answer.LockAnswer.TheVariants.{Granted, Wait, Withdraw}
use Rattle.calls.specs.declared.transcript.Answer.{Answer}
use Rattle.calls.specs.declared.transcript.Answer.TheVariants.{Job, Lock, Turned, Released, Closed, Withdrawn, Data}

-- numbers with spaces between
abbrev pub two_numbers : ℕ → ℕ → List ℕ
two_numbers m n = decimal m ++ (32 ∷ decimal n)

abbrev pub lock_text : LockAnswer → List ℕ
lock_text (Granted n) = codes "granted " ++ decimal n
lock_text (Wait h) = codes "wait " ++ decimal h
lock_text (Withdraw h) = codes "withdraw " ++ decimal h

abbrev pub edit_text : EditAnswer → List ℕ
edit_text Added = codes "added"
edit_text Already = codes "already"
edit_text Dropped = codes "dropped"
edit_text Absent = codes "absent"
edit_text Changed = codes "changed"
edit_text Taken = codes "taken"

abbrev pub trip_text : Trip → List ℕ
trip_text t = decimal t.van ++ (32 ∷ (decimal t.day ++ (32 ∷ (decimal t.second ++ (32 ∷ (decimal t.cell ++ (32 ∷ decimal t.metres)))))))

abbrev pub next_text : Option Trip → List ℕ
next_text None = codes "none"
next_text (Some t) = codes "next " ++ trip_text t

abbrev pub data_text : DataAnswer Trip → List ℕ
data_text (Total n s) = codes "total " ++ two_numbers n s
data_text (Next r) = next_text r
data_text (Edit a) = edit_text a

abbrev pub answer_text : Answer Trip → List ℕ
answer_text (Job j) = codes "job " ++ decimal j
answer_text (Lock a) = lock_text a
answer_text (Turned n) = codes "turn " ++ decimal n
answer_text Released = codes "released"
answer_text (Closed n k) = codes "closed " ++ two_numbers n k
answer_text (Withdrawn k n) = codes "withdrawn " ++ two_numbers k n
answer_text (Data a) = data_text a

-- a refusal is printed with its number
abbrev pub reply_text : Reply (Answer Trip) → List ℕ
reply_text (Ok a) = answer_text a
reply_text (Err e) = refused_text e

-- the call's position in its transcript, and what it was answered
abbrev pub line_text : ℕ → Reply (Answer Trip) → List ℕ
line_text n r = decimal n ++ (32 ∷ reply_text r)
