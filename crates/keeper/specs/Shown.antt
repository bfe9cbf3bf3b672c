-- Answers of lock calls as they are printed: each with its word and its numbers.
use Rattle.std.specs.Prelude.{ℕ, List, ◌++◌, codes, decimal}
use Rattle.calls.specs.Shown.{lock_text, two_numbers}
use Rattle.keeper.specs.declared.transcript.Answer.{Answer}
use Rattle.keeper.specs.declared.transcript.Answer.TheVariants.{Job, Lock, Turned, Released, Closed}

abbrev pub answer_text : Answer → List ℕ
answer_text (Job j) = codes "job " ++ decimal j
answer_text (Lock a) = lock_text a
answer_text (Turned n) = codes "turn " ++ decimal n
answer_text Released = codes "released"
answer_text (Closed n k) = codes "closed " ++ two_numbers n k
