-- The numbers of the refusals, in which the checks of a call run.
use Rattle.std.specs.Prelude.{ℕ, List, ◌++◌, codes, decimal}
use Rattle.tables.specs.declared.refusal.Refusal.{Refusal}
use Rattle.tables.specs.declared.refusal.Refusal.TheVariants.{WrongBook, BadRow, BadPredicate, BadClass, NoSuchJob, HasTurned, NotTurned, NotYourLock, NotCovered, NoPlace, NumbersSpent, BookFull, NotesFull, StoreFull}

abbrev pub refusal_number : Refusal → ℕ
refusal_number WrongBook = 1
refusal_number BadRow = 2
refusal_number BadPredicate = 3
refusal_number BadClass = 4
refusal_number NoSuchJob = 5
refusal_number HasTurned = 6
refusal_number NotTurned = 7
refusal_number NotYourLock = 8
refusal_number NotCovered = 9
refusal_number NoPlace = 10
refusal_number NumbersSpent = 11
refusal_number BookFull = 12
refusal_number NotesFull = 13
refusal_number StoreFull = 14

-- a refusal as it is printed
abbrev pub refused_text : Refusal → List ℕ
refused_text e = codes "refused " ++ decimal (refusal_number e)
