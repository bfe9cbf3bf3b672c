-- What keeps the table of open jobs in order.
use Rattle.std.specs.Prelude.{ℕ, ◌+◌, Bool, true, not, ◌&&◌, List, [], ◌∷◌, Some, None, Option, nat_lt}
use Rattle.std.specs.List.{list_all}
use Rattle.tables.specs.declared.ledger.JobRecord.{JobRecord}
use Rattle.tables.specs.Lists.{some_of}
use Rattle.tables.specs.Jobs.{has_job}

-- the number at a place stands at none of the others
abbrev pub is_alone : Option JobRecord → List (Option JobRecord) → Bool
is_alone None ss = true
is_alone (Some b) ss = not (some_of (has_job b.number) ss)

-- no number stands twice
abbrev pub unique : List (Option JobRecord) → Bool
unique [] = true
unique (o ∷ ss) = is_alone o ss && unique ss

-- the number at a place, if one stands there, is less
abbrev pub is_below : ℕ → Option JobRecord → Bool
is_below n None = true
is_below n (Some b) = nat_lt b.number n

-- every number is less
abbrev pub all_below : ℕ → List (Option JobRecord) → Bool
all_below n ss = list_all (is_below n) ss

-- how many open jobs have not turned
abbrev pub asking_one : Option ℕ → ℕ
asking_one None = 1
asking_one (Some t) = 0

abbrev pub asking_slot : Option JobRecord → ℕ
asking_slot None = 0
asking_slot (Some b) = asking_one b.turn

abbrev pub asking : List (Option JobRecord) → ℕ
asking [] = 0
asking (s ∷ ss) = asking_slot s + asking ss
