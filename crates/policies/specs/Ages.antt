-- Age: the asker's number is smaller.
use Rattle.std.specs.Prelude.{ℕ, Bool, nat_lt}

abbrev pub younger : ℕ → ℕ → ℕ → ℕ → Bool
younger asker_class asker holder_class holder = nat_lt asker holder

abbrev pub by_number : ℕ → ℕ → ℕ
by_number class number = number
