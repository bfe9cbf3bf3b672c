-- Class, then age: the asker's class is smaller, or it is equal and the asker's number is smaller.
use Rattle.std.specs.Prelude.{ℕ, ◌+◌, ◌*◌, Bool, ◌&&◌, ◌||◌, ◌==◌, nat_lt}

abbrev pub greater_class : ℕ → ℕ → ℕ → ℕ → Bool
greater_class asker_class asker holder_class holder = nat_lt asker_class holder_class || (asker_class == holder_class && nat_lt asker holder)

-- all numbers of a class come before those of the next
abbrev pub by_class : ℕ → ℕ → ℕ
by_class class number = 4294967296 * class + number
