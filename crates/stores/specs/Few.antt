-- A walk over a store's rows goes over few rows.
use Rattle.std.specs.Prelude.{ℕ, ◌≤◌, Bool, List, [], ◌∷◌, length, filter, Some, None, Option}
use Rattle.std.specs.declared.cmp.Ordering.{Ordering}
use Rattle.std.proofs.Common.{arith}
use Rattle.std.specs.Ordering.{is_lt}
use Rattle.stores.specs.Sets.{rest, since}
use Rattle.stores.specs.Stores.{Sound}

-- what passes a test is no more than the whole
filter_less : {A : Type 0} (p : A → Bool) (xs : List A) → length (filter p xs) ≤ length xs
filter_less p [] = omega arith
filter_less p (x ∷ xs) = let less = filter_less p xs in grind arith

-- the rows of the store that are greater than the given one, if one is given
pub rest_few : {R : Type 0} {order : R → R → Ordering} (given : Option R) {rows : List R} {places : ℕ} → Sound order rows places → length (rest order given rows) ≤ 65536
rest_few None sound = let few = sound.few in let limit = sound.limit in omega arith
rest_few {R} {order} (Some r) {rows} sound = let less = filter_less (λ x. is_lt (order r x)) rows in let few = sound.few in let limit = sound.limit in omega arith

-- a row, if there is one, and those of the store that are greater
pub since_few : {R : Type 0} {order : R → R → Ordering} (at : Option R) {rows : List R} {places : ℕ} → Sound order rows places → length (since order at rows) ≤ 65536
since_few None sound = omega arith
since_few {R} {order} (Some r) {rows} sound = let less = filter_less (λ x. is_lt (order r x)) rows in let few = sound.few in let limit = sound.limit in omega arith
