-- Sets of rows: a set is the list of its rows in strictly ascending order.
use Rattle.std.specs.Prelude.{Bool, true, false, ◌&&◌, ◌||◌, List, [], ◌∷◌, Some, None, filter, Option}
use Rattle.std.specs.declared.cmp.Ordering.TheVariants.{Less, Equal, Greater}
use Rattle.std.specs.declared.cmp.Ordering.{Ordering}
use Rattle.std.specs.Ordering.{is_eq, is_lt}

-- the first, the second or the third, by how two rows compare
abbrev pub by : {A : Type 0} → Ordering → A → A → A → A
by Less a b c = a
by Equal a b c = b
by Greater a b c = c

-- the least row of a set
abbrev pub first : {R : Type 0} → List R → Option R
first [] = None
first (x ∷ xs) = Some x

module _ {R : Type 0} (order : R → R → Ordering) where
  -- r is less than every row of the list
  abbrev pub below : R → List R → Bool
  below r [] = true
  below r (x ∷ xs) = is_lt (order r x) && below r xs

  abbrev pub ascends : List R → Bool
  ascends [] = true
  ascends (x ∷ xs) = below x xs && ascends xs

  -- r is one of the rows
  abbrev pub member : R → List R → Bool
  member r [] = false
  member r (x ∷ xs) = is_eq (order r x) || member r xs

  -- the set with r
  abbrev pub insert : R → List R → List R
  insert r [] = r ∷ []
  insert r (x ∷ xs) = by (order r x) (r ∷ x ∷ xs) (x ∷ xs) (x ∷ insert r xs)

  -- the set without r
  abbrev pub delete : R → List R → List R
  delete r [] = []
  delete r (x ∷ xs) = by (order r x) (x ∷ xs) xs (x ∷ delete r xs)

  -- the rows that are greater than the given one, if one is given
  abbrev pub rest : Option R → List R → List R
  rest None xs = xs
  rest (Some r) xs = filter (λ x. is_lt (order r x)) xs

  -- the least of them
  abbrev pub beyond : Option R → List R → Option R
  beyond given xs = first (rest given xs)

  -- the least row that is greater than r
  abbrev pub after : R → List R → Option R
  after r xs = beyond (Some r) xs

  -- the given row, if one is given, and those that are greater
  abbrev pub since : Option R → List R → List R
  since None xs = []
  since (Some r) xs = r ∷ rest (Some r) xs

  -- the least row that passes the test and is greater than the given one, if one is given
  abbrev pub next : (R → Bool) → Option R → List R → Option R
  next test given xs = beyond given (filter test xs)
