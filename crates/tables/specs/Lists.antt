-- Lists: membership, and what is kept of them.
use Rattle.std.specs.Prelude.{◌≡◌, ℕ, Bool, ◌⊎◌, List, [], ◌∷◌, ◌==◌, filter}
use Rattle.std.specs.List.{list_any}

-- the two numbers are the same
unfoldable pub is : ℕ → ℕ → Bool
is j k = j == k

module _ {A : Type 0} where
  -- a stands in the list
  abbrev pub In : A → List A → Type 0
  In a [] = ⊥
  In a (x ∷ xs) = (a ≡ x) ⊎ In a xs

  -- the entries that pass the test, in their order
  abbrev pub keep : (A → Bool) → List A → List A
  keep p xs = filter p xs

  -- some entry passes the test
  abbrev pub some_of : (A → Bool) → List A → Bool
  some_of p xs = list_any p xs
