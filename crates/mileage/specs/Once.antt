-- Each row of a list once.
use Rattle.std.specs.Prelude.{◌≢◌, Bool, cond, List, [], ◌∷◌, ◌++◌, fold, Contains, AllPairs}
use Rattle.std.specs.List.{list_any}
use Rattle.std.specs.declared.cmp.Ordering.{Ordering}
use Rattle.std.specs.Ordering.{is_eq}

-- ys has the rows of xs, each once
pub record EachOnce {R : Type 0} (xs ys : List R) : Type 0 where
  pub all : (x : R) → Contains xs x → Contains ys x
  pub only : (x : R) → Contains ys x → Contains xs x
  pub distinct : AllPairs (λ x y. x ≢ y) ys

module _ {R : Type 0} (order : R → R → Ordering) where
  -- x is one of the rows, by the order
  abbrev pub among : R → List R → Bool
  among x ys = list_any (λ y. is_eq (order y x)) ys

  -- the rows seen so far, with x at the end if it is none of them
  abbrev pub seen_with : List R → R → List R
  seen_with seen x = cond (among x seen) seen (seen ++ x ∷ [])

  -- each row once, in the order in which they first come
  abbrev pub gathered : List R → List R
  gathered xs = fold seen_with [] xs
