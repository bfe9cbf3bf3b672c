-- The rows of a set from one of them on, and the first that passes a test.
use Rattle.std.proofs.Common.{◌≡◌, ℕ, Bool, true, List, [], ◌∷◌, Some, None, filter, Option, Ordering, Less, sym, refl, ap, ◌∙◌, ⊎_elim, arith}
use Rattle.std.specs.List.{find}
use Rattle.std.specs.Ordering.{is_lt}
use Rattle.std.specs.Option.{option_map}
use Rattle.std.proofs.lemmas.Bool.{cases_Bool}
use Rattle.std.proofs.lemmas.Iterator.Adapters.{option_map_id}
use Rattle.rows.specs.Orders.{Strict}
use Rattle.stores.specs.Sets.{below, ascends, first, after, beyond, next, rest, since}
use Rattle.stores.specs.Stores.{Sound}
use Rattle.stores.proofs.Sets.{below_less}

module _ {R : Type 0} where
  find_first : (p : R → Bool) (xs : List R) → find p xs ≡ first (filter p xs)
  find_first p [] = refl
  find_first p (x ∷ xs) = let ih = find_first p xs in grind arith

  filter_swap : (p q : R → Bool) (xs : List R) → filter p (filter q xs) ≡ filter q (filter p xs)
  filter_swap p q [] = refl
  filter_swap p q (x ∷ xs) = let ih = filter_swap p q xs in grind arith

module _ {R : Type 0} (order : R → R → Ordering) (p : R → Bool) where
  rest_kept : (given : Option R) (xs : List R) → filter p (rest order given xs) ≡ rest order given (filter p xs)
  rest_kept None xs = refl
  rest_kept (Some r) xs = filter_swap p _ xs

  -- the first of the greater rows that passes is the least of those that pass and are greater
  pub next_found : (given : Option R) (xs : List R) {found : Option R} → option_map (λ x. x) found ≡ find p (rest order given xs) → found ≡ next order p given xs
  next_found given xs {found} e = sym (option_map_id found) ∙ e ∙ find_first p (rest order given xs) ∙ ap first (rest_kept given xs)

module _ {R : Type 0} {order : R → R → Ordering} (o : Strict order) where
  -- of rows that are all greater than r, all are greater
  rest_below : (r : R) (xs : List R) → below order r xs ≡ true → rest order (Some r) xs ≡ xs
  rest_below r [] h = refl
  rest_below r (x ∷ xs) h = let ih = rest_below r xs in grind arith

  since_first : (xs : List R) → ascends order xs ≡ true → since order (first xs) xs ≡ xs
  since_first [] a = refl
  since_first (x ∷ xs) a = let i = o.itself x in let k = rest_below x xs in grind arith

  -- what is less than all rows is less than the next greater row, so a walk from there on does not come to it
  after_above : (x r y : R) (xs : List R) → below order x xs ≡ true → after order r xs ≡ Some y → order x y ≡ Less
  after_above x r y [] h e = cc
  after_above x r y (z ∷ xs) h e = let ih = after_above x r y xs in grind arith

  since_skip : (x r : R) (xs : List R) (at : Option R) → below order x xs ≡ true → after order r xs ≡ at → since order at (x ∷ xs) ≡ since order at xs
  since_skip x r xs None h e = refl
  since_skip x r xs (Some y) h e = let l = after_above x r y xs in let w = o.swapped x y in grind arith

  -- from the least row that is greater than r on there are all that are greater
  since_above : (r : R) (xs : List R) → ascends order xs ≡ true → since order (after order r xs) xs ≡ rest order (Some r) xs
  since_above r [] a = refl
  since_above r (x ∷ xs) a =
      ⊎_elim
      (λ l. let k = below_less o r x xs in rw l (since_first (x ∷ xs) a ∙ ap (λ ys. x ∷ ys) (sym (rest_below r xs (grind arith)))))
      (λ l. rw l (since_skip x r xs _ (grind arith) refl ∙ since_above r xs (grind arith)))
      (cases_Bool (is_lt (order r x)))

  module _ {rows : List R} {places : ℕ} (sound : Sound order rows places) where
    -- a walk goes on to the least row, or to the least that is greater than the given one
    pub from_least : (given : Option R) → since order (beyond order given rows) rows ≡ rest order given rows
    from_least None = since_first rows sound.up
    from_least (Some r) = since_above r rows sound.up

    -- the greater ones are left
    pub step : (given : Option R) {found : Option R} {r : R} → found ≡ beyond order given rows → found ≡ Some r → rest order given rows ≡ r ∷ rest order (Some r) rows
    step given e d = sym (from_least given) ∙ ap (λ f. since order f rows) (sym e ∙ d)
