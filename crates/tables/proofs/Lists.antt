-- Numbers that are the same or not, and searches through lists.
use Rattle.std.proofs.Common.{◌≡◌, ℕ, zero, suc, ◌+◌, ◌<◌, Bool, true, false, List, [], ◌∷◌, length, get_or, set, ◌≢◌, Some, None, find, position, sym, refl, ap, ◌∙◌, arith}
use Rattle.std.proofs.lemmas.Bool.{both_ways, eqb-true, eqb-false, eq-eqb, ne_eqb, false_from_ne_true, true_from_ne_false, or_parts, or_from, and_parts, and_from, cond-true, cond-false, cond_both}
use Rattle.std.proofs.lemmas.Option.{same_Some, none-some}
use Rattle.std.proofs.lemmas.List.Quantifiers.{position-Some}
use Rattle.std.proofs.lemmas.List.Recursion.{found_at}
use Rattle.std.proofs.lemmas.Iterator.Adapters.{position_from-zero}
use Rattle.std.specs.List.{list_any, list_all, position_from}
use Rattle.tables.specs.Lists.{is}
use Rattle.tables.specs.Places.{with_first}

pub not_true : (b : Bool) → (b ≡ true → ⊥) → b ≡ false
not_true = false_from_ne_true

pub both : {b : Bool} → b ≡ true → b ≡ false → ⊥
both {b} p q = both_ways b q p

pub is_self : (j : ℕ) → is j j ≡ true
unfolding is
is_self j = eq-eqb j j refl

pub is_means : (j k : ℕ) → is j k ≡ true → j ≡ k
unfolding is
is_means = eqb-true

pub is_other : (j k : ℕ) → j ≢ k → is j k ≡ false
unfolding is
is_other = ne_eqb

pub not_is : (j k : ℕ) → is j k ≡ false → j ≢ k
unfolding is
not_is = eqb-false

pub data Same (j k : ℕ) : Type 0 where
  same : j ≡ k → is j k ≡ true → Same j k
  other : j ≢ k → is j k ≡ false → Same j k

pub same? : (j k : ℕ) → Same j k
same? j k = (elim (is j k) as (λ b. is j k ≡ b → Same j k) [ true ↦ λ e. same (is_means j k e) e | false ↦ λ e. other (not_is j k e) e ]) refl

-- with another entry in place of the first that passes
module _ {A : Type 0} (p : A → Bool) (w : A) where
  pub length_with : (xs : List A) → length (with_first p xs w) ≡ length xs
  length_with [] = refl
  length_with (x ∷ xs) = cond_both (p x) (w ∷ xs) (x ∷ with_first p xs w) (λ ys. length ys ≡ length (x ∷ xs)) (λ _. refl) (λ _. ap suc (length_with xs))

  pub any_with : (q : A → Bool) (xs : List A) → q w ≡ false → list_any q xs ≡ false → list_any q (with_first p xs w) ≡ false
  any_with q [] h e = e
  any_with q (x ∷ xs) h e =
      let k = or_parts (q x) (list_any q xs) e in
      cond_both (p x) (w ∷ xs) (x ∷ with_first p xs w) (λ ys. list_any q ys ≡ false) (λ _. or_from (q w) (list_any q xs) h k.1) (λ _. or_from (q x) (list_any q (with_first p xs w)) k.0 (any_with q xs h k.1))

  pub all_with : (q : A → Bool) (xs : List A) → q w ≡ true → list_all q xs ≡ true → list_all q (with_first p xs w) ≡ true
  all_with q [] h e = e
  all_with q (x ∷ xs) h e =
      let k = and_parts (q x) (list_all q xs) e in
      cond_both (p x) (w ∷ xs) (x ∷ with_first p xs w) (λ ys. list_all q ys ≡ true) (λ _. and_from (q w) (list_all q xs) h k.1) (λ _. and_from (q x) (list_all q (with_first p xs w)) k.0 (all_with q xs h k.1))

  -- the entry that was there
  pub same_with : (xs : List A) → find p xs ≡ Some w → with_first p xs w ≡ xs
  same_with [] e = refl
  same_with (x ∷ xs) e =
      cond_both (p x) (w ∷ xs) (x ∷ with_first p xs w) (λ ys. ys ≡ x ∷ xs)
      (λ t. ap (λ y. y ∷ xs) (sym (same_Some x w (sym (cond-true (p x) (Some x) (find p xs) t) ∙ e))))
      (λ t. ap (λ ys. x ∷ ys) (same_with xs (sym (cond-false (p x) (Some x) (find p xs) t) ∙ e)))

-- the place that `position` gives
module _ {A : Type 0} (p : A → Bool) where
  -- none where none passes
  position_past : (i : ℕ) (xs : List A) → position_from p i xs ≡ None → list_any p xs ≡ false
  position_past i [] e = refl
  position_past i (x ∷ xs) e =
      cond_both (p x) (Some i) (position_from p (i + 1) xs) (λ o. o ≡ None → list_any p (x ∷ xs) ≡ false)
      (λ t q. absurd (none-some i (sym q))) (λ t q. or_from (p x) (list_any p xs) t (position_past (i + 1) xs q)) e

  pub none_at : (xs : List A) → position p xs ≡ None → list_any p xs ≡ false
  none_at xs e = position_past 0 xs (sym (position_from-zero p xs) ∙ e)

  pub find_none : (xs : List A) → list_any p xs ≡ false → find p xs ≡ None
  find_none [] e = refl
  find_none (x ∷ xs) e = let k = or_parts (p x) (list_any p xs) e in cond-false (p x) (Some x) (find p xs) k.0 ∙ find_none xs k.1

  pub any_none : (xs : List A) → find p xs ≡ None → list_any p xs ≡ false
  any_none [] e = refl
  any_none (x ∷ xs) e =
      cond_both (p x) (Some x) (find p xs) (λ o. o ≡ None → list_any p (x ∷ xs) ≡ false)
      (λ t q. absurd (none-some x (sym q))) (λ t q. or_from (p x) (list_any p xs) t (any_none xs q)) e

  pub any_some : (xs : List A) (w : A) → find p xs ≡ Some w → list_any p xs ≡ true
  any_some xs w e = true_from_ne_false (list_any p xs) (λ f. none-some w (sym (find_none xs f) ∙ e))

  pub found_passes : (xs : List A) (w : A) → find p xs ≡ Some w → p w ≡ true
  found_passes [] w e = absurd (none-some w e)
  found_passes (x ∷ xs) w e = cond_both (p x) (Some x) (find p xs) (λ o. o ≡ Some w → p w ≡ true) (λ t h. ap p (sym (same_Some x w h)) ∙ t) (λ _ h. found_passes xs w h) e

  -- what holds of each entry holds of the one found
  pub all_found : (q : A → Bool) (xs : List A) (w : A) → list_all q xs ≡ true → find p xs ≡ Some w → q w ≡ true
  all_found q [] w a e = absurd (none-some w e)
  all_found q (x ∷ xs) w a e =
      let k = and_parts (q x) (list_all q xs) a in
      cond_both (p x) (Some x) (find p xs) (λ o. o ≡ Some w → q w ≡ true) (λ _ h. ap q (sym (same_Some x w h)) ∙ k.0) (λ _ h. all_found q xs w k.1 h) e

  pub set_with : (xs : List A) (i : ℕ) (d w : A) → i < length xs → p (get_or xs i d) ≡ true → ((k : ℕ) → k < i → p (get_or xs k d) ≡ false) → set xs i w ≡ with_first p xs w
  set_with [] i d w l t f = absurd (omega arith)
  set_with (x ∷ xs) zero d w l t f = sym (cond-true (p x) (w ∷ xs) (x ∷ with_first p xs w) t)
  set_with (x ∷ xs) (suc i) d w l t f =
      ap (λ ys. x ∷ ys) (set_with xs i d w (omega arith) t (λ k h. f (suc k) (omega arith))) ∙ sym (cond-false (p x) (w ∷ xs) (x ∷ with_first p xs w) (f 0 (omega arith)))

  -- the entry there, and what a write there leaves
  pub first_at : (xs : List A) (i : ℕ) (d : A) → position p xs ≡ Some i → (find p xs ≡ Some (get_or xs i d)) × (set xs i ≡ with_first p xs)
  first_at xs i d e =
      let k = position-Some p xs i d e in
      (found_at (find p) p (λ x. Some x) None refl (λ _ _. refl) xs i d k.0 k.2 k.1, λ t w. set_with xs i d w k.0 k.1 k.2 t)
