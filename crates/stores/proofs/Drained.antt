-- What a total says of an iterator whose list is known.
use Rattle.std.proofs.Common.{◌≡◌, ℕ, Bool, List, length, sum_by, filter, Option, sym, ap, ◌∙◌}
use Rattle.std.specs.Iterator.{Drains}
use Rattle.std.proofs.lemmas.List.{map-id}
use Rattle.std.proofs.lemmas.Iterator.{YieldsList, items_from_drains}

module _ {S A : Type 0} {steps : S → Option A → S → Type 0} {s : S} {all : List A} where
  drained : (xs : List A) → Drains steps s xs → YieldsList steps (λ x. x) s all → xs ≡ all
  drained xs d e = sym (map-id xs) ∙ items_from_drains xs (d.1.0, d.1.1, λ _. (d.0, d.1.2)) e

  pub totalled : (p : A → Bool) (f : A → ℕ) {n m : ℕ} (t : (xs : List A) × Drains steps s xs × (n ≡ length (filter p xs)) × (m ≡ sum_by f (filter p xs))) → YieldsList steps (λ x. x) s all
      → (n ≡ length (filter p all)) × (m ≡ sum_by f (filter p all))
  totalled p f t e =
      let same = drained t.0 t.1 e in
      (t.2 ∙ ap (λ xs. length (filter p xs)) same, t.3 ∙ ap (λ xs. sum_by f (filter p xs)) same)
