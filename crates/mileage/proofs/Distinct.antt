-- Gathering keeps each row, and keeps it once.
use Rattle.std.proofs.Common.{◌≡◌, ◌≢◌, Bool, true, false, cond, List, [], ◌∷◌, ◌++◌, Ordering, sym, refl, ap, ◌∙◌, subst, ⊎_elim, arith, append_assoc, append-nil}
use Rattle.std.specs.List.{Contains, fold}
use Rattle.std.specs.Ordering.{is_eq}
use Rattle.std.proofs.lemmas.Bool.{both_ways}
use Rattle.std.proofs.lemmas.List.Elements.{Contains-append_left, Contains-push, Contains-push_cases}
use Rattle.std.proofs.lemmas.List.Quantifiers.{all_pairs_push}
use Rattle.std.proofs.lemmas.List.Folds.{list_any_at}
use Rattle.std.proofs.lemmas.Map.Views.{Contains-from_any}
use Rattle.rows.specs.Orders.{Strict}
use Rattle.stores.proofs.Sets.{equal_self, equal_means}
use Rattle.mileage.specs.Once.{EachOnce, among, gathered, seen_with}

module _ {R : Type 0} {order : R → R → Ordering} (laws : Strict order) where
  among_contained : (x : R) (ys : List R) → among order x ys ≡ true → Contains ys x
  among_contained x ys = Contains-from_any {eq = λ x y. is_eq (order y x)} (λ x y e. sym (equal_means laws y x e)) x ys

  -- one row more, by whether it was seen
  once_more : (xs ys : List R) (x : R) (b : Bool) → among order x ys ≡ b → EachOnce xs ys → EachOnce (xs ++ x ∷ []) (cond b ys (ys ++ x ∷ []))
  once_more xs ys x true e o = record {
    all = λ z h. ⊎_elim (o.all z) (λ s. subst (Contains ys) s (among_contained x ys e)) (Contains-push_cases xs x z h);
    only = λ z h. Contains-append_left xs (x ∷ []) z (o.only z h);
    distinct = o.distinct;
  }
  once_more xs ys x false e o = record {
    all = λ z h. ⊎_elim (λ k. Contains-append_left ys (x ∷ []) z (o.all z k)) (λ s. subst (Contains (ys ++ x ∷ [])) s (Contains-push ys x)) (Contains-push_cases xs x z h);
    only = λ z h. ⊎_elim (λ k. Contains-append_left xs (x ∷ []) z (o.only z k)) (λ s. subst (Contains (xs ++ x ∷ [])) s (Contains-push xs x)) (Contains-push_cases ys x z h);
    distinct = all_pairs_push (λ x y. x ≢ y) ys x o.distinct (λ k d lt s. both_ways _ e (list_any_at _ ys k d lt (ap (λ z. is_eq (order z x)) s ∙ equal_self laws x)));
  }

  -- the rows that were seen, and those that come
  once_on : (more xs ys : List R) → EachOnce xs ys → EachOnce (xs ++ more) (fold (seen_with order) ys more)
  once_on [] xs ys o = rw append-nil o
  once_on (x ∷ more) xs ys o = rw (← append_assoc xs (x ∷ []) more) (once_on more _ _ (once_more xs ys x _ refl o))

  pub gathered_once : (xs : List R) → EachOnce xs (gathered order xs)
  gathered_once xs = once_on xs [] [] (record { all = λ x h. h; only = λ x h. h; distinct = λ i j d l m. absurd (omega arith) })
