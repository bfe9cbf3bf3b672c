-- The laws of sets of rows: two ascending lists with the same rows are one list, so a set is known by which rows it has.
use Rattle.std.proofs.Common.{◌≡◌, suc, Bool, true, false, not, ◌&&◌, ◌||◌, List, [], ◌∷◌, length, filter, Ordering, Less, refl, ap, arith}
use Rattle.std.specs.Ordering.{is_eq, is_lt}
use Rattle.rows.specs.Orders.{Strict}
use Rattle.stores.specs.Sets.{below, ascends, member, insert, delete}

module _ {R : Type 0} {order : R → R → Ordering} (o : Strict order) where
  pub equal_self : (r : R) → is_eq (order r r) ≡ true
  equal_self r = ap is_eq (o.itself r)

  pub equal_means : (r s : R) → is_eq (order r s) ≡ true → r ≡ s
  equal_means r s e = let same = o.same r s in grind arith

  -- what is less than a row is less than all that the row is less than
  pub below_less : (r s : R) (xs : List R) → order r s ≡ Less → below order s xs ≡ true → below order r xs ≡ true
  below_less r s [] l h = refl
  below_less r s (x ∷ xs) l h = let ih = below_less r s xs l in let t = o.transitive r s x l in grind arith

  pub below_absent : (r : R) (xs : List R) → below order r xs ≡ true → member order r xs ≡ false
  below_absent r [] h = refl
  below_absent r (x ∷ xs) h = let ih = below_absent r xs in grind arith

  -- a row that is less than the first of an ascending list is none of its rows
  pub less_absent : (r x : R) (xs : List R) → order r x ≡ Less → ascends order (x ∷ xs) ≡ true → member order r (x ∷ xs) ≡ false
  less_absent r x xs l a = let k = below_less r x xs l in let n = below_absent r xs in grind arith

  pub member_head : (x : R) (xs : List R) → member order x (x ∷ xs) ≡ true
  member_head x xs = let s = o.itself x in grind arith

  -- which rows a set has after a change
  pub member_insert : (q r : R) (xs : List R) → member order q (insert order r xs) ≡ (is_eq (order q r) || member order q xs)
  member_insert q r [] = refl
  member_insert q r (x ∷ xs) = let ih = member_insert q r xs in let s = o.same r x in grind arith

  pub member_delete : (q r : R) (xs : List R) → ascends order xs ≡ true → member order q (delete order r xs) ≡ (not (is_eq (order q r)) && member order q xs)
  member_delete q r [] a = grind arith
  member_delete q r (x ∷ xs) a =
      let ih = member_delete q r xs in
      let s = o.same r x in
      let e = equal_means q r in
      let f = equal_means q x in
      let w = o.swapped r x in
      let n = less_absent r x xs in
      let m = below_absent x xs in
      grind arith

  -- a change leaves the rows ascending
  below_insert : (q r : R) (xs : List R) → below order q (insert order r xs) ≡ (is_lt (order q r) && below order q xs)
  below_insert q r [] = refl
  below_insert q r (x ∷ xs) = let ih = below_insert q r xs in let s = o.same r x in grind arith

  below_delete : (q r : R) (xs : List R) → below order q xs ≡ true → below order q (delete order r xs) ≡ true
  below_delete q r [] h = refl
  below_delete q r (x ∷ xs) h = let ih = below_delete q r xs in grind arith

  pub ascends_insert : (r : R) (xs : List R) → ascends order xs ≡ true → ascends order (insert order r xs) ≡ true
  ascends_insert r [] a = refl
  ascends_insert r (x ∷ xs) a =
      let ih = ascends_insert r xs in
      let w = o.swapped r x in
      let k = below_less r x xs in
      let l = below_insert x r xs in
      grind arith

  pub ascends_delete : (r : R) (xs : List R) → ascends order xs ≡ true → ascends order (delete order r xs) ≡ true
  ascends_delete r [] a = refl
  ascends_delete r (x ∷ xs) a = let ih = ascends_delete r xs in let l = below_delete x r xs in grind arith

  same_tails : (x : R) (xs ys : List R) → below order x xs ≡ true → below order x ys ≡ true → (q : R) → member order q (x ∷ xs) ≡ member order q (x ∷ ys) → member order q xs ≡ member order q ys
  same_tails x xs ys a b q h = let e = equal_means q x in let k = below_absent x xs a in let l = below_absent x ys b in grind arith

  -- two ascending lists with the same rows are one list
  pub same_rows : (xs ys : List R) → ascends order xs ≡ true → ascends order ys ≡ true → ((q : R) → member order q xs ≡ member order q ys) → xs ≡ ys
  same_rows [] [] a b h = refl
  same_rows [] (y ∷ ys) a b h = let m = member_head y ys in let k = h y in grind arith
  same_rows (x ∷ xs) [] a b h = let m = member_head x xs in let k = h x in grind arith
  same_rows (x ∷ xs) (y ∷ ys) a b h =
      let w = o.swapped x y in
      let e = o.same x y in
      let k = less_absent x y ys in
      let l = less_absent y x xs in
      let m = member_head x xs in
      let n = member_head y ys in
      let first : x ≡ y = let u = h x in let v = h y in grind arith in
      let others : xs ≡ ys = same_rows xs ys (grind arith) (grind arith) (λ q. same_tails x xs ys (grind arith) (grind arith) q (let t = h q in grind arith)) in
      cc

  -- taking out a row that is not there changes nothing
  pub delete_absent : (r : R) (xs : List R) → member order r xs ≡ false → ascends order xs ≡ true → delete order r xs ≡ xs
  delete_absent r [] n a = refl
  delete_absent r (x ∷ xs) n a = let ih = delete_absent r xs in grind arith

  -- what is put in and taken out again leaves the set as it was, and the other way round
  pub delete_inserted : (r : R) (xs : List R) → member order r xs ≡ false → ascends order xs ≡ true → delete order r (insert order r xs) ≡ xs
  delete_inserted r [] n a = let s = o.itself r in grind arith
  delete_inserted r (x ∷ xs) n a = let ih = delete_inserted r xs in let s = o.itself r in grind arith

  pub insert_deleted : (r : R) (xs : List R) → member order r xs ≡ true → ascends order xs ≡ true → insert order r (delete order r xs) ≡ xs
  insert_deleted r xs n a =
      same_rows _ _ (ascends_insert r _ (ascends_delete r xs a)) a
      (λ q. let k = member_insert q r (delete order r xs) in let l = member_delete q r xs a in let e = equal_means q r in grind arith)

  -- one row more, and one row less
  pub size_insert : (r : R) (xs : List R) → member order r xs ≡ false → length (insert order r xs) ≡ suc (length xs)
  size_insert r [] n = refl
  size_insert r (x ∷ xs) n = let ih = size_insert r xs in grind arith

  pub size_delete : (r : R) (xs : List R) → member order r xs ≡ true → ascends order xs ≡ true → suc (length (delete order r xs)) ≡ length xs
  size_delete r [] m a = grind arith
  size_delete r (x ∷ xs) m a = let ih = size_delete r xs in let k = less_absent r x xs in grind arith

  -- the rows that pass a test are a set too
  pub member_kept : (p : R → Bool) (q : R) (xs : List R) → member order q (filter p xs) ≡ (p q && member order q xs)
  member_kept p q [] = grind arith
  member_kept p q (x ∷ xs) = let ih = member_kept p q xs in let s = equal_means q x in grind arith

  below_kept : (p : R → Bool) (r : R) (xs : List R) → below order r xs ≡ true → below order r (filter p xs) ≡ true
  below_kept p r [] h = refl
  below_kept p r (x ∷ xs) h = let ih = below_kept p r xs in grind arith

  pub ascends_kept : (p : R → Bool) (xs : List R) → ascends order xs ≡ true → ascends order (filter p xs) ≡ true
  ascends_kept p [] a = refl
  ascends_kept p (x ∷ xs) a = let ih = ascends_kept p xs in let k = below_kept p x xs in grind arith

  -- two sets that agree on the rows that pass keep the same rows
  pub kept_agrees : (p : R → Bool) (xs ys : List R) → ascends order xs ≡ true → ascends order ys ≡ true → ((q : R) → p q ≡ true → member order q xs ≡ member order q ys) → filter p xs ≡ filter p ys
  kept_agrees p xs ys a b h =
      same_rows _ _ (ascends_kept p xs a) (ascends_kept p ys b)
      (λ q. let k = h q in let l = member_kept p q xs in let m = member_kept p q ys in grind arith)
