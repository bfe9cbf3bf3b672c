-- Lists: membership, pairs, what is kept, and the order of jobs.
use Rattle.std.proofs.Common.{◌≡◌, ℕ, suc, ◌<◌, Bool, true, false, not, ◌&&◌, ◌≢◌, ◌⊎◌, List, [], ◌∷◌, ◌++◌, map, length, refl, ◌∙◌, inl, inr, append-nil, arith, rules}
use Rattle.std.proofs.lemmas.Bool.{and_parts, cases_Bool, cond_both}
use Rattle.std.proofs.lemmas.Grind.{common_steps}
use Rattle.tables.specs.Lists.{is, In, keep, some_of}
use Rattle.tables.proofs.Lists.{is_self, is_means, is_other}
use Rattle.calls.specs.Orders.{Pairs, flat, among, add_new, Place}

pub and_true : (a b : Bool) → (a && b) ≡ true → (a ≡ true) × (b ≡ true)
and_true = and_parts

-- j stands in the list, and k does not stand before it
abbrev pub Ahead : ℕ → ℕ → List ℕ → Type 0
Ahead j k [] = ⊥
Ahead j k (t ∷ ts) = (t ≡ j) ⊎ ((t ≢ k) × Ahead j k ts)

module _ {A : Type 0} where
  pub in_left : (a : A) (xs ys : List A) → In a xs → In a (xs ++ ys)
  in_left a [] ys m = absurd m
  in_left a (x ∷ xs) ys m = let ih = in_left a xs ys in grind arith

  pub in_right : (a : A) (xs ys : List A) → In a ys → In a (xs ++ ys)
  in_right a [] ys m = m
  in_right a (x ∷ xs) ys m = inr (in_right a xs ys m)

  pub in_split : (a : A) (xs ys : List A) → In a (xs ++ ys) → In a xs ⊎ In a ys
  in_split a [] ys m = inr m
  in_split a (x ∷ xs) ys m = let ih = in_split a xs ys in grind arith

  -- at the end of the list, or before
  pub in_end : (a : A) (xs : List A) (y : A) → In a (xs ++ (y ∷ [])) → In a xs ⊎ (a ≡ y)
  in_end a xs y m = let s = in_split a xs (y ∷ []) m in grind arith

  pub at_end : (Q : A → Type 0) (xs : List A) (y : A) → ((a : A) → In a xs → Q a) → Q y → (a : A) → In a (xs ++ (y ∷ [])) → Q a
  at_end Q xs y f h a m = elim (in_end a xs y m) [ inl i ↦ f a i | inr e ↦ rw e h ]

  pub last_in : (xs : List A) (y : A) → In y (xs ++ (y ∷ []))
  last_in xs y = in_right y xs (y ∷ []) (inl refl)

  pub keep_in : (a : A) (p : A → Bool) (xs : List A) → In a (keep p xs) → In a xs × (p a ≡ true)
  keep_in a p [] m = absurd m
  keep_in a p (x ∷ xs) m = let ih = keep_in a p xs in grind arith

  pub in_keep : (a : A) (p : A → Bool) (xs : List A) → In a xs → p a ≡ true → In a (keep p xs)
  in_keep a p [] m h = absurd m
  in_keep a p (x ∷ xs) m h = let ih = in_keep a p xs in grind arith

  -- first p and then q, where r is both
  pub keep_keep : (p q r : A → Bool) (xs : List A) → ((x : A) → r x ≡ (p x && q x)) → keep q (keep p xs) ≡ keep r xs
  keep_keep p q r [] h = refl
  keep_keep p q r (x ∷ xs) h = let ih = keep_keep p q r xs h in let k = h x in grind arith

  pub some_of_in : (p : A → Bool) (xs : List A) → some_of p xs ≡ true → (x : A) × In x xs × (p x ≡ true)
  some_of_in p [] e = absurd (grind arith)
  some_of_in p (x ∷ xs) e = let ih = some_of_in p xs in grind arith

  -- pairs of kept entries, of a longer list, and of another relation
  pub pairs_keep : (p : A → Bool) (R : A → A → Type 0) (xs : List A) → Pairs R xs → Pairs R (keep p xs)
  pairs_keep p R [] h = tt
  pairs_keep p R (x ∷ xs) h = let ih = pairs_keep p R xs h.1 in search (rules, ih, keep_in)

  pub pairs_map : (R S : A → A → Type 0) (xs : List A) → ((x y : A) → In x xs → In y xs → R x y → S x y) → Pairs R xs → Pairs S xs
  pairs_map R S [] f h = tt
  pairs_map R S (x ∷ xs) f h = let ih = pairs_map R S xs in search (rules, ih, f)

  pub pairs_append : (R : A → A → Type 0) (xs ys : List A) → Pairs R xs → Pairs R ys → ((x y : A) → In x xs → In y ys → R x y) → Pairs R (xs ++ ys)
  pairs_append R [] ys h k f = k
  pairs_append R (x ∷ xs) ys h k f =
      let ih = pairs_append R xs ys h.1 k in
      let s : (y : A) → In y (xs ++ ys) → In y xs ⊎ In y ys = λ y m. in_split y xs ys m in
      search (rules, ih, s, f)

  pub pairs_end : (R : A → A → Type 0) (xs : List A) (y : A) → Pairs R xs → ((x : A) → In x xs → R x y) → Pairs R (xs ++ (y ∷ []))
  pairs_end R xs y h f = pairs_append R xs (y ∷ []) h ((λ z m. absurd m), tt) (λ x z m n. let k = f x m in search (rules, n, k))

  pub pairs_last : (R : A → A → Type 0) (xs : List A) (y : A) → Pairs R (xs ++ (y ∷ [])) → (x : A) → In x xs → R x y
  pairs_last R [] y h x m = absurd m
  pairs_last R (z ∷ xs) y h x m = let ih = pairs_last R xs y h.1 x in let l = last_in xs y in search (rules, ih, l)

  -- entries by the number that f gives them: those of others than j, and those of k
  pub others_in : (f : A → ℕ) (j : ℕ) (xs : List A) (a : A) → In a (keep (λ a. not (is j (f a))) xs) → In a xs × (j ≢ f a)
  others_in f j xs a m = let k = keep_in a (λ (a : A). not (is j (f a))) xs m in let s = is_self j in grind arith

  pub in_others : (f : A → ℕ) (j : ℕ) (xs : List A) (a : A) → In a xs → j ≢ f a → In a (keep (λ a. not (is j (f a))) xs)
  in_others f j xs a m n = in_keep a (λ (a : A). not (is j (f a))) xs m (rw (is_other j (f a) n))

  pub keep_others : (f : A → ℕ) (j k : ℕ) (xs : List A) → j ≢ k → keep (λ a. is k (f a)) (keep (λ a. not (is j (f a))) xs) ≡ keep (λ a. is k (f a)) xs
  keep_others f j k xs n =
      keep_keep _ _ (λ (a : A). is k (f a)) xs (λ a. let p = is_means j (f a) in let q = is_means k (f a) in grind arith)

  pub keep_none : (f : A → ℕ) (j : ℕ) (xs : List A) → keep (λ a. is j (f a)) (keep (λ a. not (is j (f a))) xs) ≡ []
  keep_none f j [] = refl
  keep_none f j (x ∷ xs) = let ih = keep_none f j xs in grind arith

module _ {A B : Type 0} where
  pub flat_append : (f : A → List B) (xs ys : List A) → flat f (xs ++ ys) ≡ flat f xs ++ flat f ys
  flat_append f [] ys = refl
  flat_append f (x ∷ xs) ys = let ih = flat_append f xs ys in grind (arith, common_steps)

  pub flat_same : (f g : A → List B) (xs : List A) → ((x : A) → In x xs → f x ≡ g x) → flat f xs ≡ flat g xs
  flat_same f g [] h = refl
  flat_same f g (x ∷ xs) h = rw (h x (inl refl), flat_same f g xs (λ y m. h y (inr m)))

  pub in_flat : (a : A) (b : B) (f : A → List B) (xs : List A) → In a xs → In b (f a) → In b (flat f xs)
  in_flat a b f [] m n = absurd m
  in_flat a b f (x ∷ xs) m n = let ih = in_flat a b f xs in let l = in_left b (f x) (flat f xs) in let r = in_right b (f x) (flat f xs) in grind arith

  -- one entry more
  pub flat_idle : (f : A → List B) (xs : List A) (x : A) → f x ≡ [] → flat f (xs ++ (x ∷ [])) ≡ flat f xs
  flat_idle f xs x e = flat_append f xs (x ∷ []) ∙ rw e (append-nil (flat f xs))

  pub flat_end : (f : A → List B) (xs : List A) (x : A) (y : B) → f x ≡ y ∷ [] → flat f (xs ++ (x ∷ [])) ≡ flat f xs ++ (y ∷ [])
  flat_end f xs x y e = flat_append f xs (x ∷ []) ∙ rw e

  pub map_in : (f : A → B) (a : A) (xs : List A) → In a xs → In (f a) (map f xs)
  map_in f a [] m = absurd m
  map_in f a (x ∷ xs) m = let ih = map_in f a xs in grind arith

  in_map : (f : A → B) (b : B) (xs : List A) → In b (map f xs) → (a : A) × In a xs × (b ≡ f a)
  in_map f b [] m = absurd m
  in_map f b (x ∷ xs) m = let ih = in_map f b xs in grind arith

  pub map_pairs : (f : A → B) (R : B → B → Type 0) (xs : List A) → Pairs (λ x y. R (f x) (f y)) xs → Pairs R (map f xs)
  map_pairs f R [] h = tt
  map_pairs f R (x ∷ xs) h = ((λ y m. let k = in_map f y xs m in let l = h.0 k.0 k.1 in rw k.2 l), map_pairs f R xs h.1)

pub not_among : (j : ℕ) (ks : List ℕ) → ¬ In j ks → among j ks ≡ false
not_among j [] n = refl
not_among j (k ∷ ks) n = let ih = not_among j ks in let q = is_means j k in grind arith

pub in_among : (j : ℕ) (ks : List ℕ) → In j ks → among j ks ≡ true
in_among j [] m = absurd m
in_among j (k ∷ ks) m = let ih = in_among j ks in let s = is_self j in grind arith

pub stands? : (j : ℕ) (ks : List ℕ) → In j ks ⊎ (In j ks → ⊥)
stands? j ks = elim (cases_Bool (among j ks)) [
  | inl e ↦ let r = some_of_in (is j) ks e in let q = is_means j r.0 in inl (grind arith)
  | inr e ↦ inr (λ m. let i = in_among j ks m in grind arith)
]

pub among_end : (k j : ℕ) (ws : List ℕ) → not (among k (ws ++ (j ∷ []))) ≡ (not (among k ws) && not (is j k))
among_end k j [] = let p = is_means k j in let q = is_means j k in let s = is_self j in grind arith
among_end k j (w ∷ ws) = let ih = among_end k j ws in grind arith

-- the numbers added one after the other
pub add_new_append : (ts js ks : List ℕ) → add_new ts (js ++ ks) ≡ add_new (add_new ts js) ks
add_new_append ts [] ks = refl
add_new_append ts (j ∷ js) ks = add_new_append (add_new ts (j ∷ [])) js ks

pub add_new_distinct : (ts js : List ℕ) → Pairs ◌≢◌ ts → Pairs ◌≢◌ (add_new ts js)
add_new_distinct ts [] h = h
add_new_distinct ts (j ∷ js) h =
    add_new_distinct (add_new ts (j ∷ [])) js
    (cond_both (among j ts) ts (ts ++ (j ∷ [])) (Pairs ◌≢◌) (λ _. h) (λ f. pairs_end ◌≢◌ ts j h (λ k m e. let i = in_among k ts m in grind arith)))

-- places
pub ahead_in : (j k : ℕ) (ts : List ℕ) → Ahead j k ts → In j ts
ahead_in j k [] a = a
ahead_in j k (t ∷ ts) a = let ih = ahead_in j k ts in grind arith

pub ahead_append : (j k : ℕ) (ts us : List ℕ) → Ahead j k ts → Ahead j k (ts ++ us)
ahead_append j k [] us a = absurd a
ahead_append j k (t ∷ ts) us a = let ih = ahead_append j k ts us in grind arith

pub ahead_new : (j k : ℕ) (ts : List ℕ) → In j ts → ¬ In k ts → Ahead j k ts
ahead_new j k [] m n = m
ahead_new j k (t ∷ ts) m n = let ih = ahead_new j k ts in grind arith

pub place_end : (j : ℕ) (ts : List ℕ) → Place (suc (length ts)) j (ts ++ (j ∷ []))
place_end j [] = inl (refl, refl)
place_end j (t ∷ ts) = inr (suc (length ts), refl, place_end j ts)

pub place_append : (n j : ℕ) (ts us : List ℕ) → Place n j ts → Place n j (ts ++ us)
place_append n j [] us p = absurd p
place_append n j (t ∷ ts) us p = let ih = λ (i : ℕ). place_append i j ts us in grind arith

-- places count from 1
place_past : (n j : ℕ) (ts : List ℕ) → Place n j ts → In j ts × (0 < n)
place_past n j [] p = absurd p
place_past n j (t ∷ ts) p = let ih = λ (i : ℕ). place_past i j ts in grind arith

pub place_in : (n j : ℕ) (ts : List ℕ) → Place n j ts → In j ts
place_in n j ts p = (place_past n j ts p).0

-- who stands ahead has the smaller place
pub ahead_places : (j k n m : ℕ) (ts : List ℕ) → Pairs ◌≢◌ ts → j ≢ k → Ahead j k ts → Place n j ts → Place m k ts → n < m
ahead_places j k n m [] d a h p q = absurd h
ahead_places j k n m (t ∷ ts) d a h p q =
    let ih = λ (i l : ℕ). ahead_places j k i l ts d.1 a in
    let y = λ (i : ℕ). place_past i j ts in
    let z = λ (i : ℕ). place_past i k ts in
    let e = d.0 j in
    grind arith

-- a longer list, split at one of its entries: at the last, or before
module _ {A : Type 0} where
  pub none_in : (ys zs : List A) (y : A) → [] ≡ ys ++ (y ∷ zs) → ⊥
  none_in [] zs y e = grind arith
  none_in (b ∷ ys) zs y e = grind arith

  pub split_end : (xs ys zs : List A) (x y : A) → xs ++ (x ∷ []) ≡ ys ++ (y ∷ zs) → ((x ≡ y) × (xs ≡ ys)) ⊎ ((us : List A) × (xs ≡ ys ++ (y ∷ us)))
  split_end [] [] zs x y e = inl (cc, refl)
  split_end [] (b ∷ ys) zs x y e = absurd (none_in ys zs y cc)
  split_end (a ∷ xs) [] zs x y e = inr (xs, cc)
  split_end (a ∷ xs) (b ∷ ys) zs x y e = let p : a ≡ b = cc in elim (split_end xs ys zs x y cc) [ inl h ↦ inl (h.0, cc) | inr h ↦ inr (h.0, cc) ]
