-- What a new job, a turn and an end leave of the order of the table.
use Rattle.std.proofs.Common.{◌≡◌, ℕ, ◌+◌, Bool, true, false, cond, ltb, List, [], ◌∷◌, map, Some, None, Option, find as first_of, sym, refl, ap, ◌∙◌, arith}
use Rattle.std.proofs.lemmas.Bool.{false≢true, or_parts, or_from, and_parts, and_from, not-true, not_from_false, cond-true, cond-false, cond_both, ltb-true, lt-ltb}
use Rattle.std.proofs.lemmas.Option.{same_Some, none-some}
use Rattle.std.specs.List.{list_any}
use Rattle.std.specs.Option.{option_map}
use Rattle.tables.specs.declared.ledger.JobRecord.{JobRecord}
use Rattle.tables.specs.Lists.{is}
use Rattle.tables.specs.Jobs.{find, fill, has_job, is_free, job_of, turn_slot, clear_slot}
use Rattle.tables.specs.Tables.{is_alone, unique, all_below, asking_slot, asking}
use Rattle.tables.specs.Places.{with_first}
use Rattle.tables.proofs.Lists.{is_means, not_is, is_other, any_with}

-- the job at the place that a search finds
pub find_place : (j : ℕ) (ss : List (Option JobRecord)) → first_of (has_job j) ss ≡ option_map (λ b. Some b) (find j ss)
find_place j [] = refl
find_place j (None ∷ ss) = find_place j ss
find_place j (Some b ∷ ss) = cond_both (is j b.number) (Some b) (find j ss) (λ o. cond (is j b.number) (Some (Some b)) (first_of (has_job j) ss) ≡ option_map (λ b. Some b) o) (cond-true _ _ _) (λ t. cond-false _ _ _ t ∙ find_place j ss)

pub place_is : (o x : Option JobRecord) → Some x ≡ option_map (λ b. Some b) o → x ≡ o
place_is None x e = absurd (none-some x (sym e))
place_is (Some b) x e = same_Some x (Some b) e

pub no_place : (o : Option JobRecord) → ◌≡◌ {A = Option (Option JobRecord)} None (option_map (λ b. Some b) o) → o ≡ None
no_place None e = refl
no_place (Some b) e = absurd (none-some (Some b) e)

-- the number that a search finds is the one sought
pub find_named : (j : ℕ) (ss : List (Option JobRecord)) (b : JobRecord) → find j ss ≡ Some b → is j b.number ≡ true
find_named j [] b e = absurd (none-some b e)
find_named j (None ∷ ss) b e = find_named j ss b e
find_named j (Some x ∷ ss) b e =
    cond_both (is j x.number) (Some x) (find j ss) (λ o. o ≡ Some b → is j b.number ≡ true) (λ t q. ap (λ (y : JobRecord). is j y.number) (sym (same_Some x b q)) ∙ t) (λ t q. find_named j ss b q) e

-- a new job's place
pub fill_first : (b : JobRecord) (ss : List (Option JobRecord)) → with_first is_free ss (Some b) ≡ fill b ss
fill_first b [] = refl
fill_first b (None ∷ ss) = refl
fill_first b (Some x ∷ ss) = ap (λ rest. Some x ∷ rest) (fill_first b ss)

pub asking_with : (p : Option JobRecord → Bool) (o w : Option JobRecord) (ss : List (Option JobRecord)) → first_of p ss ≡ Some o → asking (with_first p ss w) + asking_slot o ≡ asking ss + asking_slot w
asking_with p o w [] e = absurd (none-some o e)
asking_with p o w (x ∷ ss) e =
    cond_both (p x) (w ∷ ss) (x ∷ with_first p ss w) (λ ys. asking ys + asking_slot o ≡ asking (x ∷ ss) + asking_slot w)
    (λ t. let k = ap asking_slot (same_Some x o (sym (cond-true (p x) (Some x) (first_of p ss) t) ∙ e)) in omega arith)
    (λ t. let k = asking_with p o w ss (sym (cond-false (p x) (Some x) (first_of p ss) t) ∙ e) in omega arith)

-- no number below n is n
pub below_absent : (n : ℕ) (ss : List (Option JobRecord)) → all_below n ss ≡ true → list_any (has_job n) ss ≡ false
below_absent n [] e = refl
below_absent n (None ∷ ss) e = below_absent n ss e
below_absent n (Some x ∷ ss) e =
    let k = and_parts (ltb x.number n) (all_below n ss) e in
    let l = ltb-true x.number n k.0 in
    or_from (is n x.number) (list_any (has_job n) ss) (is_other n x.number (λ q. omega arith)) (below_absent n ss k.1)

pub wider : (n : ℕ) (ss : List (Option JobRecord)) → all_below n ss ≡ true → all_below (n + 1) ss ≡ true
wider n [] e = refl
wider n (None ∷ ss) e = wider n ss e
wider n (Some x ∷ ss) e =
    let k = and_parts (ltb x.number n) (all_below n ss) e in
    let l = ltb-true x.number n k.0 in
    and_from (ltb x.number (n + 1)) (all_below (n + 1) ss) (lt-ltb x.number (n + 1) (omega arith)) (wider n ss k.1)

pub unique_none : (p : Option JobRecord → Bool) (ss : List (Option JobRecord)) → unique ss ≡ true → unique (with_first p ss None) ≡ true
unique_none p [] u = u
unique_none p (o ∷ ss) u =
    let k = and_parts (is_alone o ss) (unique ss) u in
    cond_both (p o) (None ∷ ss) (o ∷ with_first p ss None) (λ ys. unique ys ≡ true) (λ _. k.1)
    (λ _. and_from (is_alone o (with_first p ss None)) (unique (with_first p ss None)) (alone o k.0) (unique_none p ss k.1))
  where
    alone : (o : Option JobRecord) → is_alone o ss ≡ true → is_alone o (with_first p ss None) ≡ true
    alone None h = refl
    alone (Some x) h = not_from_false _ (any_with p None (has_job x.number) ss refl (not-true _ h))

-- a job comes, whose number stands at no other place
pub unique_some : (p : Option JobRecord → Bool) (b : JobRecord) (ss : List (Option JobRecord)) → unique ss ≡ true → list_any (has_job b.number) (with_first p ss None) ≡ false → unique (with_first p ss (Some b)) ≡ true
unique_some p b [] u e = u
unique_some p b (o ∷ ss) u e =
    let k = and_parts (is_alone o ss) (unique ss) u in
    cond_both (p o) (Some b ∷ ss) (o ∷ with_first p ss (Some b)) (λ ys. unique ys ≡ true)
    (λ t. and_from (is_alone (Some b) ss) (unique ss) (not_from_false _ (ap (list_any (has_job b.number)) (sym (cond-true (p o) (None ∷ ss) (o ∷ with_first p ss None) t)) ∙ e)) k.1)
    (λ t. let q = or_parts (has_job b.number o) (list_any (has_job b.number) (with_first p ss None)) (ap (list_any (has_job b.number)) (sym (cond-false (p o) (None ∷ ss) (o ∷ with_first p ss None) t)) ∙ e) in
    and_from (is_alone o (with_first p ss (Some b))) (unique (with_first p ss (Some b))) (alone o k.0 q.0) (unique_some p b ss k.1 q.1))
  where
    alone : (o : Option JobRecord) → is_alone o ss ≡ true → has_job b.number o ≡ false → is_alone o (with_first p ss (Some b)) ≡ true
    alone None h n = refl
    alone (Some x) h n = not_from_false _ (any_with p (Some b) (has_job x.number) ss (is_other x.number b.number (λ q. not_is b.number x.number n (sym q))) (not-true _ h))

gone : (j : ℕ) (o : Option JobRecord) (ss : List (Option JobRecord)) → has_job j o ≡ true → is_alone o ss ≡ true → list_any (has_job j) ss ≡ false
gone j None ss t h = absurd (false≢true t)
gone j (Some x) ss t h = ap (λ n. list_any (has_job n) ss) (is_means j x.number t) ∙ not-true _ h

-- a number stands at no place but one
pub only_one : (j : ℕ) (ss : List (Option JobRecord)) → unique ss ≡ true → list_any (has_job j) (with_first (has_job j) ss None) ≡ false
only_one j [] u = refl
only_one j (o ∷ ss) u =
    let k = and_parts (is_alone o ss) (unique ss) u in
    cond_both (has_job j o) (None ∷ ss) (o ∷ with_first (has_job j) ss None) (λ ys. list_any (has_job j) ys ≡ false)
    (λ t. gone j o ss t k.0) (λ t. or_from (has_job j o) (list_any (has_job j) (with_first (has_job j) ss None)) t (only_one j ss k.1))

module _ (j : ℕ) (f : Option JobRecord → Option JobRecord) (stays : (o : Option JobRecord) → has_job j o ≡ false → f o ≡ o) where
  -- where the number does not stand, nothing is done
  pub map_absent : (ss : List (Option JobRecord)) → list_any (has_job j) ss ≡ false → map f ss ≡ ss
  map_absent [] e = refl
  map_absent (o ∷ ss) e = let k = or_parts (has_job j o) (list_any (has_job j) ss) e in ap (λ x. x ∷ map f ss) (stays o k.0) ∙ ap (λ xs. o ∷ xs) (map_absent ss k.1)

  -- where no number stands twice, what is done to the places of j is done at one place
  pub map_first : (o : Option JobRecord) (ss : List (Option JobRecord)) → unique ss ≡ true → first_of (has_job j) ss ≡ Some o → with_first (has_job j) ss (f o) ≡ map f ss
  map_first o [] u e = refl
  map_first o (x ∷ ss) u e =
      let k = and_parts (is_alone x ss) (unique ss) u in
      cond_both (has_job j x) (f o ∷ ss) (x ∷ with_first (has_job j) ss (f o)) (λ ys. ys ≡ f x ∷ map f ss)
      (λ t. ap (λ y. f y ∷ ss) (sym (same_Some x o (sym (cond-true (has_job j x) (Some x) (first_of (has_job j) ss) t) ∙ e))) ∙ ap (λ ys. f x ∷ ys) (sym (map_absent ss (gone j x ss t k.0))))
      (λ t. ap (λ ys. x ∷ ys) (map_first o ss k.1 (sym (cond-false (has_job j x) (Some x) (first_of (has_job j) ss) t) ∙ e)) ∙ ap (λ y. y ∷ map f ss) (sym (stays x t)))

pub turn_stays : (j n : ℕ) (o : Option JobRecord) → has_job j o ≡ false → turn_slot j n o ≡ o
turn_stays j n None e = refl
turn_stays j n (Some b) e = ap (λ o. Some o) (cond-false (is j b.number) (job_of b.number b.class (Some n)) b e)

pub clear_stays : (j : ℕ) (o : Option JobRecord) → has_job j o ≡ false → clear_slot j o ≡ o
clear_stays j None e = refl
clear_stays j (Some b) e = cond-false (is j b.number) None (Some b) e

pub clear_gone : (j : ℕ) (o : Option JobRecord) → has_job j o ≡ true → clear_slot j o ≡ None
clear_gone j None e = refl
clear_gone j (Some b) e = cond-true (is j b.number) None (Some b) e
