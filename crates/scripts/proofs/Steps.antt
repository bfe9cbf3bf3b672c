-- One number more of a line, and one line more of a section: what is left gives what is still to come.
use Rattle.std.proofs.Common.{◌≡◌, ℕ, suc, ◌+◌, ◌-◌, ◌<◌, ◌≤◌, Bool, false, eqb, List, [], ◌∷◌, ◌++◌, map, length, take, set, Ok, Err, Result, refl, append_assoc, append-nil, add-one, arith, take_all, take-suc-set}
use Rattle.std.proofs.lemmas.List.{map_push}
use Rattle.std.proofs.lemmas.Bool.{ne_eqb}
use Rattle.scripts.specs.declared.fault.Cause.{Cause}
use Rattle.scripts.specs.declared.fault.Fault.{Fault}
use Rattle.scripts.specs.Scans.{Scan, and_then}
use Rattle.scripts.specs.Numbers.{word}
use Rattle.scripts.specs.Lines.{words, line, items}

-- what has been read goes before what is still to come
abbrev pub before : {A E : Type 0} → List A → Result (List A × List ℕ) E → Result (List A × List ℕ) E
before xs s = and_then s (λ ys t. Ok (xs ++ ys, t))

before_more : {A E : Type 0} (xs : List A) (x : A) (s : Result (List A × List ℕ) E) → before xs (and_then s (λ ys t. Ok (x ∷ ys, t))) ≡ before (xs ++ x ∷ []) s
before_more xs x (Ok v) = rw append_assoc
before_more xs x (Err e) = refl

module _ (n j : ℕ) (ws t : List ℕ) (s : Scan (List ℕ)) (reads : s ≡ before (take j ws) (words (eqb j 0) (n - j) t)) where
  pub words_stop : j < n → (c : Cause) → word (eqb j 0) t ≡ Err c → s ≡ Err c
  words_stop h c e = let k : n - j ≡ suc (n - (j + 1)) = omega arith in rw (reads, k, e)

  pub words_more : j < n → (x : ℕ) (u : List ℕ) → length ws ≡ n → word (eqb j 0) t ≡ Ok (x, u) → s ≡ before (take (j + 1) (set ws j x)) (words (eqb (j + 1) 0) (n - (j + 1)) u)
  words_more h x u l e =
      let k : n - j ≡ suc (n - (j + 1)) = omega arith in
      let first : eqb (j + 1) 0 ≡ false = ne_eqb (j + 1) 0 (λ z. omega arith) in
      let front : take (j + 1) (set ws j x) ≡ take j ws ++ x ∷ [] = rw add-one (take-suc-set ws j x (omega arith)) in
      rw (reads, k, e, first, front) (before_more (take j ws) x (words false (n - (j + 1)) u))

  pub words_end : n ≤ j → length ws ≡ n → s ≡ Ok (ws, t)
  words_end h l =
      let z : n - j ≡ 0 = omega arith in
      let whole : take j ws ≡ ws = take_all j ws (omega arith) in
      rw (reads, z, whole, append-nil)

-- the items of a section, of which the last is on the line before `end`
module _ (n : ℕ) (valid : List ℕ → Bool) (fault : Cause) {X : Type 0} (numbers : X → List ℕ) (l end : ℕ) (xs : List X) (t : List ℕ) (s : Result (List (List ℕ) × List ℕ) Fault)
    (reads : s ≡ before (map numbers xs) (items n valid fault (end - l) l t)) (h : l < end) where
  pub items_stop : (c : Cause) → line n valid fault t ≡ Err c → s ≡ Err (record { line = l; cause = c })
  items_stop c e = let k : end - l ≡ suc (end - (l + 1)) = omega arith in rw (reads, k, e)

  pub items_more : (x : X) (u : List ℕ) → line n valid fault t ≡ Ok (numbers x, u) → s ≡ before (map numbers (xs ++ x ∷ [])) (items n valid fault (end - (l + 1)) (l + 1) u)
  items_more x u e =
      let k : end - l ≡ suc (end - (l + 1)) = omega arith in
      rw (reads, k, e, map_push numbers xs x) (before_more (map numbers xs) (numbers x) (items n valid fault (end - (l + 1)) (l + 1) u))
