-- The front of a lent list, and a gap in it that is closed.
use Rattle.std.proofs.Common.{◌≡◌, ℕ, ◌+◌, ◌-◌, ◌<◌, ◌≤◌, min, ◌⊎◌, List, ◌++◌, length, take, drop, sym, ap, ◌∙◌, inl, inr, arith, take_all}
use Rattle.std.proofs.lemmas.List.{length-take-le, length-drop, take-take, drop-take}
use Rattle.std.proofs.lemmas.List.Edits.{take-paste}
use Rattle.std.proofs.lemmas.Bool.{cases_lt}
use Rattle.std.specs.List.{copy_within}

-- where no more is taken than there is
pub front_is : {A : Type 0} (used : ℕ) (xs : List A) (n : ℕ) → n ≡ min used (length xs) → (take n xs ≡ take used xs) × (n ≡ length (take used xs))
front_is {A} used xs n e = go (cases_lt used (length xs))
  where
    go : (used < length xs) ⊎ (length xs ≤ used) → (take n xs ≡ take used xs) × (n ≡ length (take used xs))
    go (inl h) = let s : n ≡ used = omega arith in (ap (λ (k : ℕ). take k xs) s, s ∙ sym (length-take-le used xs (omega arith)))
    go (inr h) = let s : n ≡ length xs = omega arith in let all = take_all used xs h in (take_all n xs (omega arith) ∙ sym all, s ∙ sym (ap length all))

-- the first n entries but for the one at `at`, over which those behind it have moved up
pub gap_closed : {A : Type 0} (xs : List A) (at n : ℕ) → at < n → n ≤ length xs → take (n - 1) (copy_within xs (at + 1) n at) ≡ take at (take n xs) ++ drop (at + 1) (take n xs)
gap_closed {A} xs at n l h =
    let m = n - (at + 1) in
    let front : at + m ≡ n - 1 = omega arith in
    let all : at + 1 + m ≡ n = omega arith in
    let rest = length-drop (at + 1) xs in
    ap (λ k. take k (copy_within xs (at + 1) n at)) (sym front) ∙ take-paste xs at (drop (at + 1) xs) m (omega arith) (omega arith)
    ∙ ap (λ ys. ys ++ take m (drop (at + 1) xs)) (sym (take-take at n xs (omega arith)))
    ∙ ap (λ ys. take at (take n xs) ++ ys) (sym (drop-take (at + 1) m xs) ∙ ap (λ k. drop (at + 1) (take k xs)) all)
