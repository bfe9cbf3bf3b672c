-- Lists of jobs: order, places, and what is added.
use Rattle.std.specs.Prelude.{◌≡◌, ℕ, suc, Bool, cond, ◌⊎◌, List, [], ◌∷◌, ◌++◌}
use Rattle.tables.specs.Lists.{is, In, some_of}

-- R holds of every entry and each that follows it
abbrev pub Pairs : {A : Type 0} → (A → A → Type 0) → List A → Type 0
Pairs R [] = Unit {0}
Pairs {A} R (x ∷ xs) = ((y : A) → In y xs → R x y) × Pairs R xs

-- what f makes of each entry, one after the other
abbrev pub flat : {A B : Type 0} → (A → List B) → List A → List B
flat f [] = []
flat f (x ∷ xs) = f x ++ flat f xs

abbrev pub among : ℕ → List ℕ → Bool
among j ks = some_of (is j) ks

-- ts, and then those of js that do not stand there yet
abbrev pub add_new : List ℕ → List ℕ → List ℕ
add_new ts [] = ts
add_new ts (j ∷ js) = add_new (cond (among j ts) ts (ts ++ (j ∷ []))) js

-- j is the n-th of the list, counting from 1
abbrev pub Place : ℕ → ℕ → List ℕ → Type 0
Place n j [] = ⊥
Place n j (t ∷ ts) = ((n ≡ 1) × (j ≡ t)) ⊎ ((m : ℕ) × (n ≡ suc m) × Place m j ts)
