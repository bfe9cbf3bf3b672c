-- What every waiting policy keeps to.
use Rattle.std.specs.Prelude.{◌≡◌, ℕ, ◌^◌, ◌<◌, Bool, true}

-- where the job j of class c may wait for the job k of class d, its rank is strictly smaller; job numbers fit 32 bits
abbrev pub Ranked : (ℕ → ℕ → ℕ → ℕ → Bool) → (ℕ → ℕ → ℕ) → Type 0
Ranked allows rank = (c j d k : ℕ) → j < 2 ^ 32 → k < 2 ^ 32 → allows c j d k ≡ true → rank c j < rank d k
