-- Steps that read a text from left to right.
use Rattle.std.specs.Prelude.{◌≡◌, ℕ, cond, List, [], ◌∷◌, Ok, Err, Result, ◌==◌}
use Rattle.scripts.specs.declared.fault.Cause.{Cause}
use Rattle.scripts.specs.declared.fault.Cause.TheVariants.{Form}

-- what a step finds at the front of a text, and the bytes after it; or the cause for which it stops there
abbrev pub Scan : Type 0 → Type 0
Scan A = Result (A × List ℕ) Cause

-- a step, and then one that goes on where it left off
abbrev pub and_then : {A B E : Type 0} → Result (A × List ℕ) E → (A → List ℕ → Result (B × List ℕ) E) → Result (B × List ℕ) E
and_then (Ok v) f = f v.0 v.1
and_then (Err c) f = Err c

-- the byte b, which has to come next
abbrev pub pass : ℕ → List ℕ → Scan (Unit {0})
pass b [] = Err Form
pass b (c ∷ t) = cond (c == b) (Ok (tt, t)) (Err Form)

-- nothing may be left
abbrev pub finished : List ℕ → Scan (Unit {0})
finished [] = Ok (tt, [])
finished (b ∷ t) = Err Form

-- what a reader answers is what the step finds, and it leaves the bytes that the step leaves
abbrev pub Reads : {A : Type 0} → Scan A → Result A Cause → List ℕ → Type 0
Reads s (Ok v) left = s ≡ Ok (v, left)
Reads s (Err c) left = s ≡ Err c
