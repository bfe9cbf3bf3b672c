-- The lines of a section, from left to right.
use Rattle.std.specs.Prelude.{◌≡◌, ℕ, zero, suc, ◌+◌, Bool, true, false, cond, List, [], ◌∷◌, Ok, Err, Result}
use Rattle.scripts.specs.declared.fault.Cause.{Cause}
use Rattle.scripts.specs.declared.fault.Fault.{Fault}
use Rattle.scripts.specs.declared.read_error.ReadError.{ReadError}
use Rattle.scripts.specs.declared.read_error.ReadError.TheVariants.{Fault as Stopped, NoMemory}
use Rattle.scripts.specs.Scans.{Scan, and_then, pass}
use Rattle.scripts.specs.Numbers.{word}

-- k numbers of a line; `first` says whether the line begins with them
abbrev pub words : Bool → ℕ → List ℕ → Scan (List ℕ)
words first zero t = Ok ([], t)
words first (suc k) t = and_then (word first t) (λ n u. and_then (words false k u) (λ ns v. Ok (n ∷ ns, v)))

-- a step of line l, with the line in its fault
abbrev pub on_line : {A : Type 0} → ℕ → Scan A → Result (A × List ℕ) Fault
on_line l (Ok v) = Ok v
on_line l (Err c) = Err (record { line = l; cause = c })

-- items of one kind, as n numbers each, with the cause of numbers that are not valid
module _ (n : ℕ) (valid : List ℕ → Bool) (fault : Cause) where
  -- the numbers are judged where the last one ends, before the byte after it
  abbrev pub judged : List ℕ → List ℕ → Scan (List ℕ)
  judged ns t = cond (valid ns) (and_then (pass 10 t) (λ _ u. Ok (ns, u))) (Err fault)

  abbrev pub line : List ℕ → Scan (List ℕ)
  line t = and_then (words true n t) judged

  -- k lines, of which the first is line l
  abbrev pub items : ℕ → ℕ → List ℕ → Result (List (List ℕ) × List ℕ) Fault
  items zero l t = Ok ([], t)
  items (suc k) l t = and_then (on_line l (line t)) (λ ns u. and_then (items k (l + 1) u) (λ more v. Ok (ns ∷ more, v)))

-- what a reader answers stands for what the step finds, and it leaves the bytes that the step leaves
abbrev pub Finds : {X : Type 0} → (X → List ℕ) → Scan (List ℕ) → Result X Cause → List ℕ → Type 0
Finds numbers s (Ok x) left = s ≡ Ok (numbers x, left)
Finds numbers s (Err c) left = s ≡ Err c

-- a reader that fails has the step's fault, or no memory
abbrev pub Stops : {A : Type 0} → Result (A × List ℕ) Fault → ReadError → Type 0
Stops s (Stopped f) = s ≡ Err f
Stops s NoMemory = Unit {0}

-- the same as `Finds`, of a reader that may also fail for want of memory
abbrev pub Gives : {X A : Type 0} → (X → A) → Result (A × List ℕ) Fault → Result X ReadError → List ℕ → Type 0
Gives numbers s (Ok x) left = s ≡ Ok (numbers x, left)
Gives numbers s (Err e) left = Stops s e
