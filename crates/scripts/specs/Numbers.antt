-- Numbers in decimal: at most 4,294,967,295, with no leading zeros.
use Rattle.std.specs.Prelude.{◌≡◌, ℕ, ◌+◌, ◌-◌, ◌*◌, Bool, true, false, cond, ◌&&◌, List, [], ◌∷◌, Ok, Err, ◌==◌, nat_le}
use Rattle.scripts.specs.declared.fault.Cause.TheVariants.{Form, Number}
use Rattle.scripts.specs.Scans.{Scan, and_then, pass}

abbrev pub is_digit : ℕ → Bool
is_digit b = nat_le 48 b && nat_le b 57

-- no digit comes next
abbrev pub NoDigit : List ℕ → Type 0
NoDigit [] = Unit {0}
NoDigit (b ∷ t) = is_digit b ≡ false

-- the rest of a number, of which n has been read: a digit after a leading 0 is a fault of form, and one that
-- takes the number above the largest is a fault of number
abbrev pub digits : ℕ → List ℕ → Scan ℕ
digits n [] = Ok (n, [])
digits n (b ∷ t) =
    cond (is_digit b)
    (cond (n == 0) (Err Form) (cond (nat_le (n * 10 + (b - 48)) 4294967295) (digits (n * 10 + (b - 48)) t) (Err Number)))
    (Ok (n, b ∷ t))

abbrev pub number : List ℕ → Scan ℕ
number [] = Err Form
number (b ∷ t) = cond (is_digit b) (digits (b - 48) t) (Err Form)

-- a number of a line: the first stands at its start, and each other one after a space
abbrev pub word : Bool → List ℕ → Scan ℕ
word true t = number t
word false t = and_then (pass 32 t) (λ _ u. number u)
