-- Numbers: what is read, written again, is the text, and what is written is read back.
use Rattle.std.proofs.Common.{◌≡◌, ℕ, ◌+◌, ◌-◌, ◌*◌, ◌/◌, ◌%◌, ◌<◌, ◌≤◌, true, false, eqb, leb, List, [], ◌∷◌, ◌++◌, IfOk, Ok, decimal, refl, ap, ◌∙◌, subst, append_assoc, arith}
use Rattle.std.proofs.lemmas.Fmt.{decimal_digit, decimal_step, decimal_by_steps}
use Rattle.std.proofs.lemmas.Bool.{leb-true, eqb-false, le-leb, ne_eqb}
use Rattle.std.proofs.lemmas.Bool.Decides.{nat_tests}
use Rattle.scripts.specs.Numbers.{is_digit, NoDigit, digits, number}
use Rattle.scripts.proofs.Passes.{cond_ok}

digit_tells : (d : ℕ) → d < 10 → is_digit (48 + d) ≡ true
digit_tells d h = grind (arith, nat_tests)

-- a digit is its value above the byte of 0
digit_byte : (b : ℕ) → is_digit b ≡ true → (48 + (b - 48) ≡ b) × (b - 48 < 10)
digit_byte b h = (grind (arith, nat_tests), grind (arith, nat_tests))

push_digit : (n d : ℕ) → 0 < n → d < 10 → n * 10 + d ≤ 4294967295 → decimal (n * 10 + d) ≡ decimal n ++ (48 + d) ∷ []
push_digit n d p h k =
    let q : (n * 10 + d) / 10 ≡ n = omega arith in
    let r : (n * 10 + d) % 10 ≡ d = omega arith in
    decimal_step (n * 10 + d) (omega arith) (omega arith) ∙ rw (q, r)

-- one digit more is read
digits_step : (n d : ℕ) (t : List ℕ) → 0 < n → d < 10 → n * 10 + d ≤ 4294967295 → digits n ((48 + d) ∷ t) ≡ digits (n * 10 + d) t
digits_step n d t p h k =
    let some : eqb n 0 ≡ false = ne_eqb n 0 (λ z. omega arith) in
    let value : 48 + d - 48 ≡ d = omega arith in
    rw (digit_tells d h, some, value, le-leb (n * 10 + d) 4294967295 k)

number_digit : (n : ℕ) (t : List ℕ) → n < 10 → number ((48 + n) ∷ t) ≡ digits n t
number_digit n t h = let value : 48 + n - 48 ≡ n = omega arith in rw (digit_tells n h, value)

number_decimal : (n : ℕ) → n ≤ 4294967295 → (t : List ℕ) → number (decimal n ++ t) ≡ digits n t
number_decimal n h =
    decimal_by_steps (λ m ds. m ≤ 4294967295 → (t : List ℕ) → number (ds ++ t) ≡ digits m t) (λ m l k t. number_digit m t l)
    (λ m ds l ih k t.
    let whole : m / 10 * 10 + m % 10 ≡ m = omega arith in
    ap number (append_assoc ds ((48 + m % 10) ∷ []) t) ∙ ih (omega arith) ((48 + m % 10) ∷ t) ∙ digits_step (m / 10) (m % 10) t (omega arith) (omega arith) (omega arith) ∙ ap (λ x. digits x t) whole)
    n (omega arith) h

digits_end : (n : ℕ) (t : List ℕ) → NoDigit t → digits n t ≡ Ok (n, t)
digits_end n [] h = refl
digits_end n (b ∷ t) h = rw h

-- what is written of a number is read back, where no digit follows
pub number_back : (n : ℕ) (t : List ℕ) → n ≤ 4294967295 → NoDigit t → number (decimal n ++ t) ≡ Ok (n, t)
number_back n t h e = number_decimal n h t ∙ digits_end n t e

-- the text is the writing of the number, and what is left of it
abbrev pub Writes : List ℕ → ℕ × List ℕ → Type 0
Writes t v = (t ≡ decimal v.0 ++ v.1) × (v.0 ≤ 4294967295)

digits_write : (t : List ℕ) (m : ℕ) → m ≤ 4294967295 → IfOk (digits m t) (Writes (decimal m ++ t))
digits_write [] m h = (refl, h)
digits_write (b ∷ t) m h =
    cond_ok (is_digit b) _ _ _
    (λ p.
    let digit = digit_byte b p in
    cond_ok (eqb m 0) _ _ _ (λ _. tt)
    (λ q.
    let some : 0 < m = omega (arith, eqb-false m 0 q) in
    cond_ok (leb (m * 10 + (b - 48)) 4294967295) _ _ _
    (λ r.
    let fits = leb-true (m * 10 + (b - 48)) 4294967295 r in
    let more : decimal (m * 10 + (b - 48)) ++ t ≡ decimal m ++ b ∷ t = ap (λ ds. ds ++ t) (push_digit m (b - 48) some digit.1 fits ∙ ap (λ c. decimal m ++ c ∷ []) digit.0) ∙ append_assoc (decimal m) (b ∷ []) t in
    subst (λ x. IfOk (digits (m * 10 + (b - 48)) t) (Writes x)) more (digits_write t (m * 10 + (b - 48)) fits))
    (λ _. tt)))
    (λ _. (refl, h))

-- what is read of a number, written again, is the text
pub number_writes : (t : List ℕ) → IfOk (number t) (Writes t)
number_writes [] = tt
number_writes (b ∷ t) =
    cond_ok (is_digit b) _ _ _
    (λ p.
    let digit = digit_byte b p in
    let one : decimal (b - 48) ++ t ≡ b ∷ t = ap (λ ds. ds ++ t) (decimal_digit (b - 48) digit.1) ∙ ap (λ c. c ∷ t) digit.0 in
    subst (λ x. IfOk (digits (b - 48) t) (Writes x)) one (digits_write t (b - 48) (omega arith)))
    (λ _. tt)
