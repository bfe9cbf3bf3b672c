-- Sections: what is read, written again, is the text, and what is written is read back.
use Rattle.std.proofs.Common.{◌≡◌, ℕ, zero, suc, ◌+◌, ◌≤◌, Bool, true, false, eqb, leb, List, [], ◌∷◌, ◌++◌, length, IfOk, Ok, decimal, sym, refl, ap, ◌∙◌, append_assoc, arith}
use Rattle.std.specs.List.{AllByRecursion as All}
use Rattle.std.proofs.lemmas.Bool.{eqb-true, leb-true, le-leb}
use Rattle.std.proofs.lemmas.Result.{IfOk-weaker}
use Rattle.scripts.specs.declared.fault.Cause.{Cause}
use Rattle.scripts.specs.Scans.{pass}
use Rattle.scripts.specs.Numbers.{NoDigit, number, word}
use Rattle.scripts.specs.Lines.{words, on_line, line, items}
use Rattle.scripts.specs.Sections.{counted, section}
use Rattle.scripts.specs.Writing.{spaced, written_lines, written_section}
use Rattle.scripts.proofs.Passes.{then_ok, cond_ok, line_ok}
use Rattle.scripts.proofs.Decimal.{number_writes, number_back}

pass_writes : (b : ℕ) (t : List ℕ) → IfOk (pass b t) (λ v. t ≡ b ∷ v.1)
pass_writes b [] = tt
pass_writes b (c ∷ t) = cond_ok (eqb c b) _ _ _ (λ e. ap (λ x. x ∷ t) (eqb-true c b e)) (λ _. tt)

-- a number of a line
abbrev pub lead : Bool → List ℕ → List ℕ
lead true t = t
lead false t = 32 ∷ t

word_writes : (first : Bool) (t : List ℕ) → IfOk (word first t) (λ v. t ≡ lead first (decimal v.0 ++ v.1))
word_writes true t = IfOk-weaker (number t) _ _ (λ v p. p.0) (number_writes t)
word_writes false t =
    then_ok (pass 32 t) _ _ _ (pass_writes 32 t)
    (λ v p. IfOk-weaker (number v.1) _ _ (λ w q. p ∙ ap (λ x. 32 ∷ x) q.0) (number_writes v.1))

word_back : (first : Bool) (n : ℕ) (t : List ℕ) → n ≤ 4294967295 → NoDigit t → word first (lead first (decimal n ++ t)) ≡ Ok (n, t)
word_back true n t h e = number_back n t h e
word_back false n t h e = number_back n t h e

spaced_more : (first : Bool) (n : ℕ) (ns t : List ℕ) → spaced first (n ∷ ns) ++ t ≡ lead first (decimal n ++ (spaced false ns ++ t))
spaced_more true n ns t = append_assoc (decimal n) (spaced false ns) t
spaced_more false n ns t = ap (λ x. 32 ∷ x) (append_assoc (decimal n) (spaced false ns) t)

-- the numbers of a line
words_write : (first : Bool) (k : ℕ) (t : List ℕ) → IfOk (words first k t) (λ v. t ≡ spaced first v.0 ++ v.1)
words_write first zero t = refl
words_write first (suc k) t =
    then_ok (word first t) _ _ _ (word_writes first t)
    (λ v p.
    then_ok (words false k v.1) _ _ _ (words_write false k v.1)
    (λ w q. p ∙ ap (λ x. lead first (decimal v.0 ++ x)) q ∙ sym (spaced_more first v.0 w.0 w.1)))

no_digit_next : (ns t : List ℕ) → NoDigit t → NoDigit (spaced false ns ++ t)
no_digit_next [] t h = h
no_digit_next (n ∷ ns) t h = refl

abbrev pub Fit : List ℕ → Type 0
Fit ns = All (λ n. n ≤ 4294967295) ns

words_back : (first : Bool) (ns t : List ℕ) → Fit ns → NoDigit t → words first (length ns) (spaced first ns ++ t) ≡ Ok (ns, t)
words_back first [] t f h = refl
words_back first (n ∷ ns) t f h =
    let here = word_back first n (spaced false ns ++ t) f.0 (no_digit_next ns t h) in
    let there = words_back false ns t f.1 h in
    rw (spaced_more first n ns t, here, there)

-- a count
module _ (most : ℕ) where
  counted_writes : (t : List ℕ) → IfOk (counted most t) (λ v. (t ≡ decimal v.0 ++ (10 ∷ v.1)) × (v.0 ≤ most))
  counted_writes t =
      then_ok (number t) _ _ _ (number_writes t)
      (λ v p.
      cond_ok (leb v.0 most) _ _ _
      (λ l. then_ok (pass 10 v.1) _ _ _ (pass_writes 10 v.1) (λ w q. (p.0 ∙ ap (λ x. decimal v.0 ++ x) q, leb-true v.0 most l)))
      (λ _. tt))

  counted_back : (k : ℕ) (t : List ℕ) → k ≤ most → most ≤ 4294967295 → counted most (decimal k ++ (10 ∷ t)) ≡ Ok (k, t)
  counted_back k t h m = rw (number_back k (10 ∷ t) (omega arith) refl, le-leb k most h)

-- items of one kind
module _ (n : ℕ) (valid : List ℕ → Bool) (fault : Cause) where
  line_writes : (t : List ℕ) → IfOk (line n valid fault t) (λ v. t ≡ spaced true v.0 ++ (10 ∷ v.1))
  line_writes t =
      then_ok (words true n t) _ _ _ (words_write true n t)
      (λ v p.
      cond_ok (valid v.0) _ _ _
      (λ _. then_ok (pass 10 v.1) _ _ _ (pass_writes 10 v.1) (λ w q. p ∙ ap (λ x. spaced true v.0 ++ x) q))
      (λ _. tt))

  -- numbers that stand for an item
  abbrev pub Stands : List ℕ → Type 0
  Stands ns = (length ns ≡ n) × (valid ns ≡ true) × Fit ns

  line_back : (ns t : List ℕ) → Stands ns → line n valid fault (spaced true ns ++ (10 ∷ t)) ≡ Ok (ns, t)
  line_back ns t s =
      let read : words true n (spaced true ns ++ (10 ∷ t)) ≡ Ok (ns, 10 ∷ t) = ap (λ k. words true k (spaced true ns ++ (10 ∷ t))) (sym s.0) ∙ words_back true ns (10 ∷ t) s.2 refl in
      rw (read, s.1)

  items_write : (k l : ℕ) (t : List ℕ) → IfOk (items n valid fault k l t) (λ v. (t ≡ written_lines v.0 ++ v.1) × (length v.0 ≡ k))
  items_write zero l t = (refl, refl)
  items_write (suc k) l t =
      then_ok (on_line l (line n valid fault t)) _ _ _ (line_ok l (line n valid fault t) _ (line_writes t))
      (λ v p.
      then_ok (items n valid fault k (l + 1) v.1) _ _ _ (items_write k (l + 1) v.1)
      (λ w q. (p ∙ ap (λ x. spaced true v.0 ++ (10 ∷ x)) q.0 ∙ sym (append_assoc (spaced true v.0) (10 ∷ written_lines w.0) w.1), ap suc q.1)))

  items_back : (l : ℕ) (xs : List (List ℕ)) (t : List ℕ) → All Stands xs → items n valid fault (length xs) l (written_lines xs ++ t) ≡ Ok (xs, t)
  items_back l [] t s = refl
  items_back l (ns ∷ xs) t s =
      rw (append_assoc (spaced true ns) (10 ∷ written_lines xs) t, line_back ns (written_lines xs ++ t) s.0, items_back (l + 1) xs t s.1)

  module _ (most : ℕ) where
    pub section_writes : (l : ℕ) (t : List ℕ) → IfOk (section n valid fault most l t) (λ v. (t ≡ written_section v.0 ++ v.1) × (length v.0 ≤ most))
    section_writes l t =
        then_ok (on_line l (counted most t)) _ _ _ (line_ok l (counted most t) _ (counted_writes most t))
        (λ v p.
        IfOk-weaker (items n valid fault v.0 (l + 1) v.1) _ _
        (λ w q. (rw (q.1, append_assoc (decimal v.0) (10 ∷ written_lines w.0) w.1) (p.0 ∙ ap (λ x. decimal v.0 ++ (10 ∷ x)) q.0), rw q.1 p.1))
        (items_write v.0 (l + 1) v.1))

    pub section_back : (l : ℕ) (xs : List (List ℕ)) (t : List ℕ) → All Stands xs → length xs ≤ most → most ≤ 4294967295 → section n valid fault most l (written_section xs ++ t) ≡ Ok (xs, t)
    section_back l xs t s h m =
        rw (append_assoc (decimal (length xs)) (10 ∷ written_lines xs) t, counted_back most (length xs) (written_lines xs ++ t) h m, items_back (l + 1) xs t s)
