-- The smallest holders, where one lock more has been gone through.
use Rattle.std.proofs.Common.{◌≡◌, ℕ, ◌+◌, ◌<◌, Bool, true, false, cond, not, ltb, List, [], ◌∷◌, ◌++◌, map, length, get_or, take, Some, sym, refl, ap, ◌∙◌}
use Rattle.std.proofs.lemmas.List.{map-append, append-nil}
use Rattle.std.proofs.lemmas.List.Elements.{filter-append, filter_more}
use Rattle.tables.specs.declared.entries.LockEntry.{LockEntry}
use Rattle.tables.specs.declared.holders.Holders.{Holders}
use Rattle.tables.specs.Lists.{keep}
use Rattle.tables.specs.Locks.{least, smallest_of, barred, barred_of}
use Rattle.tables.specs.Holders.{lesser, noting}

least_push : (n k : ℕ) (ms : List ℕ) → least n (ms ++ (k ∷ [])) ≡ cond (ltb k (least n ms)) k (least n ms)
least_push n k [] = refl
least_push n k (m ∷ ms) = go (ltb m n) (least_push m k ms) (least_push n k ms)
  where
    go : (b : Bool) → least m (ms ++ (k ∷ [])) ≡ cond (ltb k (least m ms)) k (least m ms) → least n (ms ++ (k ∷ [])) ≡ cond (ltb k (least n ms)) k (least n ms)
        → cond b (least m (ms ++ (k ∷ []))) (least n (ms ++ (k ∷ []))) ≡ cond (ltb k (cond b (least m ms) (least n ms))) k (cond b (least m ms) (least n ms))
    go true p q = p
    go false p q = q

module _ {P : Type 0} where
  smallest_push : (ls : List (LockEntry P)) (l : LockEntry P) → smallest_of (ls ++ (l ∷ [])) ≡ lesser (smallest_of ls) l.job
  smallest_push [] l = refl
  smallest_push (x ∷ ls) l = ap (λ ms. Some (least x.job ms)) (map-append (λ m. m.job) ls (l ∷ [])) ∙ ap (λ n. Some n) (least_push x.job l.job (map (λ m. m.job) ls))

  module _ (allows : ℕ → ℕ → ℕ → ℕ → Bool) (c j : ℕ) where
    -- the smallest holders of these locks
    abbrev pub holders_of : List (LockEntry P) → Holders
    holders_of ls = record { any = smallest_of ls; barred = barred_of allows c j ls }

    noted : (ls : List (LockEntry P)) (l : LockEntry P) → noting allows c j (holders_of ls) l ≡ holders_of (ls ++ (l ∷ []))
    noted ls l =
        ap (λ o. record { any = o; barred = cond (allows c j l.class l.job) (barred_of allows c j ls) (lesser (barred_of allows c j ls) l.job) }) (sym (smallest_push ls l))
        ∙ ap (λ o. record { any = smallest_of (ls ++ (l ∷ [])); barred = o }) (go (allows c j l.class l.job) ∙ sym (ap smallest_of (filter-append (barred allows c j) ls (l ∷ []))))
      where
        go : (b : Bool) → cond b (barred_of allows c j ls) (lesser (barred_of allows c j ls) l.job) ≡ smallest_of (keep (barred allows c j) ls ++ cond (not b) (l ∷ []) [])
        go true = sym (ap smallest_of (append-nil (keep (barred allows c j) ls)))
        go false = sym (smallest_push (keep (barred allows c j) ls) l)

    module _ (test : LockEntry P → Bool) (ls : List (LockEntry P)) (i : ℕ) (h : Holders) (l : LockEntry P) (within : i < length ls) (read : l ≡ get_or ls i l) (G : h ≡ holders_of (keep test (take i ls))) where
      -- one lock more conflicts
      pub gathered_taken : test l ≡ true → noting allows c j h l ≡ holders_of (keep test (take (i + 1) ls))
      gathered_taken says = ap (λ h. noting allows c j h l) G ∙ rw (filter_more test ls i l within, ← read, says) (noted (keep test (take i ls)) l)

      -- one lock more does not
      pub gathered_left : test l ≡ false → h ≡ holders_of (keep test (take (i + 1) ls))
      gathered_left says = G ∙ rw (filter_more test ls i l within, ← read, says, append-nil) refl
