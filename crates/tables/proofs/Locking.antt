-- A lock that is given up.
use Rattle.std.proofs.Common.{◌≡◌, ℕ, zero, suc, ◌+◌, Bool, false, true, cond, ◌||◌, List, [], ◌∷◌, ◌++◌, length, get_or, take, drop, ◌<◌, Some, position, refl, sym, ap, ◌∙◌, add-one, arith}
use Rattle.std.proofs.lemmas.Bool.{cond-true, cond-false, or_parts, true≢false}
use Rattle.std.proofs.lemmas.List.Quantifiers.{position-Some}
use Rattle.std.proofs.lemmas.List.Recursion.{or_at}
use Rattle.std.proofs.lemmas.Option.{none-some}
use Rattle.tables.specs.declared.entries.LockEntry.{LockEntry}
use Rattle.tables.specs.Lists.{some_of}
use Rattle.tables.specs.Locks.{is_lock, release_one}

module _ {P : Type 0} (j n : ℕ) where
  -- where there is no such lock, nothing is given up
  pub no_release : (ls : List (LockEntry P)) → some_of (is_lock j n) ls ≡ false → release_one j n ls ≡ ls
  no_release [] e = refl
  no_release (l ∷ ls) e =
      let k = or_parts (is_lock j n l) (some_of (is_lock j n) ls) e in cond-false (is_lock j n l) ls (l ∷ release_one j n ls) k.0 ∙ ap (λ rest. l ∷ rest) (no_release ls k.1)

  first_release : (ls : List (LockEntry P)) (i : ℕ) (d : LockEntry P) → i < length ls → is_lock j n (get_or ls i d) ≡ true → ((k : ℕ) → k < i → is_lock j n (get_or ls k d) ≡ false)
      → release_one j n ls ≡ take i ls ++ drop (suc i) ls
  first_release [] i d l t f = absurd (omega arith)
  first_release (x ∷ ls) zero d l t f = cond-true (is_lock j n x) ls (x ∷ release_one j n ls) t
  first_release (x ∷ ls) (suc i) d l t f =
      cond-false (is_lock j n x) ls (x ∷ release_one j n ls) (f 0 (omega arith)) ∙ ap (λ rest. x ∷ rest) (first_release ls i d (omega arith) t (λ k h. f (suc k) (omega arith)))

  -- the first such lock is given up
  pub lock_at : (ls : List (LockEntry P)) (i : ℕ) → position (is_lock j n) ls ≡ Some i → (i < length ls) × (some_of (is_lock j n) ls ≡ true) × (release_one j n ls ≡ take i ls ++ drop (i + 1) ls)
  lock_at [] i e = absurd (none-some i e)
  lock_at (x ∷ ls) i e =
      let k = position-Some (is_lock j n) (x ∷ ls) i x e in
      (k.0, or_at (some_of (is_lock j n)) (is_lock j n) refl (λ _ _. refl) (x ∷ ls) i x k.0 k.1, rw add-one (first_release (x ∷ ls) i x k.0 k.1 k.2))
