-- Locks, and when a request conflicts with them.
use Rattle.std.specs.Prelude.{ℕ, Bool, true, false, cond, not, ◌&&◌, ◌||◌, List, [], ◌∷◌, map, Some, None, Option, nat_lt}
use Rattle.tables.specs.declared.entries.LockEntry.{LockEntry}
use Rattle.tables.specs.declared.entries.Mode.{Mode}
use Rattle.tables.specs.declared.entries.Mode.TheVariants.{Read, Write}
use Rattle.tables.specs.Lists.{is, keep}

abbrev pub is_write : Mode → Bool
is_write Read = false
is_write Write = true

abbrev pub least : ℕ → List ℕ → ℕ
least n [] = n
least n (m ∷ ms) = cond (nat_lt m n) (least m ms) (least n ms)

module _ {P : Type 0} where
  -- it is the job's lock of that number
  abbrev pub is_lock : ℕ → ℕ → LockEntry P → Bool
  is_lock j n l = is j l.job && is n l.number

  -- the request conflicts with a lock: of another job, not apart, and one of the two writes
  abbrev pub conflicts : (P → P → Bool) → ℕ → Mode → P → LockEntry P → Bool
  conflicts apart j w p l = not (is j l.job) && ((is_write w || is_write l.mode) && not (apart l.predicate p))

  -- the job may not wait for the lock's holder
  abbrev pub barred : (ℕ → ℕ → ℕ → ℕ → Bool) → ℕ → ℕ → LockEntry P → Bool
  barred allows c j l = not (allows c j l.class l.job)

  -- the smallest holder of these locks
  abbrev pub smallest_of : List (LockEntry P) → Option ℕ
  smallest_of [] = None
  smallest_of (l ∷ ls) = Some (least l.job (map (λ m. m.job) ls))

  -- the smallest holder of these locks that may not be waited for
  abbrev pub barred_of : (ℕ → ℕ → ℕ → ℕ → Bool) → ℕ → ℕ → List (LockEntry P) → Option ℕ
  barred_of allows c j ls = smallest_of (keep (barred allows c j) ls)

  -- the locks without the job's first one of that number
  abbrev pub release_one : ℕ → ℕ → List (LockEntry P) → List (LockEntry P)
  release_one j n [] = []
  release_one j n (l ∷ ls) = cond (is_lock j n l) ls (l ∷ release_one j n ls)
