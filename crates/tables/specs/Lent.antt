-- What functions on a lent list leave in its front.
use Rattle.std.specs.Prelude.{◌≡◌, ℕ, ◌+◌, ◌-◌, Bool, cond, not, List, length, take}
use Rattle.tables.specs.declared.entries.LockEntry.{LockEntry}
use Rattle.tables.specs.Lists.{is, keep, some_of}
use Rattle.tables.specs.Locks.{is_lock, release_one}

module _ {E : Type 0} (owner : E → ℕ) where
  abbrev pub of_job : ℕ → List E → List E
  of_job j xs = keep (λ e. is j (owner e)) xs

  abbrev pub of_others : ℕ → List E → List E
  of_others j xs = keep (λ e. not (is j (owner e))) xs

  -- of the list the r entries of other jobs are left, in their order, in front
  pub record Dropped (j : ℕ) (list : List E) (r : ℕ) (after : List E) : Type 0 where
    pub rest : take r after ≡ of_others j list
    pub count : r + length (of_job j list) ≡ length list

module _ {P : Type 0} where
  -- whether there was such a lock; the list without it is in front
  pub record Released (j n : ℕ) (ls : List (LockEntry P)) (r : Bool) (after : List (LockEntry P)) : Type 0 where
    pub there : r ≡ some_of (is_lock j n) ls
    pub left : take (length ls - cond r 1 0) after ≡ release_one j n ls
