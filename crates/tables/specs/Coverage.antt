-- Which locks let a job read or write rows.
use Rattle.std.specs.Prelude.{ℕ, Bool, true, ◌&&◌, List, [], ◌∷◌}
use Rattle.tables.specs.declared.entries.Alteration.{Alteration}
use Rattle.tables.specs.declared.entries.Alteration.TheVariants.{Added, Removed, Changed}
use Rattle.tables.specs.declared.entries.LockEntry.{LockEntry}
use Rattle.tables.specs.Lists.{is}
use Rattle.tables.specs.Locks.{is_write}

-- every entry passes the test
abbrev pub all_of : {A : Type 0} → (A → Bool) → List A → Bool
all_of p [] = true
all_of p (x ∷ xs) = p x && all_of p xs

-- the rows that an alteration names
abbrev pub rows_of : {R : Type 0} → Alteration R → List R
rows_of (Added r) = r ∷ []
rows_of (Removed r) = r ∷ []
rows_of (Changed old new) = old ∷ new ∷ []

module _ {P : Type 0} where
  -- a lock of the job, in either mode, that covers the predicate
  abbrev pub lets_read : (P → P → Bool) → ℕ → P → LockEntry P → Bool
  lets_read covers j p l = is j l.job && covers l.predicate p

  -- a write lock of the job that holds all these rows
  abbrev pub lets_write : {R : Type 0} → (P → R → Bool) → ℕ → List R → LockEntry P → Bool
  lets_write holds j rs l = is j l.job && (is_write l.mode && all_of (holds l.predicate) rs)
