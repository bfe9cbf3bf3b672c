-- Alterations of the rows of a store, and how they are undone.
use Rattle.std.specs.Prelude.{ℕ, ◌+◌, Bool, true, false, List, [], ◌∷◌, map}
use Rattle.std.specs.declared.cmp.Ordering.{Ordering}
use Rattle.stores.specs.Sets.{delete}
use Rattle.stores.specs.Stores.{put_rows}
use Rattle.tables.specs.declared.entries.Alteration.{Alteration}
use Rattle.tables.specs.declared.entries.Alteration.TheVariants.{Added, Removed, Changed}
use Rattle.tables.specs.declared.entries.UndoEntry.{UndoEntry}
use Rattle.tables.specs.Lent.{of_job}

module _ {R : Type 0} where
  -- the alteration that takes another one back
  abbrev pub reversed : Alteration R → Alteration R
  reversed (Added r) = Removed r
  reversed (Removed r) = Added r
  reversed (Changed old new) = Changed new old

  -- whether a row was removed, which may return
  abbrev pub is_removal : Alteration R → Bool
  is_removal (Added r) = false
  is_removal (Removed r) = true
  is_removal (Changed old new) = false

  -- 1 for such a row
  abbrev pub removal : Alteration R → ℕ
  removal (Added r) = 0
  removal (Removed r) = 1
  removal (Changed old new) = 0

  -- how many entries are of removed rows
  abbrev pub removals : List (UndoEntry R) → ℕ
  removals [] = 0
  removals (u ∷ us) = removal u.alteration + removals us

  -- what a job altered, oldest first
  abbrev pub alterations_of : ℕ → List (UndoEntry R) → List (Alteration R)
  alterations_of j us = map (λ u. u.alteration) (of_job (λ u. u.job) j us)

module _ {R : Type 0} (order : R → R → Ordering) (places : ℕ) where
  -- the rows after an alteration, in a store with so many places; of a change, the old row leaves before the new one comes.
  -- What the store refuses is passed over.
  abbrev pub carried_out : Alteration R → List R → List R
  carried_out (Added r) rows = put_rows order r rows places
  carried_out (Removed r) rows = delete order r rows
  carried_out (Changed old new) rows = put_rows order new (delete order old rows) places

  -- the rows after these alterations, which stand oldest first, have been taken back, newest first
  abbrev pub undone : List (Alteration R) → List R → List R
  undone [] rows = rows
  undone (a ∷ rest) rows = carried_out (reversed a) (undone rest rows)
