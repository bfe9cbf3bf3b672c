-- Removals, as the library counts them.
use Rattle.std.proofs.Common.{◌≡◌, ℕ, ◌+◌, cond, List, count_by, refl, arith}
use Rattle.std.proofs.lemmas.List.Recursion.{is_count_by}
use Rattle.tables.specs.declared.entries.Alteration.{Alteration}
use Rattle.tables.specs.declared.entries.Alteration.TheVariants.{Added, Removed, Changed}
use Rattle.tables.specs.declared.entries.UndoEntry.{UndoEntry}
use Rattle.tables.specs.Undo.{is_removal, removal, removals}

pub removals_count : {R : Type 0} (us : List (UndoEntry R)) → removals us ≡ count_by (λ u. is_removal u.alteration) us
removals_count {R} us = is_count_by removals (λ u. is_removal u.alteration) refl (λ u us. go u.alteration (removals us)) us
  where
    go : (a : Alteration R) (n : ℕ) → removal a + n ≡ cond (is_removal a) (1 + n) n
    go (Added r) n = omega arith
    go (Removed r) n = refl
    go (Changed old new) n = omega arith
