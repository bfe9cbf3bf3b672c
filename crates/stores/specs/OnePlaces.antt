-- The rows of a store of one place.
use Rattle.std.specs.Prelude.{List, [], ◌∷◌, Some, None, Option, refl}
use Rattle.std.specs.declared.cmp.Ordering.{Ordering}
use Rattle.std.proofs.Common.{lit≤}
use Rattle.stores.specs.Stores.{Sound}

-- the row in the place, if one is there
abbrev pub held_rows : {R : Type 0} → Option R → List R
held_rows None = []
held_rows (Some r) = r ∷ []

-- one row at most ascends and fits
pub held_sound : {R : Type 0} {order : R → R → Ordering} (row : Option R) → Sound order (held_rows row) 1
held_sound None = record { up = refl; few = lit≤ tt; limit = lit≤ tt }
held_sound (Some r) = record { up = refl; few = lit≤ tt; limit = lit≤ tt }
