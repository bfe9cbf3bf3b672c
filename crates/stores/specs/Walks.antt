-- A walk over the rows of a store.
use Rattle.std.specs.Prelude.{List}
use Rattle.std.specs.declared.cmp.Ordering.{Ordering}
use Rattle.stores.specs.declared.ascending.Ascending.{Ascending}
use Rattle.stores.specs.Sets.{rest}

-- the rows that are left
abbrev pub left : {S R : Type 0} → (R → R → Ordering) → (S → List R) → Ascending S R → List R
left order rows walk = rest order walk.last (rows walk.store.now)
