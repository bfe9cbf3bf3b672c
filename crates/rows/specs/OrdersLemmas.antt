-- Strict orders, from what a derive proves of its comparison. Assumes nothing.
use Rattle.std.specs.declared.cmp.Ordering.{Ordering}
use Rattle.std.specs.Cmp.{IsTotalOrder, tied_itself}
use Rattle.std.proofs.lemmas.Map.Lookups.{CmpEqualImpliesEq}
use Rattle.rows.specs.Orders.{Strict}

-- a total order which tells any two values apart
pub strict : {K : Type 0} {R : K → K → Ordering} → IsTotalOrder R → CmpEqualImpliesEq R → Strict R
strict o exact = record {
  itself = tied_itself o;
  same = exact;
  swapped = λ x y. o.antisymm y x;
  transitive = o.trans;
}
