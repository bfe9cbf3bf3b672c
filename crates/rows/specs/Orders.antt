-- What every comparison of rows keeps to.
use Rattle.std.specs.Prelude.{◌≡◌}
use Rattle.std.specs.declared.cmp.Ordering.TheVariants.{Less, Equal}
use Rattle.std.specs.declared.cmp.Ordering.{Ordering}
use Rattle.std.specs.Ordering.{ordering_reverse}

-- `Equal` is answered always for equal rows and only for them, swapping the rows turns less into greater, and less is transitive
pub record Strict {R : Type 0} (order : R → R → Ordering) : Type 0 where
  pub itself : (x : R) → order x x ≡ Equal
  pub same : (x y : R) → order x y ≡ Equal → x ≡ y
  pub swapped : (x y : R) → order y x ≡ ordering_reverse (order x y)
  pub transitive : (x y z : R) → order x y ≡ Less → order y z ≡ Less → order x z ≡ Less
