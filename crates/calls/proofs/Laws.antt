-- What is assumed of the kinds below the keeper: the laws that every row kind and every predicate kind shows.
use Rattle.std.proofs.Common.{◌≡◌, true}
use Rattle.rows.specs.Orders.{Strict}
use Rattle.calls.specs.Kinds.{Kinds}

pub record Laws {P R : Type 0} (K : Kinds P R) : Type 0 where
  pub strict : Strict K.order
  pub symmetric : (p q : P) → K.apart p q ≡ true → K.apart q p ≡ true
  pub disjoint : (p q : P) (r : R) → K.apart p q ≡ true → K.holds p r ≡ true → K.holds q r ≡ true → ⊥
  pub contained : (p q : P) (r : R) → K.covers p q ≡ true → K.holds q r ≡ true → K.holds p r ≡ true
