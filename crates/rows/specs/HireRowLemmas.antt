-- Hires are strictly ordered, and so are the states of hires, also those outside the limits.
use Rattle.std.specs.Prelude.{◌≡◌}
use Rattle.std.specs.declared.cmp.Ordering.TheVariants.{Equal}
use Rattle.std.proofs.Common.{arith, subst}
use Rattle.std.proofs.lemmas.Bool.Decides.{nat_tests}
use denote.Struct.Record.{values_one}
use Rattle.std.specs.Cmp.{IsTotalOrder}
use Rattle.std.proofs.lemmas.Map.Lookups.{CmpEqualImpliesEq}
use Rattle.rows.specs.Orders.{Strict}
use Rattle.rows.specs.declared.hire.Hire.{Hire}
use Rattle.rows.specs.contracts.hire.Hire.{struct, the_type}
use Rattle.rows.specs.contracts.hire.HireOrd.TheImpl as derived
use Rattle.rows.specs.contracts.hire.HireOrd.TheImpl.Laws as laws
use Rattle.rows.specs.declared.hire.state.HireState.{HireState}
use Rattle.rows.specs.contracts.hire.state.HireStateOrd.TheImpl as state_derived
use Rattle.rows.specs.contracts.hire.state.HireStateOrd.TheImpl.Laws as state_laws
use Rattle.rows.specs.HireStates.{state_order}
use Rattle.rows.specs.Hires.{hire_order}
use Rattle.rows.specs.OrdersLemmas.{strict}

-- what the derive gives
pub hires_order : (x y : Hire) → (derived.ghosts).cmp x y ≡ hire_order x y
hires_order x y = grind (arith, nat_tests)

hires_exact : CmpEqualImpliesEq hire_order
hires_exact x y e = values_one struct the_type.propositions x y (grind (arith, nat_tests))

pub hires : Strict hire_order
hires = strict (subst IsTotalOrder (λ i x y. hires_order x y i) laws.total-law) hires_exact

-- the same of states alone
pub states_order : (x y : HireState) → (state_derived.ghosts).cmp x y ≡ state_order x y
states_order x y = grind (arith, nat_tests)

pub states_one : (x y : HireState) → state_order x y ≡ Equal → x ≡ y
states_one x y e = grind (arith, nat_tests)

pub states : Strict state_order
states = strict (subst IsTotalOrder (λ i x y. states_order x y i) state_laws.total-law) states_one
