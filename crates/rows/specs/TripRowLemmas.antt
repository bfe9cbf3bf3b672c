-- Trips are strictly ordered.
use Rattle.std.proofs.Common.{arith}
use Rattle.std.proofs.lemmas.Bool.Decides.{nat_tests}
use denote.Struct.Record.{values_one}
use Rattle.std.proofs.lemmas.Map.Lookups.{CmpEqualImpliesEq}
use Rattle.rows.specs.Orders.{Strict}
use Rattle.rows.specs.contracts.trip.Trip.{struct, the_type}
use Rattle.rows.specs.contracts.trip.TripOrd.TheImpl.Laws as derived
use Rattle.rows.specs.Trips.{trip_order}
use Rattle.rows.specs.OrdersLemmas.{strict}

trips_exact : CmpEqualImpliesEq trip_order
trips_exact x y e = values_one struct the_type.propositions x y (grind (arith, nat_tests))

pub trips : Strict trip_order
trips = strict derived.total-law trips_exact
