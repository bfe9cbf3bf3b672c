use Rattle.std.proofs.Common.{arith}
use Rattle.std.proofs.lemmas.Bool.Decides.{nat_tests}
use Rattle.std.proofs.lemmas.Grind.{elements}
use Rattle.scripts.proofs.item.trip_item.TripItem5.make.Goals as goal

pub returns : goal.returns
returns c = (grind (arith, nat_tests), grind (arith, elements))
