use Rattle.std.proofs.Common.{rules, take_all, ◌∙◌, arith}
use Rattle.std.proofs.lemmas.Iterator.Consumers.{YieldsList-from_first}
use Rattle.rows.specs.declared.trip.Trip.{Trip}
use Rattle.predicates.specs.Boxes.{box_holds}
use Rattle.stores.specs.declared.few_rows.Listed.{Listed}
use Rattle.stores.proofs.Drained.{totalled}
use Rattle.mileage.proofs.figures.of_box.Goals as goal

pub returns : goal.returns
returns c =
    let all = c.first_of.ensures ∙ take_all 65536 c.args.trips.now (omega (arith, c.requires)) in
    let t = totalled (box_holds c.args.wanted.now) (λ (t : Trip). t.metres) c.total_of-trips.ensures (YieldsList-from_first (λ x. x) (λ (l : Listed Trip). l.rows.now) _ all) in
    search rules
