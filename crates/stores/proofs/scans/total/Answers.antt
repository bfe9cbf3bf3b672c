use Rattle.std.proofs.lemmas.Iterator.Consumers.{YieldsList-from_first}
use Rattle.stores.specs.Walks.{left}
use Rattle.stores.proofs.Drained.{totalled}
use Rattle.stores.proofs.scans.total.Goals as goal

pub returns : goal.returns
returns g c =
    let t = totalled (g.P.Predicate.holds c.args.predicate.now) g.S.Row.Row.amount c.total_of.ensures (YieldsList-from_first (λ x. x) (left g.S.Row.Row.order g.S.Store.rows) _ c.beyond.ensures) in
    record { count = t.0; sum = t.1 }
