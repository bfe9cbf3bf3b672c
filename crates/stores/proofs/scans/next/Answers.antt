use Rattle.std.proofs.Common.{rules}
use borrow.Author.Tests.{tests}
use Rattle.std.proofs.lemmas.Iterator.Consumers.{YieldsList-from_first}
use Rattle.std.proofs.lemmas.Iterator.Search.{find_from_yields_List}
use Rattle.stores.specs.Sets.{rest}
use Rattle.stores.specs.Walks.{left}
use Rattle.stores.proofs.Since.{next_found}
use Rattle.stores.proofs.scans.next.Goals as goal

pub returns : goal.returns
returns g c =
    let order = g.S.Row.Row.order in
    let rows = g.S.Store.rows c.args.store.now in
    let p = g.P.Predicate.holds c.args.predicate.now in
    next_found order p c.args.given rows
    (find_from_yields_List p c.find.new.self _ c.find.result c.find.ensures.ran (YieldsList-from_first (λ x. x) (left order g.S.Store.rows) (rest order c.args.given rows) c.beyond.ensures) (λ x b q k. search (rules, tests)))
