use Rattle.std.proofs.Common.{◌≡◌, length, min, take, ap, ◌∙◌, arith}
use Rattle.std.proofs.lemmas.List.{take_min}
use Rattle.stores.proofs.few_rows.Listed.first_of.Goals as goal

pub returns : goal.returns
returns g c =
    let e : c.min-end.result ≡ min 65536 (length c.args.rows.now) = omega (arith, c.min-end.ensures) in
    ap (λ n. take n c.args.rows.now) e ∙ take_min 65536 c.args.rows.now
