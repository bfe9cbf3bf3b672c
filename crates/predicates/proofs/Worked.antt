-- The worked examples, computed.
use Rattle.std.proofs.Common.{refl, arith}
use Rattle.std.proofs.lemmas.Bool.Decides.{nat_tests}
use Rattle.predicates.specs.Examples.{Examples}

pub examples : Examples
examples = record { answered = refl; no_row_shared = λ t h k. grind (arith, nat_tests) }
