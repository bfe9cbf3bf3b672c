-- What the kinds below the keeper mean.
use Rattle.std.specs.Prelude.{ℕ, Bool}
use Rattle.std.specs.declared.cmp.Ordering.{Ordering}
use Rattle.rows.specs.declared.row.Row.{Ghosts as RowMeaning}
use Rattle.predicates.specs.declared.predicate.Predicate.{Ghosts as PredicateMeaning}

-- a row kind and a predicate kind over it: how rows compare and what they count for; which rows hold in a predicate, and which
-- predicates are apart or cover another
pub record Kinds (P R : Type 0) : Type 0 where
  pub order : R → R → Ordering
  pub amount : R → ℕ
  pub holds : P → R → Bool
  pub apart : P → P → Bool
  pub covers : P → P → Bool

-- the kinds that the bounds P: Predicate and P::Row: Row declare
abbrev pub kinds : {P R : Type 0} → RowMeaning R → PredicateMeaning P R → Kinds P R
kinds row p = record { order = row.order; amount = row.amount; holds = p.holds; apart = p.apart; covers = p.covers }
