-- What holds of every store, what it answers to a change, and what it holds then.
use Rattle.std.specs.Prelude.{◌≡◌, ℕ, ◌≤◌, Bool, true, false, cond, List, length, Ok, Err, Result, ◌==◌}
use Rattle.std.specs.declared.cmp.Ordering.{Ordering}
use Rattle.stores.specs.declared.store.Full.{Full}
use Rattle.stores.specs.Sets.{ascends, member, insert}

-- the rows ascend, there are no more of them than places, and at most 4,096 places
pub record Sound {R : Type 0} (order : R → R → Ordering) (rows : List R) (places : ℕ) : Type 0 where
  pub up : ascends order rows ≡ true
  pub few : length rows ≤ places
  pub limit : places ≤ 4096

module _ {R : Type 0} (order : R → R → Ordering) (r : R) (rows : List R) (places : ℕ) where
  -- not new where the row is there; otherwise refused where every place is taken, and else put in
  abbrev pub put_answer : Result Bool Full
  put_answer = cond (member order r rows) (Ok false) (cond (length rows == places) (Err (record {})) (Ok true))

  abbrev pub put_rows : List R
  put_rows = cond (member order r rows) rows (cond (length rows == places) rows (insert order r rows))
