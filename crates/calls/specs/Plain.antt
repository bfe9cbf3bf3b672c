-- The plain store: a set of rows without places. What it answers to each data call, and which rows are then in it.
use Rattle.std.specs.Prelude.{◌≡◌, ℕ, Bool, true, false, cond, not, ◌||◌, ◌⊎◌, List, [], ◌∷◌, length, sum_by, filter}
use Rattle.std.specs.Ordering.{is_eq}
use Rattle.stores.specs.Sets.{member, insert, delete, next}
use Rattle.tables.specs.declared.entries.Alteration.{Alteration}
use Rattle.tables.specs.declared.entries.Alteration.TheVariants.{Added as RowAdded, Removed as RowRemoved, Changed as RowChanged}
use Rattle.calls.specs.declared.data.DataCall.{DataCall}
use Rattle.calls.specs.declared.data.DataCall.TheVariants.{Total, Next, Add, Drop, Change}
use Rattle.calls.specs.declared.data.EditAnswer.{EditAnswer}
use Rattle.calls.specs.declared.data.EditAnswer.TheVariants.{Added, Already, Dropped, Absent, Changed, Taken}
use Rattle.calls.specs.declared.data.DataAnswer.{DataAnswer}
use Rattle.calls.specs.declared.data.DataAnswer.TheVariants.{Total as Figures, Next as Found, Edit as Edited}
use Rattle.calls.specs.Kinds.{Kinds}

-- an accepted data call: whose it is, and its answer
pub record Done (P R : Type 0) : Type 0 where
  pub job : ℕ
  pub call : DataCall P R
  pub answer : DataAnswer R

-- the answer tells of an alteration
abbrev pub is_real : EditAnswer → Bool
is_real Added = true
is_real Already = false
is_real Dropped = true
is_real Absent = false
is_real Changed = true
is_real Taken = false

abbrev pub alters : {R : Type 0} → DataAnswer R → Bool
alters (Figures n s) = false
alters (Found r) = false
alters (Edited a) = is_real a

module _ {P R : Type 0} where
  abbrev pub writes : DataCall P R → Bool
  writes (Total p) = false
  writes (Next p given) = false
  writes (Add r) = true
  writes (Drop r) = true
  writes (Change old new) = true

module _ {P R : Type 0} (K : Kinds P R) where
  abbrev pub equal : R → R → Bool
  equal r s = is_eq (K.order r s)

  abbrev pub has : List R → R → Bool
  has x r = member K.order r x

  -- the rows of the set that hold
  abbrev pub select : P → List R → List R
  select p x = filter (K.holds p) x

  -- what the plain store answers
  abbrev pub found : DataCall P R → List R → DataAnswer R
  found (Total p) x = Figures (length (select p x)) (sum_by K.amount (select p x))
  found (Next p given) x = Found (next K.order (K.holds p) given x)
  found (Add r) x = Edited (cond (has x r) Already Added)
  found (Drop r) x = Edited (cond (has x r) Dropped Absent)
  found (Change old new) x = Edited (cond (has x old) (cond (equal old new || not (has x new)) Changed Taken) Absent)

  -- what the call makes of the rows where its answer tells of an alteration; a row changed to itself stays
  abbrev pub alteration : DataCall P R → List (Alteration R)
  alteration (Total p) = []
  alteration (Next p given) = []
  alteration (Add r) = RowAdded r ∷ []
  alteration (Drop r) = RowRemoved r ∷ []
  alteration (Change old new) = cond (equal old new) [] (RowChanged old new ∷ [])

  abbrev pub effect : DataCall P R → DataAnswer R → List (Alteration R)
  effect d a = cond (alters a) (alteration d) []

  abbrev pub apply : Alteration R → List R → List R
  apply (RowAdded r) x = insert K.order r x
  apply (RowRemoved r) x = delete K.order r x
  apply (RowChanged old new) x = insert K.order new (delete K.order old x)

  abbrev pub apply_all : List (Alteration R) → List R → List R
  apply_all [] x = x
  apply_all (a ∷ rest) x = apply_all rest (apply a x)

  -- the rows that are then in it
  abbrev pub after : DataCall P R → List R → List R
  after d x = apply_all (effect d (found d x)) x

  -- the rows that a call touches, present or absent: reading, all that hold; writing, those that it names
  abbrev pub touches : DataCall P R → R → Bool
  touches (Total p) r = K.holds p r
  touches (Next p given) r = K.holds p r
  touches (Add s) r = equal r s
  touches (Drop s) r = equal r s
  touches (Change old new) r = equal r old || equal r new

  -- two calls touch one row, and one of them writes
  abbrev pub Conflict : DataCall P R → DataCall P R → Type 0
  Conflict d e = ((writes d ≡ true) ⊎ (writes e ≡ true)) × ((r : R) × (touches d r ≡ true) × (touches e r ≡ true))

  -- fed these calls from x on, it gives exactly these answers and ends as y
  abbrev pub Replays : List R → List (Done P R) → List R → Type 0
  Replays x [] y = x ≡ y
  Replays x (e ∷ es) y = (found e.call x ≡ e.answer) × Replays (after e.call x) es y
