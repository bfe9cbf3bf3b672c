-- Alterations of a set: what they make of each row, of its size, and that they can be undone.
use Rattle.std.proofs.Common.{◌≡◌, ℕ, ◌+◌, ◌<◌, ◌≤◌, Bool, true, false, not, ◌&&◌, ◌||◌, List, [], ◌∷◌, ◌++◌, ◌&&◌, inl, inr, length, sym, refl, ap, ◌∙◌, arith}
use Rattle.std.proofs.lemmas.Bool.{cases_Bool, ne_eqb}
use Rattle.stores.specs.Sets.{ascends, insert, delete}
use Rattle.stores.specs.Stores.{put_rows}
use Rattle.stores.proofs.Sets.{equal_self, member_insert, member_delete, ascends_insert, ascends_delete, size_insert, size_delete, delete_inserted, insert_deleted}
use Rattle.tables.specs.declared.entries.Alteration.{Alteration}
use Rattle.tables.specs.declared.entries.Alteration.TheVariants.{Added, Removed, Changed}
use Rattle.tables.specs.Undo.{reversed, removal, carried_out, undone}
use Rattle.tables.specs.Coverage.{rows_of}
use Rattle.tables.specs.Lists.{some_of}
use Rattle.calls.specs.declared.data.DataCall.{DataCall}
use Rattle.calls.specs.declared.data.DataCall.TheVariants.{Total, Next, Add, Drop, Change}
use Rattle.calls.specs.Kinds.{Kinds}
use Rattle.calls.specs.Orders.{flat}
use Rattle.calls.specs.Plain.{Done, has, equal, found, effect, apply, apply_all, after, touches, Replays}
use Rattle.calls.specs.Systems.{carried_all}
use Rattle.calls.proofs.Laws.{Laws}

-- 1 for a row that was put in
abbrev pub addition : {R : Type 0} → Alteration R → ℕ
addition (Added r) = 1
addition (Removed r) = 0
addition (Changed old new) = 0

-- how many rows a list of alterations may bring back, and how many it put in
abbrev pub removes : {R : Type 0} → List (Alteration R) → ℕ
removes [] = 0
removes (a ∷ rest) = removal a + removes rest

abbrev pub adds : {R : Type 0} → List (Alteration R) → ℕ
adds [] = 0
adds (a ∷ rest) = addition a + adds rest

pub removes_append : {R : Type 0} (xs ys : List (Alteration R)) → removes (xs ++ ys) ≡ removes xs + removes ys
removes_append [] ys = omega arith
removes_append (x ∷ xs) ys = let ih = removes_append xs ys in omega arith

module _ {P R : Type 0} (K : Kinds P R) (L : Laws K) where
  abbrev pub Sorted : List R → Type 0
  Sorted x = ascends K.order x ≡ true

  -- the set is as the alteration needs it
  abbrev pub Valid : Alteration R → List R → Type 0
  Valid (Added r) x = has K x r ≡ false
  Valid (Removed r) x = has K x r ≡ true
  Valid (Changed old new) x = (has K x old ≡ true) × (has K x new ≡ false)

  -- whether a row is there after the alteration, given whether it was
  abbrev point : Alteration R → R → Bool → Bool
  point (Added s) r b = equal K r s || b
  point (Removed s) r b = not (equal K r s) && b
  point (Changed old new) r b = equal K r new || (not (equal K r old) && b)

  sorted_apply : (a : Alteration R) (x : List R) → Sorted x → Sorted (apply K a x)
  sorted_apply (Added r) x g = ascends_insert L.strict r x g
  sorted_apply (Removed r) x g = ascends_delete L.strict r x g
  sorted_apply (Changed o n) x g = ascends_insert L.strict n (delete K.order o x) (ascends_delete L.strict o x g)

  member_apply : (a : Alteration R) (r : R) (x : List R) → Sorted x → has K (apply K a x) r ≡ point a r (has K x r)
  member_apply (Added s) r x g = member_insert L.strict r s x
  member_apply (Removed s) r x g = member_delete L.strict r s x g
  member_apply (Changed o n) r x g = rw (member_insert L.strict r n (delete K.order o x), member_delete L.strict r o x g)

  point_outside : (a : Alteration R) (r : R) (b : Bool) → some_of (equal K r) (rows_of a) ≡ false → point a r b ≡ b
  point_outside (Added s) r b h = grind arith
  point_outside (Removed s) r b h = grind arith
  point_outside (Changed o n) r b h = grind arith

  gone : (o n : R) (x : List R) → Sorted x → has K x n ≡ false → has K (delete K.order o x) n ≡ false
  gone o n x g h = let m = member_delete L.strict n o x g in grind arith

  size_apply : (a : Alteration R) (x : List R) → Sorted x → Valid a x → length (apply K a x) + removal a ≡ length x + addition a
  size_apply (Added r) x g v = omega (arith, size_insert L.strict r x v)
  size_apply (Removed r) x g v = omega (arith, size_delete L.strict r x v g)
  size_apply (Changed o n) x g v = omega (arith, size_delete L.strict o x v.0 g, size_insert L.strict n (delete K.order o x) (gone o n x g v.1))

  -- a store with a place left takes the row
  put_fits : (places : ℕ) (r : R) (x : List R) → has K x r ≡ false → length x < places → put_rows K.order r x places ≡ insert K.order r x
  put_fits places r x h l = rw (h, ne_eqb (length x) places (λ e. omega arith))

  -- what the store makes of an alteration that it is fit for is what it is
  carried : (places : ℕ) (a : Alteration R) (x : List R) → Sorted x → Valid a x → length x + addition a ≤ places → carried_out K.order places a x ≡ apply K a x
  carried places (Added r) x g v h = put_fits places r x v (omega arith)
  carried places (Removed r) x g v h = refl
  carried places (Changed o n) x g v h = put_fits places n (delete K.order o x) (gone o n x g v.1) (omega (arith, size_delete L.strict o x v.0 g))

  put_back : (places : ℕ) (o : R) (x : List R) → Sorted x → has K x o ≡ true → length (delete K.order o x) < places → put_rows K.order o (delete K.order o x) places ≡ x
  put_back places o x g v l =
      let m = member_delete L.strict o o x g in
      let s = equal_self L.strict o in
      put_fits places o (delete K.order o x) (grind arith) l ∙ insert_deleted L.strict o x v g

  pub taken_back : (places : ℕ) (a : Alteration R) (x : List R) → Sorted x → Valid a x → length (apply K a x) + removal a ≤ places → carried_out K.order places (reversed a) (apply K a x) ≡ x
  taken_back places (Added r) x g v h = delete_inserted L.strict r x v g
  taken_back places (Removed r) x g v h = put_back places r x g v (omega arith)
  taken_back places (Changed o n) x g v h =
      let k = gone o n x g v.1 in
      rw (delete_inserted L.strict n (delete K.order o x) k (ascends_delete L.strict o x g)) (put_back places o x g v.0 (omega (arith, size_insert L.strict n (delete K.order o x) k)))

  -- a data call makes no alteration, or one that the set is fit for, of rows that the call touches
  pub data Effect (d : DataCall P R) (x : List R) : Type 0 where
    idle : effect K d (found K d x) ≡ [] → Effect d x
    real : (a : Alteration R) → effect K d (found K d x) ≡ a ∷ [] → Valid a x → ((r : R) → touches K d r ≡ false → some_of (equal K r) (rows_of a) ≡ false) → Effect d x

  pub effect_of : (d : DataCall P R) (x : List R) → Effect d x
  effect_of (Total p) x = idle refl
  effect_of (Next p given) x = idle refl
  effect_of (Add r) x = elim (cases_Bool (has K x r)) [ inl e ↦ idle (rw e) | inr e ↦ real (Added r) (rw e) e (λ s h. grind arith) ]
  effect_of (Drop r) x = elim (cases_Bool (has K x r)) [ inl e ↦ real (Removed r) (rw e) e (λ s h. grind arith) | inr e ↦ idle (rw e) ]
  effect_of (Change o n) x = elim (cases_Bool (has K x o && (not (equal K o n) && not (has K x n)))) [
    | inl e ↦ real (Changed o n) (grind arith) (grind arith, grind arith) (λ s h. grind arith)
    | inr e ↦ idle (grind arith)
  ]

  pub sorted_after : (d : DataCall P R) (x : List R) → Sorted x → Sorted (after K d x)
  sorted_after d x g = elim (effect_of d x) [ idle e ↦ rw e g | real a e v t ↦ rw e (sorted_apply a x g) ]

  -- two sets that agree on a row agree on it after the same alterations
  pub same_at : (made : List (Alteration R)) (r : R) (x y : List R) → Sorted x → Sorted y → has K x r ≡ has K y r → has K (apply_all K made x) r ≡ has K (apply_all K made y) r
  same_at [] r x y g k e = e
  same_at (a ∷ rest) r x y g k e = same_at rest r _ (apply K a y) (sorted_apply a x g) (sorted_apply a y k) (member_apply a r x g ∙ ap (point a r) e ∙ sym (member_apply a r y k))

  -- a row that the call does not touch is as before
  pub outside : (d : DataCall P R) (r : R) (x : List R) → Sorted x → touches K d r ≡ false → has K (after K d x) r ≡ has K x r
  outside d r x g h = elim (effect_of d x) [ idle e ↦ rw e | real a e v t ↦ rw e (member_apply a r x g ∙ point_outside a r (has K x r) (t r h)) ]

  pub size_after : (d : DataCall P R) (x : List R) → Sorted x → length (after K d x) + removes (effect K d (found K d x)) ≡ length x + adds (effect K d (found K d x))
  size_after d x g = elim (effect_of d x) [ idle e ↦ rw e | real a e v t ↦ rw e (omega (arith, size_apply a x g v)) ]

  -- in a store with the places that it needs, a call leaves what it leaves in the plain store
  pub carried_after : (places : ℕ) (d : DataCall P R) (x : List R) → Sorted x → length x + adds (effect K d (found K d x)) ≤ places → carried_all K.order places (effect K d (found K d x)) x ≡ after K d x
  carried_after places d x g h = elim (effect_of d x) [ idle e ↦ rw e | real a e v t ↦ rw e (carried places a x g v (let k = rw e at h in omega arith)) ]

  undo_call : (places : ℕ) (d : DataCall P R) (x : List R) → Sorted x → length (after K d x) + removes (effect K d (found K d x)) ≤ places → undone K.order places (effect K d (found K d x)) (after K d x) ≡ x
  undo_call places d x g h = elim (effect_of d x) [ idle e ↦ rw e | real a e v t ↦ rw e (taken_back places a x g v (let k = rw e at h in omega arith)) ]

  undo_append : (places : ℕ) (xs ys : List (Alteration R)) (x : List R) → undone K.order places (xs ++ ys) x ≡ undone K.order places xs (undone K.order places ys x)
  undo_append places [] ys x = refl
  undo_append places (a ∷ xs) ys x = rw (undo_append places xs ys x)

  -- what calls altered, by their answers
  abbrev pub alterations_in : List (Done P R) → List (Alteration R)
  alterations_in C = flat (λ e. effect K e.call e.answer) C

  -- what the calls took out, undoing can bring back
  pub replay_size : (C : List (Done P R)) (z x : List R) → Sorted z → Replays K z C x → length z ≤ length x + removes (alterations_in C)
  replay_size [] z x g r = rw r (omega arith)
  replay_size (c ∷ C) z x g r =
      let ih = replay_size C (after K c.call z) x (sorted_after c.call z g) r.1 in
      let q = r.0 in
      let up = size_after c.call z g in
      grind (arith, removes_append)

  -- undoing what the calls altered undoes the calls
  pub undo_all : (places : ℕ) (C : List (Done P R)) (z x : List R) → Sorted z → Replays K z C x → length x + removes (alterations_in C) ≤ places → undone K.order places (alterations_in C) x ≡ z
  undo_all places [] z x g r h = sym r
  undo_all places (c ∷ C) z x g r h =
      let q = r.0 in
      let ra = removes_append (effect K c.call c.answer) (alterations_in C) in
      let sz = replay_size C (after K c.call z) x (sorted_after c.call z g) r.1 in
      let others = undo_all places C (after K c.call z) x (sorted_after c.call z g) r.1 (omega arith) in
      let this = undo_call places c.call z g (grind arith) in
      let both = undo_append places (effect K c.call c.answer) (alterations_in C) x in
      grind arith
