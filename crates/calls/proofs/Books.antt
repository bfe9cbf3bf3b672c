-- The table of open jobs, locks against data calls, and whose the undo entries are.
use Rattle.std.proofs.Common.{cond, ◌≤◌, ◌≡◌, ℕ, ◌+◌, true, false, ◌||◌, ◌≢◌, ◌⊎◌, List, [], ◌∷◌, ◌++◌, map, Some, None, Option, refl, ap, inr, arith}
use Rattle.std.proofs.lemmas.Bool.{and_parts}
use Rattle.stores.proofs.Sets.{equal_means}
use Rattle.tables.specs.declared.entries.Alteration.{Alteration}
use Rattle.tables.specs.declared.entries.LockEntry.{LockEntry}
use Rattle.tables.specs.declared.entries.UndoEntry.{UndoEntry}
use Rattle.tables.specs.declared.ledger.JobRecord.{JobRecord}
use Rattle.tables.specs.Lists.{is, In}
use Rattle.tables.specs.Locks.{is_write, release_one}
use Rattle.tables.specs.Lent.{of_others}
use Rattle.tables.specs.Undo.{removals, alterations_of}
use Rattle.tables.specs.Jobs.{find, fill, job_of, turn_slot, clear_slot}
use Rattle.tables.proofs.Lists.{not_true, is_self, is_means, is_other}
use Rattle.calls.specs.declared.data.DataCall.{DataCall}
use Rattle.calls.specs.declared.data.DataCall.TheVariants.{Total, Next, Add, Drop, Change}
use Rattle.calls.specs.Kinds.{Kinds}
use Rattle.calls.specs.Plain.{touches, writes, Conflict}
use Rattle.calls.specs.Systems.{entries_due, permits}
use Rattle.calls.proofs.Laws.{Laws}
use Rattle.calls.proofs.Listed.{keep_others}
use Rattle.calls.proofs.Changes.{removes}

-- the table of open jobs
pub find_in : (j : ℕ) (ss : List (Option JobRecord)) (b : JobRecord) → find j ss ≡ Some b → In (Some b) ss × (b.number ≡ j)
find_in j [] b e = absurd (grind arith)
find_in j (None ∷ ss) b e = let ih = find_in j ss b e in (inr ih.0, ih.1)
find_in j (Some c ∷ ss) b e = let ih = find_in j ss b in let q = is_means j c.number in grind arith

pub fill_in : (b x : JobRecord) (ss : List (Option JobRecord)) → In (Some b) (fill x ss) → In (Some b) ss ⊎ (b ≡ x)
fill_in b x [] m = absurd m
fill_in b x (None ∷ ss) m = grind arith
fill_in b x (Some y ∷ ss) m = let ih = fill_in b x ss in grind arith

-- another job, or the one that turns
abbrev pub Turned : JobRecord → ℕ → ℕ → List (Option JobRecord) → Type 0
Turned b j n ss = (In (Some b) ss × (j ≢ b.number)) ⊎ ((o : JobRecord) × In (Some o) ss × (j ≡ o.number) × (b ≡ job_of j o.class (Some n)))

pub turn_in : (b : JobRecord) (j n : ℕ) (ss : List (Option JobRecord)) → In (Some b) (map (turn_slot j n) ss) → Turned b j n ss
turn_in b j n [] m = absurd m
turn_in b j n (None ∷ ss) m = let ih = turn_in b j n ss in grind arith
turn_in b j n (Some y ∷ ss) m = let ih = turn_in b j n ss in let q = is_means j y.number in let s = is_self j in grind arith

pub clear_in : (b : JobRecord) (j : ℕ) (ss : List (Option JobRecord)) → In (Some b) (map (clear_slot j) ss) → In (Some b) ss × (j ≢ b.number)
clear_in b j [] m = absurd m
clear_in b j (None ∷ ss) m = let ih = clear_in b j ss in grind arith
clear_in b j (Some y ∷ ss) m = let ih = clear_in b j ss in let s = is_self j in grind arith

-- the lock table
module _ {P : Type 0} where
  pub release_in : (j n : ℕ) (l : LockEntry P) (ls : List (LockEntry P)) → In l (release_one j n ls) → In l ls
  release_in j n l [] m = absurd m
  release_in j n l (k ∷ ls) m = let ih = release_in j n l ls in grind arith

  pub release_stays : (j n : ℕ) (l : LockEntry P) (ls : List (LockEntry P)) → In l ls → j ≢ l.job → In l (release_one j n ls)
  release_stays j n l [] m away = absurd m
  release_stays j n l (k ∷ ls) m away = let ih = release_stays j n l ls in let o = is_other j l.job away in grind arith

-- the undo log
module _ {R : Type 0} where
  pub alterations_of_append : (j : ℕ) (us vs : List (UndoEntry R)) → alterations_of j (us ++ vs) ≡ alterations_of j us ++ alterations_of j vs
  alterations_of_append j [] vs = refl
  alterations_of_append j (u ∷ us) vs = let ih = alterations_of_append j us vs in grind arith

  pub alterations_of_due : (j k : ℕ) (made : List (Alteration R)) → alterations_of k (entries_due j None made) ≡ cond (is k j) made []
  alterations_of_due j k [] = grind arith
  alterations_of_due j k (a ∷ rest) = let ih = alterations_of_due j k rest in grind arith

  pub alterations_of_rest : (j k : ℕ) (us : List (UndoEntry R)) → j ≢ k → alterations_of k (of_others (λ u. u.job) j us) ≡ alterations_of k us
  alterations_of_rest j k us n = ap (map (λ (u : UndoEntry R). u.alteration)) (keep_others (λ (u : UndoEntry R). u.job) j k us n)

  pub removals_due : (us : List (UndoEntry R)) (j : ℕ) (turn : Option ℕ) (made : List (Alteration R)) → removals (us ++ entries_due j turn made) ≤ removals us + removes made
  removals_due [] j None [] = omega arith
  removals_due [] j None (a ∷ rest) = let ih = removals_due [] j None rest in omega arith
  removals_due [] j (Some n) made = omega arith
  removals_due (u ∷ us) j turn made = let ih = removals_due us j turn made in omega arith

  pub removals_rest : (j : ℕ) (us : List (UndoEntry R)) → removals us ≡ removes (alterations_of j us) + removals (of_others (λ u. u.job) j us)
  removals_rest j [] = refl
  removals_rest j (u ∷ us) = let ih = removals_rest j us in grind arith

module _ {P R : Type 0} (K : Kinds P R) (L : Laws K) where
  -- the lock and the call share a row, and one of them writes
  abbrev pub Against : LockEntry P → DataCall P R → Type 0
  Against l d = ((is_write l.mode ≡ true) ⊎ (writes d ≡ true)) × ((r : R) × (K.holds l.predicate r ≡ true) × (touches K d r ≡ true))

  -- the lock covers every row that the call touches, in its mode
  abbrev pub Covering : LockEntry P → DataCall P R → Type 0
  Covering l d = (writes d ≡ true → is_write l.mode ≡ true) × ((r : R) → touches K d r ≡ true → K.holds l.predicate r ≡ true)

  abbrev pub Clashing : LockEntry P → LockEntry P → Type 0
  Clashing l m = ((is_write l.mode || is_write m.mode) ≡ true) × (K.apart m.predicate l.predicate ≡ false)

  -- a lock that lets its job make the call covers it
  pub covering : (j : ℕ) (l : LockEntry P) (d : DataCall P R) → permits K j d l ≡ true → (is j l.job ≡ true) × Covering l d
  covering j l (Total p) h = let k = and_parts (is j l.job) _ h in (k.0, (grind arith, λ r. L.contained l.predicate p r k.1))
  covering j l (Next p given) h = let k = and_parts (is j l.job) _ h in (k.0, (grind arith, λ r. L.contained l.predicate p r k.1))
  covering j l (Add s) h = (grind arith, (grind arith, λ r t. let e = equal_means L.strict r s t in grind arith))
  covering j l (Drop s) h = (grind arith, (grind arith, λ r t. let e = equal_means L.strict r s t in grind arith))
  covering j l (Change o n) h = (grind arith, (grind arith, λ r t. let e = equal_means L.strict r o in let f = equal_means L.strict r n in grind arith))

  pub against_covering : (l m : LockEntry P) (d : DataCall P R) → Against l d → Covering m d → Clashing l m
  against_covering l m d a c =
      let w = a.0 in
      let k = c.0 in
      (grind arith, not_true (K.apart m.predicate l.predicate) (λ e. L.disjoint m.predicate l.predicate a.1.0 e (c.1 a.1.0 a.1.2) a.1.1))

  -- a call conflicts with one that the lock covers
  pub conflict_against : (l : LockEntry P) (d e : DataCall P R) → Conflict K d e → Covering l e → Against l d
  conflict_against l d e k c = let w = k.0 in let i = c.0 in (grind arith, (k.1.0, c.1 k.1.0 k.1.2, k.1.1))

  pub clashing_flip : (l m : LockEntry P) → Clashing l m → Clashing m l
  clashing_flip l m c = let s = L.symmetric l.predicate m.predicate in grind arith
