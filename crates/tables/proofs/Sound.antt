-- What each change of the table keeps, and that it is the change that the definitions make.
use Rattle.std.proofs.Common.{◌≡◌, ℕ, ◌+◌, ◌<◌, ◌≤◌, Bool, true, false, length, Some, None, Ok, Err, Option, find as first_of, sym, refl, ap, ◌∙◌, subst, is_some, arith}
use Rattle.std.proofs.lemmas.Bool.{lt-ltb, le-leb, lt-leb, cond-true, true≢false}
use Rattle.std.specs.List.{list_any}
use Rattle.std.specs.Option.{option_map}
use Rattle.tables.specs.declared.ledger.JobRecord.{JobRecord}
use Rattle.tables.specs.declared.ledger.Ledger.{Ledger}
use Rattle.tables.specs.declared.job_table.JobTable.{JobTable}
use Rattle.tables.specs.declared.refusal.Refusal.TheVariants.{HasTurned, NoPlace, NumbersSpent}
use Rattle.tables.specs.Lists.{is}
use Rattle.tables.specs.Jobs.{Gives, find, has_job, is_free, job_of, turn_slot, clear_slot, not_turned, give, open_on, turn_on, turn_ledger, end_ledger, open_ledger}
use Rattle.tables.specs.Places.{with_first}
use Rattle.tables.specs.Tables.{unique, is_below, all_below, asking_one, asking_slot, asking}
use Rattle.tables.proofs.Lists.{is_means, length_with, any_with, all_with, all_found, found_passes, any_none, any_some, same_with}
use Rattle.tables.proofs.Tabled.{find_place, find_named, fill_first, asking_with, below_absent, wider, unique_none, unique_some, only_one, map_absent, map_first, turn_stays, clear_stays, clear_gone}

-- what the ghost fields of the table say of its ledger
pub record Sound (s : Ledger) : Type 0 where
  pub full : length s.records ≡ 32
  pub apart : unique s.records ≡ true
  pub below : all_below s.opening s.records ≡ true
  pub spent : s.opening ≤ 1000001
  pub locks : s.granting ≤ 4000001
  pub counted : s.turning + asking s.records ≤ s.opening

pub held : (k : JobTable) → Sound k.ledger
held k = record { full = k.full; apart = k.apart; below = k.below; spent = k.spent; locks = k.locks; counted = k.counted }

-- the first place that passes has w, and n and t are the numbers that come next
abbrev pub changed : (Option JobRecord → Bool) → Ledger → Option JobRecord → ℕ → ℕ → Ledger
changed p s w n t = record { records = with_first p s.records w; opening = n; granting = s.granting; turning = t }

-- the place of the job that is found
pub place_at : (s : Ledger) (j : ℕ) (b : JobRecord) → find j s.records ≡ Some b → first_of (has_job j) s.records ≡ Some (Some b)
place_at s j b e = find_place j s.records ∙ ap (option_map (λ b. Some b)) e

-- nothing has changed
pub same_ledger : (p : Option JobRecord → Bool) (s : Ledger) (o : Option JobRecord) → first_of p s.records ≡ Some o → s ≡ changed p s o s.opening s.turning
same_ledger p s o e = ap (λ rs. record { records = rs; opening = s.opening; granting = s.granting; turning = s.turning }) (sym (same_with p o s.records e))

module _ (s : Ledger) (S : Sound s) where
  pub same_sound : (p : Option JobRecord → Bool) (o : Option JobRecord) → first_of p s.records ≡ Some o → Sound (changed p s o s.opening s.turning)
  same_sound p o e = subst Sound (same_ledger p s o e) S

  sound : (p : Option JobRecord → Bool) (o w : Option JobRecord) (n t : ℕ) → first_of p s.records ≡ Some o → unique (with_first p s.records w) ≡ true → all_below n (with_first p s.records w) ≡ true
      → n ≤ 1000001 → t + asking_slot w + s.opening ≤ s.turning + asking_slot o + n → Sound (changed p s w n t)
  sound p o w n t e u b l k =
      let a = asking_with p o w s.records e in
      let h = S.counted in
      record { full = length_with p w s.records ∙ S.full; apart = u; below = b; spent = l; locks = S.locks; counted = omega arith }

  pub open_sound : (c : ℕ) (o : Option JobRecord) → first_of is_free s.records ≡ Some o → s.opening ≤ 1000000 → Sound (changed is_free s (Some (job_of s.opening c None)) (s.opening + 1) s.turning)
  open_sound c o e l =
      sound is_free o (Some (job_of s.opening c None)) (s.opening + 1) s.turning e
      (unique_some is_free (job_of s.opening c None) s.records S.apart (any_with is_free None (has_job s.opening) s.records refl (below_absent s.opening s.records S.below)))
      (all_with is_free (Some (job_of s.opening c None)) (is_below (s.opening + 1)) s.records (lt-ltb s.opening (s.opening + 1) (omega arith)) (wider s.opening s.records S.below))
      (omega arith) (omega arith)

  pub open_is : (c : ℕ) → changed is_free s (Some (job_of s.opening c None)) (s.opening + 1) s.turning ≡ open_ledger c s
  open_is c = ap (λ rs. record { records = rs; opening = s.opening + 1; granting = s.granting; turning = s.turning }) (fill_first (job_of s.opening c None) s.records)

  pub end_sound : (j : ℕ) (o : Option JobRecord) → first_of (has_job j) s.records ≡ Some o → Sound (changed (has_job j) s None s.opening s.turning)
  end_sound j o e =
      sound (has_job j) o None s.opening s.turning e (unique_none (has_job j) s.records S.apart) (all_with (has_job j) None (is_below s.opening) s.records refl S.below) S.spent (omega arith)

  pub end_is : (j : ℕ) (o : Option JobRecord) → first_of (has_job j) s.records ≡ Some o → changed (has_job j) s None s.opening s.turning ≡ end_ledger j s
  end_is j o e =
      ap (λ rs. record { records = rs; opening = s.opening; granting = s.granting; turning = s.turning })
      (ap (with_first (has_job j) s.records) (sym (clear_gone j o (found_passes (has_job j) s.records o e))) ∙ map_first j (clear_slot j) (clear_stays j) o s.records S.apart e)

  module _ (j : ℕ) (b : JobRecord) (found : find j s.records ≡ Some b) where
    pub turn_is : changed (has_job j) s (Some (job_of b.number b.class (Some s.turning))) s.opening (s.turning + 1) ≡ turn_ledger j s
    turn_is =
        ap (λ rs. record { records = rs; opening = s.opening; granting = s.granting; turning = s.turning + 1 })
        (ap (λ x. with_first (has_job j) s.records (Some x)) (sym (cond-true (is j b.number) (job_of b.number b.class (Some s.turning)) b (find_named j s.records b found)))
        ∙ map_first j (turn_slot j s.turning) (turn_stays j s.turning) (Some b) s.records S.apart (place_at s j b found))

    module _ (asks : b.turn ≡ None) where
      pub turn_sound : Sound (changed (has_job j) s (Some (job_of b.number b.class (Some s.turning))) s.opening (s.turning + 1))
      turn_sound =
          let one : asking_slot (Some b) ≡ 1 = ap asking_one asks in
          sound (has_job j) (Some b) (Some (job_of b.number b.class (Some s.turning))) s.opening (s.turning + 1) (place_at s j b found)
          (unique_some (has_job j) (job_of b.number b.class (Some s.turning)) s.records S.apart
          (ap (λ n. list_any (has_job n) (with_first (has_job j) s.records None)) (sym (is_means j b.number (find_named j s.records b found))) ∙ only_one j s.records S.apart))
          (all_with (has_job j) (Some (job_of b.number b.class (Some s.turning))) (is_below s.opening) s.records (all_found (has_job j) (is_below s.opening) s.records (Some b) S.below (place_at s j b found)) S.below)
          S.spent (omega arith)

pub end_none : (s : Ledger) (j : ℕ) → find j s.records ≡ None → s ≡ end_ledger j s
end_none s j e =
    ap (λ rs. record { records = rs; opening = s.opening; granting = s.granting; turning = s.turning }) (sym (map_absent j (clear_slot j) (clear_stays j) s.records (any_none (has_job j) s.records (find_place j s.records ∙ ap (option_map (λ b. Some b)) e))))

-- what OPEN and TURN answer
module _ (s : Ledger) where
  module _ (c : ℕ) (low : c ≤ 7) where
    pub open_full : first_of is_free s.records ≡ None → Gives (open_on c s) (Err NoPlace) s
    open_full e = rw (le-leb c 7 low, any_none is_free s.records e) (record { reply = refl; state = refl })

    module _ (o : Option JobRecord) (free : first_of is_free s.records ≡ Some o) where
      pub open_spent : 1000000 < s.opening → Gives (open_on c s) (Err NumbersSpent) s
      open_spent l = rw (le-leb c 7 low, any_some is_free s.records o free, lt-leb s.opening 1000000 l) (record { reply = refl; state = refl })

      pub open_told : s.opening ≤ 1000000 → Gives (open_on c s) (Ok s.opening) (open_ledger c s)
      open_told l = rw (le-leb c 7 low, any_some is_free s.records o free, le-leb s.opening 1000000 l) (record { reply = refl; state = refl })

  module _ (j : ℕ) where
    pub turn_again : (b : JobRecord) → find j s.records ≡ Some b → true ≡ is_some b.turn → Gives (turn_on j s) (Err HasTurned) s
    turn_again b e t = rw e (go b.turn t)
      where
        go : (t : Option ℕ) → true ≡ is_some t → Gives (not_turned t s (give s.turning (turn_ledger j s))) (Err HasTurned) s
        go None t = absurd (true≢false t)
        go (Some n) t = record { reply = refl; state = refl }

    pub turn_told : (b : JobRecord) → find j s.records ≡ Some b → b.turn ≡ None → Gives (turn_on j s) (Ok s.turning) (turn_ledger j s)
    turn_told b e t = rw (e, t) (record { reply = refl; state = refl })

pub turn_none : (t : Option ℕ) → false ≡ is_some t → t ≡ None
turn_none None e = refl
turn_none (Some n) e = absurd (true≢false (sym e))
