-- Whole texts: from the sections to what is accepted.
use Rattle.std.proofs.Common.{rules, ◌≡◌, ℕ, ◌+◌, ◌*◌, ◌≤◌, Bool, true, false, leb, List, [], ◌∷◌, ◌++◌, map, length, IfOk, Ok, Err, vec_items, Result, refl, ap, ◌∙◌, append-nil, zero-le, suc-mul, arith, length-append}
use denote.Struct.Record.{values_one}
use lib.ListN.{length-map}
use Rattle.std.specs.List.{AllByRecursion as All}
use Rattle.std.proofs.lemmas.Fmt.{length-decimal-le}
use Rattle.std.proofs.lemmas.Bool.{le-leb}
use Rattle.std.proofs.lemmas.Result.{IfOk-at_ok}
use Rattle.std.proofs.lemmas.Bool.Decides.{nat_tests}
use Rattle.rows.specs.declared.trip.Trip.{Trip}
use Rattle.predicates.specs.declared.trip_box.TripBox.{TripBox}
use Rattle.predicates.specs.declared.interval.Interval.{Interval}
use Rattle.rows.specs.contracts.trip.Trip.{struct as trip_struct, the_type as trip_type}
use Rattle.predicates.specs.contracts.interval.Interval.{struct as interval_struct, the_type as interval_type}
use Rattle.predicates.specs.contracts.trip_box.TripBox.{struct as box_struct, the_type as box_type}
use Rattle.scripts.specs.declared.fault.Cause.{Cause}
use Rattle.scripts.specs.declared.fault.Cause.TheVariants.{Row, Predicate}
use Rattle.scripts.specs.declared.fault.Fault.{Fault}
use Rattle.scripts.specs.declared.read_error.ReadError.{ReadError}
use Rattle.scripts.specs.declared.read_error.ReadError.TheVariants.{Fault as Stopped, NoMemory}
use Rattle.scripts.specs.declared.sections.Sections.{Sections}
use Rattle.scripts.specs.Scans.{finished}
use Rattle.scripts.specs.Lines.{on_line, Gives}
use Rattle.scripts.specs.Sections.{section, trips_and_boxes, reading}
use Rattle.scripts.specs.Trips.{trip_numbers, trip_valid}
use Rattle.scripts.specs.Boxes.{box_numbers, box_valid}
use Rattle.scripts.specs.Writing.{spaced, written_lines, written_section, written}
use Rattle.scripts.specs.Wholes.{section_numbers, WritingOf, Accepts}
use Rattle.scripts.proofs.Passes.{then_ok, cond_ok, line_ok}
use Rattle.scripts.proofs.Written.{Fit, Stands, section_writes, section_back}

-- what stands for a trip or a box
trip_stands : (t : Trip) → Stands 5 trip_valid Row (trip_numbers t)
trip_stands t =
    let limits = t.limits in
    let cells = t.cells in
    (refl, grind (arith, nat_tests), search rules)

box_stands : (b : TripBox) → Stands 8 box_valid Predicate (box_numbers b)
box_stands b =
    let limits = b.limits in
    let van = b.van.ordered in
    let day = b.day.ordered in
    let second = b.second.ordered in
    let metres = b.metres.ordered in
    (refl, grind (arith, nat_tests), search rules)

spaced_length : (first : Bool) (ns : List ℕ) → Fit ns → length (spaced first ns) ≤ 11 * length ns
spaced_length first [] f = omega arith
spaced_length true (n ∷ ns) f = simp length-append (omega (arith, length-decimal-le 10 n (omega arith) (omega arith) (omega arith), spaced_length false ns f.1))
spaced_length false (n ∷ ns) f = simp length-append (omega (arith, length-decimal-le 10 n (omega arith) (omega arith) (omega arith), spaced_length false ns f.1))

module _ {X : Type 0} (numbers : X → List ℕ) (n : ℕ) (valid : List ℕ → Bool) (fault : Cause) (stands : (x : X) → Stands n valid fault (numbers x)) where
  all_stand : (xs : List X) → All (Stands n valid fault) (map numbers xs)
  all_stand [] = tt
  all_stand (x ∷ xs) = (stands x, all_stand xs)

  lines_length : (xs : List X) → length (written_lines (map numbers xs)) ≤ length xs * (11 * n + 1)
  lines_length [] = zero-le
  lines_length (x ∷ xs) =
      let s = stands x in
      simp length-append (omega (arith, s.0, spaced_length true (numbers x) s.2, lines_length xs, suc-mul (length xs) (11 * n + 1)))

same_map : {X Y : Type 0} (f : X → Y) → ((x y : X) → f x ≡ f y → x ≡ y) → (xs ys : List X) → map f xs ≡ map f ys → xs ≡ ys
same_map f one [] [] e = refl
same_map f one [] (y ∷ ys) e = absurd cc
same_map f one (x ∷ xs) [] e = absurd cc
same_map f one (x ∷ xs) (y ∷ ys) e = let head = one x y (cc) in let tail = same_map f one xs ys (cc) in cc

-- trips, ranges and boxes are told apart by their numbers
trip_one : (x y : Trip) → trip_numbers x ≡ trip_numbers y → x ≡ y
trip_one x y e =
    let van : x.van ≡ y.van = cc in
    let day : x.day ≡ y.day = cc in
    let second : x.second ≡ y.second = cc in
    let cell : x.cell ≡ y.cell = cc in
    let metres : x.metres ≡ y.metres = cc in
    values_one trip_struct trip_type.propositions x y (λ i. (van i, (day i, (second i, (cell i, (metres i, tt))))))

interval_one : (x y : Interval) → x.low ≡ y.low → x.high ≡ y.high → x ≡ y
interval_one x y p q = values_one interval_struct interval_type.propositions x y (λ i. (p i, (q i, tt)))

box_one : (x y : TripBox) → box_numbers x ≡ box_numbers y → x ≡ y
box_one x y e =
    let van = interval_one x.van y.van (cc) (cc) in
    let day = interval_one x.day y.day (cc) (cc) in
    let second = interval_one x.second y.second (cc) (cc) in
    let metres = interval_one x.metres y.metres (cc) (cc) in
    values_one box_struct box_type.propositions x y (λ i. (van i, (day i, (second i, (metres i, tt)))))

-- what is written is read back
module _ (trips : List Trip) (boxes : List TripBox) (few_trips : length trips ≤ 512) (few_boxes : length boxes ≤ 64) where
  written_length : length (written trips boxes) ≤ 65536
  written_length =
      let a = lines_length trip_numbers 5 trip_valid Row trip_stands trips in
      let b = lines_length box_numbers 8 box_valid Predicate box_stands boxes in
      let n = length-map trips trip_numbers in
      let m = length-map boxes box_numbers in
      let c = length-decimal-le 10 (length (map trip_numbers trips)) (omega arith) (omega arith) (omega arith) in
      let d = length-decimal-le 10 (length (map box_numbers boxes)) (omega arith) (omega arith) (omega arith) in
      simp length-append (omega arith)

  reading_back : reading (written trips boxes) ≡ Ok ((map trip_numbers trips, map box_numbers boxes), [])
  reading_back =
      let ts = map trip_numbers trips in
      let bs = map box_numbers boxes in
      let n = length-map trips trip_numbers in
      let m = length-map boxes box_numbers in
      let first = section_back 5 trip_valid Row 512 1 ts (written_section bs) (all_stand trip_numbers 5 trip_valid Row trip_stands trips) (omega arith) (omega arith) in
      let second = section_back 8 box_valid Predicate 64 (2 + length ts) bs [] (all_stand box_numbers 8 box_valid Predicate box_stands boxes) (omega arith) (omega arith) in
      rw (le-leb (length (written trips boxes)) 65536 written_length, first, ← append-nil (written_section bs), second)

-- what is read, written again, is the text
abbrev pub WritesAs : List ℕ → List (List ℕ) × List (List ℕ) → Type 0
WritesAs t s = (t ≡ written_section s.0 ++ written_section s.1) × (length s.0 ≤ 512) × (length s.1 ≤ 64)

finished_writes : (u : List ℕ) → IfOk (finished u) (λ _. u ≡ [])
finished_writes [] = refl
finished_writes (b ∷ u) = tt

sections_write : (t : List ℕ) → IfOk (trips_and_boxes t) (λ v. (t ≡ written_section v.0.0 ++ (written_section v.0.1 ++ v.1)) × (length v.0.0 ≤ 512) × (length v.0.1 ≤ 64))
sections_write t =
    then_ok (section 5 trip_valid Row 512 1 t) _ _ _ (section_writes 5 trip_valid Row 512 1 t)
    (λ v p.
    then_ok (section 8 box_valid Predicate 64 (2 + length v.0) v.1) _ _ _ (section_writes 8 box_valid Predicate 64 (2 + length v.0) v.1)
    (λ w q. (p.0 ∙ ap (λ x. written_section v.0 ++ x) q.0, p.1, q.1)))

reading_writes : (t : List ℕ) → IfOk (reading t) (λ v. WritesAs t v.0)
reading_writes t =
    cond_ok (leb (length t) 65536) _ _ _
    (λ _.
    then_ok (trips_and_boxes t) _ _ _ (sections_write t)
    (λ v p.
    let line = (3 + length v.0.0) + length v.0.1 in
    then_ok (on_line line (finished v.1)) _ _ _ (line_ok line (finished v.1) _ (finished_writes v.1))
    (λ w q. (p.0 ∙ ap (λ x. written_section v.0.0 ++ (written_section v.0.1 ++ x)) q ∙ ap (λ x. written_section v.0.0 ++ x) (append-nil (written_section v.0.1)), p.1, p.2))))
    (λ _. tt)

-- a text with a fault is the writing of nothing
pub not_written : (t : List ℕ) (f : Fault) → reading t ≡ Err f → (trips : List Trip) (boxes : List TripBox) → WritingOf t trips boxes → ⊥
not_written t f e trips boxes x = let back = reading_back trips boxes x.few_trips x.few_boxes in let is = x.is_written in cc

-- the law, from the reading
pub accepts : (t : List ℕ) (r : Result Sections ReadError) → Gives section_numbers (reading t) r [] → Accepts t r
accepts t (Ok s) e =
    let trips = vec_items s.trips in
    let boxes = vec_items s.boxes in
    let w = IfOk-at_ok (λ v. WritesAs t v.0) e (reading_writes t) in
    let n = length-map trips trip_numbers in
    let m = length-map boxes box_numbers in (
      record { few_trips = omega arith; few_boxes = omega arith; is_written = w.0 },
      λ xs ys x.
          let back = reading_back xs ys x.few_trips x.few_boxes in
          let is = x.is_written in
          let same : ◌≡◌ {A = (List (List ℕ) × List (List ℕ)) × List ℕ} ((map trip_numbers xs, map box_numbers ys), []) (section_numbers s, []) = cc in
          (same_map trip_numbers trip_one xs trips (ap (λ p. p.0.0) same), same_map box_numbers box_one ys boxes (ap (λ p. p.0.1) same)),
    )
accepts t (Err (Stopped f)) e = not_written t f e
accepts t (Err NoMemory) e = tt
