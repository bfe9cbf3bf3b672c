-- The sections of a script, from left to right.
use Rattle.std.specs.Prelude.{ℕ, ◌+◌, Bool, cond, List, length, Ok, Err, Result, nat_le}
use Rattle.scripts.specs.declared.fault.Cause.{Cause}
use Rattle.scripts.specs.declared.fault.Cause.TheVariants.{Number, Row, Predicate, TooLong}
use Rattle.scripts.specs.declared.fault.Fault.{Fault}
use Rattle.scripts.specs.Scans.{Scan, and_then, pass, finished}
use Rattle.scripts.specs.Numbers.{number}
use Rattle.scripts.specs.Lines.{on_line, items}
use Rattle.scripts.specs.Trips.{trip_valid}
use Rattle.scripts.specs.Boxes.{box_valid}

-- a count on a line of its own, judged where its digits end
abbrev pub counted : ℕ → List ℕ → Scan ℕ
counted most t = and_then (number t) (λ n u. cond (nat_le n most) (and_then (pass 10 u) (λ _ v. Ok (n, v))) (Err Number))

-- a section that begins on line l: how many items it has, and then the items, as n numbers each
abbrev pub section : ℕ → (List ℕ → Bool) → Cause → ℕ → ℕ → List ℕ → Result (List (List ℕ) × List ℕ) Fault
section n valid fault most l t = and_then (on_line l (counted most t)) (λ k u. items n valid fault k (l + 1) u)

-- at most 512 trips, and then at most 64 boxes
abbrev pub trips_and_boxes : List ℕ → Result ((List (List ℕ) × List (List ℕ)) × List ℕ) Fault
trips_and_boxes t =
    and_then (section 5 trip_valid Row 512 1 t) (λ trips u.
    and_then (section 8 box_valid Predicate 64 (2 + length trips) u) (λ boxes v. Ok ((trips, boxes), v)))

-- a text of at most 65,536 bytes that has the two sections, and nothing after them
abbrev pub reading : List ℕ → Result ((List (List ℕ) × List (List ℕ)) × List ℕ) Fault
reading t =
    cond (nat_le (length t) 65536)
    (and_then (trips_and_boxes t) (λ s u. and_then (on_line ((3 + length s.0) + length s.1) (finished u)) (λ _ v. Ok (s, v))))
    (Err (record { line = 1; cause = TooLong }))
