-- The figures of each box, and how they are printed.
use Rattle.std.specs.Prelude.{ℕ, ◌+◌, List, ◌∷◌, ◌++◌, decimal, length, map, sum_by, filter}
use Rattle.std.specs.List.{enumerate_from}
use Rattle.rows.specs.declared.trip.Trip.{Trip}
use Rattle.rows.specs.Trips.{trip_order}
use Rattle.predicates.specs.declared.trip_box.TripBox.{TripBox}
use Rattle.predicates.specs.Boxes.{box_holds}
use Rattle.mileage.specs.declared.figures.BoxFigures.{BoxFigures}
use Rattle.mileage.specs.Once.{gathered}

-- the three numbers, with spaces between
abbrev pub figures_text : BoxFigures → List ℕ
figures_text f = decimal f.number ++ (32 ∷ (decimal f.trips ++ (32 ∷ decimal f.metres)))

-- how many trips hold in the box, and the sum of their metres
abbrev pub box_figures : List Trip → ℕ → TripBox → BoxFigures
box_figures trips n b = record {
  number = n;
  trips = length (filter (box_holds b) trips);
  metres = sum_by (λ (t : Trip). t.metres) (filter (box_holds b) trips);
}

-- boxes numbered from 1
abbrev pub each_box : List Trip → List TripBox → List BoxFigures
each_box trips boxes = map (λ p. box_figures trips (p.0 + 1) p.1) (enumerate_from 0 boxes)

-- repeated trips count once
abbrev pub mileage : List Trip → List TripBox → List BoxFigures
mileage trips boxes = each_box (gathered trip_order trips) boxes
