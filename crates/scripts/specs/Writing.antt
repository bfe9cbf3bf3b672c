-- How trips and boxes are written.
use Rattle.std.specs.Prelude.{ℕ, Bool, true, false, List, [], ◌∷◌, ◌++◌, map, length, decimal}
use Rattle.rows.specs.declared.trip.Trip.{Trip}
use Rattle.predicates.specs.declared.trip_box.TripBox.{TripBox}
use Rattle.scripts.specs.Trips.{trip_numbers}
use Rattle.scripts.specs.Boxes.{box_numbers}

-- numbers in decimal, each but the first after a space
abbrev pub spaced : Bool → List ℕ → List ℕ
spaced first [] = []
spaced true (n ∷ ns) = decimal n ++ spaced false ns
spaced false (n ∷ ns) = 32 ∷ (decimal n ++ spaced false ns)

-- a line ends in byte 10
abbrev pub written_lines : List (List ℕ) → List ℕ
written_lines [] = []
written_lines (ns ∷ more) = spaced true ns ++ (10 ∷ written_lines more)

-- how many items there are, and then the items, each on a line
abbrev pub written_section : List (List ℕ) → List ℕ
written_section items = decimal (length items) ++ (10 ∷ written_lines items)

abbrev pub written : List Trip → List TripBox → List ℕ
written trips boxes = written_section (map trip_numbers trips) ++ written_section (map box_numbers boxes)
