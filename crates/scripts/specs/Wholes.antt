-- What is read of a whole text.
use Rattle.std.specs.Prelude.{◌≡◌, ℕ, ◌≤◌, List, map, length, Ok, Err, vec_items, Result}
use Rattle.rows.specs.declared.trip.Trip.{Trip}
use Rattle.predicates.specs.declared.trip_box.TripBox.{TripBox}
use Rattle.scripts.specs.declared.read_error.ReadError.{ReadError}
use Rattle.scripts.specs.declared.read_error.ReadError.TheVariants.{Fault as Stopped, NoMemory}
use Rattle.scripts.specs.declared.sections.Sections.{Sections}
use Rattle.scripts.specs.Trips.{trip_numbers}
use Rattle.scripts.specs.Boxes.{box_numbers}
use Rattle.scripts.specs.Writing.{written}

abbrev pub section_numbers : Sections → List (List ℕ) × List (List ℕ)
section_numbers s = (map trip_numbers (vec_items s.trips), map box_numbers (vec_items s.boxes))

-- the text is the writing of these trips and boxes, of which there are not too many
pub record WritingOf (text : List ℕ) (trips : List Trip) (boxes : List TripBox) : Type 0 where
  pub few_trips : length trips ≤ 512
  pub few_boxes : length boxes ≤ 64
  pub is_written : text ≡ written trips boxes

-- a text is read exactly where it is such a writing, and as the trips and boxes that it is the writing of
abbrev pub Accepts : List ℕ → Result Sections ReadError → Type 0
Accepts text (Ok s) =
    WritingOf text (vec_items s.trips) (vec_items s.boxes)
    × ((trips : List Trip) (boxes : List TripBox) → WritingOf text trips boxes → (trips ≡ vec_items s.trips) × (boxes ≡ vec_items s.boxes))
Accepts text (Err (Stopped f)) = (trips : List Trip) (boxes : List TripBox) → WritingOf text trips boxes → ⊥
Accepts text (Err NoMemory) = Unit {0}
