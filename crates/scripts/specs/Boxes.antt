-- Boxes as numbers on a line: the low and the high end of the ranges on van, day, second and metres.
use Rattle.std.specs.Prelude.{ℕ, Bool, ◌&&◌, List, [], ◌∷◌, nat_le, slice_index}
use Rattle.predicates.specs.declared.trip_box.TripBox.{TripBox}

abbrev pub box_numbers : TripBox → List ℕ
box_numbers b = b.van.low ∷ b.van.high ∷ b.day.low ∷ b.day.high ∷ b.second.low ∷ b.second.high ∷ b.metres.low ∷ b.metres.high ∷ []

-- the range at place i runs from its low end to its high one, and ends within the limit
abbrev pub range_valid : List ℕ → ℕ → ℕ → ℕ → Bool
range_valid ns low high limit = nat_le (slice_index ns low) (slice_index ns high) && nat_le (slice_index ns high) limit

abbrev pub box_valid : List ℕ → Bool
box_valid ns = nat_le 1 (slice_index ns 0) && (range_valid ns 0 1 9999 && (range_valid ns 2 3 36524 && (range_valid ns 4 5 86399 && range_valid ns 6 7 2000000)))
