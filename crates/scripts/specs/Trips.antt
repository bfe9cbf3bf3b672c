-- Trips as numbers on a line: van, day, second, cell, metres.
use Rattle.std.specs.Prelude.{ℕ, Bool, ◌&&◌, List, [], ◌∷◌, nat_le, slice_index}
use Rattle.rows.specs.declared.trip.Trip.{Trip}

abbrev pub trip_numbers : Trip → List ℕ
trip_numbers t = t.van ∷ t.day ∷ t.second ∷ t.cell ∷ t.metres ∷ []

-- the numbers are within the limits of a trip
abbrev pub trip_valid : List ℕ → Bool
trip_valid ns = nat_le 1 (slice_index ns 0) && (nat_le (slice_index ns 0) 9999 && (nat_le (slice_index ns 1) 36524 && (nat_le (slice_index ns 2) 86399 && nat_le (slice_index ns 4) 2000000)))
