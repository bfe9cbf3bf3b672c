-- The limits of a row's numbers: vans 1 to 9,999, days of a century from 1 January 2000, seconds of a day.
use Rattle.std.specs.Prelude.{◌≡◌, ℕ, ◌≤◌, true}
use Rattle.rows.specs.declared.hire.state.HireState.{HireState}
use Rattle.rows.specs.HireStates.{state_limits}

-- metres to 2,000,000; a cell may be any number of 32 bits
abbrev pub TripLimits : ℕ → ℕ → ℕ → ℕ → Type 0
TripLimits van day second metres = (1 ≤ van) × (van ≤ 9999) × (day ≤ 36524) × (second ≤ 86399) × (metres ≤ 2000000)

-- clients 1 to 99,999; a state has limits of its own
abbrev pub HireLimits : ℕ → ℕ → HireState → Type 0
HireLimits van client state = (1 ≤ van) × (van ≤ 9999) × (1 ≤ client) × (client ≤ 99999) × (state_limits state ≡ true)
