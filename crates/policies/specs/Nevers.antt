-- Never: nobody may wait, so any rank will do.
use Rattle.std.specs.Prelude.{ℕ, Bool, false}

abbrev pub nobody : ℕ → ℕ → ℕ → ℕ → Bool
nobody asker_class asker holder_class holder = false

abbrev pub no_rank : ℕ → ℕ → ℕ
no_rank class number = 0
