-- Noting the smallest holders of conflicting locks, one lock after the other.
use Rattle.std.specs.Prelude.{ℕ, Bool, cond, Some, None, Option, nat_lt}
use Rattle.tables.specs.declared.entries.LockEntry.{LockEntry}
use Rattle.tables.specs.declared.holders.Holders.{Holders}

abbrev pub lesser : Option ℕ → ℕ → Option ℕ
lesser None n = Some n
lesser (Some m) n = Some (cond (nat_lt n m) n m)

-- one conflicting lock more, for a request of the job j of class c
abbrev pub noting : {P : Type 0} → (ℕ → ℕ → ℕ → ℕ → Bool) → ℕ → ℕ → Holders → LockEntry P → Holders
noting allows c j f l = record { any = lesser f.any l.job; barred = cond (allows c j l.class l.job) f.barred (lesser f.barred l.job) }
