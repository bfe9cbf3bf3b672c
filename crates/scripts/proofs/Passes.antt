-- What holds of what a step finds, where the step goes through.
use Rattle.std.proofs.Common.{◌≡◌, ℕ, Bool, true, false, cond, List, IfOk, Ok, Err, Result, refl}
use Rattle.scripts.specs.Scans.{Scan, and_then}
use Rattle.scripts.specs.Lines.{on_line}

pub then_ok : {A B E : Type 0} (s : Result (A × List ℕ) E) (f : A → List ℕ → Result (B × List ℕ) E) (P : A × List ℕ → Type 0) (Q : B × List ℕ → Type 0) → IfOk s P → ((v : A × List ℕ) → P v → IfOk (f v.0 v.1) Q) → IfOk (and_then s f) Q
then_ok (Ok v) f P Q h k = k v h
then_ok (Err c) f P Q h k = tt

pub cond_ok : {T E : Type 0} (b : Bool) (x y : Result T E) (P : T → Type 0) → (b ≡ true → IfOk x P) → (b ≡ false → IfOk y P) → IfOk (cond b x y) P
cond_ok true x y P h k = h refl
cond_ok false x y P h k = k refl

pub line_ok : {A : Type 0} (l : ℕ) (s : Scan A) (P : A × List ℕ → Type 0) → IfOk s P → IfOk (on_line l s) P
line_ok l (Ok v) P h = h
line_ok l (Err c) P h = tt
