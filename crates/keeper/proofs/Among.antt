-- A run of lock calls is, among the runs of all calls, one over a store with no rows: so it has their law.
use Rattle.std.proofs.Common.{◌≡◌, ℕ, Bool, List, [], ◌∷◌, ◌++◌, map, Some, None, Option, sym, refl, ap, ◌∙◌, append-nil, arith}
use Rattle.policies.specs.Ranks.{Ranked}
use Rattle.tables.specs.Jobs.{Reply}
use Rattle.calls.specs.declared.transcript.Answer.{Answer as AnyAnswer}
use Rattle.calls.specs.declared.transcript.Answer.TheVariants.{Job as AnyJob, Lock as AnyLocked, Turned as AnyTurned, Released as AnyReleased, Closed as AnyClosed}
use Rattle.calls.specs.declared.transcript.Call.{Call as AnyCall}
use Rattle.calls.specs.declared.transcript.Call.TheVariants.{Open as AnyOpen, Lock as AnyLock, Turn as AnyTurn, Release as AnyRelease, Close as AnyClose}
use Rattle.calls.specs.declared.transcript.Entry.{Entry as AnyEntry}
use Rattle.calls.specs.Examples.{new_state}
use Rattle.calls.specs.Kinds.{Kinds}
use Rattle.calls.specs.Orders.{flat}
use Rattle.calls.specs.States.{State}
use Rattle.calls.specs.Systems.{System}
use Rattle.calls.specs.Runs.{said, answered as any_answered, leaving as any_leaving, answers as any_answers, left_by as any_left, calls as any_calls, told as any_told}
use Rattle.calls.specs.Serial.{Mark as AnyMark, opens as any_opens, turns as any_turns, marks as any_marks, history as any_history, opened_by as any_opened, turned_by as any_turned_by, withdrawn, asking as any_asking, Waits as AnyWaits, Chain as AnyChain}
use Rattle.calls.proofs.Laws.{Laws}
use Rattle.calls.proofs.Listed.{map_in}
use Rattle.calls.proofs.Whole.{Begins, one_after_another}
use Rattle.keeper.specs.declared.transcript.Answer.{Answer}
use Rattle.keeper.specs.declared.transcript.Answer.TheVariants.{Job, Lock as Locked, Turned, Released, Closed}
use Rattle.keeper.specs.declared.transcript.Call.{Call}
use Rattle.keeper.specs.declared.transcript.Call.TheVariants.{Open, Lock, Turn, Release, Close}
use Rattle.keeper.specs.declared.transcript.Entry.{Entry}
use Rattle.keeper.specs.Runs.{answered, leaving, answers, left_by, calls, told}
use Rattle.keeper.specs.Serial.{Mark, opens, turns, marks, history, opened_by, turned_by, asking, Waits, Chain, OneAfterAnother}
use Rattle.keeper.proofs.Beside.{lock_beside}

map_append : {A B : Type 0} (f : A → B) (xs ys : List A) → map f (xs ++ ys) ≡ map f xs ++ map f ys
map_append f [] ys = refl
map_append f (x ∷ xs) ys = rw (map_append f xs ys)

-- the same answer, call, entry and mark among all
module _ {Q : Type 0} where
  abbrev wide_answer : Answer → AnyAnswer Q
  wide_answer (Job j) = AnyJob j
  wide_answer (Locked a) = AnyLocked a
  wide_answer (Turned n) = AnyTurned n
  wide_answer Released = AnyReleased
  wide_answer (Closed n k) = AnyClosed n k

  abbrev wide_told : Option (Reply Answer) → Option (Reply (AnyAnswer Q))
  wide_told None = None
  wide_told (Some r) = Some (said wide_answer r)

module _ (P Q : Type 0) where
  abbrev wide : Call P → AnyCall P Q
  wide (Open c) = AnyOpen c
  wide (Lock j w p) = AnyLock j w p
  wide (Turn j) = AnyTurn j
  wide (Release j n) = AnyRelease j n
  wide (Close j) = AnyClose j

  abbrev wide_entry : Entry P → AnyEntry P Q
  wide_entry e = record { call = wide e.call; answer = wide_told e.answer }

  abbrev wide_mark : Mark → AnyMark P Q
  wide_mark (opens j) = any_opens j
  wide_mark (turns j n) = any_turns j n

  calls_wide : (es : List (Entry P)) → any_calls (map wide_entry es) ≡ map wide (calls es)
  calls_wide [] = refl
  calls_wide (e ∷ es) = ap (λ (l : List (AnyCall P Q)). wide e.call ∷ l) (calls_wide es)

  told_wide : (es : List (Entry P)) → any_told (map wide_entry es) ≡ map wide_told (told es)
  told_wide [] = refl
  told_wide (e ∷ es) = ap (λ (l : List (Option (Reply (AnyAnswer Q)))). wide_told e.answer ∷ l) (told_wide es)

  marks_wide : (c : Call P) (a : Option (Reply Answer)) → any_marks (wide c) (wide_told a) ≡ map wide_mark (marks c a)
  marks_wide (Open c) a = grind arith
  marks_wide (Lock j w p) a = refl
  marks_wide (Turn j) a = grind arith
  marks_wide (Release j n) a = refl
  marks_wide (Close j) a = grind arith

  history_wide : (es : List (Entry P)) → any_history (map wide_entry es) ≡ map wide_mark (history es)
  history_wide [] = refl
  history_wide (e ∷ es) = ap (λ (l : List (AnyMark P Q)). any_marks (wide e.call) (wide_told e.answer) ++ l) (history_wide es)
      ∙ ap (λ (l : List (AnyMark P Q)). l ++ map wide_mark (history es)) (marks_wide e.call e.answer)
      ∙ sym (map_append wide_mark (marks e.call e.answer) (history es))

  turned_wide : (m : List Mark) → flat any_turned_by (map wide_mark m) ≡ flat turned_by m
  turned_wide [] = refl
  turned_wide (opens j ∷ m) = turned_wide m
  turned_wide (turns j n ∷ m) = ap (λ (l : List ℕ). j ∷ l) (turned_wide m)

  opened_wide : (m : List Mark) → flat any_opened (map wide_mark m) ≡ flat opened_by m
  opened_wide [] = refl
  opened_wide (opens j ∷ m) = ap (λ (l : List ℕ). j ∷ l) (opened_wide m)
  opened_wide (turns j n ∷ m) = opened_wide m

  nobody_withdraws : (m : List Mark) → withdrawn (map wide_mark m) ≡ []
  nobody_withdraws [] = refl
  nobody_withdraws (opens j ∷ m) = nobody_withdraws m
  nobody_withdraws (turns j n ∷ m) = nobody_withdraws m

  asking_wide : (m : List Mark) → any_asking (map wide_mark m) ≡ asking m
  asking_wide m = rw (nobody_withdraws m, turned_wide m, opened_wide m, append-nil) refl

module _ {P Q R : Type 0} (K : Kinds P Q) (allows : ℕ → ℕ → ℕ → ℕ → Bool) where
  -- keeper and lock table, over a store with no rows and no places; a run of lock calls notes nothing in the undo log
  abbrev bare : State P R → System P Q
  bare σ = record { state = record { ledger = σ.ledger; locks = σ.locks; undo = []; table = σ.table; log = σ.log }; rows = []; places = 0 }

  same_answer : (c : Call P) (σ : State P R) → any_answered K allows (wide P Q c) (bare σ) ≡ said wide_answer (answered K.apart allows c σ)
  same_answer (Open c) σ = grind arith
  same_answer (Lock j w p) σ = grind arith
  same_answer (Turn j) σ = grind arith
  same_answer (Release j n) σ = grind arith
  same_answer (Close j) σ = grind arith

  same_left : (c : Call P) (σ : State P R) → any_leaving K allows (wide P Q c) (bare σ) ≡ bare (leaving K.apart allows c σ)
  same_left (Open c) σ = grind arith
  same_left (Lock j w p) σ = grind arith
  same_left (Turn j) σ = grind arith
  same_left (Release j n) σ = grind arith
  same_left (Close j) σ = grind arith

  all_answers : (cs : List (Call P)) (σ : State P R) → any_answers K allows (map (wide P Q) cs) (bare σ) ≡ map wide_told (answers K.apart allows cs σ)
  all_answers [] σ = refl
  all_answers (c ∷ cs) σ =
      let τ = leaving K.apart allows c σ in
      ap (λ (r : Reply (AnyAnswer Q)). Some r ∷ any_answers K allows (map (wide P Q) cs) (any_leaving K allows (wide P Q c) (bare σ))) (same_answer c σ)
      ∙ ap (λ (ω : System P Q). Some (said wide_answer (answered K.apart allows c σ)) ∷ any_answers K allows (map (wide P Q) cs) ω) (same_left c σ)
      ∙ ap (λ (l : List (Option (Reply (AnyAnswer Q)))). Some (said wide_answer (answered K.apart allows c σ)) ∷ l) (all_answers cs τ)

  all_left : (cs : List (Call P)) (σ : State P R) → any_left K allows (map (wide P Q) cs) (bare σ) ≡ bare (left_by K.apart allows cs σ)
  all_left [] σ = refl
  all_left (c ∷ cs) σ = ap (any_left K allows (map (wide P Q) cs)) (same_left c σ) ∙ all_left cs (leaving K.apart allows c σ)

  waits_wide : (σ : State P R) {j k : ℕ} → Waits K.apart allows σ j k → AnyWaits K allows (bare σ).state j k
  waits_wide σ {j} W = record {
    mode = W.mode;
    predicate = W.predicate;
    holder = W.holder;
    answer = rw (lock_beside σ {R' = Q} [] K.apart allows j W.mode W.predicate) W.answer;
    lock = W.lock;
    held = W.held;
    owned = W.owned;
    conflict = W.conflict;
  }

  chain_wide : (σ : State P R) (j k : ℕ) (through : List ℕ) → Chain K.apart allows σ j through k → AnyChain K allows (bare σ).state j through k
  chain_wide σ j k [] w = waits_wide σ w
  chain_wide σ j k (m ∷ ms) w = (waits_wide σ w.0, chain_wide σ m k ms w.1)

  module _ (L : Laws K) (rank : ℕ → ℕ → ℕ) (ranked : Ranked allows rank) where
    pub law : (n m : ℕ) (es : List (Entry P)) → told es ≡ answers {R = R} K.apart allows (calls es) (new_state n m) → OneAfterAnother K.apart allows (history es) (left_by {R = R} K.apart allows (calls es) (new_state n m))
    law n m es e =
        let σ : State P R = new_state n m in
        let B : Begins K (bare σ) = record { nobody_open = refl; no_locks = refl; no_undo = refl; sound = record { up = refl; few = omega arith; limit = omega arith } } in
        let told_so : any_told (map (wide_entry P Q) es) ≡ any_answers K allows (any_calls (map (wide_entry P Q) es)) (bare σ) =
        told_wide P Q es ∙ ap (map wide_told) e ∙ sym (ap (λ (l : List (AnyCall P Q)). any_answers K allows l (bare σ)) (calls_wide P Q es) ∙ all_answers (calls es) σ) in
        let H = one_after_another K L (bare σ) B allows rank ranked (map (wide_entry P Q) es) told_so in
        let G = rw (history_wide P Q es, calls_wide P Q es, all_left (calls es) σ) at H in
        record {
          turns_count = λ j n i. rw (turned_wide P Q (history es)) at (G.turns_count j n (map_in (wide_mark P Q) (turns j n) (history es) i));
          by_number = rw (asking_wide P Q (history es)) at G.by_number;
          locks_apart = G.locks_apart;
          no_ring = λ j through c. G.no_ring j through (chain_wide (left_by K.apart allows (calls es) σ) j j through c);
        }
