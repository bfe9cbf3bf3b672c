-- A run of lock calls, call by call, and the law of the whole.
use Rattle.std.proofs.Common.{◌≡◌, ℕ, ◌+◌, ◌<◌, ◌≤◌, Bool, List, [], ◌∷◌, ◌++◌, length, get_or, take, set, Some, Ok, Option, sym, refl, ap, ◌∙◌, arith, take_all}
use lib.ListN.{length-map}
use Rattle.std.proofs.lemmas.List.{take_more, take_more_set, map-set, set-get_or, get_or-map}
use Rattle.policies.specs.Ranks.{Ranked}
use Rattle.tables.specs.declared.entries.LockEntry.{LockEntry}
use Rattle.tables.specs.declared.entries.UndoEntry.{UndoEntry}
use Rattle.tables.specs.Jobs.{Reply}
use Rattle.calls.specs.Examples.{new_state}
use Rattle.calls.specs.Kinds.{Kinds}
use Rattle.calls.specs.States.{State}
use Rattle.calls.proofs.Laws.{Laws}
use Rattle.keeper.specs.declared.keeper.Keeper.{Keeper}
use Rattle.keeper.specs.declared.transcript.Answer.{Answer}
use Rattle.keeper.specs.declared.transcript.Call.{Call}
use Rattle.keeper.specs.declared.transcript.Call.TheVariants.{Open, Lock, Turn, Release, Close}
use Rattle.keeper.specs.declared.transcript.Entry.{Entry}
use Rattle.keeper.specs.Fronts.{Made, front}
use Rattle.keeper.specs.Runs.{answered, leaving, answers, left_by, calls, told}
use Rattle.keeper.specs.Ran.{Steps, Fitting, Went, Lawful, BeganWell}
use Rattle.keeper.proofs.Among.{law}

-- the lengths of the lent lists
abbrev SameLengths : {P R : Type 0} → State P R → State P R → Type 0
SameLengths τ σ = (τ.table ≡ σ.table) × (τ.log ≡ σ.log)

module _ {P R : Type 0} (apart : P → P → Bool) (allows : ℕ → ℕ → ℕ → ℕ → Bool) where
  -- no call alters them
  lengths : (c : Call P) (σ : State P R) → SameLengths (leaving apart allows c σ) σ
  lengths (Open c) σ = (refl, refl)
  lengths (Lock j w p) σ = (grind arith, grind arith)
  lengths (Turn j) σ = (grind arith, grind arith)
  lengths (Release j n) σ = (grind arith, grind arith)
  lengths (Close j) σ = (grind arith, grind arith)

  -- one call more at the end
  left_push : (cs : List (Call P)) (c : Call P) (σ : State P R) → left_by apart allows (cs ++ (c ∷ [])) σ ≡ leaving apart allows c (left_by apart allows cs σ)
  left_push [] c σ = refl
  left_push (x ∷ cs) c σ = left_push cs c (leaving apart allows x σ)

  answers_push : (cs : List (Call P)) (c : Call P) (σ : State P R) → answers apart allows (cs ++ (c ∷ [])) σ ≡ answers apart allows cs σ ++ (Some (answered apart allows c (left_by apart allows cs σ)) ∷ [])
  answers_push [] c σ = refl
  answers_push (x ∷ cs) c σ = ap (λ (l : List (Option (Reply Answer))). Some (answered apart allows x σ) ∷ l) (answers_push cs c (leaving apart allows x σ))

  -- the first i calls have been made
  pub record Running (script₀ : List (Entry P)) (σ₀ : State P R) (i : ℕ) (script : List (Entry P)) (σ : State P R) (t l : ℕ) : Type 0 where
    pub kept : calls script ≡ calls script₀
    pub state : σ ≡ left_by apart allows (take i (calls script₀)) σ₀
    pub said : take i (told script) ≡ answers apart allows (take i (calls script₀)) σ₀
    pub table : t ≡ σ.table
    pub log : l ≡ σ.log

module _ {P R : Type 0} {apart : P → P → Bool} {allows : ℕ → ℕ → ℕ → ℕ → Bool} where
  pub run_more : {script₀ : List (Entry P)} {σ₀ : State P R} {i : ℕ} {script : List (Entry P)} {k k' : Keeper} {table table' : List (LockEntry P)} {log log' : List (UndoEntry R)} {e : Entry P} {r : Reply Answer}
      → Running apart allows script₀ σ₀ i script (front k table log) (length table) (length log) → i < length script → e ≡ get_or script i e → length table' ≡ length table → length log' ≡ length log
      → Steps apart allows (get_or script i e).call k table log r k' table' log'
      → Running apart allows script₀ σ₀ (i + 1) (set script i (record { call = (get_or script i e).call; answer = Some r })) (front k' table' log') (length table') (length log')
  run_more {script₀} {σ₀} {i} {script} {k} {k'} {table} {table'} {log} {log'} {e} {r} m within read same-t same-l S =
      let v : Entry P = record { call = (get_or script i e).call; answer = Some r } in
      let d : Call P = (get_or script i e).call in
      let w : i < length (calls script) = let l = length-map script (λ (e : Entry P). e.call) in omega arith in
      let wt : i < length (told script) = let l = length-map script (λ (e : Entry P). e.answer) in omega arith in
      let ci : get_or (calls script) i d ≡ d = get_or-map (λ (e : Entry P). e.call) script i e d within in
      let kept : calls (set script i v) ≡ calls script = map-set (λ (e : Entry P). e.call) script i v ∙ ap (λ (x : Call P). set (calls script) i x) (sym ci) ∙ set-get_or (calls script) i d in
      let front_is : take (i + 1) (calls script₀) ≡ take i (calls script₀) ++ (d ∷ []) = rw (← m.kept) (take_more (calls script) i d w ∙ rw ci) in
      let long = lengths apart allows d (front k table log) in
      record {
        kept = kept ∙ m.kept;
        state = rw (front_is, left_push, ← m.state) S.state;
        said = rw (front_is, answers_push, ← m.state, map-set (λ (e : Entry P). e.answer) script i v, take_more_set (told script) i (Some r) wt, m.said, S.answer);
        table = same-t ∙ m.table ∙ sym (ap (λ (x : State P R). x.table) S.state ∙ long.0);
        log = same-l ∙ m.log ∙ sym (ap (λ (x : State P R). x.log) S.state ∙ long.1);
      }

module _ {P Q R : Type 0} (K : Kinds P Q) {allows : ℕ → ℕ → ℕ → ℕ → Bool} {script script' : List (Entry P)} {k k' : Keeper} {table table' : List (LockEntry P)} {log log' : List (UndoEntry R)} where
  pub run_whole : {i t l : ℕ} → Fitting k table log → length script ≤ i → length script' ≡ length script
      → Running K.apart allows script (front k table log) i script' (front k' table' log') t l → Went K.apart allows k table log script k' table' log' script'
  run_whole {i} fits end long m =
      let all = take_all i (calls script) (let n = length-map script (λ (e : Entry P). e.call) in omega arith) in
      let said = take_all i (told script') (let n = length-map script' (λ (e : Entry P). e.answer) in omega arith) in
      record { lists = fits; calls_kept = m.kept; answers_are = rw (said, all) at m.said; leaves = rw all at m.state }

  module _ (W : Went K.apart allows k table log script k' table' log' script') where
    pub went_lawful : Laws K → (rank : ℕ → ℕ → ℕ) → Ranked allows rank → Lawful K.apart allows k (Ok tt) k' table' log' script'
    went_lawful L rank ranked fresh =
        let f : front k table log ≡ new_state k.table k.log = rw (fresh.nobody, fresh.no_locks, fresh.no_undo) in
        let holds = law {R = R} K allows L rank ranked k.table k.log script' (rw (W.calls_kept, ← f) W.answers_are) in
        rw (W.calls_kept, ← f, ← W.leaves) at holds

    pub began_well : Made (length table) (length log) (Ok k) → Lawful K.apart allows k (Ok tt) k' table' log' script' → BeganWell K.apart allows table log script k' table' log' script'
    began_well M holds =
        let f : front k table log ≡ new_state (length table) (length log) = rw (M.4, M.5, M.6, M.7, M.8) in
        record {
          lists = (M.0, M.1, M.2, M.3);
          calls_kept = W.calls_kept;
          answers_are = rw f at W.answers_are;
          leaves = rw f at W.leaves;
          law = holds (record { nobody = M.4; no_locks = M.5; no_undo = M.6 });
        }
