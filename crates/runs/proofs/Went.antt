-- A run, call by call, and the law of the whole.
use Rattle.std.proofs.Common.{◌≡◌, ℕ, ◌+◌, ◌<◌, ◌≤◌, Bool, List, [], ◌∷◌, ◌++◌, length, get_or, take, set, Some, Ok, Option, sym, refl, ap, ◌∙◌, arith, take_all}
use lib.ListN.{length-map}
use Rattle.std.proofs.lemmas.List.{take_more, take_more_set, map-set, set-get_or, get_or-map}
use Rattle.policies.specs.Ranks.{Ranked}
use Rattle.stores.specs.Stores.{Sound}
use Rattle.tables.specs.declared.entries.LockEntry.{LockEntry}
use Rattle.tables.specs.declared.entries.UndoEntry.{UndoEntry}
use Rattle.tables.specs.Jobs.{Reply}
use Rattle.calls.specs.declared.transcript.Answer.{Answer}
use Rattle.calls.specs.declared.transcript.Call.{Call}
use Rattle.calls.specs.declared.transcript.Call.TheVariants.{Open, Lock, Turn, Release, Close, Withdraw, Data}
use Rattle.calls.specs.declared.transcript.Entry.{Entry}
use Rattle.calls.specs.Kinds.{Kinds}
use Rattle.calls.specs.States.{State}
use Rattle.calls.specs.Systems.{System}
use Rattle.calls.specs.Runs.{answered, leaving, answers, left_by, calls, told}
use Rattle.calls.proofs.Laws.{Laws}
use Rattle.calls.proofs.Whole.{Begins, one_after_another}
use Rattle.keeper.specs.declared.keeper.Keeper.{Keeper}
use Rattle.keeper.specs.Fronts.{Made}
use Rattle.keeper.specs.Dealings.{system}
use Rattle.runs.specs.Ran.{Steps, Fitting, Went, Lawful, new_system, BeganWell}

-- the lengths of the lent lists
abbrev SameLengths : {P R : Type 0} → State P R → State P R → Type 0
SameLengths τ σ = (τ.table ≡ σ.table) × (τ.log ≡ σ.log)

module _ {P R : Type 0} (K : Kinds P R) (allows : ℕ → ℕ → ℕ → ℕ → Bool) where
  -- no call alters them
  lengths : (c : Call P R) (ω : System P R) → SameLengths (leaving K allows c ω).state ω.state
  lengths (Open c) ω = (refl, refl)
  lengths (Lock j w p) ω = (grind arith, grind arith)
  lengths (Turn j) ω = (grind arith, grind arith)
  lengths (Release j n) ω = (grind arith, grind arith)
  lengths (Close j) ω = (grind arith, grind arith)
  lengths (Withdraw j) ω = (grind arith, grind arith)
  lengths (Data j d) ω = (grind arith, grind arith)

  -- one call more at the end
  left_push : (cs : List (Call P R)) (c : Call P R) (ω : System P R) → left_by K allows (cs ++ (c ∷ [])) ω ≡ leaving K allows c (left_by K allows cs ω)
  left_push [] c ω = refl
  left_push (x ∷ cs) c ω = left_push cs c (leaving K allows x ω)

  answers_push : (cs : List (Call P R)) (c : Call P R) (ω : System P R) → answers K allows (cs ++ (c ∷ [])) ω ≡ answers K allows cs ω ++ (Some (answered K allows c (left_by K allows cs ω)) ∷ [])
  answers_push [] c ω = refl
  answers_push (x ∷ cs) c ω = ap (λ (l : List (Option (Reply (Answer R)))). Some (answered K allows x ω) ∷ l) (answers_push cs c (leaving K allows x ω))

  -- the first i calls have been made
  pub record Running (script₀ : List (Entry P R)) (ω₀ : System P R) (i : ℕ) (script : List (Entry P R)) (ω : System P R) (t l : ℕ) : Type 0 where
    pub kept : calls script ≡ calls script₀
    pub state : ω ≡ left_by K allows (take i (calls script₀)) ω₀
    pub said : take i (told script) ≡ answers K allows (take i (calls script₀)) ω₀
    pub table : t ≡ ω.state.table
    pub log : l ≡ ω.state.log

module _ {P R : Type 0} {K : Kinds P R} {allows : ℕ → ℕ → ℕ → ℕ → Bool} where
  pub run_more : {script₀ : List (Entry P R)} {ω₀ : System P R} {i : ℕ} {script : List (Entry P R)} {k k' : Keeper} {table table' : List (LockEntry P)} {log log' : List (UndoEntry R)} {rows rows' : List R} {places places' : ℕ} {e : Entry P R} {r : Reply (Answer R)}
      → Running K allows script₀ ω₀ i script (system k table log rows places) (length table) (length log) → i < length script → e ≡ get_or script i e → length table' ≡ length table → length log' ≡ length log
      → Steps K allows (get_or script i e).call k table log rows places r k' table' log' rows' places'
      → Running K allows script₀ ω₀ (i + 1) (set script i (record { call = (get_or script i e).call; answer = Some r })) (system k' table' log' rows' places') (length table') (length log')
  run_more {script₀} {ω₀} {i} {script} {k} {k'} {table} {table'} {log} {log'} {rows} {rows'} {places} {places'} {e} {r} m within read same-t same-l S =
      let v : Entry P R = record { call = (get_or script i e).call; answer = Some r } in
      let d : Call P R = (get_or script i e).call in
      let w : i < length (calls script) = let l = length-map script (λ (e : Entry P R). e.call) in omega arith in
      let wt : i < length (told script) = let l = length-map script (λ (e : Entry P R). e.answer) in omega arith in
      let ci : get_or (calls script) i d ≡ d = get_or-map (λ (e : Entry P R). e.call) script i e d within in
      let kept : calls (set script i v) ≡ calls script = map-set (λ (e : Entry P R). e.call) script i v ∙ ap (λ (x : Call P R). set (calls script) i x) (sym ci) ∙ set-get_or (calls script) i d in
      let front_is : take (i + 1) (calls script₀) ≡ take i (calls script₀) ++ (d ∷ []) = rw (← m.kept) (take_more (calls script) i d w ∙ rw ci) in
      let long = lengths K allows d (system k table log rows places) in
      record {
        kept = kept ∙ m.kept;
        state = rw (front_is, left_push, ← m.state) S.state;
        said = rw (front_is, answers_push, ← m.state, map-set (λ (e : Entry P R). e.answer) script i v, take_more_set (told script) i (Some r) wt, m.said, S.answer);
        table = same-t ∙ m.table ∙ sym (ap (λ (x : System P R). x.state.table) S.state ∙ long.0);
        log = same-l ∙ m.log ∙ sym (ap (λ (x : System P R). x.state.log) S.state ∙ long.1);
      }

  module _ {script script' : List (Entry P R)} {k k' : Keeper} {table table' : List (LockEntry P)} {log log' : List (UndoEntry R)} {rows rows' : List R} {places places' : ℕ} where
    pub run_whole : {i t l : ℕ} → Fitting k table log → length script ≤ i → length script' ≡ length script
        → Running K allows script (system k table log rows places) i script' (system k' table' log' rows' places') t l → Went K allows k table log rows places script k' table' log' rows' places' script'
    run_whole {i} fits end long m =
        let all = take_all i (calls script) (let n = length-map script (λ (e : Entry P R). e.call) in omega arith) in
        let said = take_all i (told script') (let n = length-map script' (λ (e : Entry P R). e.answer) in omega arith) in
        record { lists = fits; calls_kept = m.kept; answers_are = rw (said, all) at m.said; leaves = rw all at m.state }

    module _ (W : Went K allows k table log rows places script k' table' log' rows' places' script') where
      pub went_lawful : Laws K → (rank : ℕ → ℕ → ℕ) → Ranked allows rank → Sound K.order rows places → Lawful K allows k rows (Ok tt) k' table' log' rows' script'
      went_lawful L rank ranked sound fresh =
          let ω = system k table log rows places in
          let B : Begins K ω = record { nobody_open = fresh.nobody; no_locks = rw fresh.no_locks; no_undo = rw fresh.no_undo; sound = sound } in
          let law = one_after_another K L ω B allows rank ranked script' (rw W.calls_kept W.answers_are) in
          rw (W.calls_kept, ← W.leaves) at law

      pub began_well : Made (length table) (length log) (Ok k) → Lawful K allows k rows (Ok tt) k' table' log' rows' script' → BeganWell K allows table log rows places script k' table' log' rows' places' script'
      began_well M law =
          let f : system k table log rows places ≡ new_system (length table) (length log) rows places = rw (M.4, M.5, M.6, M.7, M.8) in
          record {
            lists = (M.0, M.1, M.2, M.3);
            calls_kept = W.calls_kept;
            answers_are = rw f at W.answers_are;
            leaves = rw f at W.leaves;
            law = law (record { nobody = M.4; no_locks = M.5; no_undo = M.6 });
          }
