-- The law of every run: the accepted data calls are as whole jobs one after another.
use Rattle.std.proofs.Common.{◌≡◌, ℕ, zero, suc, ◌<◌, Bool, true, not, ◌≢◌, List, [], ◌∷◌, ◌++◌, replicate, Some, None, Option, refl, ap, ◌∙◌, subst, inl, inr, append_assoc, arith}
use Rattle.std.proofs.lemmas.Bool.{not-true}
use Rattle.policies.specs.Ranks.{Ranked}
use Rattle.stores.specs.Stores.{Sound}
use Rattle.tables.specs.declared.entries.LockEntry.{LockEntry}
use Rattle.tables.specs.declared.ledger.JobRecord.{JobRecord}
use Rattle.tables.specs.Lists.{In}
use Rattle.tables.specs.Locks.{conflicts}
use Rattle.tables.specs.Jobs.{Reply, fresh_ledger}
use Rattle.tables.proofs.Lists.{both, is_self}
use Rattle.calls.specs.declared.transcript.Answer.{Answer}
use Rattle.calls.specs.declared.transcript.Call.{Call}
use Rattle.calls.specs.declared.transcript.Entry.{Entry}
use Rattle.calls.specs.Kinds.{Kinds}
use Rattle.calls.specs.Orders.{Pairs, flat, among}
use Rattle.calls.specs.Plain.{Done}
use Rattle.calls.specs.Systems.{System}
use Rattle.calls.specs.Runs.{answers, left_by, calls, told}
use Rattle.calls.specs.Serial.{Mark, does, marks, history, opened_by, turned_by, turned, withdrawn, asking, came, OneAfterAnother}
use Rattle.calls.proofs.Laws.{Laws}
use Rattle.calls.proofs.Listed.{in_left, in_right, in_split, keep_in, in_keep, pairs_keep, pairs_map, pairs_append, map_in, map_pairs, stands?, in_among, not_among, add_new_distinct, ahead_append, ahead_places, none_in}
use Rattle.calls.proofs.Arrange.{Keeps, arrange}
use Rattle.calls.proofs.Marked.{Holds, stay}
use Rattle.calls.proofs.Kept.{call_keeps}
use Rattle.calls.proofs.Rings.{no_ring}

-- the marks of calls and answers that stand side by side
abbrev beside : {P R : Type 0} → List (Call P R) → List (Option (Reply (Answer R))) → List (Mark P R)
beside [] rest = []
beside (c ∷ cs) [] = []
beside (c ∷ cs) (a ∷ rest) = marks c a ++ beside cs rest

history_is : {P R : Type 0} (es : List (Entry P R)) → history es ≡ beside (calls es) (told es)
history_is [] = refl
history_is (e ∷ es) = rw (history_is es)

nobody : (n : ℕ) (b : JobRecord) → In {A = Option JobRecord} (Some b) (replicate n None) → ⊥
nobody zero b m = m
nobody (suc n) b m = let ih = nobody n b in grind arith

-- a keeper fresh from its making, over any rows of a store
pub record Begins {P R : Type 0} (K : Kinds P R) (ω : System P R) : Type 0 where
  pub nobody_open : ω.state.ledger ≡ fresh_ledger
  pub no_locks : ω.state.locks ≡ []
  pub no_undo : ω.state.undo ≡ []
  pub sound : Sound K.order ω.rows ω.places

pairs_all : {A : Type 0} (S : A → A → Type 0) (xs : List A) → ((x y : A) → In x xs → In y xs → S x y) → Pairs S xs
pairs_all S [] f = tt
pairs_all S (x ∷ xs) f = ((λ y m. f x y (inl refl) (inr m)), pairs_all S xs (λ y z m n. f y z (inr m) (inr n)))

module _ {P R : Type 0} (K : Kinds P R) (L : Laws K) (ω₀ : System P R) (F : Begins K ω₀) where
  begin : Holds K L ω₀.rows [] ω₀
  begin = record {
    os = [];
    names = refl;
    counts = λ j n m. absurd m;
    touches = λ before later e f q m. absurd (none_in before later (does f) q);
    inv = record {
      replays = refl;
      ordered = tt;
      rising = tt;
      below = λ o m. absurd m;
      few = rw F.nobody_open (omega arith);
      opened = λ k m. elim m [ inl i ↦ absurd i | inr i ↦ absurd i ];
      done_opened = λ e m. absurd m;
      open_jobs = λ b m. absurd (nobody 32 b (rw F.nobody_open at m));
      lock_opened = λ l m. absurd (no_lock l m);
      count = rw F.nobody_open;
      guarded = λ l m. absurd (no_lock l m);
      covered = λ e m. absurd m;
      clear = λ l m. absurd (no_lock l m);
      room = rw F.no_undo (let f = F.sound.few in omega arith);
      logged = λ k n. rw F.no_undo;
    };
  }
    where
      no_lock : (l : LockEntry P) → In l ω₀.state.locks → ⊥
      no_lock l m = rw F.no_locks at m

  module _ (allows : ℕ → ℕ → ℕ → ℕ → Bool) (rank : ℕ → ℕ → ℕ) (ranked : Ranked allows rank) (m : List (Mark P R)) (ω : System P R) (H : Holds K L ω₀.rows m ω) where
    by_number : Pairs ◌<◌ (asking m)
    by_number = pairs_keep _ ◌<◌ (flat opened_by m) (subst (Pairs ◌<◌) H.names (map_pairs (λ (o : ℕ × ℕ). o.0) ◌<◌ H.os H.inv.rising))

    in_order : Keeps K (turned m ++ asking m) (came m)
    in_order = record {
      distinct =
          pairs_append ◌≢◌ (turned m) (asking m) (add_new_distinct [] (flat turned_by m) tt) (pairs_map ◌<◌ ◌≢◌ (asking m) (λ j k i n h e. omega arith) by_number)
          (λ j k i n e. both (in_among k (turned m ++ withdrawn m) (in_left k (turned m) (withdrawn m) (subst (λ (i : ℕ). In i (turned m)) e i)))
          (not-true _ (keep_in k (λ (j : ℕ). not (among j (turned m ++ withdrawn m))) (flat opened_by m) n).1));
      all_jobs = λ e i. elim (stands? e.job (turned m)) [
        | inl t ↦ in_left e.job (turned m) (asking m) t
        | inr n ↦
            let o = H.inv.done_opened e i in
            in_right e.job (turned m) (asking m) (in_keep e.job (λ (j : ℕ). not (among j (turned m ++ withdrawn m))) (flat opened_by m)
            (subst (In e.job) H.names (map_in (λ (o : ℕ × ℕ). o.0) (e.job, o.0) H.os o.1))
            (ap not (not_among e.job (turned m ++ withdrawn m) (λ k. elim (in_split e.job (turned m) (withdrawn m) k) [
              | inl t ↦ n t
              | inr w ↦ both (in_among e.job (withdrawn m) w) (not-true _ (keep_in e (λ (e : Done P R). not (among e.job (withdrawn m))) _ i).1)
            ]))))
      ];
      conflicts = pairs_map _ _ (came m) (λ e f i k h n q. ahead_append e.job f.job (turned m) (asking m) (h n q)) H.inv.ordered;
    }

    apart : (l k : LockEntry P) → In l ω.state.locks → In k ω.state.locks → conflicts K.apart k.job k.mode k.predicate l ≡ true → ⊥
    apart l k i n h = let c = H.inv.clear k n l i in let s = is_self k.job in grind arith

    whole : OneAfterAnother K allows ω₀.rows m ω.rows ω.state
    whole = record {
      serial = arrange K L (turned m ++ asking m) (came m) ω₀.rows ω.rows F.sound.up in_order H.inv.replays;
      turns_count = H.counts;
      by_number = by_number;
      touches_in_order = λ before later e f q i n c w v.
          let h = H.touches before later e f q i n c w in
          (h.0, λ a b p r. ahead_places e.job f.job a b (turned m) (add_new_distinct [] (flat turned_by m) tt) n h.1 (H.counts e.job a p) (H.counts f.job b r));
      locks_apart = pairs_all _ ω.state.locks apart;
      no_ring = no_ring allows rank ranked H.inv;
    }

  calls_keep : (allows : ℕ → ℕ → ℕ → ℕ → Bool) (cs : List (Call P R)) (m : List (Mark P R)) (ω : System P R) → Holds K L ω₀.rows m ω → Holds K L ω₀.rows (m ++ beside cs (answers K allows cs ω)) (left_by K allows cs ω)
  calls_keep allows [] m ω H = stay H ω H.inv
  calls_keep allows (c ∷ cs) m ω H =
      subst (λ (t : List (Mark P R)). Holds K L ω₀.rows t (left_by K allows (c ∷ cs) ω)) (append_assoc m _ _)
      (calls_keep allows cs _ _ (call_keeps K L allows ω₀.rows F.sound.up m ω H c))

  -- of every transcript of calls made from ω₀ on
  pub one_after_another : (allows : ℕ → ℕ → ℕ → ℕ → Bool) (rank : ℕ → ℕ → ℕ) → Ranked allows rank → (es : List (Entry P R)) → told es ≡ answers K allows (calls es) ω₀
      → OneAfterAnother K allows ω₀.rows (history es) (left_by K allows (calls es) ω₀).rows (left_by K allows (calls es) ω₀).state
  one_after_another allows rank ranked es e =
      let h : history es ≡ beside (calls es) (answers K allows (calls es) ω₀) = history_is es ∙ ap (beside (calls es)) e in
      whole allows rank ranked (history es) (left_by K allows (calls es) ω₀) (rw h (calls_keep allows (calls es) [] ω₀ begin))
