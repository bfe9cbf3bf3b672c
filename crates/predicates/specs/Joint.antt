-- A predicate in two parts that must both hold: the laws, from those of the parts. Assumes nothing.
use Rattle.std.specs.Prelude.{◌≡◌, Bool, true, ◌&&◌, ◌||◌, ◌≢◌}
use Rattle.std.proofs.Common.{⊎_elim}
use Rattle.std.proofs.lemmas.Bool.{and_parts, and_from, or_cases}

module _ {a b h h' k k' : Bool} where
  pub joint_disjoint : (a ≡ true → h ≡ true → k ≢ true) → (b ≡ true → h' ≡ true → k' ≢ true) → (a || b) ≡ true → (h && h') ≡ true → (k && k') ≢ true
  joint_disjoint f g e x y =
      let hs = and_parts h h' x in
      let ks = and_parts k k' y in
      ⊎_elim (λ p. f p hs.0 ks.0) (λ p. g p hs.1 ks.1) (or_cases a b e)

  pub joint_contained : (a ≡ true → h ≡ true → k ≡ true) → (b ≡ true → h' ≡ true → k' ≡ true) → (a && b) ≡ true → (h && h') ≡ true → (k && k') ≡ true
  joint_contained f g e x =
      let es = and_parts a b e in
      let hs = and_parts h h' x in
      and_from k k' (f es.0 hs.0) (g es.1 hs.1)
