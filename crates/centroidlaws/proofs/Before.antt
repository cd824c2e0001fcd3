-- The vertex before another on the path from c: the only neighbour that is one step nearer to c.
use Prim.Native.Nat.{ℕ, suc, ◌<◌}
use native.Mathlib.Omega.{arith}
use mathlib.Core.Path.{◌≡◌, refl, sym, ap, subst, ◌∙◌}
use mathlib.Core.Logic.{inl, inr, ◌≢◌}
use mathlib.Core.List.{List, [], ◌∷◌, head-eq_of_cons-eq}
use lib.ListN.{length}
use Rattle.paths.specs.Walk.{In, NoDup, Below, Simple, Stands}
use Rattle.paths.specs.Rooted.{Spans}
use Rattle.paths.specs.Route.{ptail, On}
use Rattle.paths.proofs.Turn.{length_turn}
use Rattle.paths.proofs.Cut.{cut-length}
use Rattle.paths.proofs.Unique.{path_simple, path_unique, next_step}
use Rattle.centroidlaws.proofs.Clear.{Linked}

-- a tree's lists, without repeats and below n, with parents and depths from root 0
pub record Listed (n : ℕ) (A : ℕ → List ℕ) (par dep : ℕ → ℕ) : Type 0 where
  pub spans : Spans n (Stands A) 0 par dep
  pub below : (u : ℕ) → u < n → Below n (A u)
  pub once : (u : ℕ) → u < n → NoDup (A u)

-- the vertex before x on the path from c
pub record Before (n : ℕ) (par dep : ℕ → ℕ) (c x w : ℕ) : Type 0 where
  pub below : w < n
  pub linked : Linked par dep x w
  pub path : ptail par dep x c ≡ w ∷ ptail par dep w c

module _ {n : ℕ} {A : ℕ → List ℕ} {par dep : ℕ → ℕ} (T : Listed n A par dep) where
  -- there is one before each vertex but c
  pub before : {c x : ℕ} → c < n → x < n → x ≢ c → (w : ℕ) × Before n par dep c x w
  before {c} {x} hc hx ne = go (ptail par dep x c) refl (path_simple T.spans hx hc)
    where
      go : (l : List ℕ) → ptail par dep x c ≡ l → Simple n (Stands A) x c l → (w : ℕ) × Before n par dep c x w
      go [] e s = absurd (ne s.walk)
      go (w ∷ l) e s =
          let rest : Simple n (Stands A) w c l = record { walk = s.walk.1; once = s.once.1; below = s.below.1 } in (
            w,
            record {
              below = s.below.1.0;
              linked = T.spans.only x w hx s.below.1.0 s.walk.0;
              path = e ∙ ap (λ (t : List ℕ). w ∷ t) (path_unique T.spans rest);
            },
          )

  -- it is one step nearer
  pub before_nearer : {c x w : ℕ} → c < n → x < n → Before n par dep c x w → length (ptail par dep c x) ≡ suc (length (ptail par dep c w))
  before_nearer {c} {x} {w} hc hx b =
      let R = T.spans.rooted in
      length_turn R hc hx ∙ ap length b.path ∙ ap suc (length_turn R b.below hc)

  -- it is the only neighbour one step nearer
  pub before-one : {c x w y : ℕ} → c < n → x < n → Before n par dep c x w → y < n → Linked par dep x y
      → length (ptail par dep c x) ≡ suc (length (ptail par dep c y)) → y ≡ w
  before-one {c} {x} {w} {y} hc hx b hy l e =
      let R = T.spans.rooted in
      let off : On par dep x y c → ⊥ = λ h. (let z = cut-length R x hy hc h in let p = length_turn R hc hx in let q = length_turn R hc hy in omega arith) in
      head-eq_of_cons-eq (sym (next_step R hx hy hc l off) ∙ b.path)

  -- neighbours stand in each other's lists
  pub linked_in : {u v : ℕ} → u < n → v < n → Linked par dep u v → In u (A v)
  linked_in {u} {v} hu hv (inl p) = subst (λ (z : ℕ). In z (A v)) p.1 (T.spans.up v hv p.0)
  linked_in {u} {v} hu hv (inr p) = subst (λ (z : ℕ). In u (A z)) p.1 (T.spans.down u hu p.0)
