-- Every component has a breadth first list: layer after layer, until nothing is left to lead on to.
use Prim.Native.Nat.{ℕ, zero, suc, ◌+◌, ◌≤◌, ◌<◌}
use native.Mathlib.Omega.{arith}
use mathlib.Core.Path.{◌≡◌, refl, sym, ap, ◌∙◌}
use mathlib.Core.Logic.{inl, ⊎_elim}
use mathlib.Core.Bool.{Bool}
use mathlib.Core.List.{List, [], ◌∷◌, ◌++◌}
use lib.ListN.{length}
use Rattle.sums.specs.Sum.{at}
use Rattle.sums.proofs.Pigeon.{injective_le}
use Rattle.paths.specs.Walk.{In, NoDup, Below}
use Rattle.paths.specs.Route.{ptail}
use Rattle.paths.proofs.Canon.{ptail_same}
use Rattle.paths.proofs.Listed.{in-below, at_in, nodup_at}
use Rattle.paths.proofs.Unique.{path_simple}
use Rattle.centroid.specs.Lists.{onwards, Breadth}
use Rattle.centroidlaws.proofs.Layers.{onward_in, onwards_in, onwards-append}
use Rattle.centroidlaws.proofs.Before.{Listed}

-- a list of numbers below n without repeats has at most n entries
once_short : (n : ℕ) (l : List ℕ) → NoDup l → Below n l → length l ≤ n
once_short n l d b = injective_le (length l) n (at l) (nodup_at l d) (λ i h. in-below n (at l i) l b (at_in l i h))

module _ (A : ℕ → List ℕ) (way : ℕ → ℕ → List ℕ) (C : ℕ → Bool) (c : ℕ) where
  -- a layer and the k - 1 behind it
  abbrev pub layers : ℕ → List ℕ → List ℕ
  layers zero l = []
  layers (suc k) l = l ++ layers k (onwards A way C c l)

  -- the layers together lead on to those behind the first
  layers_next : (k : ℕ) (l : List ℕ) → onwards A way C c (layers k l) ≡ layers k (onwards A way C c l)
  layers_next zero l = refl
  layers_next (suc k) l =
      onwards-append A way C c l (layers k (onwards A way C c l))
      ∙ ap (λ (m : List ℕ). onwards A way C c l ++ m) (layers_next k (onwards A way C c l))

module _ {n : ℕ} {A : ℕ → List ℕ} {par dep : ℕ → ℕ} (T : Listed n A par dep) (C : ℕ → Bool) {c : ℕ} (hc : c < n) where
  -- a layer of vertices, all at distance d from c
  record Layer (d : ℕ) (l : List ℕ) : Type 0 where
    vertex : (x : ℕ) → In x l → x < n
    distance : (x : ℕ) → In x l → length (ptail par dep c x) ≡ d

  -- the layer behind it is one step farther
  layer_next : {d : ℕ} {l : List ℕ} → Layer d l → Layer (suc d) (onwards A (ptail par dep) C c l)
  layer_next {d} {l} L = record {
    vertex = λ y i.
        let r = onwards_in A (ptail par dep) C c l y i in
        in-below n y (A r.0) (T.below r.0 (L.vertex r.0 r.1)) (onward_in A (ptail par dep) C c r.0 y r.2).0;
    distance = λ y i.
        let r = onwards_in A (ptail par dep) C c l y i in
        (onward_in A (ptail par dep) C c r.0 y r.2).2 ∙ ap suc (L.distance r.0 r.1);
  }

  -- no vertex is n steps away
  near : {x : ℕ} → x < n → length (ptail par dep c x) < n
  near {x} hx =
      let s = path_simple T.spans hc hx in
      once_short n (c ∷ ptail par dep c x) s.once s.below

  -- so a layer at distance n is empty
  layer_none : {d : ℕ} (l : List ℕ) → Layer d l → n ≤ d → l ≡ []
  layer_none [] L h = refl
  layer_none (x ∷ l) L h = absurd (let a = L.distance x (inl refl) in let b = near (L.vertex x (inl refl)) in omega arith)

  -- and n layers are all that there are
  layers_end : (k : ℕ) {d : ℕ} (l : List ℕ) → Layer d l → n ≤ d + k → layers A (ptail par dep) C c k l ≡ layers A (ptail par dep) C c (suc k) l
  layers_end zero l L h = rw (layer_none l L (omega arith))
  layers_end (suc k) l L h = ap (λ (m : List ℕ). l ++ m) (layers_end k (onwards A (ptail par dep) C c l) (layer_next L) (omega arith))

  -- c alone is the first layer
  layer_first : Layer 0 (c ∷ [])
  layer_first = record {
    vertex = λ x i. in-below n x (c ∷ []) (hc, tt) i;
    distance = λ x i. ⊎_elim (λ e. ap (λ (y : ℕ). length (ptail par dep c y)) e ∙ ap length (ptail_same par dep c)) absurd i;
  }

  -- the layers from c on are a breadth first list
  pub layers_breadth : Breadth A (ptail par dep) C c (layers A (ptail par dep) C c n (c ∷ []))
  layers_breadth = layers_end n (c ∷ []) layer_first (omega arith) ∙ ap (λ (m : List ℕ). c ∷ m) (sym (layers_next A (ptail par dep) C c n (c ∷ [])))
