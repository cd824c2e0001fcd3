-- Paths that meet no vertex of a level below k: they join the vertices of one component, so that being joined by one is an equivalence.
use Prim.Native.Nat.{ℕ, ◌≤◌, ◌<◌}
use mathlib.Core.Path.{◌≡◌, sym, subst, ◌∙◌}
use mathlib.Core.Logic.{◌⊎◌, inl, inr, ⊎_elim, ◌↔◌}
use mathlib.Core.Bool.{true}
use mathlib.Core.List.{[], ◌∷◌, head-eq_of_cons-eq}
use lib.Dec.{leb}
use borrow.Author.Tests.{leb-true, le-leb}
use Rattle.paths.specs.Walk.{In}
use Rattle.paths.specs.Rooted.{Rooted, Child}
use Rattle.paths.specs.Route.{ptail, On}
use Rattle.paths.proofs.Steps.{on_same, on_last, on_below}
use Rattle.paths.proofs.Turn.{on_turn}
use Rattle.paths.proofs.Cut.{cover, on_first-part, step_up_lem, step_down}
use Rattle.paths.proofs.Unique.{next_step}
use Rattle.centroid.specs.Components.{in_component, component_of}
use Rattle.answers.proofs.Choices.{all_in, in_all}

-- the path from s to x meets no vertex of a level below k
abbrev pub Clear : (par dep level : ℕ → ℕ) → ℕ → ℕ → ℕ → Type 0
Clear par dep level k s x = (y : ℕ) → On par dep y s x → k ≤ level y

-- u and v are parent and child, one way or the other
abbrev pub Linked : (par dep : ℕ → ℕ) → ℕ → ℕ → Type 0
Linked par dep u v = Child par dep u v ⊎ Child par dep v u

-- the test of a component is passed exactly along clear paths
pub component_clear : (par dep level : ℕ → ℕ) (k s x : ℕ) → (in_component (ptail par dep) level k s x ≡ true) ↔ Clear par dep level k s x
component_clear par dep level k s x = (
  λ e y i. leb-true k (level y) (all_in (λ y. leb k (level y)) y (s ∷ ptail par dep s x) e i),
  λ c. in_all (λ y. leb k (level y)) (s ∷ ptail par dep s x) (λ y i. le-leb k (level y) (c y i)),
)

-- the test of the component of a centroid of level k
pub centroid_clear :
    (par dep level : ℕ → ℕ) {k : ℕ} (c x : ℕ) → level c ≡ k → (component_of (ptail par dep) level c x ≡ true) ↔ Clear par dep level k c x
centroid_clear par dep level c x e =
    subst (λ (j : ℕ). (component_of (ptail par dep) level c x ≡ true) ↔ Clear par dep level j c x) e (component_clear par dep level (level c) c x)

module _ {n root : ℕ} {par dep : ℕ → ℕ} (R : Rooted n root par dep) where
  -- the path between neighbours is one step
  pub link_path : {u v : ℕ} → u < n → v < n → Linked par dep u v → ptail par dep u v ≡ v ∷ []
  link_path {u} {v} hu hv (inl c) = rw (← c.1) (step_down R hv c.0)
  link_path {u} {v} hu hv (inr c) = rw (← c.1) (step_up_lem R hu c.0)

  -- two neighbours of p whose path avoids p are one
  pub one_neighbour : {p s t : ℕ} → p < n → s < n → t < n → Linked par dep p s → Linked par dep p t → (On par dep p s t → ⊥) → s ≡ t
  one_neighbour hp hs ht a b f = head-eq_of_cons-eq (sym (next_step R hp hs ht a f) ∙ link_path hp ht b)

module _ {n root : ℕ} {par dep : ℕ → ℕ} (R : Rooted n root par dep) (level : ℕ → ℕ) (k : ℕ) where
  -- from a vertex to itself
  pub clear_self : {s : ℕ} → k ≤ level s → Clear par dep level k s s
  clear_self {s} h y i = subst (λ (z : ℕ). k ≤ level z) (sym (on_same par dep y s i)) h

  -- the way back
  pub clear_turn : {s x : ℕ} → s < n → x < n → Clear par dep level k s x → Clear par dep level k x s
  clear_turn hs hx c y i = c y (on_turn R y hx hs i)

  -- two clear paths, the second from where the first ends
  pub clear_join : {s x z : ℕ} → s < n → x < n → z < n → Clear par dep level k s x → Clear par dep level k x z → Clear par dep level k s z
  clear_join hs hx hz a b y i = ⊎_elim (a y) (b y) (cover R y hs hz hx i)

  -- up to a vertex on the path
  pub clear-part : {s x : ℕ} → s < n → x < n → Clear par dep level k s x → (w : ℕ) → On par dep w s x → Clear par dep level k s w
  clear-part hs hx c w h y i = c y (on_first-part R w y hs hx h i)

  -- between neighbours
  pub clear_link : {u v : ℕ} → u < n → v < n → Linked par dep u v → k ≤ level u → k ≤ level v → Clear par dep level k u v
  clear_link hu hv l a b y (inl e) = subst (λ (z : ℕ). k ≤ level z) (sym e) a
  clear_link hu hv l a b y (inr i) = ⊎_elim (λ e. subst (λ (z : ℕ). k ≤ level z) (sym e) b) absurd (subst (In y) (link_path R hu hv l) i)

  -- its last vertex is of no lower level
  pub clear_last : {s x : ℕ} → s < n → x < n → Clear par dep level k s x → k ≤ level x
  clear_last {s} {x} hs hx c = c x (on_last R hs hx)

  -- by other levels, where none that is k or more by the one is below k by the other
  pub clear_other :
      (level' : ℕ → ℕ) → ((v : ℕ) → v < n → k ≤ level v → k ≤ level' v) → {s x : ℕ} → s < n → x < n
      → Clear par dep level k s x → Clear par dep level' k s x
  clear_other level' f hs hx c y i = f y (on_below R y hs hx i) (c y i)
