-- The numbers of a path, of each kind: one step at its front, two paths joined, and the path turned round.
use Prim.Native.Nat.{ℕ, ◌*◌, ◌<◌}
use native.Mathlib.Omega.{arith}
use mathlib.Core.Path.{◌≡◌, refl, sym, ap, ◌∙◌}
use mathlib.Core.List.{List, [], ◌∷◌, ◌++◌, reverse, reverse-append, reverse-reverse}
use lib.ListN.{drop}
use borrow.Author.Tests.{lt-ltb, le-ltb}
use Rattle.paths.specs.Walk.{From}
use Rattle.paths.specs.Rooted.{Rooted, Anc}
use Rattle.paths.specs.Route.{ptail}
use Rattle.paths.proofs.Canon.{ptail_same, ends_ind, StepUp, StepDown}
use Rattle.paths.proofs.Above.{anc_same}
use Rattle.paths.proofs.Steps.{no_anc_pos, leave, arrive}
use Rattle.paths.proofs.Unique.{path_walk}
use Rattle.ranges.specs.Readings.{both_numbers}
use Rattle.ranges.specs.declared.kinds.Kind.{Kind}
use Rattle.ranges.specs.declared.kinds.Kind.TheVariants.{Vertices, Edges, Both}
use Rattle.readings.specs.Numbers.{numbers_of, rest}
use Rattle.readings.proofs.Runs.{alone, step_up}

-- a path of one vertex has the numbers of the vertex on its own
pub numbers_alone : (kind : Kind) (dep id : ℕ → ℕ) (x : ℕ) → numbers_of kind dep id x [] ≡ alone kind (id x)
numbers_alone Vertices dep id x = refl
numbers_alone Edges dep id x = refl
numbers_alone Both dep id x = refl

-- which read the same both ways
alone-turned : (kind : Kind) (i : ℕ) → alone kind i ≡ reverse (alone kind i)
alone-turned Vertices i = refl
alone-turned Edges i = refl
alone-turned Both i = refl

-- a path that begins with a step up
numbers_up : (kind : Kind) (dep id : ℕ → ℕ) (x y : ℕ) (P : List ℕ) → dep y < dep x → numbers_of kind dep id x (y ∷ P) ≡ step_up kind (id x) ++ numbers_of kind dep id y P
numbers_up Vertices dep id x y P h = refl
numbers_up Edges dep id x y P h = rw (lt-ltb (dep y) (dep x) h)
numbers_up Both dep id x y P h = rw (lt-ltb (dep y) (dep x) h)

-- the doubled numbers begin with that of the first vertex
both_first : (dep id : ℕ → ℕ) (x : ℕ) (P : List ℕ) → both_numbers dep id x P ≡ 2 * id x ∷ drop 1 (both_numbers dep id x P)
both_first dep id x [] = refl
both_first dep id x (y ∷ P) = refl

-- a path to w and one from w, joined
pub numbers_join :
    (kind : Kind) (dep id : ℕ → ℕ) (E : ℕ → ℕ → Type 0) (x w : ℕ) (P Q : List ℕ) → From E x w P
    → numbers_of kind dep id x (P ++ Q) ≡ numbers_of kind dep id x P ++ rest kind (numbers_of kind dep id w Q)
numbers_join Vertices dep id E x w [] Q e = refl
numbers_join Vertices dep id E x w (y ∷ P) Q f = ap (λ (l : List ℕ). id x ∷ l) (numbers_join Vertices dep id E y w P Q f.1)
numbers_join Edges dep id E x w [] Q e = ap (λ (z : ℕ). numbers_of Edges dep id z Q) e
numbers_join Edges dep id E x w (y ∷ P) Q f = rw (numbers_join Edges dep id E y w P Q f.1)
numbers_join Both dep id E x w [] Q e = rw e (both_first dep id w Q)
numbers_join Both dep id E x w (y ∷ P) Q f = rw (numbers_join Both dep id E y w P Q f.1)

-- what a step down adds at the end is what a step up has, turned round
step_down-rest : (kind : Kind) (dep id : ℕ → ℕ) (p y : ℕ) → dep p < dep y → rest kind (numbers_of kind dep id p (y ∷ [])) ≡ reverse (step_up kind (id y))
step_down-rest Vertices dep id p y h = refl
step_down-rest Edges dep id p y h = rw (le-ltb (dep y) (dep p) (omega arith))
step_down-rest Both dep id p y h = rw (le-ltb (dep y) (dep p) (omega arith))

-- a reading that is another reversed: the other is the one reversed
turned_back : (a b : List ℕ) → a ≡ reverse b → b ≡ reverse a
turned_back a b e = sym (reverse-reverse b) ∙ ap reverse (sym e)

module _ {n root : ℕ} {par dep : ℕ → ℕ} (R : Rooted n root par dep) where
  -- a path ends where it says
  pub walks : {u v : ℕ} → u < n → v < n → From (λ x y. Unit {0}) u v (ptail par dep u v)
  walks hu hv = path_walk R (λ x y. Unit {0}) (λ v h p. tt) (λ v h p. tt) hu hv

module _ {n root : ℕ} {par dep : ℕ → ℕ} (R : Rooted n root par dep) (kind : Kind) (id : ℕ → ℕ) where
  -- the path to another subtree begins with a step up
  pub numbers_leave :
      {x v : ℕ} → x < n → v < n → (Anc par dep x v → ⊥)
      → numbers_of kind dep id x (ptail par dep x v) ≡ step_up kind (id x) ++ numbers_of kind dep id (par x) (ptail par dep (par x) v)
  numbers_leave {x} {v} hx hv f =
      let z = R.par_dep x hx (no_anc_pos R hx hv f) in
      rw (leave R hx hv f) (numbers_up kind dep id x (par x) (ptail par dep (par x) v) (omega arith))

  -- the path from another subtree ends with a step down
  numbers_arrive :
      {u x : ℕ} → u < n → x < n → (Anc par dep x u → ⊥)
      → numbers_of kind dep id u (ptail par dep u x) ≡ numbers_of kind dep id u (ptail par dep u (par x)) ++ reverse (step_up kind (id x))
  numbers_arrive {u} {x} hu hx f =
      let p = no_anc_pos R hx hu f in
      let z = R.par_dep x hx p in
      rw (
        arrive R hu hx f,
        numbers_join kind dep id (λ x y. Unit {0}) u (par x) (ptail par dep u (par x)) (x ∷ []) (walks R hu (R.par_below x hx p)),
        step_down-rest kind dep id (par x) x (omega arith),
      )

  -- the way back from v to u has the numbers turned round
  abbrev Back : ℕ → ℕ → Type 0
  Back u v = numbers_of kind dep id v (ptail par dep v u) ≡ reverse (numbers_of kind dep id u (ptail par dep u v))

  -- it has if it has after a step up
  back_step : {u v : ℕ} → u < n → v < n → (Anc par dep u v → ⊥) → Back (par u) v → Back u v
  back_step {u} {v} hu hv f ih =
      rw (numbers_arrive hv hu f, ih, numbers_leave hu hv f)
      (sym (reverse-append (step_up kind (id u)) (numbers_of kind dep id (par u) (ptail par dep (par u) v))))

  -- the path from v to u has the numbers of that from u to v, turned round
  pub numbers_turn : {u v : ℕ} → u < n → v < n → numbers_of kind dep id v (ptail par dep v u) ≡ reverse (numbers_of kind dep id u (ptail par dep u v))
  numbers_turn {u} {v} hu hv = ends_ind R Back same up down u v hu hv
    where
      same : (u : ℕ) → u < n → Back u u
      same u hu = rw (ptail_same par dep u, numbers_alone kind dep id u) (alone-turned kind (id u))

      up : StepUp n par dep Back
      up u v hu hv d p q ih = back_step hu hv (λ a. d (anc_same par dep u v a (omega arith))) ih

      down : StepDown n par dep Back
      down u v hu hv q ih =
          turned_back (numbers_of kind dep id u (ptail par dep u v)) (numbers_of kind dep id v (ptail par dep v u))
          (back_step hv hu (λ a. omega arith)
          (turned_back (numbers_of kind dep id (par v) (ptail par dep (par v) u)) (numbers_of kind dep id u (ptail par dep u (par v))) ih))
