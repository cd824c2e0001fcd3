-- A tree hangs from any of its vertices: each vertex's parent is the next one on its path to the root, its depth the path's length.
use Prim.Native.Nat.{ℕ, ◌+◌, ◌<◌}
use native.Mathlib.Omega.{arith}
use mathlib.Core.Path.{◌≡◌, refl, sym, ap}
use mathlib.Core.List.{List, [], ◌∷◌}
use lib.ListN.{length}
use Rattle.sums.specs.Sum.{at}
use Rattle.sums.proofs.Pigeon.{choose}
use Rattle.paths.specs.Walk.{In, Simple, Stands}
use Rattle.paths.specs.Tree.{Tree}
use Rattle.paths.specs.Rooted.{Rooted, Spans}
use Rattle.paths.proofs.Counted.{in_count, count_in}
use Rattle.paths.proofs.Links.{tree_span}

-- the parents and depths that a tree has from a root
pub record Hangs (n : ℕ) (A : ℕ → List ℕ) (root : ℕ) : Type 0 where
  pub par : ℕ → ℕ
  pub dep : ℕ → ℕ
  pub spans : Spans n (Stands A) root par dep

-- the value of f at v is what m reads off the simple path from v to the root
abbrev Reads : (n : ℕ) (A : ℕ → List ℕ) (root : ℕ) (m : List ℕ → ℕ) (f : ℕ → ℕ) → Type 0
Reads n A root m f = (v : ℕ) → v < n → (P : List ℕ) → Simple n (Stands A) v root P → f v ≡ m P

-- there is a function that reads so much off the paths
reading : {n : ℕ} {A : ℕ → List ℕ} {root : ℕ} → Tree n A → root < n → (m : List ℕ → ℕ) → (f : ℕ → ℕ) × Reads n A root m f
reading {n} {A} {root} t hr m =
    choose n (λ v x. (P : List ℕ) → Simple n (Stands A) v root P → x ≡ m P)
    (λ v hv. (m (t.joined v root hv hr).0, λ P s. ap m (sym ((t.joined v root hv hr).2 P s))))

-- the first vertex of a path
next : List ℕ → ℕ
next l = at l 0

module _
    {n : ℕ} {A : ℕ → List ℕ} {root : ℕ} (t : Tree n A) (hr : root < n)
    (par dep : ℕ → ℕ) (deep : Reads n A root length dep) (first : Reads n A root next par)
  where
    -- one step from v towards the root
    record Step (v : ℕ) : Type 0 where
      below : par v < n
      held : In v (A (par v))
      nearer : dep (par v) + 1 ≡ dep v

    -- a vertex of depth 0 is the root, any other has such a step
    step : (v : ℕ) → v < n → (0 < dep v → Step v) × (dep v ≡ 0 → v ≡ root)
    unfolding next
    step v hv = go (t.joined v root hv hr).0 (t.joined v root hv hr).1
      where
        go : (P : List ℕ) → Simple n (Stands A) v root P → (0 < dep v → Step v) × (dep v ≡ 0 → v ≡ root)
        go [] s = let d = deep v hv [] s in (λ p. absurd (omega arith), λ e. s.walk)
        go (w ∷ l) s =
            let d = deep v hv (w ∷ l) s in
            let e : par v ≡ w = first v hv (w ∷ l) s in
            let hw = s.below.1.0 in
            let d' = deep w hw l (record { walk = s.walk.1; once = s.once.1; below = s.below.1 }) in
            let c = t.symmetric v w hv hw in
            let i = in_count w (A v) s.walk.0 in (
              λ p. record {
                below = rw e hw;
                held = rw e (count_in v (A w) (omega arith));
                nearer = rw e (omega arith);
              },
              λ z. absurd (omega arith),
            )

    -- the parents and depths are a rooted tree's
    rooted : Rooted n root par dep
    rooted = record {
      root_below = hr;
      root_top = deep root hr [] (record { walk = refl; once = (tt, tt); below = (hr, tt) });
      one_root = λ v hv e. (step v hv).1 e;
      par_below = λ v hv p. ((step v hv).0 p).below;
      par_dep = λ v hv p. ((step v hv).0 p).nearer;
    }

    -- they span the tree
    hung : Spans n (Stands A) root par dep
    hung = tree_span rooted A t (λ v hv p. ((step v hv).0 p).held)

-- a tree hangs from each of its vertices
pub tree_hangs : {n : ℕ} {A : ℕ → List ℕ} {root : ℕ} → Tree n A → root < n → Hangs n A root
tree_hangs t hr =
    let d = reading t hr length in
    let p = reading t hr next in
    record { par = p.0; dep = d.0; spans = hung t hr p.0 d.0 d.1 p.1 }
