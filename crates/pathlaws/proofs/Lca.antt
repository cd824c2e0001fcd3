-- `lca` answers the one vertex common to the three paths, whichever of the three vertices is called the root.
use Rattle.std.specs.Prelude.{Ok, Err}
use Prim.Native.Nat.{ℕ, ◌≤◌, ◌<◌}
use native.Mathlib.Omega.{arith}
use native.Mathlib.Decide.{dec_le}
use mathlib.Core.Path.{◌≡◌, sym, ap, ◌∙◌}
use mathlib.Core.Logic.{◌⊎◌, inl, inr}
use mathlib.Core.List.{List, [], ◌∷◌}
use borrow.Author.Tests.{le-leb, lt-leb}
use Rattle.sums.specs.Sum.{at}
use Rattle.paths.specs.Route.{Common}
use Rattle.paths.proofs.Common.{common_swap, common_turn, common_exists, common-top, common_deepest, common_as_deep}
use Rattle.tables.specs.Tables.{Six}
use Rattle.climb.specs.Sound.{depth_in, place_of}
use Rattle.queries.specs.Queries.{deeper, lca_in, lca}
use Rattle.climb.specs.declared.places.Place.{Place}
use Rattle.pathlaws.specs.Given.{Given, top_in}
use Rattle.pathlaws.proofs.Standing.{answered}
use Rattle.pathlaws.proofs.Meetings.{climb_meets}

-- w is no deeper than m, and m itself if as deep
record Under (t : Six) (m w : ℕ) : Type 0 where
  no_deeper : depth_in t w ≤ depth_in t m
  as_deep : depth_in t w ≡ depth_in t m → w ≡ m

-- the deeper of two places under m is one under m, no less deep than either
deeper_under :
    (t : Six) (m a b : ℕ) → Under t m a → Under t m b
    → (w : ℕ) × (deeper (place_of t a) (place_of t b) ≡ place_of t w) × Under t m w × (depth_in t a ≤ depth_in t w) × (depth_in t b ≤ depth_in t w)
deeper_under t m a b f g = elim (dec_le (depth_in t a) (depth_in t b)) [
  | yes h ↦ (b, rw (le-leb (depth_in t a) (depth_in t b) h), g, h, omega arith)
  | no q ↦ (a, rw (lt-leb (depth_in t a) (depth_in t b) (omega arith)), f, omega arith, omega arith)
]

-- of three places under m, one of them m, the last deepest is m
deepest_is :
    (t : Six) (m a b c : ℕ) → Under t m a → Under t m b → Under t m c → (m ≡ a) ⊎ ((m ≡ b) ⊎ (m ≡ c))
    → deeper (deeper (place_of t a) (place_of t b)) (place_of t c) ≡ place_of t m
deepest_is t m a b c f g h o =
    let p = deeper_under t m a b f g in
    let q = deeper_under t m p.0 c p.2 h in
    let l = q.2.no_deeper in
    let e : depth_in t q.0 ≡ depth_in t m = at_top q.0 (omega arith) (omega arith) q.4 l o in
    rw (p.1, q.1, q.2.as_deep e)
  where
    at_top :
        (w : ℕ) → depth_in t a ≤ depth_in t w → depth_in t b ≤ depth_in t w → depth_in t c ≤ depth_in t w → depth_in t w ≤ depth_in t m
        → (m ≡ a) ⊎ ((m ≡ b) ⊎ (m ≡ c)) → depth_in t w ≡ depth_in t m
    at_top w i j k l (inl x) = let z = ap (depth_in t) x in omega arith
    at_top w i j k l (inr (inl x)) = let z = ap (depth_in t) x in omega arith
    at_top w i j k l (inr (inr x)) = let z = ap (depth_in t) x in omega arith

module _ {n root : ℕ} {A : ℕ → List ℕ} {t : Six} {kids : ℕ → List ℕ} (G : Given n A root t kids) where
  -- `lca` takes the last deepest of the three pairs' ancestors
  lca_deepest :
      {r u v : ℕ} → r < n → u < n → v < n
      → lca t r u v ≡ Ok (deeper (deeper (place_of t (top_in t u v)) (place_of t (top_in t r u))) (place_of t (top_in t r v))).vertex
  lca_deepest {r} {u} {v} hr hu hv =
      let a = climb_meets G hu hv in
      let b = climb_meets G hr hu in
      let c = climb_meets G hr hv in
      answered G (r ∷ u ∷ v ∷ []) Err (λ m. lca_in m t r u v) (hr, (hu, (hv, tt)))
      ∙ rw (a.1, lca_in, b.1, c.1, a.2.ancestor, b.2.ancestor, c.2.ancestor)

  -- `lca` answers the vertex common to the three paths
  pub lca_answer : (m : ℕ) {r u v : ℕ} → r < n → u < n → v < n → Common (at t.parent) (at t.depth) r u v m → lca t r u v ≡ Ok m
  lca_answer m {r} {u} {v} hr hu hv c =
      let d = common_deepest G.tables.spans.rooted m hr hu hv c in
      let s = common_as_deep G.tables.spans.rooted m hr hu hv c in
      lca_deepest hr hu hv
      ∙ ap (λ (p : Place). Ok p.vertex)
      (deepest_is t m (top_in t u v) (top_in t r u) (top_in t r v)
      (record { no_deeper = d.0; as_deep = s.0 })
      (record { no_deeper = d.1; as_deep = s.1 })
      (record { no_deeper = d.2; as_deep = s.2 })
      (common-top G.tables.spans.rooted m hr hu hv c))

  -- there is always one
  pub lca_common : {r u v : ℕ} → r < n → u < n → v < n → (m : ℕ) × (lca t r u v ≡ Ok m) × Common (at t.parent) (at t.depth) r u v m
  lca_common {r} {u} {v} hr hu hv =
      let e = common_exists G.tables.spans.rooted hr hu hv in
      (e.0, lca_answer e.0 hr hu hv e.1, e.1)

  -- the last two may change places
  pub lca_swap : {r u v : ℕ} → r < n → u < n → v < n → lca t r u v ≡ lca t r v u
  lca_swap {r} {u} {v} hr hu hv =
      let e = lca_common hr hu hv in
      e.1 ∙ sym (lca_answer e.0 hr hv hu (common_swap G.tables.spans.rooted e.0 hu hv e.2))

  -- any of the three may come first
  pub lca_turn : {r u v : ℕ} → r < n → u < n → v < n → lca t r u v ≡ lca t u v r
  lca_turn {r} {u} {v} hr hu hv =
      let e = lca_common hr hu hv in
      e.1 ∙ sym (lca_answer e.0 hu hv hr (common_turn G.tables.spans.rooted e.0 hr hu hv e.2))

  -- so all six orders have one answer
  pub lca_any_order :
      {r u v : ℕ} → r < n → u < n → v < n
      → (lca t r u v ≡ lca t r v u)
      × (lca t r u v ≡ lca t u v r)
      × (lca t r u v ≡ lca t u r v)
      × (lca t r u v ≡ lca t v r u)
      × (lca t r u v ≡ lca t v u r)
  lca_any_order hr hu hv = (
    lca_swap hr hu hv,
    lca_turn hr hu hv,
    lca_turn hr hu hv ∙ lca_swap hu hv hr,
    lca_turn hr hu hv ∙ lca_turn hu hv hr,
    lca_turn hr hu hv ∙ lca_turn hu hv hr ∙ lca_swap hv hr hu,
  )
