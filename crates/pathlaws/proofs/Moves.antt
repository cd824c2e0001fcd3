-- How the answers for different arguments hang together: jumps one after the other, jumps from the other end, and the sizes on the two sides of an
-- edge.
use Rattle.std.specs.Prelude.{Ok}
use Prim.Native.Nat.{ℕ, ◌+◌, ◌-◌, ◌≤◌, ◌<◌}
use native.Mathlib.Omega.{arith}
use mathlib.Core.Path.{◌≡◌, sym, ap, subst, ◌∙◌}
use mathlib.Core.Logic.{◌⊎◌, inl, inr, ◌↔◌}
use mathlib.Core.Bool.{true, not}
use mathlib.Core.List.{List, ◌∷◌}
use lib.ListN.{length, get_or}
use Rattle.sums.specs.Sum.{at, how_many}
use Rattle.paths.specs.Walk.{Stands}
use Rattle.paths.specs.Rooted.{Child}
use Rattle.paths.proofs.Above.{anc_refl, par_no_anc}
use Rattle.paths.proofs.Steps.{on_below}
use Rattle.paths.proofs.Turn.{length_turn}
use Rattle.paths.proofs.Cut.{cut-length}
use Rattle.tables.specs.Tables.{Six}
use Rattle.climb.specs.Sound.{parent_in, depth_in}
use Rattle.queries.specs.Queries.{distance, jump, subtree_size}
use Rattle.pathlaws.specs.Given.{Given, path_in, OnIn, AncIn, through?}
use Rattle.pathlaws.proofs.AlongPaths.{entry_turn, entry_on, entry_length, entry_entry}
use Rattle.pathlaws.proofs.Jumps.{distance_answer, jump_answer}
use Rattle.pathlaws.proofs.Tests.{not_pass, pass_not, pass-rest}
use Rattle.pathlaws.proofs.Sides.{below_side, other_side}
use Rattle.pathlaws.proofs.SubtreeSizes.{through_on, subtree_size_counts, subtree_size_lem}
use Rattle.answers.specs.Answers.{Answer}

-- an answer is one number
same_number : (q : Answer) (a b : ℕ) → q ≡ Ok a → q ≡ Ok b → a ≡ b
same_number q a b e f = cc

module _ {n root : ℕ} {A : ℕ → List ℕ} {t : Six} {kids : ℕ → List ℕ} (G : Given n A root t kids) where
  -- the distance is the path's length
  path-distance : (d : ℕ) {u v : ℕ} → u < n → v < n → distance t u v ≡ Ok d → length (path_in t u v) ≡ d
  path-distance d {u} {v} hu hv e = same_number (distance t u v) (length (path_in t u v)) d (distance_answer G hu hv) e

  -- a jump of j towards v from where a jump of k has led is a jump of k + j
  pub jump-jump :
      (k j d w : ℕ) {u v : ℕ} → u < n → v < n → distance t u v ≡ Ok d → k + j ≤ d → jump t u v k ≡ Ok w → jump t w v j ≡ jump t u v (k + j)
  jump-jump k j d w {u} {v} hu hv e h f =
      let l = path-distance d hu hv e in
      let x : ℕ = get_or (u ∷ path_in t u v) k 0 in
      let i : OnIn t x u v = entry_on (at t.parent) (at t.depth) k u v (omega arith) in
      let hx = on_below G.tables.spans.rooted x hu hv i in
      let s = entry_length G.tables.spans.rooted k hu hv (omega arith) in
      let c = cut-length G.tables.spans.rooted x hu hv i in
      let y : x ≡ w = same_number (jump t u v k) x w (jump_answer G k hu hv (omega arith)) f in
      ap (λ (z : ℕ). jump t z v j) (sym y)
      ∙ jump_answer G j hx hv (omega arith)
      ∙ ap Ok (entry_entry G.tables.spans.rooted k j hu hv (omega arith))
      ∙ sym (jump_answer G (k + j) hu hv (omega arith))

  -- a jump from the other end, by the steps that are left, leads to the same vertex
  pub jump_turn : (k d : ℕ) {u v : ℕ} → u < n → v < n → distance t u v ≡ Ok d → k ≤ d → jump t u v k ≡ jump t v u (d - k)
  jump_turn k d {u} {v} hu hv e h =
      let l = path-distance d hu hv e in
      let m = length_turn G.tables.spans.rooted hu hv in
      jump_answer G k hu hv (omega arith)
      ∙ ap Ok (entry_turn G.tables.spans.rooted k (d - k) hu hv (omega arith))
      ∙ sym (jump_answer G (d - k) hv hu (omega arith))

  -- the vertices on the parent's side of an edge are those not on the child's
  parent_side :
      {c : ℕ} → c < n → 0 < depth_in t c
      → subtree_size t c (parent_in t c) ≡ Ok (how_many n (λ x. not (through? t c (parent_in t c) x)))
  parent_side {c} hc p = subtree_size_counts G hc hp (λ x. not (through? t c (parent_in t c) x)) side
    where
      hp : parent_in t c < n
      hp = G.tables.spans.rooted.par_below c hc p

      below : (x : ℕ) → x < n → OnIn t c x (parent_in t c) ↔ AncIn t c x
      below x hx = below_side G.tables.spans.rooted hc hp hx (par_no_anc G.tables.spans.rooted hc p)

      other : (x : ℕ) → x < n → OnIn t (parent_in t c) x c ↔ (AncIn t c x → ⊥)
      other x hx = other_side G.tables.spans.rooted hc p hc hx (anc_refl (at t.parent) (at t.depth) c)

      side : (x : ℕ) → x < n → (not (through? t c (parent_in t c) x) ≡ true) ↔ OnIn t (parent_in t c) x c
      side x hx =
          let on = through_on t c (parent_in t c) x in (
            λ e. (other x hx).1 (λ a. pass_not (through? t c (parent_in t c) x) (on.1 ((below x hx).1 a)) e),
            λ h. not_pass (through? t c (parent_in t c) x) (λ e. (other x hx).0 h ((below x hx).0 (on.0 e))),
          )

  -- the two sides of an edge have all vertices together
  edge_sides : (a b : ℕ) {c : ℕ} → c < n → 0 < depth_in t c → subtree_size t (parent_in t c) c ≡ Ok a → subtree_size t c (parent_in t c) ≡ Ok b → a + b ≡ n
  edge_sides a b {c} hc p e f =
      let hp = G.tables.spans.rooted.par_below c hc p in
      let x = same_number (subtree_size t (parent_in t c) c) a (how_many n (through? t c (parent_in t c))) e (subtree_size_lem G hp hc) in
      let y = same_number (subtree_size t c (parent_in t c)) b (how_many n (λ x. not (through? t c (parent_in t c) x))) f (parent_side hc p) in
      let z = pass-rest n (through? t c (parent_in t c)) in
      omega arith

  -- for neighbours, the size of each as seen from the other is all but that of the other
  pub neighbour_sizes :
      (a b : ℕ) {u v : ℕ} → u < n → v < n → Stands A u v → subtree_size t u v ≡ Ok a → subtree_size t v u ≡ Ok b → a + b ≡ n
  neighbour_sizes a b {u} {v} hu hv s e f = from (G.tables.spans.only u v hu hv s)
    where
      from : Child (at t.parent) (at t.depth) u v ⊎ Child (at t.parent) (at t.depth) v u → a + b ≡ n
      from (inl c) =
          edge_sides a b hv c.0 (subst (λ (w : ℕ). subtree_size t w v ≡ Ok a) (sym c.1) e) (subst (λ (w : ℕ). subtree_size t v w ≡ Ok b) (sym c.1) f)
      from (inr c) =
          let s = edge_sides b a hu c.0 (subst (λ (w : ℕ). subtree_size t w u ≡ Ok b) (sym c.1) f) (subst (λ (w : ℕ). subtree_size t u w ≡ Ok a) (sym c.1) e) in
          omega arith
