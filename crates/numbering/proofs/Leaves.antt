-- A path between two chains leaves the one with the deeper head at that head, for the head's parent.
use Prim.Native.Nat.{ℕ, ◌≤◌, ◌<◌}
use native.Mathlib.Omega.{arith}
use native.Mathlib.Decide.{dec_le}
use mathlib.Core.Path.{◌≡◌, sym, subst, ◌∙◌}
use mathlib.Core.Logic.{◌≢◌}
use mathlib.Core.List.{List, ◌∷◌, ◌++◌, append_assoc}
use Rattle.paths.specs.Rooted.{Rooted, Anc}
use Rattle.paths.specs.Route.{ptail, top}
use Rattle.paths.proofs.Above.{anc_trans, anc_chain, anc_up, anc_par}
use Rattle.paths.proofs.Steps.{no_anc_pos, leave, arrive}
use Rattle.paths.proofs.Turn.{on_turn}
use Rattle.paths.proofs.Cut.{cut}
use Rattle.paths.proofs.Top.{top_left, top_right, top_deepest, top_unique, top_comm}
use Rattle.paths.proofs.Common.{passes}
use Rattle.numbering.specs.Numbering.{Numbering}
use Rattle.numbering.proofs.Chains.{head_anc, head_below, head_head, anc_head}

module _ {n root : ℕ} {par dep : ℕ → ℕ} (R : Rooted n root par dep) where
  -- above u and not above v, the path from u goes through it and on to its parent
  pub leave_at :
      {x u v : ℕ} → x < n → u < n → v < n → Anc par dep x u → (Anc par dep x v → ⊥)
      → ptail par dep u v ≡ ptail par dep u x ++ (par x ∷ ptail par dep (par x) v)
  leave_at {x} {u} {v} hx hu hv a f = rw (cut R x hu hv (passes R hu hx hv a f), leave R hx hv f)

  -- above v and not above u, the path to v comes from its parent and goes through it
  pub arrive_at :
      {x u v : ℕ} → x < n → u < n → v < n → Anc par dep x v → (Anc par dep x u → ⊥)
      → ptail par dep u v ≡ ptail par dep u (par x) ++ (x ∷ ptail par dep x v)
  arrive_at {x} {u} {v} hx hu hv a f =
      rw (cut R x hu hv (on_turn R x hv hu (passes R hv hx hu a f)), arrive R hu hx f, append_assoc)

  -- above u and not above v, its parent has the same deepest common ancestor with v
  pub top_leave : {x u v : ℕ} → x < n → u < n → v < n → Anc par dep x u → (Anc par dep x v → ⊥) → top par dep u v ≡ top par dep (par x) v
  top_leave {x} {u} {v} hx hu hv a f =
      top_unique R t (R.par_below x hx p) hv up b
      (λ y c d. top_deepest R y hu hv (anc_trans par dep y x u (anc_up R y hx p c) a) d)
    where
      p : 0 < dep x
      p = no_anc_pos R hx hv f

      t : ℕ
      t = top par dep u v

      b : Anc par dep t v
      b = top_right R hu hv

      above : Anc par dep t x
      above = elim (dec_le (dep t) (dep x)) [
        | yes q ↦ anc_chain par dep t x u (top_left R hu hv) a q
        | no q ↦ absurd (f (anc_trans par dep x t v (anc_chain par dep x t u a (top_left R hu hv) (omega arith)) b))
      ]

      up : Anc par dep t (par x)
      up = anc_par R t hx (λ e. f (subst (λ (y : ℕ). Anc par dep y v) e b)) above

module _ {n root : ℕ} {par dep head id order size : ℕ → ℕ} {kids : ℕ → List ℕ} (N : Numbering n root par dep head id order size kids) where
  -- of two chains, the head no less deep is not above the other chain
  pub other_chain : {u v : ℕ} → u < n → v < n → head u ≢ head v → dep (head v) ≤ dep (head u) → Anc par dep (head u) v → ⊥
  other_chain {u} {v} hu hv d h a = d (sym (head_head N hu) ∙ anc_head N (head u) hv a h)

  -- it is not the root
  pub deeper_head_pos : {u v : ℕ} → u < n → v < n → head u ≢ head v → dep (head v) ≤ dep (head u) → 0 < dep (head u)
  deeper_head_pos hu hv d h = no_anc_pos N.arrangement.rooted (head_below N hu) hv (other_chain hu hv d h)

  -- the path leaves the chain of its first vertex at the head
  pub chain_leave :
      {u v : ℕ} → u < n → v < n → head u ≢ head v → dep (head v) ≤ dep (head u)
      → ptail par dep u v ≡ ptail par dep u (head u) ++ (par (head u) ∷ ptail par dep (par (head u)) v)
  chain_leave hu hv d h = leave_at N.arrangement.rooted (head_below N hu) hu hv (head_anc N hu) (other_chain hu hv d h)

  -- and the deepest common ancestor stays
  pub chain_leave-top :
      {u v : ℕ} → u < n → v < n → head u ≢ head v → dep (head v) ≤ dep (head u) → top par dep u v ≡ top par dep (par (head u)) v
  chain_leave-top hu hv d h = top_leave N.arrangement.rooted (head_below N hu) hu hv (head_anc N hu) (other_chain hu hv d h)

  -- the path enters the chain of its last vertex at the head
  pub chain_arrive :
      {u v : ℕ} → u < n → v < n → head u ≢ head v → dep (head u) ≤ dep (head v)
      → ptail par dep u v ≡ ptail par dep u (par (head v)) ++ (head v ∷ ptail par dep (head v) v)
  chain_arrive hu hv d h = arrive_at N.arrangement.rooted (head_below N hv) hu hv (head_anc N hv) (other_chain hv hu (λ e. d (sym e)) h)

  -- and the deepest common ancestor stays
  pub chain_arrive-top :
      {u v : ℕ} → u < n → v < n → head u ≢ head v → dep (head u) ≤ dep (head v) → top par dep u v ≡ top par dep u (par (head v))
  chain_arrive-top {u} {v} hu hv d h =
      let hp = N.arrangement.rooted.par_below (head v) (head_below N hv) (deeper_head_pos hv hu (λ e. d (sym e)) h) in
      top_comm N.arrangement.rooted hu hv ∙ chain_leave-top hv hu (λ e. d (sym e)) h ∙ top_comm N.arrangement.rooted hp hu
