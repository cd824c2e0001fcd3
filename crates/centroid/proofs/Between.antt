-- Betweenness: what is needed of paths about three vertices and their neighbours.
use Prim.Native.Nat.{ℕ, ◌<◌}
use native.Mathlib.Omega.{arith}
use native.Mathlib.Decide.{ℕ_discrete}
use mathlib.Core.Path.{◌≡◌, refl, sym, ap, ◌∙◌, subst}
use mathlib.Core.Logic.{◌≢◌, ◌⊎◌, inl, inr, ⊎_elim, by_cases}
use mathlib.Core.List.{List, [], ◌∷◌, ◌++◌}
use lib.ListN.{length}
use Rattle.sums.specs.Sum.{at}
use Rattle.paths.specs.Walk.{In, Stands, From}
use Rattle.paths.specs.Rooted.{Rooted, Child, Spans}
use Rattle.paths.specs.Route.{ptail, On}
use Rattle.paths.proofs.Steps.{on_last, on_below, ptail_none}
use Rattle.paths.proofs.Turn.{on_turn}
use Rattle.paths.proofs.Cut.{cut, cover, cut-length, on_first-part, on_last-part, step_up_lem, step_down}
use Rattle.paths.proofs.Links.{child-deeper}
use Rattle.paths.proofs.Unique.{next_step, path_simple}

-- whether x stands in a list
in? : (x : ℕ) (l : List ℕ) → (In x l → ⊥) ⊎ In x l
in? x [] = inl (λ h. h)
in? x (y ∷ l) = elim (ℕ_discrete x y) [
  | yes e ↦ inr (inl e)
  | no d ↦ ⊎_elim (λ f. inl (λ h. ⊎_elim d f h)) (λ h. inr (inr h)) (in? x l)
]

-- x is on the path or not
pub on_or_not : {C : Type 0} (par dep : ℕ → ℕ) (x u v : ℕ) → (On par dep x u v → C) → ((On par dep x u v → ⊥) → C) → C
on_or_not par dep x u v f g = ⊎_elim g f (in? x (u ∷ ptail par dep u v))

-- one is the other's child
abbrev pub Linked : (par dep : ℕ → ℕ) → ℕ → ℕ → Type 0
Linked par dep u v = Child par dep u v ⊎ Child par dep v u

module _ {n root : ℕ} {par dep : ℕ → ℕ} (R : Rooted n root par dep) where
  -- linked vertices differ
  pub linked_ne : {u v : ℕ} → u < n → v < n → Linked par dep u v → u ≢ v
  linked_ne {u} {v} hu hv (inl c) e = (let d = child-deeper R hv c in let z = ap dep e in omega arith)
  linked_ne {u} {v} hu hv (inr c) e = (let d = child-deeper R hu c in let z = ap dep e in omega arith)

  -- the path between linked vertices is one step
  pub linked_step : {u v : ℕ} → u < n → v < n → Linked par dep u v → ptail par dep u v ≡ v ∷ []
  linked_step {u} {v} hu hv (inl c) = subst (λ (x : ℕ). ptail par dep x v ≡ v ∷ []) c.1 (step_down R hv c.0)
  linked_step {u} {v} hu hv (inr c) = subst (λ (x : ℕ). ptail par dep u x ≡ x ∷ []) c.1 (step_up_lem R hu c.0)

  -- of two vertices each between the other and a third, both are one
  pub between-both : {c y x : ℕ} → c < n → y < n → x < n → On par dep y c x → On par dep c y x → c ≡ y
  between-both {c} {y} {x} hc hy hx a b =
      let p = cut-length R y hc hx a in
      let q = cut-length R c hy hx b in
      ptail_none R hc hy (omega arith)

  -- beyond c on the path from s means that c is before
  pub before-beyond : {s c y x : ℕ} → s < n → c < n → y < n → x < n → On par dep c s x → On par dep y c x → On par dep c s y
  before-beyond {s} {c} {y} {x} hs hc hy hx a b =
      ⊎_elim (λ h. h)
      (λ h. subst (λ (z : ℕ). On par dep z s y) (sym (between-both hc hy hx b h)) (on_last R hs hy))
      (cover R c hs hx hy a)

  -- farther along the path is longer
  pub beyond_longer : {s c y : ℕ} → s < n → c < n → y < n → c ≢ y → On par dep c s y → length (ptail par dep s c) < length (ptail par dep s y)
  beyond_longer {s} {c} {y} hs hc hy ne h =
      let p = cut-length R c hs hy h in
      by_cases (ℕ_discrete (length (ptail par dep c y)) 0) (λ z. absurd (ne (ptail_none R hc hy z))) (λ z. omega arith)

  -- of linked vertices one is the next towards any third
  pub linked_next : {u w v : ℕ} → u < n → w < n → v < n → Linked par dep u w → (ptail par dep u v ≡ w ∷ ptail par dep w v) ⊎ On par dep u w v
  linked_next {u} {w} {v} hu hw hv l = on_or_not par dep u w v inr (λ f. inl (next_step R hu hw hv l f))

  -- two neighbours of c are joined through c
  pub through : {c y z : ℕ} → c < n → y < n → z < n → Linked par dep c y → Linked par dep c z → y ≢ z → On par dep c y z
  through {c} {y} {z} hc hy hz ly lz ne = ⊎_elim
      (λ e. absurd (ne (sym (ap (λ (l : List ℕ). at l 0) (sym (linked_step hc hz lz) ∙ e)))))
      (λ h. h) (linked_next hc hy hz ly)

  -- d follows c towards w; what is joined to w without c is beyond d from s, where c is on the path from s to w
  pub beyond_next : {s c d w x : ℕ} → s < n → c < n → d < n → w < n → x < n → Linked par dep c d → On par dep d c w → On par dep c s w
      → (On par dep c w x → ⊥) → On par dep d s x
  beyond_next {s} {c} {d} {w} {x} hs hc hd hw hx l dw cw off =
      let cx : On par dep c s x = ⊎_elim (λ h. h) (λ h. absurd (off (on_turn R c hx hw h))) (cover R c hs hw hx cw) in
      ⊎_elim
      (λ e. on_last-part R c d hs hx cx (inr (subst (λ (m : List ℕ). In d m) (sym e) (inl refl))))
      (λ h. ⊎_elim
      (λ k. on_last-part R c d hs hx cx k)
      (λ k. absurd (off (on_turn R c hx hw (on_first-part R d c hx hw k (on_turn R c hd hx h)))))
      (cover R d hc hw hx dw))
      (linked_next hc hd hx l)

-- d is the vertex after c on the path to w
pub record Next (par dep : ℕ → ℕ) (c w d : ℕ) : Type 0 where
  pub linked : Linked par dep c d
  pub on : On par dep d c w
  pub path : ptail par dep c w ≡ d ∷ ptail par dep d w

-- a path that is no single vertex has one
pub next_on : {n : ℕ} (A : ℕ → List ℕ) {par dep : ℕ → ℕ} → Spans n (Stands A) 0 par dep → {c w : ℕ} → c < n → w < n → c ≢ w
    → (d : ℕ) × (d < n) × In d (A c) × Next par dep c w d
next_on {n} A {par} {dep} S {c} {w} hc hw ne = go (ptail par dep c w) refl
  where
    found : (d : ℕ) (l : List ℕ) → ptail par dep c w ≡ d ∷ l → d < n → In d (A c) → On par dep d c w → Next par dep c w d
    found d l e hd st on =
        let lk : Linked par dep c d = S.only c d hc hd st in
        record { linked = lk; on = on; path = cut S.rooted d hc hw on ∙ ap (λ (m : List ℕ). m ++ ptail par dep d w) (linked_step S.rooted hc hd lk) }

    go : (l : List ℕ) → ptail par dep c w ≡ l → (d : ℕ) × (d < n) × In d (A c) × Next par dep c w d
    go [] e = absurd (ne (subst (λ (m : List ℕ). From (Stands A) c w m) e (path_simple S hc hw).walk))
    go (d ∷ l) e =
        let on : On par dep d c w = inr (subst (λ (m : List ℕ). In d m) (sym e) (inl refl)) in
        let hd : d < n = on_below S.rooted d hc hw on in
        let walk : From (Stands A) c w (d ∷ l) = subst (λ (m : List ℕ). From (Stands A) c w m) e (path_simple S hc hw).walk in
        (d, hd, walk.0, found d l e hd walk.0 on)
