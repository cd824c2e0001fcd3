-- A tree has one decomposition: by induction on the level, two agree on the vertices of a lower level, and on those of this one.
use Prim.Native.Nat.{ℕ, zero, suc, ◌-◌, ◌≤◌, ◌<◌}
use native.Mathlib.Nat.{suc_inj}
use native.Mathlib.Omega.{arith}
use native.Mathlib.Decide.{dec_le}
use mathlib.Core.Path.{◌≡◌, sym, ap, subst, ◌∙◌}
use mathlib.Core.Logic.{◌⊎◌, inl, inr, ⊎_elim}
use mathlib.Core.Bool.{Bool}
use mathlib.Core.List.{List}
use lib.Seq.{ext_get_or}
use Rattle.sums.proofs.Sums.{up_to}
use Rattle.paths.specs.Walk.{Stands}
use Rattle.paths.specs.Rooted.{Spans}
use Rattle.paths.specs.Route.{ptail}
use Rattle.centroid.specs.Components.{component_of, CentroidFrom}
use Rattle.centroid.specs.Decomposition.{Began, first, next, DecompositionOf}
use Rattle.answers.proofs.Choices.{same_test}
use Rattle.centroidlaws.proofs.Clear.{Clear, Linked, centroid_clear, one_neighbour, clear_turn, clear_join, clear_other}
use Rattle.centroidlaws.proofs.Centroid.{centroid-one}
use Rattle.centroidlaws.proofs.Parents.{Decomposed, Parent, decomposed, start_clear, parent_of, centroid-above}

-- the vertices of a level below k, by either table, have the same level and parent by both
abbrev pub Agree : (n : ℕ) (up level up' level' : ℕ → ℕ) → ℕ → Type 0
Agree n up level up' level' k = (v : ℕ) → v < n → (level v < k) ⊎ (level' v < k) → (level v ≡ level' v) × (up v ≡ up' v)

-- two centroids of level k in one component are equal, and so are their parents
abbrev pub One : (n : ℕ) (par dep up level up' level' : ℕ → ℕ) → ℕ → Type 0
One n par dep up level up' level' k =
    (c d : ℕ) → c < n → d < n → level c ≡ k → level' d ≡ k → Clear par dep level k c d → (c ≡ d) × (up c ≡ up' d)

-- agreement goes both ways
agree_turn : {n : ℕ} (up level up' level' : ℕ → ℕ) {k : ℕ} → Agree n up level up' level' k → Agree n up' level' up level k
agree_turn up level up' level' a v hv h = let e = a v hv (⊎_elim inr inl h) in (sym e.0, sym e.1)

-- what is not of a lower level by the one is not by the other
agree_low : {n : ℕ} (up level up' level' : ℕ → ℕ) {k : ℕ} → Agree n up level up' level' k → (v : ℕ) → v < n → k ≤ level v → k ≤ level' v
agree_low up level up' level' {k} a v hv h = elim (dec_le k (level' v)) [
  | yes p ↦ p
  | no q ↦ let e = (a v hv (inr (omega arith))).0 in absurd (omega arith)
]

-- nor the other way round
agree_back : {n : ℕ} (up level up' level' : ℕ → ℕ) {k : ℕ} → Agree n up level up' level' k → (v : ℕ) → v < n → k ≤ level' v → k ≤ level v
agree_back up level up' level' a = agree_low up' level' up level (agree_turn up level up' level' a)

-- agreement below suc k is agreement below k
agree_less : {n : ℕ} (up level up' level' : ℕ → ℕ) {k : ℕ} → Agree n up level up' level' (suc k) → Agree n up level up' level' k
agree_less up level up' level' a v hv h = a v hv (⊎_elim (λ p. inl (omega arith)) (λ p. inr (omega arith)) h)

module _
    {n : ℕ} {A : ℕ → List ℕ} {par dep up level up' level' : ℕ → ℕ}
    (D : Decomposed n A par dep up level) (D' : Decomposed n A par dep up' level')
  where
    -- the two components are one
    same_component :
        {k : ℕ} → Agree n up level up' level' k → {c d : ℕ} → c < n → d < n → level c ≡ k → level' d ≡ k → Clear par dep level k c d
        → (x : ℕ) → x < n → component_of (ptail par dep) level c x ≡ component_of (ptail par dep) level' d x
    same_component {k} a {c} {d} hc hd ec ed cl x hx =
        let R = D.spans.rooted in
        let p = centroid_clear par dep level c x ec in
        let q = centroid_clear par dep level' d x ed in
        let to : Clear par dep level k c x → Clear par dep level' k d x = λ h.
        clear_other R level k level' (agree_low up level up' level' a) hd hx (clear_join R level k hd hc hx (clear_turn R level k hc hd cl) h) in
        let back : Clear par dep level' k d x → Clear par dep level k c x = λ h.
        clear_join R level k hc hd hx cl (clear_other R level' k level (agree_back up level up' level' a) hd hx h) in
        same_test _ _ (λ e. q.1 (to (p.0 e))) (λ e. p.1 (back (q.0 e)))

    -- where both searches began at neighbours of their parents, the parents are one vertex and so are the starts
    same_start :
        {k : ℕ} → Agree n up level up' level' (suc k) → One n par dep up level up' level' k → {c d s t : ℕ} → c < n → d < n → s < n → t < n
        → level c ≡ suc k → level' d ≡ suc k
        → Parent n par dep up level c s → Parent n par dep up' level' d t
        → Clear par dep level (suc k) c s → Clear par dep level (suc k) c d → Clear par dep level (suc k) d t
        → (s ≡ t) × (up c ≡ up' d)
    same_start {k} a one {c} {d} {s} {t} hc hd hs ht ec ed p q cs cd dt =
        let R = D.spans.rooted in
        let e = p.one_up in
        let f = q.one_up in
        let l : k ≡ level (up c) = omega arith in
        let l' : k ≡ level' (up' d) = omega arith in
        let first-half : Clear par dep level k (up c) c = subst (λ (j : ℕ). Clear par dep level j (up c) c) (sym l) p.clear in
        let last-half : Clear par dep level' k (up' d) d = subst (λ (j : ℕ). Clear par dep level' j (up' d) d) (sym l') q.clear in
        let other = agree_back up level up' level' (agree_less up level up' level' a) in
        let dp = clear_turn R level k q.below hd (clear_other R level' k level other q.below hd last-half) in
        let mid : Clear par dep level k c d = λ y i. (let z = cd y i in omega arith) in
        let pp = clear_join R level k p.below hc q.below first-half (clear_join R level k hc hd q.below mid dp) in
        let same = (one (up c) (up' d) p.below q.below (sym l) (sym l') pp).0 in
        let st = clear_join R level (suc k) hs hc ht (clear_turn R level (suc k) hc hs cs) (clear_join R level (suc k) hc hd ht cd dt) in
        let linked = subst (λ (z : ℕ). Linked par dep z t) (sym same) q.linked in
        (one_neighbour R p.below hs ht p.linked linked (λ i. let z = st (up c) i in omega arith), same)

    -- at level 0 both searches began at 0; above, at one neighbour of one parent
    one_next :
        {k : ℕ} → Agree n up level up' level' k → ((j : ℕ) → k ≡ suc j → One n par dep up level up' level' j)
        → One n par dep up level up' level' k
    one_next {k} a one c d hc hd ec ed cl =
        let p = D.centroids c hc in
        let q = D'.centroids d hd in
        go p.start q.start p.start_below q.start_below p.began q.began p.centroid q.centroid
      where
        C : ℕ → Bool
        C = component_of (ptail par dep) level c

        C' : ℕ → Bool
        C' = component_of (ptail par dep) level' d

        same : {s : ℕ} → CentroidFrom n (ptail par dep) C s c → CentroidFrom n (ptail par dep) C' s d → c ≡ d
        same = centroid-one n (ptail par dep) C C' (same_component a hc hd ec ed cl) hc hd

        go : (s t : ℕ) → s < n → t < n → Began n A up level c s → Began n A up' level' d t
            → CentroidFrom n (ptail par dep) C s c → CentroidFrom n (ptail par dep) C' t d → (c ≡ d) × (up c ≡ up' d)
        go s t hs ht (first e z) (first e' z') p q = (same p q, e ∙ sym e')
        go s t hs ht (first e z) (next _ h i z') p q = absurd (omega arith)
        go s t hs ht (next _ h i z) (first e' z') p q = absurd (omega arith)
        go s t hs ht (next _ h i z) (next _ h' i' z') p q =
            let j : ℕ = level (up c) in
            let e : k ≡ suc j = omega arith in
            let a' = subst (Agree n up level up' level') e a in
            let cs = subst (λ (m : ℕ). Clear par dep level m c s) (ec ∙ e) (start_clear D p) in
            let dt = subst (λ (m : ℕ). Clear par dep level' m d t) (ed ∙ e) (start_clear D' q) in
            let other = agree_back up level up' level' a' in
            let r = same_start a' (one j e) hc hd hs ht (ec ∙ e) (ed ∙ e)
            (parent_of D hc hs h i z (start_clear D p)) (parent_of D' hd ht h' i' z' (start_clear D' q))
            cs (subst (λ (m : ℕ). Clear par dep level m c d) e cl) (clear_other D.spans.rooted level' (suc j) level other hd ht dt) in
            (same p (subst (λ (m : ℕ). CentroidFrom n (ptail par dep) C' m d) (sym r.0) q), r.1)

    -- where the levels below k agree, a component of level k has one centroid of that level
    pub one_centroid : (k : ℕ) → Agree n up level up' level' k → One n par dep up level up' level' k
    one_centroid zero a = one_next a (λ j e. absurd (omega arith))
    one_centroid (suc k) a =
        let ih = one_centroid k (agree_less up level up' level' a) in
        one_next a (λ j e. subst (One n par dep up level up' level') (suc_inj e) ih)

    -- where the levels below k agree, a vertex of level k by the one table has it by the other
    level_next : {k : ℕ} → Agree n up level up' level' k → {v : ℕ} → v < n → level v ≡ k → (level v ≡ level' v) × (up v ≡ up' v)
    level_next {k} a {v} hv e =
        let R = D.spans.rooted in
        let low = agree_low up level up' level' a v hv (omega arith) in
        let r = centroid-above D' k (level' v - k) hv (omega arith) in
        let other = agree_back up level up' level' a in
        let one = one_centroid k a v r.0 hv r.1 e r.2 (clear_other R level' k level other hv r.1 r.3) in
        let l = ap level' one.0 in
        (e ∙ sym r.2 ∙ sym l, one.1 ∙ sym (ap up' one.0))

module _
    {n : ℕ} {A : ℕ → List ℕ} {par dep up level up' level' : ℕ → ℕ}
    (D : Decomposed n A par dep up level) (D' : Decomposed n A par dep up' level')
  where
    -- the levels below k agree
    agree : (k : ℕ) → Agree n up level up' level' k
    agree zero v hv h = absurd (⊎_elim (λ p. omega arith) (λ p. omega arith) h)
    agree (suc k) v hv h = ⊎_elim
        (λ p. up_to (level v) k (omega arith) (λ q. agree k v hv (inl q)) (λ e. level_next D D' (agree k) hv e))
        (λ p. up_to (level' v) k (omega arith) (λ q. agree k v hv (inr q))
        (λ e. let r = level_next D' D (agree_turn up level up' level' (agree k)) hv e in (sym r.0, sym r.1))) h

    -- two decompositions of one tree agree on every vertex
    pub same_decomposition : (v : ℕ) → v < n → (level v ≡ level' v) × (up v ≡ up' v)
    same_decomposition v hv = agree (suc (level v)) v hv (inl (omega arith))

-- a tree has one decomposition
pub decomposition-one :
    {n : ℕ} {A : ℕ → List ℕ} {par dep : ℕ → ℕ} {up level up' level' : List ℕ}
    → Spans n (Stands A) 0 par dep
    → DecompositionOf n A up level
    → DecompositionOf n A up' level'
    → (up ≡ up') × (level ≡ level')
decomposition-one {up = up} {level = level} {up' = up'} {level' = level'} S D D' =
    let same = same_decomposition (decomposed S D) (decomposed S D') in (
      ext_get_or 0 up up' (D.up_long ∙ sym D'.up_long) (λ i b. (same i (rw D.up_long at b)).1),
      ext_get_or 0 level level' (D.level_long ∙ sym D'.level_long) (λ i b. (same i (rw D.level_long at b)).0),
    )
