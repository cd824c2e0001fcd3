-- Numbering, from the first position up: the positions below j have their numbers, heads and depths.
use Prim.Native.Nat.{ℕ, suc, ◌+◌, ◌-◌, ◌≤◌, ◌<◌}
use native.Mathlib.Omega.{arith}
use mathlib.Core.Path.{◌≡◌, refl, sym, ap, ◌∙◌, subst}
use mathlib.Core.Logic.{◌≢◌}
use mathlib.Core.List.{List}
use Rattle.sums.proofs.Sums.{equal_or_not, up_to}
use Rattle.numbering.specs.Numbering.{total}
use Rattle.graph.specs.Work.{Put}
use Rattle.passes.specs.Passes.{Weighed}
use Rattle.ranks.specs.Ranks.{Backwards, lights, Ranked}
use Rattle.ranks.proofs.Lights.{backwards_same, backwards_more, in-lights, lights_other, lights_heavy, lights_more, lights_none, total_more, child_room}

-- each position but the first stands behind its parent, and the positions are weighed
pub record WeighedTree (n : ℕ) (p s h : ℕ → ℕ) : Type 0 where
  pub earlier : (j : ℕ) → 0 < j → j < n → p j < j
  pub weighed : Weighed n p s h

-- the numbers of i below `end i` are still to be given, those from there on have its light children before j
record Shared (p s h id end : ℕ → ℕ) (j i : ℕ) : Type 0 where
  pub given : Backwards id s (id i + s i) (lights p h j i)
  pub left : end i + total s (lights p h j i) ≡ id i + s i

-- the positions below j are ranked; their numbers are among those of the first, and none is deeper than its position
pub record Ranking (n : ℕ) (p s h id end top deep : ℕ → ℕ) (j : ℕ) : Type 0 where
  pub some : 1 ≤ j
  pub in_range : j ≤ n
  pub ranked : Ranked j p s h id top deep
  pub left : (i : ℕ) → i < j → end i + total s (lights p h j i) ≡ id i + s i
  pub within : (i : ℕ) → i < j → id i + s i ≤ s 0
  pub shallow : (i : ℕ) → i < j → deep i ≤ i

-- the first position
pub ranking_start : {n : ℕ} (p s h : ℕ → ℕ) {id end top deep : ℕ → ℕ} → 1 ≤ n → id 0 ≡ 0 → end 0 ≡ s 0 → top 0 ≡ 0 → deep 0 ≡ 0
    → Ranking n p s h id end top deep 1
ranking_start {n} p s h {id} {end} {top} {deep} some i e t d =
    record {
      some = omega arith;
      in_range = some;
      ranked = record {
        first_id = i;
        first_top = t;
        first_deep = d;
        deeper = λ j a b. absurd (omega arith);
        heavy_id = λ j a b. absurd (omega arith);
        heavy_top = λ j a b. absurd (omega arith);
        light_top = λ j a b. absurd (omega arith);
        light_ids = λ j b. tt;
      };
      left = λ j b. (let z : j ≡ 0 = omega arith in omega (arith, ap id z, ap end z, ap s z));
      within = λ j b. (let z : j ≡ 0 = omega arith in omega (arith, ap id z, ap s z));
      shallow = λ j b. (let z : j ≡ 0 = omega arith in omega (arith, ap deep z));
    }

-- all positions are ranked
pub ranking-done : {n : ℕ} {p s h id end top deep : ℕ → ℕ} {j : ℕ} → Ranking n p s h id end top deep j → n ≤ j → Ranked n p s h id top deep
ranking-done {n} {p} {s} {h} {id} {end} {top} {deep} {j} g b =
    let e : j ≡ n = omega (arith, g.in_range) in
    subst (λ (k : ℕ). Ranked k p s h id top deep) e g.ranked

-- position j is in hand
module _ {n : ℕ} {p s h id end top deep : ℕ → ℕ} {j : ℕ} (T : WeighedTree n p s h) (g : Ranking n p s h id end top deep j)
    (below : j < n) where
  up : p j < j
  up = T.earlier j g.some below

  -- there is room for j and its subtree between its parent's number and the end of what is left
  pub left_enough : id (p j) + 1 + s j ≤ end (p j)
  left_enough =
      omega (arith, g.left (p j) up, child_room p h j T.weighed g.some below (omega (arith, up)))

  -- which is among the numbers of the first position
  pub left_within : end (p j) ≤ s 0
  left_within = omega (arith, g.left (p j) up, g.within (p j) up)

  module _ (end' : ℕ → ℕ) {v t : ℕ} {id' top' deep' : ℕ → ℕ} (pi : Put n j v id id') (pt : Put n j t top top')
      (pd : Put n j (deep (p j) + 1) deep deep') where
    -- positions before j stay as they are
    id_kept : (k : ℕ) → k < j → id' k ≡ id k
    id_kept k b = pi.there k (omega arith) (omega arith)

    top_kept : (k : ℕ) → k < j → top' k ≡ top k
    top_kept k b = pt.there k (omega arith) (omega arith)

    deep_kept : (k : ℕ) → k < j → deep' k ≡ deep k
    deep_kept k b = pd.there k (omega arith) (omega arith)

    before : (k : ℕ) → 0 < k → k < j → p k < j
    before k a b = omega (arith, T.earlier k a (omega arith))

    given_kept : (i : ℕ) → i < j → Backwards id' s (id' i + s i) (lights p h j i)
    given_kept i b =
        subst (λ (x : ℕ). Backwards id' s (x + s i) (lights p h j i)) (sym (id_kept i b))
        (backwards_same id id' s (id i + s i) (lights p h j i) (λ x m. id_kept x (in-lights p h j i x g.some m)) (g.ranked.light_ids i b))

    -- what the light children of the positions before j have does not change, where j is not one of them
    share_kept : (i : ℕ) → i < j → lights p h (j + 1) i ≡ lights p h j i → end' i ≡ end i → Shared p s h id' end' (j + 1) i
    share_kept i b e q =
        record {
          given = subst (λ (l : List ℕ). Backwards id' s (id' i + s i) l) (sym e) (given_kept i b);
          left = omega (arith, q, ap (total s) e, g.left i b, id_kept i b);
        }

    -- where it is, it has the last numbers that were left
    share_light : h (p j) ≢ j → v + s j ≡ end (p j) → end' (p j) ≡ v → Shared p s h id' end' (j + 1) (p j)
    share_light d e q =
        let u = p j in
        let more = lights_more p h j u g.some refl d in
        record {
          given = subst (λ (l : List ℕ). Backwards id' s (id' u + s u) l) (sym more)
              (backwards_more id' s (id' u + s u) (lights p h j u) j (omega (arith, pi.here, id_kept u up, g.left u up)) (given_kept u up));
          left = omega (arith, ap (total s) more, total_more s (lights p h j u) j, g.left u up, id_kept u up);
        }

    -- j has given nothing yet
    share_new : end' j ≡ v + s j → Shared p s h id' end' (j + 1) j
    share_new q =
        let none = lights_none p h j (λ k a b. T.earlier k a (omega arith)) in
        record {
          given = subst (λ (l : List ℕ). Backwards id' s (id' j + s j) l) (sym none) tt;
          left = omega (arith, q, pi.here, ap (total s) none);
        }

    -- j has the number v and the head t, as heavy or light child
    ranking_more : (h (p j) ≡ j → v ≡ id (p j) + 1) → (h (p j) ≡ j → t ≡ top (p j)) → (h (p j) ≢ j → t ≡ j) → v + s j ≤ s 0
        → ((i : ℕ) → i < j + 1 → Shared p s h id' end' (j + 1) i) → Ranking n p s h id' end' top' deep' (j + 1)
    ranking_more heavy-v heavy-t light-t inside shared =
        let R = g.ranked in
        let some = g.some in
        record {
          some = omega arith;
          in_range = omega arith;
          ranked = record {
            first_id = id_kept 0 (omega arith) ∙ R.first_id;
            first_top = top_kept 0 (omega arith) ∙ R.first_top;
            first_deep = deep_kept 0 (omega arith) ∙ R.first_deep;
            deeper = λ k a b. up_to k j b
                (λ lt. omega (arith, deep_kept k lt, deep_kept (p k) (before k a lt), R.deeper k a lt))
                (λ e. subst (λ (x : ℕ). deep' x ≡ suc (deep' (p x))) (sym e) (omega (arith, pd.here, deep_kept (p j) up)));
            heavy_id = λ k a b. up_to k j b
                (λ lt q. omega (arith, id_kept k lt, id_kept (p k) (before k a lt), R.heavy_id k a lt q))
                (λ e. subst (λ (x : ℕ). h (p x) ≡ x → id' x ≡ id' (p x) + 1) (sym e) (λ q. omega (arith, pi.here, heavy-v q, id_kept (p j) up)));
            heavy_top = λ k a b. up_to k j b
                (λ lt q. omega (arith, top_kept k lt, top_kept (p k) (before k a lt), R.heavy_top k a lt q))
                (λ e. subst (λ (x : ℕ). h (p x) ≡ x → top' x ≡ top' (p x)) (sym e) (λ q. omega (arith, pt.here, heavy-t q, top_kept (p j) up)));
            light_top = λ k a b. up_to k j b
                (λ lt q. omega (arith, top_kept k lt, R.light_top k a lt q))
                (λ e. subst (λ (x : ℕ). h (p x) ≢ x → top' x ≡ x) (sym e) (λ q. omega (arith, pt.here, light-t q)));
            light_ids = λ i b. (shared i b).given;
          };
          left = λ i b. (shared i b).left;
          within = λ i b. up_to i j b (λ lt. omega (arith, id_kept i lt, g.within i lt))
              (λ e. subst (λ (x : ℕ). id' x + s x ≤ s 0) (sym e) (omega (arith, pi.here)));
          shallow = λ i b. up_to i j b (λ lt. omega (arith, deep_kept i lt, g.shallow i lt))
              (λ e. subst (λ (x : ℕ). deep' x ≤ x) (sym e) (omega (arith, pd.here, g.shallow (p j) up, up)));
        }

  -- a heavy child goes next to its parent
  pub ranking_heavy : {id' end' top' deep' : ℕ → ℕ} → h (p j) ≡ j → Put n j (id (p j) + 1) id id' → Put n j (id (p j) + 1 + s j) end end'
      → Put n j (top (p j)) top top' → Put n j (deep (p j) + 1) deep deep' → Ranking n p s h id' end' top' deep' (j + 1)
  ranking_heavy {id'} {end'} {top'} {deep'} q pi pe pt pd =
      ranking_more end' pi pt pd (λ z. refl) (λ z. refl) (λ d. absurd (d q)) (omega (arith, left_enough, left_within))
      (λ i b. up_to i j b
      (λ lt.
      share_kept end' pi pt pd i lt
      (equal_or_not (p j) i (λ e. lights_heavy p h j i g.some e (ap h (sym e) ∙ q)) (lights_other p h j i g.some))
      (pe.there i (omega arith) (omega arith)))
      (λ e. subst (λ (x : ℕ). Shared p s h id' end' (j + 1) x) (sym e) (share_new end' pi pt pd pe.here)))

  -- a light child at the end of what is left
  pub ranking_light : {id' end₁ end' top' deep' : ℕ → ℕ} → h (p j) ≢ j → Put n j (end (p j) - s j) id id' → Put n (p j) (end (p j) - s j) end end₁
      → Put n j (end (p j)) end₁ end' → Put n j j top top' → Put n j (deep (p j) + 1) deep deep' → Ranking n p s h id' end' top' deep' (j + 1)
  ranking_light {id'} {end₁} {end'} {top'} {deep'} d pi pu pe pt pd =
      let u = up in
      ranking_more end' pi pt pd (λ q. absurd (d q)) (λ q. absurd (d q)) (λ z. refl) (omega (arith, left_enough, left_within))
      (λ i b. up_to i j b
      (λ lt. equal_or_not i (p j)
      (λ e. subst (λ (x : ℕ). Shared p s h id' end' (j + 1) x) (sym e)
      (share_light end' pi pt pd d (omega (arith, left_enough)) (pe.there (p j) (omega arith) (omega arith) ∙ pu.here)))
      (λ ne.
      share_kept end' pi pt pd i lt (lights_other p h j i g.some (λ e. ne (sym e)))
      (pe.there i (omega arith) (omega arith) ∙ pu.there i (omega arith) ne)))
      (λ e. subst (λ (x : ℕ). Shared p s h id' end' (j + 1) x) (sym e) (share_new end' pi pt pd (omega (arith, pe.here, left_enough)))))
