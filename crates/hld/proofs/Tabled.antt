-- A visit that met every vertex, its positions weighed and ranked, and the tables that hold this by vertex: a numbering by rule 1.
use Prim.Native.Nat.{ℕ, suc, ◌+◌, ◌≤◌, ◌<◌}
use native.Mathlib.Omega.{arith}
use mathlib.Core.Path.{◌≡◌, sym, ap, ◌∙◌, subst}
use mathlib.Core.List.{List, [], ◌∷◌, map}
use Rattle.sums.proofs.Sums.{equal_or_not}
use Rattle.paths.specs.Walk.{In, Stands, NoDup, Below}
use Rattle.paths.specs.Tree.{Tree}
use Rattle.paths.specs.Rooted.{Rooted, Spans}
use Rattle.paths.proofs.Listed.{out_of, in-below, at_in}
use Rattle.paths.proofs.Rising.{Rises, above_in}
use Rattle.paths.proofs.Links.{tree_span}
use Rattle.numbering.specs.Numbering.{total, Numbered, Arranged, Arrangement}
use Rattle.numbering.specs.RuleOne.{heaviest, without, children_of, by_rule_one}
use Rattle.paths.proofs.Kept.{keep_once}
use Rattle.numbering.proofs.ChildLists.{children_in, without-total}
use Rattle.numbering.proofs.Heaviest.{heaviest_in}
use Rattle.numbering.proofs.ByRule.{HeadsBy, by_rule_in, by_rule_arranged}
use Rattle.passes.specs.Passes.{run, heavy_of, Weighed}
use Rattle.ranks.specs.Ranks.{Backwards, Ranked}
use Rattle.visit.specs.Visit.{Visited}
use Rattle.visit.proofs.Positions.{Places}
use Rattle.hld.proofs.Children.{Reads, run_in, run_rises, children-run, map_in}
use Rattle.hld.proofs.Carried.{by_rule-map, heaviest-map, total-map, numbered-map, backwards_numbered}

-- what the tables hold by vertex is what the positions hold
pub record Holds (n : ℕ) (q p s id top deep : ℕ → ℕ) (par dep head number size : ℕ → ℕ) : Type 0 where
  pub par_at : (j : ℕ) → 0 < j → j < n → par (q j) ≡ q (p j)
  pub dep_at : (j : ℕ) → j < n → dep (q j) ≡ deep j
  pub head_at : (j : ℕ) → j < n → head (q j) ≡ q (top j)
  pub id_at : (j : ℕ) → j < n → number (q j) ≡ id j
  pub size_at_lem : (j : ℕ) → j < n → size (q j) ≡ s j

-- a rising list has no repeats
rises_once : (l : List ℕ) → Rises l → NoDup l
rises_once [] r = tt
rises_once (x ∷ l) r = (out_of x l (λ i. (let k = above_in x x l r.0 i in omega arith)), rises_once l r.1)

module _ {n : ℕ} (A : ℕ → List ℕ) {root : ℕ} {q p e g : ℕ → ℕ} (vis : Visited n A root q p e n) (pl : Places n q g) (tree : Tree n A)
    (below : (u : ℕ) → u < n → Below n (A u)) {s h id top deep : ℕ → ℕ} (W : Weighed n p s h) (K : Ranked n p s h id top deep)
    {par dep head number size : ℕ → ℕ} (T : Holds n q p s id top deep par dep head number size) where
  some : 1 ≤ n
  some = (let z = vis.some in omega arith)

  -- parents and depths as the positions give them
  reads : Reads n q p par dep
  reads =
      record {
        par_at = T.par_at;
        dep_first = T.dep_at 0 vis.some ∙ K.first_deep;
        dep_later = λ j a b. (let d = T.dep_at j b in let k = K.deeper j a b in omega arith);
      }

  -- a vertex by its position
  home : (v : ℕ) → v < n → q (g v) ≡ v
  home v hv = pl.back v hv

  later : (v : ℕ) → v < n → 0 < dep v → 0 < g v
  later v hv d =
      equal_or_not (g v) 0
      (λ z. (let a = ap dep (sym (home v hv) ∙ ap q z) ∙ T.dep_at 0 vis.some ∙ K.first_deep in absurd (omega arith))) (λ z. omega arith)

  pub table_rooted : Rooted n root par dep
  table_rooted =
      record {
        root_below = subst (λ (x : ℕ). x < n) vis.start (vis.below 0 vis.some);
        root_top = ap dep (sym vis.start) ∙ T.dep_at 0 vis.some ∙ K.first_deep;
        one_root = λ v hv d. equal_or_not (g v) 0 (λ z. sym (home v hv) ∙ ap q z ∙ vis.start)
            (λ z. absurd (let a = ap dep (home v hv) in let b = T.dep_at (g v) (pl.below v hv) in
            let c = K.deeper (g v) (omega arith) (pl.below v hv) in omega arith));
        par_below = λ v hv d. (let l = later v hv d in let b = pl.below v hv in
            subst (λ (x : ℕ). x < n) (sym (T.par_at (g v) l b) ∙ ap par (home v hv))
            (vis.below (p (g v)) (let k = vis.earlier (g v) l b in omega arith)));
        par_dep = λ v hv d. (let l = later v hv d in let b = pl.below v hv in
            let k = vis.earlier (g v) l b in
            let a = ap dep (sym (ap par (home v hv)) ∙ T.par_at (g v) l b) in
            let c = T.dep_at (p (g v)) (omega arith) in
            let f = ap dep (home v hv) in
            let m = T.dep_at (g v) b in
            let o = K.deeper (g v) l b in omega arith);
      }

  held : (v : ℕ) → v < n → 0 < dep v → In v (A (par v))
  held v hv d =
      let l = later v hv d in
      let b = pl.below v hv in
      subst (λ (x : ℕ). In v (A x)) (sym (T.par_at (g v) l b) ∙ ap par (home v hv))
      (subst (λ (x : ℕ). In x (A (q (p (g v))))) (vis.entry (g v) l b ∙ home v hv)
      (at_in (A (q (p (g v)))) (e (g v)) (vis.place (g v) l b)))

  pub table_span : Spans n (Stands A) root par dep
  table_span = tree_span table_rooted A tree held

  -- the positions R have i for their parent
  abbrev Under : ℕ → List ℕ → Type 0
  Under i R = (k : ℕ) → In k R → (0 < k) × (k < n) × (p k ≡ i)

  -- the heavy one of a run
  heavy_under : (i x : ℕ) (l : List ℕ) → Under i (x ∷ l) → (0 < heaviest s x l) × (heaviest s x l < n) × (p (heaviest s x l) ≡ i)
  heavy_under i x l r = r (heaviest s x l) (heaviest_in s x l)

  -- the positions of a run are numbered as rule 1 says
  ranked-run : (i : ℕ) (R : List ℕ) → Under i R → NoDup R → s i ≡ suc (total s R) → h i ≡ heavy_of s R → Backwards id s (id i + s i) (without (h i) R)
      → Numbered id s (id i + 1) (by_rule_one s R)
  ranked-run i [] r d si hv b = tt
  ranked-run i (x ∷ l) r d si hv b =
      let m : ℕ = heaviest s x l in
      let f = heavy_under i x l r in
      let w = without-total s m (x ∷ l) d (heaviest_in s x l) in (
        K.heavy_id m f.0 f.1 (ap h f.2 ∙ hv) ∙ ap (λ (y : ℕ). id y + 1) f.2,
        backwards_numbered id s (id i + s i) (id i + 1 + s m) (without m (x ∷ l)) (subst (λ (y : ℕ). Backwards id s (id i + s i) (without y (x ∷ l))) hv b) (omega arith),
      )

  -- the heavy one goes on the chain, the others head their own
  heads-run : (i : ℕ) (R : List ℕ) → Under i R → h i ≡ heavy_of s R → HeadsBy head size (q (top i)) (map q R)
  heads-run i [] r hv = tt
  heads-run i (x ∷ l) r hv =
      let m : ℕ = heaviest s x l in
      let f = heavy_under i x l r in
      let c : heaviest size (q x) (map q l) ≡ q m = heaviest-map q s size x l (λ k j. T.size_at_lem k (r k j).1) in (
        ap head c ∙ T.head_at m f.1 ∙ ap q (K.heavy_top m f.0 f.1 (ap h f.2 ∙ hv) ∙ ap top f.2),
        λ v j ne. (let y = map_in q (x ∷ l) v j in let z = r y.0 y.1 in
            ap head (sym y.2) ∙ T.head_at y.0 z.1
            ∙ ap q (K.light_top y.0 z.0 z.1 (λ o. ne (sym y.2 ∙ ap q (sym o ∙ ap h z.2 ∙ hv) ∙ sym c))) ∙ y.2),
      )

  module _ (u : ℕ) (hu : u < n) where
    gu : g u < n
    gu = pl.below u hu

    under : Under (g u) (run p n (g u))
    under k m = (run_in p n (g u) k some).0 m

    listed : map q (run p n (g u)) ≡ children_of A par dep u
    listed = children-run A vis pl tree.no_repeat below par dep reads u hu

    sizes : (k : ℕ) → In k (run p n (g u)) → size (q k) ≡ s k
    sizes k m = T.size_at_lem k (under k m).1

    arranged_size : size u ≡ suc (total size (map q (run p n (g u))))
    arranged_size =
        ap size (sym (home u hu)) ∙ T.size_at_lem (g u) gu ∙ W.size (g u) gu ∙ ap suc (sym (total-map q s size (run p n (g u)) sizes))

    arranged-numbers : Numbered number size (number u + 1) (by_rule_one size (map q (run p n (g u))))
    arranged-numbers =
        let l : List ℕ = run p n (g u) in
        let within : (k : ℕ) → In k (by_rule_one s l) → In k l = λ k m. (by_rule_in s l k).0 m in
        subst (λ (x : ℕ). Numbered number size (x + 1) (by_rule_one size (map q l))) (sym (T.id_at (g u) gu) ∙ ap number (home u hu))
        (subst (Numbered number size (id (g u) + 1)) (sym (by_rule-map q s size l sizes (λ k j a b. vis.once k j (under k a).1 (under j b).1)))
        (numbered-map q s size id number (id (g u) + 1) (by_rule_one s l) (λ k m. sizes k (within k m)) (λ k m. T.id_at k (under k (within k m)).1)
        (ranked-run (g u) l under (rises_once l (run_rises p n (g u))) (W.size (g u) gu) (W.heavy (g u) gu) (K.light_ids (g u) gu))))

    arranged_heads : HeadsBy head size (head u) (map q (run p n (g u)))
    arranged_heads =
        subst (λ (x : ℕ). HeadsBy head size x (map q (run p n (g u)))) (sym (T.head_at (g u) gu) ∙ ap head (home u hu))
        (heads-run (g u) (run p n (g u)) under (W.heavy (g u) gu))

    pub table_arranged : Arranged n par dep head number size u (by_rule_one size (children_of A par dep u))
    table_arranged =
        by_rule_arranged n par dep head number size u (children_of A par dep u)
        (λ v. (
          λ m. (let c = (children_in A par dep u v).0 m in (in-below n v (A u) (below u hu) c.0, c.1)),
          λ c. (children_in A par dep u v).1 (subst (λ (x : ℕ). In v (A x)) c.1.1 (held v c.0 c.1.0), c.1),
        ))
        (keep_once _ (A u) (tree.no_repeat u hu))
        (subst (λ (l : List ℕ). size u ≡ suc (total size l)) listed arranged_size)
        (subst (λ (l : List ℕ). Numbered number size (number u + 1) (by_rule_one size l)) listed arranged-numbers)
        (subst (HeadsBy head size (head u)) listed arranged_heads)

  pub table_arrangement : Arrangement n root par dep head number size (λ u. by_rule_one size (children_of A par dep u))
  table_arrangement =
      record {
        rooted = table_rooted;
        root_id = ap number (sym vis.start) ∙ T.id_at 0 vis.some ∙ K.first_id;
        root_head = ap head (sym vis.start) ∙ T.head_at 0 vis.some ∙ ap q K.first_top ∙ vis.start;
        arranged = table_arranged;
      }
