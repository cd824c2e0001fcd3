-- Laws of a tree's sections: what is read of them stands where it is read from.
use Prim.Native.Nat.{ℕ, ◌+◌, ◌≤◌}
use native.Mathlib.Omega.{arith}
use mathlib.Core.Path.{◌≡◌, refl, sym, ap, ap₂, ◌∙◌}
use mathlib.Core.Bool.{Bool, true, false}
use mathlib.Core.List.{List, [], ◌∷◌, ◌++◌}
use lib.Dec.{leb}
use lib.ListN.{length, take, drop, take-append-drop, length-append, length-drop}
use lib.Seq.{length-take-le, take-append_seam, drop-append_seam, drop-drop}
use borrow.Author.Tests.{leb-true, le-leb}
use Rattle.answers.specs.Choice.{pick, both}
use Rattle.answers.proofs.Choices.{both_true}
use Rattle.treefile.specs.File.{TreeSections, Section, cut, part, section, tree, with_root, with_targets, with_offsets, read_tree, max_offsets, max_file_targets, max_roots}
use Rattle.treefile.specs.Inputs.{counted}

pub clash : {C : Type 0} → ◌≡◌ {A = ℕ} 0 1 → C
clash z = absurd (omega arith)

-- a section
pub section_is : (most : ℕ) (ws l rest : List ℕ) → section most ws ≡ part l rest → (ws ≡ counted l ++ rest) × (length l ≤ most)
section_is most [] l rest e = clash cc
section_is most (count ∷ ws) l rest e = told (both (leb count most) (leb count (length ws))) refl e
  where
    told : (b : Bool) → both (leb count most) (leb count (length ws)) ≡ b → pick b (part (take count ws) (drop count ws)) cut ≡ part l rest
        → (count ∷ ws ≡ counted l ++ rest) × (length l ≤ most)
    told false h e' = clash cc
    told true h e' =
        let s = both_true (leb count most) (leb count (length ws)) h in
        let x : take count ws ≡ l = cc in
        let y : drop count ws ≡ rest = cc in
        let k : count ≡ length l = sym (length-take-le count ws (leb-true count (length ws) s.1)) ∙ ap length x in
        let few = leb-true count most s.0 in
        (ap₂ (λ (c : ℕ) (m : List ℕ). c ∷ m) k (sym (take-append-drop count ws) ∙ ap₂ (λ (a b : List ℕ). a ++ b) x y), omega arith)

section_of : (most : ℕ) (l rest : List ℕ) → length l ≤ most → section most (counted l ++ rest) ≡ part l rest
section_of most l rest few =
    rw (
      le-leb (length l) most few,
      le-leb (length l) (length (l ++ rest)) (let k = length-append l rest in omega arith),
      take-append_seam l rest,
      drop-append_seam l rest,
    )

-- a tree's sections, from the last to the first
root_is : (os ts ws : List ℕ) (x : Section) → section max_roots ws ≡ x → (s : TreeSections) (rest : List ℕ) → with_root os ts x ≡ tree s rest
    → (s.offsets ≡ os) × (s.targets ≡ ts) × (ws ≡ counted (s.root ∷ []) ++ rest)
root_is os ts ws cut h s rest e = clash cc
root_is os ts ws (part [] w) h s rest e = clash cc
root_is os ts ws (part (root ∷ []) w) h s rest e =
    let z : record { offsets = os; targets = ts; root = root } ≡ s = cc in
    let y : w ≡ rest = cc in (
      sym (ap (λ (t : TreeSections). t.offsets) z),
      sym (ap (λ (t : TreeSections). t.targets) z),
      (section_is max_roots ws (root ∷ []) w h).0 ∙ ap₂ (λ (t : TreeSections) (m : List ℕ). 1 ∷ t.root ∷ m) z y,
    )
root_is os ts ws (part (root ∷ x ∷ l) w) h s rest e = clash cc

targets_is : (os ws : List ℕ) (x : Section) → section max_file_targets ws ≡ x → (s : TreeSections) (rest : List ℕ) → with_targets os x ≡ tree s rest
    → (s.offsets ≡ os) × (ws ≡ counted s.targets ++ (counted (s.root ∷ []) ++ rest)) × (length s.targets ≤ max_file_targets)
targets_is os ws cut h s rest e = clash cc
targets_is os ws (part ts w) h s rest e =
    let r = root_is os ts w (section max_roots w) refl s rest e in
    let p = section_is max_file_targets ws ts w h in
    (r.0, p.0 ∙ ap₂ (λ (a b : List ℕ). counted a ++ b) (sym r.1) r.2, (let k = ap length r.1 in let few = p.1 in omega arith))

pub tree_is : (ws : List ℕ) (x : Section) → section max_offsets ws ≡ x → (s : TreeSections) (rest : List ℕ) → with_offsets x ≡ tree s rest
    → (ws ≡ counted s.offsets ++ (counted s.targets ++ (counted (s.root ∷ []) ++ rest)))
    × (length s.offsets ≤ max_offsets) × (length s.targets ≤ max_file_targets)
tree_is ws cut h s rest e = clash cc
tree_is ws (part os w) h s rest e =
    let r = targets_is os w (section max_file_targets w) refl s rest e in
    let p = section_is max_offsets ws os w h in
    (p.0 ∙ ap₂ (λ (a b : List ℕ). counted a ++ b) (sym r.0) r.1, (let k = ap length r.0 in let few = p.1 in omega arith), r.2)

pub tree_of : (s : TreeSections) (rest : List ℕ) → length s.offsets ≤ max_offsets → length s.targets ≤ max_file_targets
    → read_tree (counted s.offsets ++ (counted s.targets ++ (counted (s.root ∷ []) ++ rest))) ≡ tree s rest
unfolding max_roots
tree_of s rest few-os few-ts =
    ap with_offsets (section_of max_offsets s.offsets (counted s.targets ++ (counted (s.root ∷ []) ++ rest)) few-os)
    ∙ ap (with_targets s.offsets) (section_of max_file_targets s.targets (counted (s.root ∷ []) ++ rest) few-ts)
    ∙ ap (with_root s.offsets s.targets) (section_of max_roots (s.root ∷ []) rest (omega arith))

-- where the sections of a tree s at place p of the numbers ws stand, and what follows them
pub record TreeAt (ws : List ℕ) (p : ℕ) (s : TreeSections) (rest : List ℕ) : Type 0 where
  pub few_offsets : length s.offsets ≤ max_offsets
  pub few_targets : length s.targets ≤ max_file_targets
  pub within : p + length s.offsets + length s.targets + 4 ≤ length ws
  pub offsets_are : s.offsets ≡ take (length s.offsets) (drop (p + 1) ws)
  pub targets_are : s.targets ≡ take (length s.targets) (drop (p + length s.offsets + 2) ws)
  pub follows : rest ≡ drop (p + length s.offsets + length s.targets + 4) ws

-- behind p numbers
dropped : (p k : ℕ) (ws l : List ℕ) → drop p ws ≡ l → drop (p + k) ws ≡ drop k l
dropped p k ws l e = sym (drop-drop k p ws) ∙ ap (drop k) e

-- a tree that was read has its place
pub tree_at : (ws : List ℕ) (p : ℕ) (s : TreeSections) (rest : List ℕ) → read_tree (drop p ws) ≡ tree s rest → TreeAt ws p s rest
tree_at ws p s rest e =
    let t = tree_is (drop p ws) (section max_offsets (drop p ws)) refl s rest e in
    let os = s.offsets in
    let ts = s.targets in
    let behind : List ℕ = counted (s.root ∷ []) ++ rest in
    let first : drop (p + 1) ws ≡ os ++ (counted ts ++ behind) = dropped p 1 ws _ t.0 in
    let q : p + 1 + length os + 1 ≡ p + length os + 2 = omega arith in
    let r : p + length os + 2 + length ts + 2 ≡ p + length os + length ts + 4 = omega arith in
    let second : drop (p + length os + 2) ws ≡ ts ++ behind =
    ap (λ (k : ℕ). drop k ws) (sym q)
    ∙ dropped (p + 1 + length os) 1 ws (counted ts ++ behind) (dropped (p + 1) (length os) ws _ first ∙ drop-append_seam os (counted ts ++ behind)) in
    let third : drop (p + length os + length ts + 4) ws ≡ rest =
    ap (λ (k : ℕ). drop k ws) (sym r)
    ∙ dropped (p + length os + 2 + length ts) 2 ws behind (dropped (p + length os + 2) (length ts) ws _ second ∙ drop-append_seam ts behind) in
    let there = ap length second ∙ length-append ts behind in
    let left = length-drop (p + length os + 2) ws in
    record {
      few_offsets = t.1;
      few_targets = t.2;
      within = omega arith;
      offsets_are = sym (ap (take (length os)) first ∙ take-append_seam os (counted ts ++ behind));
      targets_are = sym (ap (take (length ts)) second ∙ take-append_seam ts behind);
      follows = sym third;
    }

-- a root section is one number
pub root_alone : (ws l rest : List ℕ) (root : ℕ) → part (root ∷ l) rest ≡ section max_roots ws → l ≡ []
unfolding max_roots
root_alone ws [] rest root e = refl
root_alone ws (x ∷ l) rest root e = absurd (let few = (section_is max_roots ws (root ∷ x ∷ l) rest (sym e)).1 in omega arith)
