-- The rule parts that the vertex ranges of a path pick from two stores, joined, are the store's entries along the path.
use Prim.Native.Nat.{ℕ, zero, suc, ◌+◌, ◌-◌, ◌≤◌, ◌<◌}
use native.Mathlib.Omega.{arith}
use mathlib.Core.Path.{◌≡◌, refl, sym, ap, ◌∙◌}
use mathlib.Core.List.{List, [], ◌∷◌, ◌++◌, map, map-map, map-append, reverse, reverse-append, append_assoc}
use lib.ListN.{length, get_or, take, drop, length-drop, length-reverse, take-append-drop}
use lib.Seq.{length-take-le, drop-cons, take_at, drop_at}
use borrow.Author.Tests.{lt-ltb, le-leb, eq-eqb}
use Rattle.sums.specs.Sum.{at}
use Rattle.paths.specs.Walk.{Stands, Simple}
use Rattle.paths.proofs.Unique.{path_unique}
use Rattle.answers.specs.Limits.{max_vertices, max_store}
use Rattle.answers.proofs.Bounds.{vertices_stored}
use Rattle.numbering.proofs.Readings.{map-reverse}
use Rattle.tables.specs.Tables.{Six}
use Rattle.pathlaws.specs.Given.{Given, path_in}
use Rattle.ranges.specs.Ranges.{found, path_ranges}
use Rattle.ranges.specs.Readings.{rising, read_in, read_range, reading}
use Rattle.ranges.specs.Parts.{named?, part_in, rule_part}
use Rattle.ranges.specs.declared.kinds.Direction.{Direction}
use Rattle.ranges.specs.declared.kinds.Direction.TheVariants.{Forward, Reversed}
use Rattle.ranges.specs.declared.kinds.PathRange.{PathRange}
use Rattle.ranges.specs.declared.kinds.Kind.TheVariants.{Vertices}
use Rattle.readings.specs.Numbers.{Within, parts_of}
use Rattle.readings.proofs.PathReadings.{vertices_read}
use Rattle.readings.proofs.SimpleReadings.{simple_last}
use Rattle.readings.proofs.Bounds.{ranges_within}

-- k entries of a list from l on
entries : (s : List ℕ) (l k : ℕ) → l + k ≤ length s → take k (drop l s) ≡ map (at s) (rising l k)
entries s l zero h = refl
entries s l (suc k) h = rw (drop-cons s l 0 (omega arith), entries s (suc l) k (omega arith))

-- the middle of a list, found in the list turned round
middle-turned : (a b c : List ℕ) (j k : ℕ) → length c ≡ j → length b ≡ k → take k (drop j (reverse (a ++ (b ++ c)))) ≡ reverse b
middle-turned a b c j k e f =
    rw (
      reverse-append a (b ++ c),
      reverse-append b c,
      append_assoc (reverse c) (reverse b) (reverse a),
      drop_at (reverse c) (reverse b ++ reverse a) j (length-reverse c ∙ e),
      take_at (reverse b) (reverse a) k (length-reverse b ∙ f),
    )

-- k entries of a list from l on, found in the list turned round
entries-turned : (s : List ℕ) (l k : ℕ) → l + k ≤ length s → take k (drop (length s - (l + k)) (reverse s)) ≡ reverse (take k (drop l s))
entries-turned s l k h =
    let c : take l s ++ (take k (drop l s) ++ drop k (drop l s)) ≡ s =
    ap (λ (r : List ℕ). take l s ++ r) (take-append-drop k (drop l s)) ∙ take-append-drop l s in
    let d = length-drop l s in
    let e = length-drop k (drop l s) in
    ap (λ (r : List ℕ). take k (drop (length s - (l + k)) (reverse r))) (sym c)
    ∙ middle-turned (take l s) (take k (drop l s)) (drop k (drop l s)) (length s - (l + k)) k (omega arith) (length-take-le k (drop l s) (omega arith))

-- the part of two stores, the second the first turned round, has the entries at the numbers that the range reads
part_reads : (d : Direction) (s : List ℕ) (l r : ℕ) → l < r → r ≤ length s → part_in d s (reverse s) l r ≡ map (at s) (read_in d (rising l (r - l)))
part_reads Forward s l r h i = entries s l (r - l) (omega arith)
part_reads Reversed s l r h i =
    let e : l + (r - l) ≡ r = omega arith in
    ap (λ (k : ℕ). take (r - l) (drop (length s - k) (reverse s))) (sym e)
    ∙ entries-turned s l (r - l) (omega arith)
    ∙ ap reverse (entries s l (r - l) (omega arith))
    ∙ sym (map-reverse (at s) (rising l (r - l)))

-- a rule part has the entries at the numbers that its range reads
pub rule-part_reads :
    (s : List ℕ) (r : PathRange) → length s ≤ max_store → r.start < r.end → r.end ≤ length s
    → rule_part s (reverse s) r.start r.end r.direction ≡ map (at s) (read_range r)
unfolding rule_part
rule-part_reads s r m h i =
    rw (
      rule_part,
      named?,
      le-leb 1 (length s) (omega arith),
      le-leb (length s) max_store m,
      eq-eqb (length (reverse s)) (length s) (length-reverse s),
      lt-ltb r.start r.end h,
      le-leb r.end (length s) i,
    )
    (part_reads r.direction s r.start r.end h i)

-- the rule parts of a list of ranges have the entries at the numbers that it reads
pub parts_read : (s : List ℕ) (l : List PathRange) → length s ≤ max_store → Within (length s) l → parts_of s (reverse s) l ≡ map (at s) (reading l)
parts_read s [] m w = refl
parts_read s (r ∷ l) m w = rw (rule-part_reads s r m w.0 w.1, parts_read s l m w.2, map-append)

-- a store with one entry to a vertex is not too long
store_fits : (n : ℕ) → n ≤ max_vertices → n ≤ max_store
store_fits n h = let s = vertices_stored in omega arith

module _ {n root : ℕ} {A : ℕ → List ℕ} {t : Six} {kids : ℕ → List ℕ} (G : Given n A root t kids) where
  -- the rule parts of the vertex ranges from u to v, joined, are the entries of the vertices of the path in order
  pub parts_along :
      (first second : List ℕ) {u v : ℕ}
      → second ≡ reverse first
      → length first ≡ n
      → u < n
      → v < n
      → (l : List PathRange)
      → path_ranges Vertices n t u v ≡ found l
      → parts_of first second l ≡ map (λ x. get_or first (at t.id x) 0) (u ∷ path_in t u v)
  parts_along first second {u} {v} e m hu hv l f =
      let b : length first ≤ max_store = rw m (store_fits n G.limit) in
      rw e
      (parts_read first l b (rw m (ranges_within G Vertices hu hv l f))
      ∙ ap (map (at first)) (vertices_read G hu hv l f)
      ∙ map-map (at first) (at t.id) (u ∷ path_in t u v))

  -- whatever list is a simple path from u to v
  pub parts_simple :
      (first second : List ℕ) {u v : ℕ} {P : List ℕ}
      → second ≡ reverse first
      → length first ≡ n
      → Simple n (Stands A) u v P
      → (l : List PathRange)
      → path_ranges Vertices n t u v ≡ found l
      → parts_of first second l ≡ map (λ x. get_or first (at t.id x) 0) (u ∷ P)
  parts_simple first second e m s l f =
      rw (path_unique G.tables.spans s) (parts_along first second e m s.below.0 (simple_last s) l f)
