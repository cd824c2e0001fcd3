-- Laws of the tree of a file: the tests of its build, and that the ranges of a path on its tables are few, of few digits.
use Prim.Native.Nat.{ℕ, ◌≤◌, ◌<◌, ◌^◌}
use native.Mathlib.Omega.{arith}
use native.Mathlib.Decide.{dec_le}
use native.Mathlib.Nat.{pow-le-pow_right}
use mathlib.Core.Path.{◌≡◌, sym, ap, ◌∙◌}
use mathlib.Core.Logic.{inl, inr, ⊎_elim, by_cases}
use mathlib.Core.List.{List, [], ◌∷◌}
use lib.ListN.{length, take}
use lib.Seq.{length-take-le}
use Rattle.answers.specs.Limits.{max_vertices}
use Rattle.graph.specs.Judgement.{First}
use Rattle.graph.specs.Lent.{vertices}
use Rattle.graph.specs.Validation.{room_of}
use Rattle.numbering.specs.Log.{log2}
use Rattle.numbering.proofs.Logs.{log2_low, log2_small}
use Rattle.tables.specs.Tables.{Six, six, Long, NumberingOf}
use Rattle.hld.specs.Build.{building, Builds}
use Rattle.climb.specs.Asked.{size_of}
use Rattle.answers.specs.declared.answer.Refusal.TheVariants.{BadVertex}
use Rattle.pathlaws.specs.Given.{Given}
use Rattle.pathlaws.proofs.Standing.{answered, asked_or_refused}
use Rattle.ranges.specs.Calls.{Answered, refused, listed, from_found, ranges_of}
use Rattle.ranges.specs.Ranges.{Found, lost, found, path_ranges}
use Rattle.ranges.specs.declared.kinds.Kind.{Kind}
use Rattle.ranges.specs.declared.kinds.Kind.TheVariants.{Vertices, Edges, Both}
use Rattle.ranges.specs.declared.kinds.PathRange.{PathRange}
use Rattle.readings.specs.Numbers.{last_end, Within}
use Rattle.readings.proofs.Bounds.{ranges_room, ranges_within}
use Rattle.treefile.specs.declared.page.Page.{Page}
use Rattle.treefile.specs.File.{TreeSections, TreeFile, max_offsets, max_file_targets}
use Rattle.treefile.specs.Flat.{Low, ShortLists}
use Rattle.treefile.specs.Sizes.{range_digits}
use Rattle.treereport.specs.Reports.{tree_tests, Judged}
use Rattle.treereport.specs.Filing.{FileAsks, TreeAsks}

-- the logarithm of a number up to 1,024 is at most 10
log2_ten : (n : ℕ) → n ≤ 1_024 → log2 n ≤ 10
log2_ten n h =
    by_cases (dec_le (log2 n) 10) (λ p. p)
    (λ q. by_cases (dec_le 1 n)
    (λ some.
    let two : 0 < 2 = omega arith in
    let above : 11 ≤ log2 n = omega arith in
    let high : 2 ^ 11 ≤ 2 ^ log2 n = pow-le-pow_right two above in
    let low = log2_low n some in
    absurd (omega arith))
    (λ none. absurd (let e = log2_small n (omega arith) in omega arith)))

found_list : (f : Found) (l : List PathRange) → from_found f ≡ listed l → f ≡ found l
found_list lost l e = absurd (let z : ◌≡◌ {A = ℕ} 0 1 = cc in omega arith)
found_list (found m) l e = let s : m ≡ l = cc in ap found s

-- ranges that end at m have numbers of few digits, where m has
low_within : (m : ℕ) (l : List PathRange) → Within m l → m < 10 ^ range_digits → Low (10 ^ range_digits) l
low_within m [] w h = tt
low_within m (r ∷ l) (some, ends, rest) h = (omega arith, omega arith, low_within m l rest h)

last_end_lem : (k : Kind) (n : ℕ) → n ≤ 1_024 → last_end k n < 10 ^ range_digits
last_end_lem Vertices n h = omega arith
last_end_lem Edges n h = omega arith
last_end_lem Both n h = omega arith

-- a path on the tables of a tree of at most 1,024 vertices has few ranges, of few digits
pub short_lists : {n root : ℕ} {A : ℕ → List ℕ} {t : Six} {kids : ℕ → List ℕ} → NumberingOf n A root t kids → n ≤ 1_024 → ShortLists t
unfolding max_vertices ranges_of
short_lists {n} {root} {A} {t} {kids} N h k u v l e =
    ⊎_elim
    (λ b.
    let is : from_found (path_ranges k n t u v) ≡ listed l = sym (answered G (u ∷ v ∷ []) refused (λ (m : ℕ). from_found (path_ranges k m t u v)) b) ∙ e in
    let f : path_ranges k n t u v ≡ found l = found_list (path_ranges k n t u v) l is in
    let most = ranges_room G k b.0 b.1.0 l f in
    let ten = log2_ten n h in
    record { few = omega arith; low = low_within (last_end k n) l (ranges_within G k b.0 b.1.0 l f) (last_end_lem k n h) })
    (λ w. absurd (never (ranges_of k t u v) e w))
    (asked_or_refused G (u ∷ v ∷ []) refused (from_found (path_ranges k (size_of t) t u v)))
  where
    G : Given n A root t kids
    G = record { tables = N; limit = omega arith }

    never : (a : Answered) → a ≡ listed l → a ≡ refused BadVertex → ⊥
    never a p q = let z : ◌≡◌ {A = ℕ} 0 1 = cc in omega arith

-- where tables and work fit, the tests of a build are those of the graph
pub tree_tests_lem : (s : TreeSections) {t : Six} {room c : ℕ} → Long (vertices s.offsets) t → room_of s.offsets s.targets ≤ room
    → First (building s.offsets s.targets s.root t room) c → First (tree_tests s) c
tree_tests_lem s long room (inl p) = inl ((λ z. p.0 (record { sized = z; tables = long })), p.1)
tree_tests_lem s long room (inr (fits, inl p)) = absurd (p.0 room)
tree_tests_lem s long room (inr (fits, inr (r, rest))) = inr (fits.sized, rest)

-- a file has at most 1,024 vertices, for which the program's tables and work are long enough
pub few_vertices : {f : TreeFile} {page : Page} → FileAsks f page → vertices f.tree.offsets ≤ 1_024
unfolding max_offsets
few_vertices a = omega (arith, a.few_offsets)

pub work_room_lem : {f : TreeFile} {page : Page} → FileAsks f page → room_of f.tree.offsets f.tree.targets ≤ 10_240
unfolding max_offsets max_file_targets
work_room_lem a = omega (arith, a.few_offsets, a.few_targets)

-- what the build answers of a file's tree
pub judged : (f : TreeFile) {page : Page} {t t' : Six} {w w' : List ℕ} {c : ℕ} → TreeAsks f t page → 10_240 ≤ length w
    → Builds f.tree.offsets f.tree.targets f.tree.root t w t' w' c → Judged f.tree c t'
judged f a long b =
    let r = work_room_lem a.file in
    record { first = tree_tests_lem f.tree a.long (omega arith) b.code; built = b.written }

-- parts of n entries of the program's own tables
pub tree_asks : {f : TreeFile} {page : Page} {n : ℕ} (l : List ℕ) → length l ≡ 1_024 → n ≡ vertices f.tree.offsets → FileAsks f page
    → TreeAsks f (six (take n l) (take n l) (take n l) (take n l) (take n l) (take n l)) page
tree_asks {f} {n = n} l e is a =
    let v = few_vertices a in
    let long : length (take n l) ≡ vertices f.tree.offsets = length-take-le n l (omega arith) ∙ is in
    record { long = record { parent = long; depth = long; head = long; id = long; order = long; size = long }; file = a }
