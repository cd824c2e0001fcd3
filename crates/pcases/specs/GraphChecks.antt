-- Tests of a lent graph: the tests 1 to 6 of a validation, and whether parents and depths are those of a tree.
use Rattle.std.specs.Prelude.{ℕ, ◌+◌, Bool, true, List, [], ◌∷◌, eqb, leb, ltb, length}
use Rattle.sums.specs.Sum.{at, count}
use Rattle.paths.specs.Route.{links}
use Rattle.answers.specs.Limits.{max_vertices, max_targets}
use Rattle.answers.specs.Codes.{done, bad_size, no_room, bad_offsets, bad_vertex, bad_root, not_symmetric}
use Rattle.graph.specs.Lent.{vertices, list_of}
use Rattle.answers.specs.Choice.{pick, both}
use Rattle.pcases.specs.Checks.{below, all}

abbrev pub sized_tests : (os ts : List ℕ) → List Bool
sized_tests os ts = leb 1 (vertices os) ∷ leb (vertices os) max_vertices ∷ leb (length ts) max_targets ∷ []

abbrev pub offsets_tests : (os ts : List ℕ) → List Bool
offsets_tests os ts =
    eqb (at os 0) 0 ∷ below (vertices os) (λ u. leb (at os u) (at os (u + 1))) ∷ eqb (at os (vertices os)) (length ts) ∷ []

abbrev pub targets? : (os ts : List ℕ) → Bool
targets? os ts = below (length ts) (λ e. ltb (at ts e) (vertices os))

abbrev pub symmetric? : ℕ → (ℕ → List ℕ) → Bool
symmetric? n A = below n (λ u. below n (λ v. eqb (count v (A u)) (count u (A v))))

-- a code, and whether its test is passed
abbrev pub Verdict : Type 0
Verdict = ℕ × Bool

-- the tests 1 to 6, where the work room is enough; no P case asks for a later one
abbrev pub verdicts : (os ts : List ℕ) → ℕ → List Verdict
verdicts os ts root =
    (bad_size, all (sized_tests os ts))
    ∷ (no_room, true)
    ∷ (bad_offsets, all (offsets_tests os ts))
    ∷ (bad_vertex, targets? os ts)
    ∷ (bad_root, ltb root (vertices os))
    ∷ (not_symmetric, symmetric? (vertices os) (list_of os ts))
    ∷ []

-- the code of the first test that is not passed
abbrev pub first_code : List Verdict → ℕ
first_code [] = done
first_code (x ∷ l) = pick x.1 (first_code l) x.0

-- the root alone has depth 0; the parent of any other vertex is one less deep
abbrev pub rooted_tests : (n root : ℕ) (par dep : ℕ → ℕ) → List Bool
rooted_tests n root par dep =
    ltb root n
    ∷ eqb (dep root) 0
    ∷ below n (λ v. pick (ltb 0 (dep v)) (both (ltb (par v) n) (eqb (dep (par v) + 1) (dep v))) (eqb v root))
    ∷ []

-- the graph is within the limits, with sound offsets and targets
abbrev pub lent_tests : (os ts : List ℕ) → List Bool
lent_tests os ts = all (sized_tests os ts) ∷ all (offsets_tests os ts) ∷ targets? os ts ∷ []

-- a rooted tree, and the lists hold each vertex's parent and children once and nothing else
abbrev pub tree_tests : (n : ℕ) (A : ℕ → List ℕ) (root : ℕ) (par dep : ℕ → ℕ) → List Bool
tree_tests n A root par dep =
    all (rooted_tests n root par dep)
    ∷ below n (λ u. below n (λ v. eqb (count v (A u)) (links par dep u v)))
    ∷ []
