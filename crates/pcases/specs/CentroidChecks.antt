-- Tests of a decomposition, by counting; `way u v` is what follows u on the simple path to v.
use Rattle.std.specs.Prelude.{ℕ, ◌+◌, ◌*◌, Bool, true, not, List, [], ◌∷◌, eqb, leb, ltb, length}
use Rattle.sums.specs.Sum.{at, how_many}
use Rattle.paths.specs.Route.{ptail}
use Rattle.answers.specs.Limits.{no_parent}
use Rattle.centroid.specs.Components.{component_of, in_part}
use Rattle.answers.specs.Choice.{pick, both}
use Rattle.pcases.specs.Checks.{below, some, all}

-- removal of v leaves parts of at most half the vertices
abbrev pub halves? : (n : ℕ) (way : ℕ → ℕ → List ℕ) (C : ℕ → Bool) → ℕ → Bool
halves? n way C v =
    below n (λ w. pick (both (C w) (not (eqb w v))) (leb (2 * how_many n (in_part way C v w)) (how_many n C)) true)

-- c halves the component, and whatever else does is farther from s
abbrev pub centroid_tests : (n : ℕ) (way : ℕ → ℕ → List ℕ) (C : ℕ → Bool) → ℕ → ℕ → List Bool
centroid_tests n way C s c =
    ltb s n
    ∷ C c
    ∷ C s
    ∷ halves? n way C c
    ∷ below n (λ y. pick (both (C y) (both (not (eqb y c)) (halves? n way C y))) (ltb (length (way s c)) (length (way s y))) true)
    ∷ []

-- c is a centroid from some neighbour of its parent
abbrev pub next_tests : (n : ℕ) (A : ℕ → List ℕ) (way : ℕ → ℕ → List ℕ) (up level : ℕ → ℕ) → ℕ → List Bool
next_tests n A way up level c =
    ltb (up c) n
    ∷ eqb (level c) (level (up c) + 1)
    ∷ some (λ s. all (centroid_tests n way (component_of way level c) s c)) (A (up c))
    ∷ []

-- c is a centroid from 0 where it has no parent, else from some neighbour of its parent
abbrev pub started? : (n : ℕ) (A : ℕ → List ℕ) (way : ℕ → ℕ → List ℕ) (up level : ℕ → ℕ) → ℕ → Bool
started? n A way up level c =
    pick (eqb (up c) no_parent)
    (both (eqb (level c) 0) (all (centroid_tests n way (component_of way level c) 0 c)))
    (all (next_tests n A way up level c))

-- the two tables are the decomposition of the tree with the lists A and, from root 0, these parents and depths
abbrev pub decomposition_tests : (n : ℕ) (A : ℕ → List ℕ) (par dep : ℕ → ℕ) (up level : List ℕ) → List Bool
decomposition_tests n A par dep up level =
    eqb (length up) n ∷ eqb (length level) n ∷ below n (started? n A (ptail par dep) (at up) (at level)) ∷ []
