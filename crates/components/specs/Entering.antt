-- What the functions that enter neighbours into the lists ask and answer.
use Rattle.std.specs.Prelude.{ℕ, ◌+◌, ◌≤◌, ◌<◌, ◌^◌, ◌≡◌, Bool, true, false, not, List, [], ◌∷◌, map, eqb, leb, length, set}
use Rattle.std.proofs.lemmas.List.Edits.{sets}
use Rattle.sums.specs.Sum.{at}
use Rattle.answers.specs.Choice.{both}
use Rattle.graph.specs.Lent.{list_of}
use Rattle.paths.specs.Lists.{keep}
use Rattle.centroid.specs.Regions.{queue_at, level_of_at, work_end}
use Rattle.centroid.specs.Search.{LentTree}

-- y is entered: its level is not below that of c, and it is not the vertex that led here
abbrev pub leads : (level : ℕ → ℕ) → ℕ → ℕ → ℕ → Bool
leads level c back y = both (leb (level c) (level y)) (not (eqb y back))

-- the levels by vertex in work
abbrev pub level_in : ℕ → List ℕ → ℕ → ℕ
level_in n w v = at w (level_of_at n v)

-- the branch of y, which x leads on to: y itself beside c, else the branch of x
abbrev pub beyond : ℕ → ℕ → ℕ → ℕ → ℕ
beyond c x branch y = elim (eqb x c) [ true ↦ y | false ↦ branch ]

-- x is noted in work for each vertex of a list as the one that led to it
abbrev pub notes : ℕ → ℕ → List ℕ → List ℕ → List ℕ
notes n x [] w = w
notes n x (y ∷ l) w = notes n x l (set w (queue_at n y) x)

-- y is a neighbour of x: where it is entered there is room for it
pub record EnterAsks (n c x back y t : ℕ) (vs ds bs w : List ℕ) : Type 0 where
  pub small : n < 2 ^ 31
  pub centre : c < n
  pub vertex : x < n
  pub neighbour : y < n
  pub room : work_end n ≤ length w
  pub fits : leads (level_in n w) c back y ≡ true → (t < length vs) × (t < length ds) × (t < length bs)

-- y is not entered and nothing changed; or it stands at place t with its distance d and its branch, x noted for it
pub data Entered (n c x back d b y t : ℕ) (vs ds bs w vs' ds' bs' w' : List ℕ) (r : ℕ) : Type 0 where
  left : leads (level_in n w) c back y ≡ false → vs' ≡ vs → ds' ≡ ds → bs' ≡ bs → w' ≡ w → r ≡ t
      → Entered n c x back d b y t vs ds bs w vs' ds' bs' w' r
  new : leads (level_in n w) c back y ≡ true → vs' ≡ set vs t y → ds' ≡ set ds t d → bs' ≡ set bs t (beyond c x b y) → w' ≡ set w (queue_at n y) x
      → r ≡ t + 1 → Entered n c x back d b y t vs ds bs w vs' ds' bs' w' r

-- the vertices that x leads on to, in list order
abbrev pub led_to : List ℕ → List ℕ → ℕ → ℕ → List ℕ → ℕ → List ℕ
led_to os ts n c w x = keep (leads (level_in n w) c (at w (queue_at n x))) (list_of os ts x)

-- the neighbours of the vertex at place i are to be entered from place t on
pub record ListAsks (os ts : List ℕ) (n c i t : ℕ) (vs ds bs w : List ℕ) : Type 0 where
  pub tree : LentTree os ts n
  pub centre : c < n
  pub room : work_end n ≤ length w
  pub vertex_place : i < length vs
  pub distance_place : i < length ds
  pub branch_place : i < length bs
  pub vertex : at vs i < n
  pub near : at ds i < n
  pub vertex_room : t + length (led_to os ts n c w (at vs i)) ≤ length vs
  pub distance_room : t + length (led_to os ts n c w (at vs i)) ≤ length ds
  pub branch_room : t + length (led_to os ts n c w (at vs i)) ≤ length bs

-- the list `new` stands from place t on, each entry with the distance d and its branch beyond x
pub record Put (n c x d b t : ℕ) (new : List ℕ) (vs ds bs w vs' ds' bs' w' : List ℕ) (r : ℕ) : Type 0 where
  pub count : r ≡ t + length new
  pub vertices : vs' ≡ sets vs t new
  pub distances : ds' ≡ sets ds t (map (λ y. d) new)
  pub branches : bs' ≡ sets bs t (map (beyond c x b) new)
  pub backs : w' ≡ notes n x new w

-- those that the vertex at place i leads on to stand there, one step farther
abbrev pub ListAnswers : (os ts : List ℕ) (n c i t : ℕ) (vs ds bs w vs' ds' bs' w' : List ℕ) (r : ℕ) → Type 0
ListAnswers os ts n c i t vs ds bs w vs' ds' bs' w' r =
    Put n c (at vs i) (at ds i + 1) (at bs i) t (led_to os ts n c w (at vs i)) vs ds bs w vs' ds' bs' w' r
