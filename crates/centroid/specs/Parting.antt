-- A decomposition under way: the starts that wait, first in, first out, and the vertices that are removed. lv gives a removed vertex its level, which
-- is below n, and a vertex that is left n or more.
use Rattle.std.specs.Prelude.{ℕ, ◌+◌, ◌≤◌, ◌<◌, ◌^◌, ◌≡◌, ◌≢◌, true, false, List, ltb, leb, length, set}
use Rattle.sums.specs.Sum.{at, how_many}
use Rattle.paths.specs.Walk.{In, Stands}
use Rattle.paths.specs.Rooted.{Spans}
use Rattle.paths.specs.Route.{ptail}
use Rattle.answers.specs.Limits.{no_parent}
use Rattle.graph.specs.Lent.{vertices, list_of}
use Rattle.graph.specs.Validation.{graph_tests}
use Rattle.graph.specs.Steps.{Begun, GraphPart}
use Rattle.graph.specs.Work.{Only}
use Rattle.paths.specs.Lists.{keep}
use Rattle.centroid.specs.Components.{in_component}
use Rattle.centroid.specs.Decomposition.{CentroidAt, DecompositionOf}
use Rattle.centroid.specs.Calls.{two, TwoLong, TwoOf}
use Rattle.centroid.specs.Regions.{start_at, parent_at, level_at, removed_from, regions_end}
use Rattle.centroid.specs.Search.{LentTree, live}

-- a start s below the centroid p, on level l: 0 below none; or a neighbour of p, one level below it
pub data Pends (n : ℕ) (A : ℕ → List ℕ) (lv : ℕ → ℕ) (s p l : ℕ) : Type 0 where
  first : p ≡ no_parent → l ≡ 0 → s ≡ 0 → Pends n A lv s p l
  next : p < n → lv p < n → In s (A p) → l ≡ lv p + 1 → Pends n A lv s p l

-- its component is what a search on its level will find: nothing on that level or below is removed yet
pub record Entry (n : ℕ) (A : ℕ → List ℕ) (way : ℕ → ℕ → List ℕ) (lv : ℕ → ℕ) (s p l : ℕ) : Type 0 where
  pub below : s < n
  pub left : n ≤ lv s
  pub began : Pends n A lv s p l
  pub own : (x : ℕ) → x < n → in_component way lv l s x ≡ true → n ≤ lv x
  pub later : (c : ℕ) → c < n → lv c < n → lv c ≤ l

-- the entries from h up to t wait: S, P and L are their starts, parents and levels
pub record Parting (n : ℕ) (A : ℕ → List ℕ) (way : ℕ → ℕ → List ℕ) (S P L lv up : ℕ → ℕ) (h t : ℕ) : Type 0 where
  pub within : h ≤ t
  pub removed : how_many n (λ x. ltb (lv x) n) ≡ h
  pub centroids : (c : ℕ) → c < n → lv c < n → CentroidAt n A way up lv c
  pub entries : (j : ℕ) → h ≤ j → j < t → Entry n A way lv (S j) (P j) (L j)
  pub apart : (j l : ℕ) → h ≤ j → j < t → h ≤ l → l < t → j ≢ l → in_component way lv n (S j) (S l) ≡ true → ⊥
  pub cover : (x : ℕ) → x < n → n ≤ lv x → (j : ℕ) × (h ≤ j) × (j < t) × (in_component way lv n (S j) x ≡ true)
  pub sorted : (j l : ℕ) → h ≤ j → j ≤ l → l < t → L j ≤ L l
  pub close : (j l : ℕ) → h ≤ j → j < t → h ≤ l → l < t → L l ≤ L j + 1
  pub small : (j : ℕ) → h ≤ j → j < t → L j ≤ j

-- the same in work and in the two tables: starts from 0 on, parents from n on, levels from 2n on
pub record PartingIn (os ts : List ℕ) (n : ℕ) (up level w : List ℕ) (h t : ℕ) : Type 0 where
  pub lv : ℕ → ℕ
  pub up_long : length up ≡ n
  pub level_long : length level ≡ n
  pub levels : (c : ℕ) → c < n → lv c < n → at level c ≡ lv c
  pub marks : (y : ℕ) → y < n → live w n y ≡ leb n (lv y)
  pub parting : (par dep : ℕ → ℕ) → Spans n (Stands (list_of os ts)) 0 par dep
      → Parting n (list_of os ts) (ptail par dep) (λ j. at w (start_at n j)) (λ j. at w (parent_at n j)) (λ j. at w (level_at n j)) lv (at up) h t

-- the neighbours of c that are not removed
abbrev pub left_of : List ℕ → List ℕ → ℕ → ℕ → List ℕ → List ℕ
left_of os ts n c w = keep (live w n) (list_of os ts c)

-- x may become a start: where it is not removed there is room for it
pub record StartAsks (n x c t : ℕ) (w : List ℕ) : Type 0 where
  pub small : n < 2 ^ 31
  pub vertex : x < n
  pub centroid : c < n
  pub fresh : live w n x ≡ true → t < n
  pub room : regions_end n ≤ length w

-- work with the start x below c on level l at position t
abbrev pub waiting : ℕ → ℕ → ℕ → ℕ → ℕ → List ℕ → List ℕ
waiting n x c l t w = set (set (set w (start_at n t) x) (parent_at n t) c) (level_at n t) l

pub data Started (n x c l t : ℕ) (w w' : List ℕ) (r : ℕ) : Type 0 where
  gone : live w n x ≡ false → w' ≡ w → r ≡ t → Started n x c l t w w' r
  new : live w n x ≡ true → w' ≡ waiting n x c l t w → r ≡ t + 1 → Started n x c l t w w' r

-- the neighbours of c that are not removed are to be starts behind the first t
pub record AddAsks (os ts : List ℕ) (n c t : ℕ) (w : List ℕ) : Type 0 where
  pub tree : LentTree os ts n
  pub vertex : c < n
  pub fits : t + length (left_of os ts n c w) ≤ n
  pub room : regions_end n ≤ length w

-- they are, below c and on level l
pub record Added (os ts : List ℕ) (n c l t : ℕ) (w w' : List ℕ) (r : ℕ) : Type 0 where
  pub count : r ≡ t + length (left_of os ts n c w)
  pub starts : (i : ℕ) → i < length (left_of os ts n c w) → at w' (start_at n (t + i)) ≡ at (left_of os ts n c w) i
  pub parents : (i : ℕ) → i < length (left_of os ts n c w) → at w' (parent_at n (t + i)) ≡ c
  pub levels : (i : ℕ) → i < length (left_of os ts n c w) → at w' (level_at n (t + i)) ≡ l
  pub old_starts : (j : ℕ) → j < t → at w' (start_at n j) ≡ at w (start_at n j)
  pub old_parents : (j : ℕ) → j < t → at w' (parent_at n j) ≡ at w (parent_at n j)
  pub old_levels : (j : ℕ) → j < t → at w' (level_at n j) ≡ at w (level_at n j)
  pub only : Only 0 (removed_from n) w w'

-- the parents in a lent table, where it has room for them; else they are written nowhere
abbrev pub HeldIn : ℕ → (table up : List ℕ) → Type 0
HeldIn n table up = length table ≡ n → table ≡ up

-- the first entry that waits is to be taken
pub record RemoveAsks (os ts : List ℕ) (n h t : ℕ) (table level w : List ℕ) : Type 0 where
  pub tree : LentTree os ts n
  pub room : regions_end n ≤ length w
  pub some : h < t
  pub up : List ℕ
  pub held : HeldIn n table up
  pub state : PartingIn os ts n up level w h t

pub record Removed (os ts : List ℕ) (n h : ℕ) (w : List ℕ) (table' level' w' : List ℕ) (t' : ℕ) : Type 0 where
  pub up : List ℕ
  pub held : HeldIn n table' up
  pub state : PartingIn os ts n up level' w' (h + 1) t'
  pub only : Only 0 (regions_end n) w w'

-- a tree is to be decomposed, with a table of its length for the levels
pub record DecomposeAsks (os ts : List ℕ) (n : ℕ) (level w : List ℕ) : Type 0 where
  pub tree : LentTree os ts n
  pub level_long : length level ≡ n
  pub room : regions_end n ≤ length w

pub record Decomposed (os ts : List ℕ) (n : ℕ) (table' level' w w' : List ℕ) : Type 0 where
  pub up : List ℕ
  pub held : HeldIn n table' up
  pub tables : DecompositionOf n (list_of os ts) up level'
  pub only : Only 0 (regions_end n) w w'

-- the tests 1 and 2 were passed
pub record GraphAsks (os ts up level w : List ℕ) : Type 0 where
  pub begun : Begun os ts w
  pub long : TwoLong (vertices os) (two up level)

-- the tests 3 to 8 and the tables, with work still in use
abbrev pub GraphDecomposed : (os ts up level w up' level' w' : List ℕ) (c : ℕ) → Type 0
GraphDecomposed os ts up level w up' level' w' c = GraphPart os ts (graph_tests os ts 0) (TwoOf os ts) (two up level) (two up' level') w w' c
