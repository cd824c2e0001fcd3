-- A heavy-chain numbering of a rooted tree, with some child of greatest size heavy and some order of the light ones. Nothing here says which:
-- what a query, a reading or a bound needs of tables is this, whoever numbered the tree.
use Rattle.std.specs.Prelude.{ℕ, suc, ◌+◌, ◌≤◌, ◌<◌, ◌≡◌, ◌↔◌, List, [], ◌∷◌}
use Rattle.paths.specs.Walk.{In, NoDup}
use Rattle.paths.specs.Rooted.{Rooted, Child}

-- the sizes of a list of vertices together
abbrev pub total : (ℕ → ℕ) → List ℕ → ℕ
total size [] = 0
total size (v ∷ l) = size v + total size l

-- the first vertex has the number `next`, and each next one the number behind the subtree of the one before
abbrev pub Numbered : (id size : ℕ → ℕ) → ℕ → List ℕ → Type 0
Numbered id size next [] = Unit {0}
Numbered id size next (v ∷ l) = (id v ≡ next) × Numbered id size (next + size v) l

-- each is the head of a chain of its own, and no larger than the heavy child
abbrev pub Light : (head size : ℕ → ℕ) → ℕ → List ℕ → Type 0
Light head size most [] = Unit {0}
Light head size most (v ∷ l) = (head v ≡ v) × (size v ≤ most) × Light head size most l

-- the first, heavy, child goes on the chain with head h, the others are light
abbrev pub Chained : (head size : ℕ → ℕ) → ℕ → List ℕ → Type 0
Chained head size h [] = Unit {0}
Chained head size h (v ∷ l) = (head v ≡ h) × Light head size (size v) l

-- the children of u, the heavy one first, in the order of their numbers
pub record Arranged (n : ℕ) (par dep head id size : ℕ → ℕ) (u : ℕ) (kids : List ℕ) : Type 0 where
  pub children : (v : ℕ) → In v kids ↔ ((v < n) × Child par dep u v)
  pub once : NoDup kids
  pub sizes : size u ≡ suc (total size kids)
  pub numbers : Numbered id size (id u + 1) kids
  pub chain : Chained head size (head u) kids

-- parents, depths, heads, numbers and sizes of the vertices number the tree from this root; `kids u` are the children of u in the order of their
-- numbers
pub record Arrangement (n root : ℕ) (par dep head id size : ℕ → ℕ) (kids : ℕ → List ℕ) : Type 0 where
  pub rooted : Rooted n root par dep
  pub root_id : id root ≡ 0
  pub root_head : head root ≡ root
  pub arranged : (u : ℕ) → u < n → Arranged n par dep head id size u (kids u)

-- the six tables, as functions of a vertex (`order`: of a number), number the tree from this root: "`order` inverts `id`"
pub record Numbering (n root : ℕ) (par dep head id order size : ℕ → ℕ) (kids : ℕ → List ℕ) : Type 0 where
  pub arrangement : Arrangement n root par dep head id size kids
  pub inverse : (v : ℕ) → v < n → order (id v) ≡ v
