-- What condition 2 asks of the tables of a build: "every number .. right".
use Rattle.std.specs.Prelude.{ℕ, ◌+◌, ◌≤◌, ◌<◌, ◌≡◌, ◌↔◌, Bool, true, List, ◌∷◌, length}
use Rattle.sums.specs.Sum.{at, how_many}
use Rattle.paths.specs.Walk.{In, NoDup, Stands, Simple}
use Rattle.answers.specs.Limits.{no_parent}
use Rattle.numbering.specs.Numbering.{Numbered, Chained}
use Rattle.tables.specs.Tables.{Six, Long, kids_by_rule_one}

-- m is on the simple path from u to v, in the tree of n vertices with the lists A
abbrev pub OnPath : ℕ → (ℕ → List ℕ) → (u v m : ℕ) → Type 0
OnPath n A u v m = (P : List ℕ) × Simple n (Stands A) u v P × In m (u ∷ P)

-- the test picks the vertices whose path to r passes v: those of v's subtree, seen from r
abbrev pub PicksSubtree : ℕ → (ℕ → List ℕ) → (r v : ℕ) → (ℕ → Bool) → Type 0
PicksSubtree n A r v test = (x : ℕ) → x < n → (test x ≡ true) ↔ OnPath n A x r v

-- the entries of the six tables
pub record Entries (n : ℕ) (A : ℕ → List ℕ) (root : ℕ) (t : Six) : Type 0 where
  -- "A build writes six tables of exactly n entries"
  pub long : Long n t
  -- "Parent, depth and size as usual from the root.": the next vertex on the simple path to the root, that path's length, the vertices of the subtree
  pub parent : {v p : ℕ} {P : List ℕ} → Simple n (Stands A) v root (p ∷ P) → at t.parent v ≡ p
  pub no_parent : at t.parent root ≡ no_parent
  pub depth : {v : ℕ} {P : List ℕ} → Simple n (Stands A) v root P → at t.depth v ≡ length P
  pub size : {v : ℕ} → v < n → (test : ℕ → Bool) → PicksSubtree n A root v test → at t.size v ≡ how_many n test
  -- there is a test that picks v's subtree, seen from the root or any other r
  pub picks : {r v : ℕ} → r < n → v < n → (test : ℕ → Bool) × PicksSubtree n A r v test
  -- "the root is 0"
  pub root_number : at t.id root ≡ 0
  -- "After a vertex comes the whole subtree of its heavy child, then those of its light children in REVERSE list order."
  pub numbers : {u : ℕ} → u < n → Numbered (at t.id) (at t.size) (at t.id u + 1) (kids_by_rule_one A t u)
  -- these are the children of u, each once
  pub children : {u : ℕ} → u < n → (v : ℕ) → In v (kids_by_rule_one A t u) ↔ ((v < n) × (at t.parent v ≡ u))
  pub each_once : {u : ℕ} → u < n → NoDup (kids_by_rule_one A t u)
  -- "`head` is the top of the chain of heavy edges."
  pub root_head : at t.head root ≡ root
  pub heads : {u : ℕ} → u < n → Chained (at t.head) (at t.size) (at t.head u) (kids_by_rule_one A t u)
  -- "`order` inverts `id`."
  pub order_id : {v : ℕ} → v < n → at t.order (at t.id v) ≡ v
  pub id_order : {i : ℕ} → i < n → at t.id (at t.order i) ≡ i
  -- "The subtree of v has ids id(v) up to id(v)+size(v), the end excluded."
  pub subtree :
      {v x : ℕ} → v < n → x < n → OnPath n A x root v ↔ ((at t.id v ≤ at t.id x) × (at t.id x < at t.id v + at t.size v))
