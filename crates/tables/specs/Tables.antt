-- The six tables as lists, and what a build writes into them.
use Rattle.std.specs.Prelude.{ℕ, ◌≡◌, List, length}
use Rattle.std.specs.Borrow.{Bor}
use denote.Triple.Both.{Both}
use Rattle.sums.specs.Sum.{at}
use Rattle.paths.specs.Walk.{Stands}
use Rattle.paths.specs.Rooted.{Spans}
use Rattle.answers.specs.Limits.{no_parent}
use Rattle.numbering.specs.Numbering.{Numbering}
use Rattle.numbering.specs.RuleOne.{children_of, by_rule_one}
use Rattle.tables.specs.declared.Tables.{Tables}
use Rattle.tables.specs.declared.TablesMut.{TablesMut}

-- "six tables .. parent, depth, head, id, order, size" (01, "What is delivered")
pub record Six : Type 0 where
  pub parent : List ℕ
  pub depth : List ℕ
  pub head : List ℕ
  pub id : List ℕ
  pub order : List ℕ
  pub size : List ℕ

-- each of exactly n entries
pub record Long (n : ℕ) (t : Six) : Type 0 where
  pub parent : length t.parent ≡ n
  pub depth : length t.depth ≡ n
  pub head : length t.head ≡ n
  pub id : length t.id ≡ n
  pub order : length t.order ≡ n
  pub size : length t.size ≡ n

-- the tables are a heavy-chain numbering, from this root, of the tree whose lists are A; `kids u` are the children of u in the order of their numbers
pub record NumberingOf (n : ℕ) (A : ℕ → List ℕ) (root : ℕ) (t : Six) (kids : ℕ → List ℕ) : Type 0 where
  pub long : Long n t
  pub spans : Spans n (Stands A) root (at t.parent) (at t.depth)
  pub no_parent : at t.parent root ≡ no_parent
  pub numbering : Numbering n root (at t.parent) (at t.depth) (at t.head) (at t.id) (at t.order) (at t.size) kids

-- the children of each vertex as rule 1 arranges them: the heavy one first, the light ones in reverse list order
abbrev pub kids_by_rule_one : (A : ℕ → List ℕ) → Six → ℕ → List ℕ
kids_by_rule_one A t u = by_rule_one (at t.size) (children_of A (at t.parent) (at t.depth) u)

-- the tables of 01: a heavy-chain numbering by rule 1
abbrev pub TablesOf : ℕ → (ℕ → List ℕ) → ℕ → Six → Type 0
TablesOf n A root t = NumberingOf n A root t (kids_by_rule_one A t)

abbrev pub six : (parent depth head id order size : List ℕ) → Six
six parent depth head id order size = record { parent = parent; depth = depth; head = head; id = id; order = order; size = size }

-- in contracts: the six tables that a call is lent to read
abbrev pub six_in : Tables → Six
six_in t = six t.parent.now t.depth.now t.head.now t.id.now t.order.now t.size.now

-- the six tables that a call is lent to write, as they are
abbrev pub six_mut : TablesMut → Six
six_mut t = six t.parent.now t.depth.now t.head.now t.id.now t.order.now t.size.now

-- they are lent where they were
pub record SameTables (t t' : TablesMut) : Type 0 where
  pub parent : t'.parent.ghost_name ≡ t.parent.ghost_name
  pub depth : t'.depth.ghost_name ≡ t.depth.ghost_name
  pub head : t'.head.ghost_name ≡ t.head.ghost_name
  pub id : t'.id.ghost_name ≡ t.id.ghost_name
  pub order : t'.order.ghost_name ≡ t.order.ghost_name
  pub size : t'.size.ghost_name ≡ t.size.ghost_name

-- The same where they are lent one by one, as C lends them, in what a call answers and in what it asks. A call that writes them says `six` of what
-- they were and of what it left in them.

abbrev pub lent : {A B C D E F : Type 0}
    → Both (Bor (List ℕ)) A → Both (Bor (List ℕ)) B → Both (Bor (List ℕ)) C → Both (Bor (List ℕ)) D → Both (Bor (List ℕ)) E → Both (Bor (List ℕ)) F → Six
lent parent depth head id order size =
    six parent.entry.now depth.entry.now head.entry.now id.entry.now order.entry.now size.entry.now

abbrev pub six_of : (parent depth head id order size : Bor (List ℕ)) → Six
six_of parent depth head id order size = six parent.now depth.now head.now id.now order.now size.now
