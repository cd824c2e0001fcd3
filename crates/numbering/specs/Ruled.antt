-- The heavy-chain numbering that rule 1 gives a tree from a root.
use Rattle.std.specs.Prelude.{ℕ, ◌<◌, List}
use Rattle.paths.specs.Walk.{Stands}
use Rattle.paths.specs.Rooted.{Spans}
use Rattle.numbering.specs.Numbering.{Numbering}
use Rattle.numbering.specs.RuleOne.{RuleOne}

-- the six tables number the tree of the lists A from this root by rule 1
pub record Ruled (n : ℕ) (A : ℕ → List ℕ) (root : ℕ) (par dep head id order size : ℕ → ℕ) (kids : ℕ → List ℕ) : Type 0 where
  pub spans : Spans n (Stands A) root par dep
  pub numbering : Numbering n root par dep head id order size kids
  pub rule : (u : ℕ) → u < n → RuleOne A par dep size kids u
