-- What a writer leaves on a page of lent bytes: a text at a place.
use Rattle.std.specs.Prelude.{ℕ, ◌+◌, ◌≤◌, ◌≡◌, List, length}
use Rattle.std.proofs.lemmas.List.Edits.{sets}
use Rattle.treefile.specs.declared.page.Page.{Page}

-- the text fits from the page's place on
pub record Room (text : List ℕ) (page : Page) : Type 0 where
  pub fits : page.at + length text ≤ length page.out.now

-- out' is out with the text put at index at, and r is the index past it
pub record Puts (text : List ℕ) (at : ℕ) (out out' : List ℕ) (r : ℕ) : Type 0 where
  pub bytes : out' ≡ sets out at text
  pub next : r ≡ at + length text

-- the text was put on the page, which goes on behind it and lends the same bytes
pub record Prints (text : List ℕ) (page page' : Page) : Type 0 where
  pub puts : Puts text page.at page.out.now page'.out.now page'.at
  pub same : page'.out.ghost_name ≡ page.out.ghost_name
