-- What the functions that write the lines of queries ask.
use Rattle.std.specs.Prelude.{ℕ, List}
use Rattle.tables.specs.Tables.{Six}
use Rattle.treefile.specs.declared.page.Page.{Page}
use Rattle.treefile.specs.declared.query.Query.{Query}
use Rattle.treefile.specs.Report.{query_line, query_lines}
use Rattle.treefile.specs.Flat.{ShortLists}
use Rattle.treefile.specs.Writing.{Room}

-- the line of a query fits
pub record LineAsks (t : Six) (place : ℕ) (q : Query) (page : Page) : Type 0 where
  pub short : ShortLists t
  pub room : Room (query_line t place q) page

-- the lines of all queries fit
pub record LinesAsk (t : Six) (qs : List Query) (page : Page) : Type 0 where
  pub short : ShortLists t
  pub room : Room (query_lines t 1 qs) page
