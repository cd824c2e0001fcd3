-- The number that is left gets smaller.
use Rattle.treefile.proofs.page.Page.+put_decimal.Given as goal

abbrev pub decreases-put_decimal : goal.decreases-put_decimal
decreases-put_decimal l = l.x
