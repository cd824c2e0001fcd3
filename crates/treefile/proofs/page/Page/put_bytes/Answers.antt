use native.Mathlib.Omega.{arith}
use mathlib.Core.Path.{refl}
use Rattle.treefile.proofs.Writing.{sets_part}
use Rattle.treefile.proofs.page.Page.put_bytes.Goals as goal

pub returns : goal.returns
returns c =
    let page = c.args.self.now in
    record { puts = record { bytes = rw c.copy_from_slice.ensures.after (sets_part c.args.text.now page.out.now page.at _ c.requires.fits (omega arith)); next = refl }; same = refl }
