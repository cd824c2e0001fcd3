-- `lists::path_records` meets its contract: what the core handed back by value is copied where it has room.
use Rattle.records.proofs.Planning.{recorded}
use Rattle.records.proofs.lists.path_records.Goals as goal

pub returns : goal.returns
returns c = recorded _ c.in_ok-found.ensures c.if-ranges-count.false c.copy_records.ensures
