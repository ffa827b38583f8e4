use Rattle.std.proofs.Common.{sym}
use Rattle.vx_catalog_json.proofs.LookFacts.{items_are}
use Rattle.vx_catalog_json.proofs.look.get_items.Goals as goal

pub returns-in-Some : goal.returns-in-Some
returns-in-Some c = rw c.as_slice.ensures.value (sym (items_are _ _ c.in-Some.ensures))
