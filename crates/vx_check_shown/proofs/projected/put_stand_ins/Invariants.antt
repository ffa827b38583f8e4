use Rattle.std.proofs.Common.{◌≡◌, true}
use Rattle.vx_catalog_relations.specs.Catalog.{all_below}
use Rattle.vx_check_shown.proofs.projected.put_stand_ins.Given as goal

abbrev pub invariant-loop-column : goal.invariant-loop-column
invariant-loop-column l = all_below l.outputs l.columns.items ≡ true
