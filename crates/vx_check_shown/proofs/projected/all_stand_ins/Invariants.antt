use Rattle.std.proofs.Common.{◌≡◌, true, map}
use Rattle.std.specs.List.{list_all}
use Rattle.vx_catalog_relations.specs.Catalog.{all_below}
use Rattle.vx_check_shown.proofs.projected.all_stand_ins.Given as goal

abbrev pub invariant-loop-key : goal.invariant-loop-key
invariant-loop-key l = list_all (all_below l.outputs) (map (λ k. k.items) l.found.items) ≡ true
