use Rattle.std.proofs.Common.{◌≡◌, map, drop}
use Rattle.std.specs.List.{list_all}
use Rattle.vx_catalog_relations.specs.Catalog.{relation_at}
use Rattle.vx_plan_nodes.specs.Outline.{plan_of}
use Rattle.vx_check_rules.specs.Derived.{key_derived}
use Rattle.vx_check_rules.specs.KnownNode.{StaysKnown}
use Rattle.vx_check_rules.proofs.derived_keys.are_keys_shown_derived.Given as goal

abbrev pub invariant-loop-key : goal.invariant-loop-key
invariant-loop-key l = record {
  kept : StaysKnown l.fn.known l.known (plan_of l.node);
  rest :
      list_all (key_derived (relation_at l.catalog) (plan_of l.node)) (map (λ k. k.items) l.keys)
      ≡ list_all (key_derived (relation_at l.catalog) (plan_of l.node)) (map (λ k. k.items) (drop l.key-index l.keys));
}
