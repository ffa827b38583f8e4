use Rattle.std.proofs.Common.{◌≡◌, ℕ, true, map, take}
use Rattle.std.specs.List.{list_all}
use Rattle.vx_catalog_relations.specs.Relation.{Relation}
use Rattle.vx_catalog_relations.specs.Catalog.{all_below}
use Rattle.vx_plan_nodes.specs.Outline.{plan_of}
use Rattle.vx_plan_nodes.specs.Types.{width}
use Rattle.vx_plan_facts.specs.KnownView.{IsKnownOf}
use Rattle.vx_check_rules.specs.KeyedView.{all_keyed_in}
use Rattle.vx_check_rules.specs.KnownNode.{StaysKnown}
use Rattle.vx_check_shown.specs.ShownKeys.{AddsKeys}
use Rattle.vx_check_shown.proofs.keys.add_keys.Given as goal

abbrev pub invariant-loop-key : goal.invariant-loop-key
invariant-loop-key l = record {
  added : (catalog : ℕ → Relation) → IsKnownOf catalog l.fn.known (plan_of l.node) → list_all (all_below (width catalog (plan_of l.node))) (map (λ k. k.items) l.keys) ≡ true
      → AddsKeys catalog (plan_of l.node) (all_keyed_in l.keyed) (map (λ k. k.items) (take l.key-index l.keys)) (map (λ k. k.items) l.fn.found.items) (map (λ k. k.items) l.found.items);
  kept : StaysKnown l.fn.known l.known (plan_of l.node);
}
