use Rattle.std.proofs.Common.{◌≡◌, ℕ, map, drop}
use Rattle.std.specs.List.{list_all}
use Rattle.vx_catalog_relations.specs.Relation.{Relation}
use Rattle.vx_plan_nodes.specs.Outline.{plan_of}
use Rattle.vx_plan_nodes.specs.Plan.{claim}
use Rattle.vx_plan_facts.specs.Determined.{determined}
use Rattle.vx_plan_facts.specs.Following.{key_follows}
use Rattle.vx_plan_facts.specs.KnownView.{IsKnownOf}
use Rattle.vx_check_rules.specs.KnownNode.{StaysKnown}
use Rattle.vx_check_keeping.proofs.telling.do_keys_follow.Given as goal

abbrev pub invariant-loop-key : goal.invariant-loop-key
invariant-loop-key l = record {
  kept : StaysKnown l.fn.known l.known (plan_of l.node);
  rest :
      (catalog : ℕ → Relation) → IsKnownOf catalog l.fn.known (plan_of l.node)
      → list_all (key_follows (determined catalog (plan_of l.node)) (claim (plan_of l.node)).keys) (map (λ k. k.items) l.keys)
      ≡ list_all (key_follows (determined catalog (plan_of l.node)) (claim (plan_of l.node)).keys) (map (λ k. k.items) (drop l.key-index l.keys));
}
