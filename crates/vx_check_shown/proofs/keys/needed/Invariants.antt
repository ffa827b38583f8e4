use Rattle.std.proofs.Common.{ℕ}
use Rattle.vx_catalog_relations.specs.Relation.{Relation}
use Rattle.vx_plan_nodes.specs.Outline.{plan_of}
use Rattle.vx_check_rules.specs.Derived.{key_derived_by}
use Rattle.vx_check_rules.specs.KeyedView.{all_keyed_in}
use Rattle.vx_check_rules.specs.KnownNode.{IsKeyOf, StaysKnown}
use Rattle.vx_check_options.specs.FoundKeys.{IsPart}
use Rattle.vx_check_shown.proofs.keys.needed.Given as goal

abbrev pub invariant-loop-i : goal.invariant-loop-i
invariant-loop-i l = record {
  part : (catalog : ℕ → Relation) → IsKeyOf catalog l.fn.known (plan_of l.node) l.key → IsPart (key_derived_by catalog (plan_of l.node) (all_keyed_in l.keyed)) l.key l.part.items;
  kept : StaysKnown l.fn.known l.known (plan_of l.node);
}
