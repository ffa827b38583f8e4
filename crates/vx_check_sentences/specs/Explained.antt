-- The two sentences on a node of a plan, none where the plan has no such node.
use Rattle.std.specs.Prelude.{ℕ, List, Option, option_map}
use Rattle.vx_plan_nodes.specs.Names.{TypedPlanView}
use Rattle.vx_check_rules.specs.Refusal.{Rule}
use Rattle.vx_check_failures.specs.Lines.{node_numbered}
use Rattle.vx_check_sentences.specs.Claimed.{claimed_text}
use Rattle.vx_check_sentences.specs.Shown.{shown_at}

-- what the node claims or does
abbrev pub claimed_of : TypedPlanView → ℕ → Rule → Option (List ℕ)
claimed_of p node rule = option_map (claimed_text p.names rule) (node_numbered node p.root)

-- what is there
abbrev pub shown_of : TypedPlanView → ℕ → Rule → Option (List ℕ)
shown_of p node rule = option_map (shown_at p.derives p.names rule) (node_numbered node p.root)
