use Rattle.vx_plan_json.proofs.Holds.{holds_at}
use Rattle.vx_plan_json.proofs.NodeCounts.{few_nodes}
use Rattle.vx_plan_json.proofs.LevelFacts.{few_levels}
use Rattle.vx_plan_json.proofs.HeadFacts.{is_head, head-within, within_at}
use Rattle.vx_plan_json.proofs.OwnFacts.{IsFormed, node-formed}
use Rattle.vx_plan_json.proofs.KeyFacts.{node-few}
use Rattle.vx_plan_json.specs.Formed.{are_keys_few}
use Rattle.vx_plan_json.specs.Document.{Tree}
use Rattle.std.proofs.Common.{◌≡◌, ℕ, true}
use Rattle.serde_json.specs.View.{view}
use Rattle.vx_plan_json.specs.Reading.{head_in}
use Rattle.vx_plan_json.proofs.reading.read_document.Goals as goal

pub new-requires-clause-few : goal.new-requires-clause-few
new-requires-clause-few c = few_nodes _ _ _ _ _ _ c.in_ok-root.ensures

pub new-requires-clause-low : goal.new-requires-clause-low
new-requires-clause-low c = few_levels _ _ _ _ _ _ _ c.in_ok-root.ensures

pub new-requires-clause-declared : goal.new-requires-clause-declared
new-requires-clause-declared c = within_at is_head (head_in (view c.args.value.now)) _ (head-within (view c.args.value.now)) c.in-Ok.ensures

pub new-requires-clause-formed : goal.new-requires-clause-formed
new-requires-clause-formed c = (holds_at (λ (r : Tree × ℕ). IsFormed 64 r.0) _ _ (node-formed _ _ _ _ _) c.in_ok-root.ensures).formed

pub new-requires-clause-low_operands : goal.new-requires-clause-low_operands
new-requires-clause-low_operands c = (holds_at (λ (r : Tree × ℕ). IsFormed 64 r.0) _ _ (node-formed _ _ _ _ _) c.in_ok-root.ensures).low

pub new-requires-clause-few_keys : goal.new-requires-clause-few_keys
new-requires-clause-few_keys c = holds_at (λ (r : Tree × ℕ). are_keys_few c.in-Ok.header.derives r.0 ≡ true) _ _ (node-few _ _ _ _ _) c.in_ok-root.ensures
