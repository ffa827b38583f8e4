use Rattle.std.proofs.Common.{◌∙◌, map}
use Rattle.serde_json.specs.View.{view}
use Rattle.vx_catalog_json.proofs.LookFacts.{only_members}
use Rattle.vx_catalog_json.proofs.look.has_only.Goals as goal

pub returns-in-Some : goal.returns-in-Some
returns-in-Some c = c.are_keys_among.ensures ∙ only_members (map (λ n. n.now) c.args.names.now) (view c.args.value.now) c.in-Some.members.now c.in-Some.ensures
