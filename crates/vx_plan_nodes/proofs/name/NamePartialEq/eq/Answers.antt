use Rattle.std.proofs.Common.{◌∙◌, ap}
use Rattle.std.specs.Ordering.{is_eq}
use Rattle.std.proofs.lemmas.Map.Text.{is_eq-slice_cmp}
use Rattle.vx_plan_nodes.proofs.name.NamePartialEq.eq.Goals as goal

pub returns : goal.returns
returns c = c.is_eq.ensures ∙ (ap is_eq c.cmp.ensures ∙ is_eq-slice_cmp c.args.self.now c.args.other.now)
