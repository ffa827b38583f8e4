use Rattle.std.proofs.Common.{◌∙◌, ap, map, string_bytes, Vec, String, Global}
use Rattle.std.proofs.lemmas.Result.{IfOk-weaker}
use Rattle.vx_plan_nodes.proofs.NameFacts.{plain-names}
use Rattle.vx_plan_nodes.proofs.name.Name.without_prefix.Goals as goal

pub returns : goal.returns
returns c =
    IfOk-weaker c.with_prefix.result _ _
    (λ v e. e ∙ (plain-names _ _ (ap string_bytes c.in_ok-prefix.ensures.ok ∙ c.new.ensures.bytes) ∙ ap (λ (w : Vec (String Global) Global). map string_bytes w.items) c.in_ok-names.ensures.ok))
    c.with_prefix.ensures
