use Rattle.std.proofs.lemmas.Str.Pattern.{contains_text}
use Rattle.vx_functions.specs.Texts.{stands_in}
use Rattle.vx_functions.proofs.TextFacts.{stands, stands-where, same-test}
use Rattle.vx_ops_computing.proofs.texts.HoldsTextTest.passes.Goals as goal

pub returns : goal.returns
returns c =
    let part = c.args.self.now.part.now in
    let text = c.args.text.now in
    let both = contains_text c.contains.result part text c.contains.ensures.cases in
    same-test c.contains.result (stands_in part text) (λ h. stands part text (both.0 h)) (λ h. both.1 (stands-where part text h))
