use Rattle.std.proofs.lemmas.Str.Pattern.{contains_text}
use Rattle.vx_functions.specs.Texts.{stands_in}
use Rattle.vx_functions.proofs.TextFacts.{stands, stands-where, same-test}
use Rattle.vx_functions.proofs.texts.contains.Goals as goal

pub returns : goal.returns
returns c =
    let both = contains_text c.contains.result c.args.part.now c.args.text.now c.contains.ensures.cases in
    same-test c.contains.result (stands_in c.args.part.now c.args.text.now) (λ h. stands c.args.part.now c.args.text.now (both.0 h)) (λ h. both.1 (stands-where c.args.part.now c.args.text.now h))
