use Rattle.std.proofs.Common.{◌∙◌, cond, Some, None, sym, ap, refl}
use Rattle.vx_functions.proofs.TypeFacts.{types-same}
use Rattle.vx_functions.proofs.standard.takes.Goals as goal

pub returns-then-eq : goal.returns-then-eq
returns-then-eq c = ap (λ b. cond b (Some c.args.answer) None) (sym c.if-eq.true ∙ (c.eq.ensures ∙ types-same _ refl refl refl refl c.args.wanted.now c.args.types.now))

pub returns-else-eq : goal.returns-else-eq
returns-else-eq c = ap (λ b. cond b (Some c.args.answer) None) (sym c.if-eq.false ∙ (c.eq.ensures ∙ types-same _ refl refl refl refl c.args.wanted.now c.args.types.now))
