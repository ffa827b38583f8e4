use Rattle.std.proofs.Common.{◌∙◌, ◌==◌, ◌||◌, ap, sym}
use Rattle.std.specs.Int.{bit_at}
use Rattle.vx_check_rules.specs.Behaviour.{is_column}
use Rattle.vx_check_rules.proofs.BitFacts.{set-bit}
use Rattle.vx_check_rules.proofs.CopyFacts.{eq_swap}
use Rattle.vx_check_rules.proofs.copied.with_bit.Goals as goal

pub returns-in-Some : goal.returns-in-Some
returns-in-Some c = λ k small.
    set-bit c.args.low c.in-Some.input k c.if-input-lt-LOW.true
    ∙ (ap (λ b. (bit_at c.args.low k == 1) || b) (eq_swap c.in-Some.input k) ∙ ap (λ o. (bit_at c.args.low k == 1) || is_column o k) (sym c.in-Some.is))
