use Rattle.std.proofs.Common.{sym, ap, ◌∙◌, ◌++◌, ◌∷◌, []}
use Rattle.vx_rows.proofs.Below.{each_below-none, each_below-next}
use Rattle.vx_match_keys.proofs.row_keys.numbers_below.Goals as goal

pub loop-number-init : goal.loop-number-init
loop-number-init c = c.in_ok-numbers.ensures.items ∙ sym (each_below-none (λ k. k))

pub loop-number-preserved : goal.loop-number-preserved
loop-number-preserved c =
    c.in_ok-push.ensures.items ∙ (ap (λ xs. xs ++ c.loop-number.number ∷ []) c.loop-number.invariant ∙ sym (each_below-next c.loop-number.number (λ k. k)))
