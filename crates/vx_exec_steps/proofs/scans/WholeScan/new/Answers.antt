use Rattle.std.proofs.Common.{rules, ℕ, ◌≡◌, [], ◌∷◌, ◌++◌, sym, ap, ◌∙◌}
use Rattle.vx_rows.specs.Lists.{each_below}
use Rattle.vx_morsel.specs.Hands.{HandState}
use Rattle.vx_exec_steps.specs.Scans.{full_hand}
use Rattle.vx_exec_steps.proofs.Each.{none-each, more-each}
use Rattle.vx_exec_steps.proofs.scans.WholeScan.new.Goals as goal

pub loop-init : goal.loop-init
loop-init c = c.new-hands.ensures.items ∙ sym (none-each (λ (k : ℕ). full_hand c.args.morsels))

pub loop-preserved : goal.loop-preserved
loop-preserved c =
    let f : ℕ → HandState = λ (k : ℕ). full_hand c.args.morsels in
    let e : c.push.new.self.items ≡ c.loop.hands.items ++ c.new.result ∷ [] = search rules in
    e ∙ ap (λ z. z ++ c.new.result ∷ []) c.loop.invariant ∙ ap (λ z. each_below c.loop.counter f ++ z ∷ []) c.new.ensures ∙ sym (more-each c.loop.counter f)
