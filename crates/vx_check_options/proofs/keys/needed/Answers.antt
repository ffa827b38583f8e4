use Rattle.std.proofs.Common.{◌≡◌, ◌∙◌, Bool, true, ap, sym, List, ℕ}
use Rattle.vx_check_rules.specs.KeyedView.{all_keyed_in}
use Rattle.vx_check_options.specs.FoundKeys.{show}
use Rattle.vx_check_options.proofs.KeyChoices.{part-whole, part-less}
use Rattle.vx_check_options.proofs.keys.needed.Goals as goal
use Rattle.vx_check_options.proofs.keys.needed.Goals.{then-show_key, else-show_key}

pub loop-i-init : goal.loop-i-init
loop-i-init c = part-whole (show (all_keyed_in c.args.keyed.now)) c.args.key.now c.in_ok-part.part.items c.in_ok-part.ensures.items

pub loop-i-preserved : goal.loop-i-preserved
loop-i-preserved c =
    let shows : List ℕ → Bool = show (all_keyed_in c.args.keyed.now) in
    let less = rw c.as_slice.ensures.value at c.in_ok-others.ensures in
    elim c.if-show_key.branch [
      | then-show_key w ↦
          let is : shows c.in_ok-others.others.items ≡ true = ap shows (sym c.as_slice-in-loop-i.ensures.value) ∙ sym c.show_key.ensures ∙ w.if-show_key.true in
          rw w.part-is (part-less shows c.args.key.now c.loop-i.part.items c.in_ok-others.others.items _ c.loop-i.invariant less is)
      | else-show_key w ↦ rw w.part-is c.loop-i.invariant
    ]
