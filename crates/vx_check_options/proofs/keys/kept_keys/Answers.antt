use Rattle.std.proofs.Common.{◌≡◌, ◌∙◌, Bool, ap, sym, List, ℕ}
use Rattle.vx_check_rules.specs.KeyedView.{all_keyed_in}
use Rattle.vx_check_options.specs.FoundKeys.{show}
use Rattle.vx_check_options.proofs.KeyChoices.{kept-with, kept-without}
use Rattle.vx_check_options.proofs.keys.kept_keys.Goals as goal
use Rattle.vx_check_options.proofs.keys.kept_keys.Goals.{then-show_key+in_ok-needed+in_ok-add_key, else-show_key}

pub loop-key-preserved : goal.loop-key-preserved
loop-key-preserved c =
    let shows : List ℕ → Bool = show (all_keyed_in c.args.keyed.now) in
    let is : shows c.key-item.result.items ≡ c.show_key.result = ap shows (sym c.as_slice.ensures.value) ∙ sym c.show_key.ensures in
    elim c.if-show_key.branch [
      | then-show_key+in_ok-needed+in_ok-add_key w ↦
          rw w.kept-is (kept-with shows c.args.claimed.now c.loop-key.key-index c.key-item.result _ _ _ c.loop-key-test.true c.key-item.is (is ∙ w.if-show_key.true) (rw w.as_slice-then-show_key.ensures.value at w.in_ok-needed.ensures) w.in_ok-add_key.ensures c.loop-key.invariant)
      | else-show_key w ↦ rw w.kept-is (kept-without shows c.args.claimed.now c.loop-key.key-index c.key-item.result _ c.loop-key-test.true c.key-item.is (is ∙ w.if-show_key.false) c.loop-key.invariant)
    ]
