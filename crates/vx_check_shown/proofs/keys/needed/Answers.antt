use Rattle.std.proofs.Common.{◌∙◌, ℕ, List, sym}
use Rattle.vx_plan_nodes.specs.Outline.{plan_of}
use Rattle.vx_check_rules.specs.Derived.{key_derived_by}
use Rattle.vx_check_rules.specs.KeyedView.{all_keyed_in}
use Rattle.vx_check_options.proofs.KeyChoices.{part-whole, part-less}
use Rattle.vx_check_shown.proofs.NamedKeys.{less-below}
use Rattle.vx_check_shown.proofs.keys.needed.Goals as goal
use Rattle.vx_check_shown.proofs.keys.needed.Goals.{then-is_key_derived, else-is_key_derived}

pub loop-i-init : goal.loop-i-init
loop-i-init c = record {
  part = λ catalog h. part-whole (key_derived_by catalog (plan_of c.args.node.now) (all_keyed_in c.args.keyed.now)) c.args.key.now c.in_ok-part.part.items c.in_ok-part.ensures.items;
  kept = λ catalog here q known. known;
}

pub is_key_derived-requires : goal.is_key_derived-requires
is_key_derived-requires c =
    let catalog = c.requires.0 in
    let h = c.requires.1 in
    let p = plan_of c.args.node.now in
    let less = rw c.as_slice.ensures.value at c.in_ok-others.ensures in
    rw c.as_slice-in-loop-i.ensures.value
    (catalog, record { known = c.loop-i.invariant.kept catalog h.known p h.known; key_below = less-below catalog p (all_keyed_in c.args.keyed.now) c.args.key.now _ _ _ h.key_below (c.loop-i.invariant.part catalog h) less })

pub loop-i-preserved : goal.loop-i-preserved
loop-i-preserved c = record {
  part = λ catalog h.
      let p = plan_of c.args.node.now in
      let derived : List ℕ → _ = key_derived_by catalog p (all_keyed_in c.args.keyed.now) in
      let less = rw c.as_slice.ensures.value at c.in_ok-others.ensures in
      let known = c.loop-i.invariant.kept catalog h.known p h.known in
      let below = less-below catalog p (all_keyed_in c.args.keyed.now) c.args.key.now _ _ _ h.key_below (c.loop-i.invariant.part catalog h) less in
      let told = (rw c.as_slice-in-loop-i.ensures.value at c.is_key_derived.ensures.derived) catalog (record { known = known; key_below = below }) in
      elim c.if-is_key_derived.branch [
        | then-is_key_derived w ↦ rw w.part-is (part-less derived c.args.key.now c.loop-i.part.items c.in_ok-others.others.items _ (c.loop-i.invariant.part catalog h) less (sym told ∙ w.if-is_key_derived.true))
        | else-is_key_derived w ↦ rw w.part-is (c.loop-i.invariant.part catalog h)
      ];
  kept = λ catalog here q known.
      let first = c.loop-i.invariant.kept catalog here in
      c.is_key_derived.ensures.kept catalog (first (plan_of c.args.node.now) here) q (first q known);
}
