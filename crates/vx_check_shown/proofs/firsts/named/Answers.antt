use Rattle.std.proofs.Common.{◌≡◌, ◌∙◌, ap, sym, arith, get_or, ℕ}
use Rattle.vx_plan_nodes.specs.Outline.{plan_of}
use Rattle.vx_plan_nodes.specs.Types.{width}
use Rattle.vx_plan_facts.specs.Equal.{equal_at}
use Rattle.vx_check_rules.specs.Rules.{contains}
use Rattle.vx_check_options.proofs.OptionFacts.{contains-as}
use Rattle.vx_check_shown.specs.Standing.{first_equal}
use Rattle.vx_check_shown.proofs.KeyColumns.{column-at, named-starts, named-next, named-all, column-put, column-kept}
use Rattle.vx_check_shown.proofs.firsts.named.Goals as goal
use Rattle.vx_check_shown.proofs.firsts.named.Goals.{then-not-contains+in_ok-push, else-not-contains}

pub loop-column-init : goal.loop-column-init
loop-column-init c = λ catalog key. named-starts (width catalog (plan_of c.args.node.now)) (equal_at catalog (plan_of c.args.node.now)) c.args.key.now c.new-named.result.items c.new-named.ensures.items

pub loop-column-preserved : goal.loop-column-preserved
loop-column-preserved c = λ catalog key.
    let p = plan_of c.args.node.now in
    let w = width catalog p in
    let e = equal_at catalog p in
    let i = c.loop-column.column-index in
    let old = c.loop-column.named.items in
    let first : ℕ = c.first_equal-first.result in
    let below = column-at w c.args.key.now i key.key_below c.loop-column-test.true in
    let is : first ≡ first_equal w e (get_or c.args.key.now i 0) = c.first_equal-first.ensures catalog key.known below in
    let test : c.contains.result ≡ contains old first = c.contains.ensures.value ∙ contains-as c.deref.result.now first ∙ ap (λ xs. contains xs first) c.deref.ensures.value in
    named-next w e c.args.key.now old _ i c.loop-column-test.true
    (elim c.if-not-contains.branch [
      | then-not-contains+in_ok-push v ↦ rw (v.named-is, v.in_ok-push.ensures.items) (column-put old first _ (sym test ∙ v.if-not-contains.true) is)
      | else-not-contains v ↦ rw v.named-is (column-kept old first _ (sym test ∙ v.if-not-contains.false) is)
    ])
    (c.loop-column.invariant catalog key)

pub returns : goal.returns
returns c = λ catalog key.
    named-all (width catalog (plan_of c.args.node.now)) (equal_at catalog (plan_of c.args.node.now)) c.args.key.now c.loop-column.named.items c.loop-column.column-index
    (omega (arith, c.loop-column-test.false)) (c.loop-column.invariant catalog key)
