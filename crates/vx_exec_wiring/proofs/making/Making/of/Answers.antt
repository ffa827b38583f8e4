use Rattle.std.proofs.Common.{◌≡◌, ℕ, subst, length, drop-cons, get_or, arith}
use Rattle.vx_exec_layout.specs.declared.span.NodeSpan.TheVariants.{Inner}
use Rattle.vx_exec_layout.specs.Order.{AreInOrder, Follows}
use Rattle.vx_exec_wiring.specs.Making.{AreMade, counts_in, made_of}
use Rattle.vx_exec_wiring.proofs.Shares.{held-length}
use Rattle.vx_exec_wiring.proofs.Growing.{made-more}
use Rattle.vx_exec_wiring.proofs.making.Making.of.Goals as goal

pub add_span-requires-clause-follows : goal.add_span-requires-clause-follows
add_span-requires-clause-follows c =
    let spans = c.args.spans.now in
    let k = c.loop-node.node in
    let m = made_of c.loop-node.making in
    let here = subst (λ z. AreInOrder k (length m.holds) z) (drop-cons spans k Inner c.loop-node-test.true) c.loop-node.invariant.ordered in
    subst (λ (v : ℕ). Follows v (get_or spans k Inner)) (held-length c.loop-node.making.shares.items) here.1

pub loop-node-preserved : goal.loop-node-preserved
loop-node-preserved c =
    made-more (counts_in c.args.morsels.now) c.args.spans.now c.loop-node.node (made_of c.loop-node.making) (made_of c.add_span.new.self) c.loop-node-test.true
    c.loop-node.invariant c.in_ok-add_span.ensures

pub returns : goal.returns
returns c =
    let e : c.loop-node.node ≡ length c.args.spans.now = omega (arith, c.loop-node.auto.node-end, c.loop-node-test.false) in
    subst (λ (v : ℕ). AreMade (counts_in c.args.morsels.now) c.args.spans.now v (made_of c.loop-node.making)) e c.loop-node.invariant
