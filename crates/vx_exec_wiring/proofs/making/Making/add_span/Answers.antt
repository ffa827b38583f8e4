use Rattle.std.proofs.Common.{length, ◌∙◌, sym, subst}
use Rattle.vx_exec_layout.specs.declared.span.NodeSpan.{NodeSpan}
use Rattle.vx_exec_layout.specs.Order.{Follows}
use Rattle.vx_exec_wiring.specs.Making.{AddsSpan, counts_in, made_of}
use Rattle.vx_exec_wiring.proofs.Shares.{held-length}
use Rattle.vx_exec_wiring.proofs.Growing.{adds-inner, adds-exchange}
use Rattle.vx_exec_wiring.proofs.making.Making.add_span.Goals as goal

pub returns-in-Inner : goal.returns-in-Inner
returns-in-Inner c =
    let counts = counts_in c.args.morsels.now in
    let old = made_of c.args.self.now in
    subst (λ (z : NodeSpan). AddsSpan counts z old old) (sym c.in-Inner.is) (adds-inner counts old)

pub returns-in-Exchange : goal.returns-in-Exchange
returns-in-Exchange c =
    let counts = counts_in c.args.morsels.now in
    let x = c.in-Exchange.exchange in
    let old = made_of c.args.self.now in
    let new = made_of c.add_producers.new.self in
    let follows = subst (λ (z : NodeSpan). Follows (length c.args.self.now.shares.items) z) c.in-Exchange.is c.requires.follows in
    subst (λ (z : NodeSpan). AddsSpan counts z old new) (sym c.in-Exchange.is)
    (adds-exchange counts x old new (follows.0 ∙ sym (held-length c.args.self.now.shares.items)) c.in_ok-add_producers-in-Exchange.ensures)
