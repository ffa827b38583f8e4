use Rattle.std.proofs.Common.{◌≡◌, ℕ, subst, arith}
use Rattle.vx_exec_wiring.specs.Making.{AddsProducers, made_of}
use Rattle.vx_exec_wiring.proofs.Shares.{held-length}
use Rattle.vx_exec_wiring.proofs.Growing.{producers-more, producer-longer}
use Rattle.vx_exec_wiring.proofs.making.Making.add_producers.Goals as goal

pub loop-from-preserved : goal.loop-from-preserved
loop-from-preserved c =
    let x = c.args.exchange in
    let old = made_of c.args.self.now in
    let mid = made_of c.loop-from.self in
    let new = made_of c.add_producer.new.self in
    let a = held-length c.loop-from.self.shares.items in
    let b = held-length c.add_producer.new.self.shares.items in
    let first = held-length c.args.self.now.shares.items in
    let there = c.requires.there in
    let was = c.loop-from.invariant.there in
    let longer = producer-longer x c.loop-from.from mid new c.in_ok-add_producer.ensures in
    record {
      there = omega (arith, a, b, was, longer);
      added = producers-more x c.loop-from.from old mid new (omega (arith, first, there)) c.loop-from.invariant.added c.in_ok-add_producer.ensures;
    }

pub returns : goal.returns
returns c =
    let e : c.loop-from.from ≡ c.args.exchange.producers = omega (arith, c.loop-from.auto.from-end, c.loop-from-test.false) in
    subst (λ (v : ℕ). AddsProducers c.args.exchange v (made_of c.args.self.now) (made_of c.loop-from.self)) e c.loop-from.invariant.added
