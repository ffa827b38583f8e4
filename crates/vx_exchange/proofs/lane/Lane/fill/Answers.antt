use Rattle.std.proofs.Common.{rules, arith, ◌≡◌, ◌≤◌, ◌+◌, ◌-◌, length}
use Rattle.std.specs.Prelude.{slice_range}
use Rattle.vx_exchange.proofs.Cuts.{cuts-one, length-with_range}
use Rattle.vx_exchange.proofs.lane.Lane.fill.Goals as goal

pub returns-clause-ok : goal.returns-clause-ok
returns-clause-ok c =
    let s = c.args.self.now in
    let rows = c.args.chunk.now.rows in
    let from = c.args.from in
    let to = from + (c.self.inside.size - c.len.result) in
    let n = c.len.ensures in let t = c.if-end-from.false in let v = c.self.view_is in let some = c.requires.some in let there = c.requires.there in
    let shorter = c.self.invariant.shorter in
    let within : to ≤ length rows = omega (arith, t, some, there) in
    let many : length s.current + (to - from) ≡ s.way.size = search rules in
    cuts-one s.way s.current s.ready (slice_range rows from to) c.push-3.new.self.current c.push-3.new.self.ready
    (length-with_range s.current rows from to s.way.size within many) (search rules) (search rules)
