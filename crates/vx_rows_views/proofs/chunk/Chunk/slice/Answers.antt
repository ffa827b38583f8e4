use Rattle.std.proofs.Common.{arith, ap}
use Rattle.vx_rows_views.proofs.Chunked.{sliced-is, sliced-rows, part-long, count-is}
use Rattle.vx_rows_views.proofs.chunk.Chunk.slice.Goals as goal

pub parts_slice-requires-clause-there : goal.parts_slice-requires-clause-there
parts_slice-requires-clause-there c = rw c.as_slice.ensures.value (λ p d near.
    let n = part-long c.self.invariant p d near in
    let m = count-is c.self.invariant c.args.self.now (ap (λ t. t.rows) c.self.view_is) in
    let r = c.requires.there in
    omega (arith, n, m, r))

pub invariant_of-result : goal.invariant_of-result
invariant_of-result c =
    let m = count-is c.self.invariant c.args.self.now (ap (λ t. t.rows) c.self.view_is) in
    let r = c.requires.there in
    rw (c.in_ok-parts.ensures, c.as_slice.ensures.value, c.in_ok-types.ensures.cases, c.in_ok-fields.ensures.cases) (sliced-is c.self.invariant c.args.from c.args.to c.requires.order (omega (arith, m, r)))

pub returns-clause-rows : goal.returns-clause-rows
returns-clause-rows c =
    let m = count-is c.self.invariant c.args.self.now (ap (λ t. t.rows) c.self.view_is) in
    let r = c.requires.there in
    rw (c.in_ok-parts.ensures, c.as_slice.ensures.value, c.in_ok-fields.ensures.cases) (sliced-rows c.self.invariant c.args.from c.args.to c.requires.order (omega (arith, m, r)) c.args.self.now (ap (λ t. t.rows) c.self.view_is))
