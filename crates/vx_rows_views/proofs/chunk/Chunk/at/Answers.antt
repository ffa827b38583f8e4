use Rattle.std.proofs.Common.{arith, ap}
use Rattle.vx_rows_views.proofs.Chunked.{chosen-is, chosen-rows, part-long, count-is}
use Rattle.vx_rows_views.proofs.chunk.Chunk.at.Goals as goal

pub parts_at-requires : goal.parts_at-requires
parts_at-requires c = rw c.as_slice.ensures.value (λ p d near k e l.
    let n = part-long c.self.invariant p d near in
    let m = count-is c.self.invariant c.args.self.now (ap (λ t. t.rows) c.self.view_is) in
    let r = c.requires k e l in
    omega (arith, n, m, r))

pub invariant_of-result : goal.invariant_of-result
invariant_of-result c =
    rw (c.in_ok-parts.ensures, c.as_slice.ensures.value, c.in_ok-types.ensures.cases, c.in_ok-fields.ensures.cases) (chosen-is c.self.invariant c.args.places.now (λ k d l. let m = count-is c.self.invariant c.args.self.now (ap (λ t. t.rows) c.self.view_is) in let r = c.requires k d l in omega (arith, m, r)))

pub returns-clause-rows : goal.returns-clause-rows
returns-clause-rows c =
    rw (c.in_ok-parts.ensures, c.as_slice.ensures.value, c.in_ok-fields.ensures.cases) (chosen-rows c.self.invariant c.args.places.now c.args.self.now (ap (λ t. t.rows) c.self.view_is) c.requires)
