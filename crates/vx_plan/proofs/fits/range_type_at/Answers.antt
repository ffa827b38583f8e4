use Rattle.std.proofs.Common.{refl}
use Rattle.vx_plan.proofs.BoundFacts.{bounds_at-form}
use Rattle.vx_plan.proofs.fits.range_type_at.Goals as goal

pub returns-then-range-ranges : goal.returns-then-range-ranges
returns-then-range-ranges c =
    let found = bounds_at-form c.args.ranges.now c.args.range c.index-ranges-range.result c.if-range-ranges.true c.index-ranges-range.is in
    rw (found, c.range_type.ensures, c.as_slice.ensures.value, ← c.index-ranges-range.is) refl
