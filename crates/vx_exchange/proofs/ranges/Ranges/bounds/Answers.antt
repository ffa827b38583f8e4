use Rattle.std.proofs.Common.{ap, ◌∙◌, map}
use Rattle.vx_rows_values.specs.ValueView.{val_of}
use Rattle.vx_exchange.proofs.ranges.Ranges.bounds.Goals as goal

pub returns : goal.returns
returns c = ap (map val_of) c.as_slice.ensures.value ∙ c.self.view_is
