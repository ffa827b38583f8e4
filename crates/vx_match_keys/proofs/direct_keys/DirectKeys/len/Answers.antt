use Rattle.std.proofs.Common.{subst}
use Rattle.std.specs.List.{IsDistinct}
use Rattle.vx_rows_values.specs.Values.{row_eq}
use Rattle.vx_match_keys.proofs.DirectFacts.{table-apart}
use Rattle.vx_match_keys.proofs.direct_keys.DirectKeys.len.Goals as goal

pub returns-clause-unique : goal.returns-clause-unique
returns-clause-unique c = subst (IsDistinct row_eq) c.self.view_is (table-apart c.self.inside.keys.items c.self.inside.table.items c.self.invariant)
