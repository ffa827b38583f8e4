use Rattle.std.proofs.Common.{subst, nat_eq}
use Rattle.std.specs.List.{IsDistinct}
use Rattle.vx_rows_values.specs.Values.{row_eq}
use Rattle.vx_rows.specs.View.{RowsView}
use Rattle.vx_match_keys.specs.Hashed.{key_hash}
use Rattle.vx_match_keys.proofs.HashedFacts.{keys-apart}
use Rattle.vx_match_keys.proofs.column_keys.ColumnKeys.len.Goals as goal

pub returns-clause-unique : goal.returns-clause-unique
returns-clause-unique c =
    let keys = c.self.inside in
    subst (λ (t : RowsView). IsDistinct row_eq t.rows) c.self.view_is (keys-apart (key_hash keys.seed) keys.keys.rows (subst (IsDistinct nat_eq) c.self.invariant c.len-count.ensures.unique))
