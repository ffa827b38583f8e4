use Rattle.std.proofs.Common.{sym, ap, ◌∙◌, length, subst}
use Rattle.std.specs.Ordering.{int_eq}
use Rattle.std.specs.List.{IsDistinct}
use Rattle.std.proofs.lemmas.List.{length-map}
use Rattle.vx_rows_values.specs.Values.{row_eq}
use Rattle.vx_match_keys.specs.Columns.{number_key}
use Rattle.vx_match_keys.proofs.MadeFacts.{distinct-made, numbers-same}
use Rattle.vx_match_keys.proofs.hashed_keys.HashedKeys.len.Goals as goal

pub returns-clause-len : goal.returns-clause-len
returns-clause-len c = c.len.ensures.len ∙ (sym (length-map c.self.inside.set.keys number_key) ∙ ap length c.self.view_is)

pub returns-clause-unique : goal.returns-clause-unique
returns-clause-unique c = subst (IsDistinct row_eq) c.self.view_is (distinct-made number_key int_eq numbers-same c.self.inside.set.keys c.len.ensures.unique)
