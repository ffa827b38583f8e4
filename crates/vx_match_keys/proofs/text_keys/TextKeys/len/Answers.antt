use Rattle.std.proofs.Common.{sym, ap, ◌∙◌, length, subst}
use Rattle.std.specs.String.{string_eq}
use Rattle.std.specs.List.{IsDistinct}
use Rattle.std.proofs.lemmas.List.{length-map}
use Rattle.vx_rows_values.specs.Values.{row_eq}
use Rattle.vx_match_keys.specs.Columns.{owned_key}
use Rattle.vx_match_keys.proofs.MadeFacts.{distinct-made, owned-same}
use Rattle.vx_match_keys.proofs.text_keys.TextKeys.len.Goals as goal

pub returns-clause-len : goal.returns-clause-len
returns-clause-len c = c.len.ensures.len ∙ (sym (length-map c.self.inside.set.keys owned_key) ∙ ap length c.self.view_is)

pub returns-clause-unique : goal.returns-clause-unique
returns-clause-unique c = subst (IsDistinct row_eq) c.self.view_is (distinct-made owned_key string_eq owned-same c.self.inside.set.keys c.len.ensures.unique)
