-- The text of a plan in each of the forms in which it is explained.
use Rattle.std.specs.Prelude.{ℕ, ◌++◌, List, [], codes}
use Rattle.serde_json.specs.Written.{compact_text}
use Rattle.vx_plan_nodes.specs.Names.{TypedPlanView}
use Rattle.vx_check.specs.Explain.{explain_text}
use Rattle.vx_check_formats.specs.Json.{outline_json}
use Rattle.vx_check_formats.specs.Dot.{outline_dot}
use Rattle.volcano_embedding.specs.declared.forms.ExplainForm.{ExplainForm}
use Rattle.volcano_embedding.specs.declared.forms.ExplainForm.TheVariants as form

abbrev pub text_in_form : ExplainForm → TypedPlanView → List ℕ
text_in_form form.Text p = explain_text p.names p.total p.derives p.root
text_in_form form.Json p = compact_text (outline_json p.names p.total p.derives p.root) ++ codes "\n"
text_in_form form.Dot p = outline_dot p.names [] p.total p.root
