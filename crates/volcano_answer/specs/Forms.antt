-- A plan that the checker accepts in a form for other tools, and why there is none.
use Rattle.std.specs.Prelude.{◌≡◌, ℕ, ◌++◌, List, [], Option, Some, None, bytes_eq, codes, if◌then◌else◌}
use Rattle.serde_json.specs.Written.{compact_text}
use Rattle.vx_plan_nodes.specs.Names.{TypedPlanView}
use Rattle.vx_check_formats.specs.Json.{outline_json}
use Rattle.vx_check_formats.specs.Dot.{outline_dot}
use Rattle.volcano_refusals.specs.declared.refusal.Refusal.{Refusal}
use Rattle.volcano_refusals.specs.declared.refusal.Refusal.TheVariants as refusal
use Rattle.volcano_answer.specs.declared.forms.PlanForm.{PlanForm}
use Rattle.volcano_answer.specs.declared.forms.PlanForm.TheVariants as form
use Rattle.volcano_answer.specs.Commands.{IsShown, IsNotShown}

-- the form that a name stands for, if it does
abbrev pub form_named : List ℕ → Option PlanForm
form_named name = if bytes_eq name (codes "json") then Some form.Json else if bytes_eq name (codes "dot") then Some form.Dot else None

-- the text of a plan in a form
abbrev pub text_in_form : PlanForm → TypedPlanView → List ℕ
text_in_form form.Json p = compact_text (outline_json p.names p.total p.derives p.root) ++ codes "\n"
text_in_form form.Dot p = outline_dot p.names [] p.total p.root

-- the text is that of an accepted plan in a form
abbrev pub IsInForm : PlanForm → TypedPlanView → List ℕ → Type 0
IsInForm f p text = IsShown p × (text ≡ text_in_form f p)

-- why a plan has no text in a form: memory ran out, or a claim is not shown
pub data FormRefuses (p : TypedPlanView) (e : Refusal) : Type 0 where
  form_memory : e ≡ refusal.NoMemory → FormRefuses p e
  for_note : IsNotShown p e → FormRefuses p e
