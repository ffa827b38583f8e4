use Rattle.std.proofs.Common.{◌≡◌, ◌∙◌, ap, map, string_bytes}
use Rattle.std.proofs.lemmas.Result.{IfOk-weaker}
use Rattle.vx_plan_json.specs.PlanView.{document_of}
use Rattle.vx_plan_drawing.specs.Drawing.{lines_of}
use Rattle.vx_plan_drawing.proofs.LineFacts.{count-marked}
use Rattle.vx_plan_drawing.proofs.marking.marked_lines.Goals as goal

pub returns-clause-count : goal.returns-clause-count
returns-clause-count c =
    let root = (document_of c.args.plan.now).root in
    let lines : map string_bytes c.as_slice.result.now ≡ lines_of root = ap (map string_bytes) c.as_slice.ensures.value ∙ c.in_ok-lines.ensures.lines in
    IfOk-weaker c.with_marks.result _ _ (λ v h. count-marked string_bytes v.items c.args.marked.now (map string_bytes c.as_slice.result.now) root h lines) c.with_marks.ensures
