use Rattle.std.proofs.Common.{◌≡◌, map, string_bytes}
use Rattle.vx_plan_json.specs.PlanView.{document_of}
use Rattle.vx_plan_drawing.specs.Drawing.{lines_of}
use Rattle.vx_plan_drawing.proofs.LineFacts.{count-lines}
use Rattle.vx_plan_drawing.proofs.drawing.plan_lines.Goals as goal

pub returns-clause-count : goal.returns-clause-count
returns-clause-count c =
    let lines : map string_bytes c.put_lines.new.lines.items ≡ lines_of (document_of c.args.plan.now).root = rw (c.new-lines.ensures.items, c.root.ensures.root) at c.in_ok-put_lines.ensures in
    count-lines string_bytes c.put_lines.new.lines.items (document_of c.args.plan.now).root lines
