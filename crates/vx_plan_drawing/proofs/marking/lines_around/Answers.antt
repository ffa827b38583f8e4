use Rattle.std.proofs.Common.{◌≡◌, ◌∙◌, ap, ap₂, sym, map, length, take, drop, string_bytes, vec_len, rules}
use Rattle.std.proofs.lemmas.List.{take-map, drop-map}
use Rattle.std.proofs.lemmas.Result.{IfOk-weaker}
use Rattle.vx_plan_json.specs.Document.{tree_nodes}
use Rattle.vx_plan_json.specs.PlanView.{document_of}
use Rattle.vx_plan_drawing.specs.Drawing.{window_start}
use Rattle.vx_plan_drawing.proofs.marking.lines_around.Goals as goal

pub returns-clause-lines : goal.returns-clause-lines
returns-clause-lines c =
    let root = (document_of c.args.plan.now).root in
    let all = c.in_ok-lines.lines.items in
    let count : vec_len c.in_ok-lines.lines ≡ tree_nodes root = (let n : vec_len c.in_ok-lines.lines ≡ length all = search rules in n ∙ c.in_ok-lines.ensures.count) in
    let start : c.window_start-start.result ≡ window_start (tree_nodes root) c.args.node c.args.most =
    c.window_start-start.ensures ∙ ap (λ n. window_start n c.args.node c.args.most) (c.len.ensures ∙ count) in
    let marked = ap₂ (λ n ls. take c.args.most (drop n ls)) start c.in_ok-lines.ensures.lines in
    let moved = sym (ap (take c.args.most) (drop-map string_bytes c.window_start-start.result all) ∙ take-map string_bytes c.args.most (drop c.window_start-start.result all)) in
    IfOk-weaker c.window.result _ _ (λ v h. ap (map string_bytes) h ∙ (moved ∙ marked)) c.window.ensures.lines
