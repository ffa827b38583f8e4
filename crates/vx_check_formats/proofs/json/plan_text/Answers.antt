use Rattle.std.proofs.Common.{◌≡◌, ◌≤◌, false, Some, string_bytes, arith}
use Rattle.std.proofs.lemmas.Result.{IfOk-weaker}
use Rattle.serde_json.specs.Data.{Data, depth}
use Rattle.serde_json.specs.Read.{read, max_depth}
use Rattle.serde_json.specs.Written.{has_float, compact_text}
use Rattle.serde_json.specs.View.{view}
use Rattle.vx_plan_nodes.specs.TypedView.{resolved_of}
use Rattle.vx_check_formats.specs.Json.{plan_json}
use Rattle.vx_check_formats.proofs.PlainFacts.{IsPlain, outline-plain}
use Rattle.vx_check_formats.proofs.json.plan_text.Goals as goal

pub returns : goal.returns
returns c =
    let p = c.args.plan.now in
    let d : Data = view c.in_ok-plan_json.field-0 in
    let json : d ≡ plan_json p = c.in_ok-plan_json.ensures in
    let plain : IsPlain 5 d = rw (← json) at (outline-plain (resolved_of p).names (resolved_of p).total (resolved_of p).derives (resolved_of p).root) in
    let low : depth d ≤ max_depth = let l = plain.low in omega (arith, l) in
    record {
      text = IfOk-weaker c.to_string.result (λ s. has_float d ≡ false → string_bytes s ≡ compact_text d) (λ s. string_bytes s ≡ compact_text (plan_json p))
          (λ s h. rw json at (h plain.exact)) c.to_string.ensures.text;
      reads = IfOk-weaker c.to_string.result (λ s. depth d ≤ max_depth → read (string_bytes s) ≡ Some d) (λ s. read (string_bytes s) ≡ Some (plan_json p))
          (λ s h. rw json at (h low)) c.to_string.ensures.reads_back;
    }
