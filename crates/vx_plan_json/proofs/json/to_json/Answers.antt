use Rattle.std.proofs.Common.{◌≡◌, ◌≤◌, ◌∙◌, false, Some, Ok, string_bytes, arith}
use Rattle.std.proofs.lemmas.Result.{IfOk-weaker}
use Rattle.std.proofs.lemmas.Str.{IsUtf8-string_bytes}
use Rattle.serde_json.specs.Data.{Data, depth}
use Rattle.serde_json.specs.Read.{read, max_depth}
use Rattle.serde_json.specs.Written.{has_float, compact_text}
use Rattle.serde_json.specs.View.{view}
use Rattle.vx_plan_json.specs.Reading.{document_in, document_of_text}
use Rattle.vx_plan_json.specs.PlanView.{document_of}
use Rattle.vx_plan_json.specs.Written.{document_json}
use Rattle.vx_plan_json.proofs.PlainFacts.{IsPlain, document-plain}
use Rattle.vx_plan_json.proofs.BackFacts.{document-back}
use Rattle.vx_plan_json.proofs.TextFacts.{text_is}
use Rattle.vx_plan_json.proofs.json.to_json.Goals as goal

pub returns : goal.returns
returns c =
    let plan = c.args.plan.now in
    let d : Data = view c.in_ok-plan_json.field-0 in
    let json : d ≡ document_json (document_of plan) = c.in_ok-plan_json.ensures in
    let plain : IsPlain 127 d = rw (← json) at (document-plain (document_of plan) plan.few_levels plan.low_operands) in
    let back : document_in d ≡ Ok (document_of plan) = rw (← json) at (document-back (document_of plan) plan.declared plan.formed plan.low_operands plan.few_keys plan.few_levels plan.few_nodes) in
    let low : depth d ≤ max_depth = let l = plain.low in omega (arith, l) in
    record {
      text = IfOk-weaker c.to_string.result (λ s. has_float d ≡ false → string_bytes s ≡ compact_text d) (λ s. string_bytes s ≡ compact_text (document_json (document_of plan)))
          (λ s h. rw json at (h plain.exact)) c.to_string.ensures.text;
      reads_back = IfOk-weaker c.to_string.result (λ s. depth d ≤ max_depth → read (string_bytes s) ≡ Some d) (λ s. document_of_text (string_bytes s) ≡ Ok (document_of plan))
          (λ s h. text_is (string_bytes s) d (IsUtf8-string_bytes s) (h low) ∙ back) c.to_string.ensures.reads_back;
    }
