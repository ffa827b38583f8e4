use Rattle.std.proofs.Common.{◌≡◌, ◌∙◌, false, string_bytes, ap}
use Rattle.std.proofs.lemmas.Result.{IfOk-weaker}
use Rattle.serde_json.specs.Data.{Data, object}
use Rattle.serde_json.specs.Written.{has_float, compact_text}
use Rattle.serde_json.specs.View.{view}
use Rattle.vx_plan_json.specs.Document.{ClaimForm, claim_form}
use Rattle.vx_plan_json.specs.Written.{claim_members}
use Rattle.vx_plan_json.proofs.PlainFacts.{claim-plain}
use Rattle.vx_plan_json.proofs.json.claim_text.Goals as goal

pub returns : goal.returns
returns c =
    let form : ClaimForm = claim_form c.args.claim.now in
    let d : Data = view c.in_ok-claim_json.field-0 in
    let json : d ≡ object (claim_members form) = c.in_ok-claim_json.ensures in
    let exact : has_float d ≡ false = ap has_float json ∙ (claim-plain form).exact in
    IfOk-weaker c.to_string.result (λ s. has_float d ≡ false → string_bytes s ≡ compact_text d) (λ s. string_bytes s ≡ compact_text (object (claim_members form)))
    (λ s h. h exact ∙ ap compact_text json) c.to_string.ensures.text
