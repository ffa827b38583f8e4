use Rattle.std.proofs.Common.{string_bytes, codes}
use Rattle.vx_plan_nodes.specs.Outline.{claim_of}
use Rattle.vx_plan_nodes.specs.TypedView.{names_in}
use Rattle.vx_check_sentences.specs.Words.{told_text}
use Rattle.vx_check_sentences.specs.Shown.{claim_json, claim_follows}
use Rattle.vx_check_sentences.proofs.TextFacts.{four-behind}
use Rattle.vx_check_sentences.proofs.followed.push_claim_follows.Goals as goal

pub returns : goal.returns
unfolding claim_follows
returns c =
    let s = names_in c.args.plan.now in
    let names = c.args.names.now in
    let claim = claim_of c.args.claim.now in
    four-behind c.push_claim_json.result (string_bytes c.args.text.now) (string_bytes c.push_str.new.self) (string_bytes c.push_told.new.text) (string_bytes c.push_str-2.new.self) (string_bytes c.push_claim_json.new.text)
    (codes "; what follows here: ") (told_text c.args.told s names claim) (codes ", as a claim: ") (claim_json s names claim)
    c.in_ok-push_str.ensures.bytes c.in_ok-push_told.ensures c.in_ok-push_str-2.ensures.bytes c.push_claim_json.ensures
