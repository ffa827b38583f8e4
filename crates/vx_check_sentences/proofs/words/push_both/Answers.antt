use Rattle.std.proofs.Common.{string_bytes, codes}
use Rattle.vx_plan_nodes.specs.Outline.{outline_of}
use Rattle.vx_plan_nodes.specs.TypedView.{names_in}
use Rattle.vx_check_sentences.specs.Words.{input_text}
use Rattle.vx_check_sentences.proofs.TextFacts.{both-behind}
use Rattle.vx_check_sentences.proofs.words.push_both.Goals as goal

pub returns : goal.returns
returns c =
    let s = names_in c.args.plan.now in
    both-behind c.push_input-2.result (string_bytes c.args.text.now) (string_bytes c.push_input.new.text) (string_bytes c.push_input-2.new.text)
    (input_text c.args.told s (codes "its left input, ") (outline_of c.args.left.now)) (input_text c.args.told s (codes ", and its right input, ") (outline_of c.args.right.now))
    c.in_ok-push_input.ensures c.push_input-2.ensures
