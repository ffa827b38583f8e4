use Rattle.std.proofs.Common.{string_bytes, codes}
use Rattle.vx_plan_nodes.specs.Outline.{outline_of}
use Rattle.vx_plan_nodes.specs.TypedView.{names_in}
use Rattle.vx_check_sentences.specs.Shown.{input_size}
use Rattle.vx_check_sentences.proofs.TextFacts.{both-behind}
use Rattle.vx_check_sentences.proofs.shown.push_both_sizes.Goals as goal

pub returns : goal.returns
returns c =
    let s = names_in c.args.plan.now in
    both-behind c.push_input_size-2.result (string_bytes c.args.text.now) (string_bytes c.push_input_size.new.text) (string_bytes c.push_input_size-2.new.text)
    (input_size s (codes "its left input, ") (outline_of c.args.left.now)) (input_size s (codes ", and its right input, ") (outline_of c.args.right.now))
    c.in_ok-push_input_size.ensures c.push_input_size-2.ensures
