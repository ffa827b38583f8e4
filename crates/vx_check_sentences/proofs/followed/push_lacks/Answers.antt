use Rattle.std.proofs.Common.{string_bytes, codes}
use Rattle.vx_check.specs.Explain.{list_text}
use Rattle.vx_check_sentences.specs.Shown.{missing, lacks_text}
use Rattle.vx_check_sentences.proofs.TextFacts.{four-behind}
use Rattle.vx_check_sentences.proofs.followed.push_lacks.Goals as goal

pub returns : goal.returns
unfolding lacks_text
returns c =
    let names = c.args.names.now in
    four-behind c.push_list.result (string_bytes c.args.text.now) (string_bytes c.push_str.new.self) (string_bytes c.push_missing.new.text) (string_bytes c.push_str-2.new.self) (string_bytes c.push_list.new.text)
    (codes ", ") (list_text names (missing c.args.order.now c.args.key.now)) (codes " of the key ") (list_text names c.args.key.now)
    c.in_ok-push_str.ensures.bytes c.in_ok-push_missing.ensures c.in_ok-push_str-2.ensures.bytes c.push_list.ensures
