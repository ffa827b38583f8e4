use Rattle.std.proofs.Common.{◌≡◌, ◌∙◌, ◌++◌, ap, map, length, [], ◌∷◌, string_bytes, codes, vec_len, rules}
use Rattle.std.proofs.lemmas.List.{map-append}
use Rattle.vx_plan_json.specs.Document.{tree_of}
use Rattle.vx_plan_drawing.specs.Drawing.{node_line}
use Rattle.vx_plan_drawing.proofs.LineFacts.{put-both}
use Rattle.vx_plan_drawing.proofs.drawing.+put_lines.Goals as goal

pub returns-in-Binary : goal.returns-in-Binary
returns-in-Binary t c =
    let margin = c.args.margin.now in
    let old = c.args.lines.now.items in
    let wider = c.in_ok-push_str.ensures.bytes ∙ ap (λ m. m ++ codes "  ") c.in_ok-wider.ensures.ok in
    let lefts : c.as_str-in-Binary.result.now ≡ margin ++ codes "  " = c.as_str-in-Binary.ensures.value ∙ wider in
    let rights : c.as_str-in-Binary-2.result.now ≡ margin ++ codes "  " = c.as_str-in-Binary-2.ensures.value ∙ wider in
    let count : vec_len c.args.lines.now ≡ length old = search rules in
    let line : string_bytes c.in_ok-node_line.field-0 ≡ node_line margin (length old) (tree_of c.args.node.now) =
    c.in_ok-node_line.ensures ∙ ap (λ n. node_line margin n (tree_of c.args.node.now)) (c.len-number.ensures ∙ count) in
    let push : map string_bytes c.push.new.self.items ≡ map string_bytes old ++ (node_line margin (length old) (tree_of c.args.node.now) ∷ []) =
    ap (map string_bytes) c.in_ok-push.ensures.items ∙ (map-append string_bytes old (c.in_ok-node_line.field-0 ∷ []) ∙ ap (λ l. map string_bytes old ++ (l ∷ [])) line) in
    let left = rw (lefts, c.deref-in-Binary.ensures) at c.in_ok-put_lines-in-Binary.ensures in
    let right = rw (rights, c.deref-in-Binary-2.ensures) at c.put_lines-in-Binary-2.ensures in
    rw c.in-Binary.is (put-both string_bytes c.put_lines-in-Binary-2.result old c.push.new.self.items c.put_lines-in-Binary.new.lines.items c.put_lines-in-Binary-2.new.lines.items _ (margin ++ codes "  ") (tree_of c.in-Binary.left.value) (tree_of c.in-Binary.right.value)
    (rw c.in-Binary.is at push) left right)
