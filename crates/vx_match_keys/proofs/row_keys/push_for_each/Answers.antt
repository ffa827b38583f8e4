use Rattle.std.proofs.Common.{◌≡◌, ◌++◌, ◌-◌, arith, rules, ap, ◌∙◌, length, replicate, vec_len}
use Rattle.std.proofs.lemmas.List.{take_all}
use Rattle.std.proofs.lemmas.Simd.{splat_is_map}
use Rattle.vx_match_keys.proofs.row_keys.push_for_each.Goals as goal

pub returns : goal.returns
returns c =
    let old = c.args.numbers.now in
    let rows = c.args.chunk.now.rows in
    let count = c.in-Some.count in
    let long : vec_len old ≡ length old.items = search rules in
    let more : length rows ≡ count - vec_len old = omega (arith, c.len.ensures, c.len-2.ensures, c.in-Some.ensures) in
    c.in_ok-resize.ensures.items
    ∙ ((λ i. take_all count old.items (omega (arith, long, c.len.ensures, c.len-2.ensures, c.in-Some.ensures)) i ++ replicate (count - vec_len old) c.args.number)
    ∙ ap (λ ns. old.items ++ ns) (splat_is_map rows (count - vec_len old) c.args.number more))
