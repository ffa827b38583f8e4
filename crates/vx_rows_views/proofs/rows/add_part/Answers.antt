use Rattle.std.proofs.Common.{◌≡◌, ◌+◌, ◌-◌, ◌<◌, ◌++◌, sym, ap, ◌∙◌, append_assoc, length, take, drop}
use Rattle.std.specs.Prelude.{min, slice_range}
use Rattle.std.proofs.lemmas.List.{get_or_default}
use Rattle.vx_rows_views.specs.Chunks.{all_rows}
use Rattle.vx_rows_views.proofs.Whole.{part-next, rest-rows}
use Rattle.vx_rows_views.proofs.rows.add_part.Goals as goal

pub loop-i-preserved : goal.loop-i-preserved
loop-i-preserved c =
    let ts = c.args.chunks.now in
    let i = c.loop-i.i in
    let t = c.index-chunks-i-in-loop-i.result in
    let near : i < length ts = c.loop-i-test.true in
    let same : c.index-chunks-i.result ≡ t = c.index-chunks-i.is ∙ (get_or_default ts i c.index-chunks-i.result t near ∙ sym c.index-chunks-i-in-loop-i.is) in
    let long : c.len-rows.result ≡ length t.rows = c.len-rows.ensures ∙ ap (λ u. length u.rows) same in
    let ys = all_rows (drop (i + 1) ts) in
    let from = c.min-from.result in
    let more = c.min-more.result in
    let a : from ≡ min c.loop-i.ahead (length t.rows) = c.min-from.ensures ∙ ap (λ n. min c.loop-i.ahead n) long in
    let b : more ≡ min c.loop-i.wanted (length t.rows - from) = c.min-more.ensures ∙ ap (λ n. min c.loop-i.wanted (n - from)) long in
    let rest = take (c.loop-i.wanted - more) (drop (c.loop-i.ahead - from) ys) in
    record {
      types = c.in_ok-push_part.ensures.types ∙ c.loop-i.invariant.types;
      rows = ap (λ rs. rs ++ rest) c.in_ok-push_part.ensures.ok
          ∙ (append_assoc c.loop-i.found.rows (slice_range t.rows from (from + more)) rest
          ∙ (ap (λ rs. c.loop-i.found.rows ++ rs) (sym (part-next t.rows ys c.loop-i.ahead c.loop-i.wanted from more a b) ∙ ap (λ rs. take c.loop-i.wanted (drop c.loop-i.ahead rs)) (sym (rest-rows ts i t near c.index-chunks-i-in-loop-i.is)))
          ∙ c.loop-i.invariant.rows));
    }
