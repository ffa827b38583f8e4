use Rattle.std.proofs.Common.{◌≡◌, ◌-◌, ◌++◌, arith, sym, ap, ◌∙◌, length, get_or, map, take}
use Rattle.std.specs.Prelude.{slice_range}
use Rattle.std.proofs.lemmas.List.{get_or_default}
use Rattle.vx_rows.specs.View.{row}
use Rattle.vx_rows_views.specs.Chunks.{all_rows}
use Rattle.vx_rows_views.proofs.Whole.{run-low, run-high, all-moved, run-rows}
use Rattle.vx_rows_views.proofs.rows.add_run.Goals as goal

pub at-requires : goal.at-requires
at-requires c =
    let ts = c.args.chunks.now in
    let places = c.args.places.now in
    let from = c.args.from in
    let to = c.run_end-to.result in
    let start = get_or places from 0 - c.spot_near-spot.result.place in
    let k = c.spot_near-spot.result.chunk in
    let same : c.index-chunks-spot.result ≡ c.index-chunks-spot-2.result = c.index-chunks-spot.is ∙ (get_or_default ts k c.index-chunks-spot.result c.index-chunks-spot-2.result c.spot_near-spot.ensures.chunk ∙ sym c.index-chunks-spot-2.is) in
    let long : c.len.result ≡ length c.index-chunks-spot-2.result.rows = c.len.ensures ∙ ap (λ t. length t.rows) same in
    let high = run-high places from to start c.len.result c.run_end-to.ensures.more c.run_end-to.ensures.end c.run_end-to.ensures.low c.run_end-to.ensures.high in
    let there = all-moved start c.len.result (slice_range places from to) c.as_slice.result.now (c.as_slice.ensures.value ∙ c.in_ok-here.ensures) high in
    λ i d near. let r = there i d near in omega (arith, r, long)

pub returns-clause-rows : goal.returns-clause-rows
returns-clause-rows c =
    let ts = c.args.chunks.now in
    let places = c.args.places.now in
    let from = c.args.from in
    let to = c.run_end-to.result in
    let start = get_or places from 0 - c.spot_near-spot.result.place in
    let k = c.spot_near-spot.result.chunk in
    let t = c.index-chunks-spot-2.result in
    let same : c.index-chunks-spot.result ≡ t = c.index-chunks-spot.is ∙ (get_or_default ts k c.index-chunks-spot.result t c.spot_near-spot.ensures.chunk ∙ sym c.index-chunks-spot-2.is) in
    let long : c.len.result ≡ length t.rows = c.len.ensures ∙ ap (λ u. length u.rows) same in
    let low = run-low places from to start c.len.result c.run_end-to.ensures.more c.run_end-to.ensures.end c.run_end-to.ensures.low c.run_end-to.ensures.high in
    let high = run-high places from to start c.len.result c.run_end-to.ensures.more c.run_end-to.ensures.end c.run_end-to.ensures.low c.run_end-to.ensures.high in
    let begin : start ≡ length (all_rows (take k ts)) = omega (arith, c.spot_near-spot.ensures.place) in
    let here = c.as_slice.ensures.value ∙ c.in_ok-here.ensures in
    c.in_ok-push.ensures.ok
    ∙ ap (λ rs. c.args.found.now.rows ++ rs) (c.in_ok-chunk.ensures.rows
    ∙ (ap (map (row t)) here
    ∙ run-rows ts k start t c.spot_near-spot.ensures.chunk c.index-chunks-spot-2.is begin (slice_range places from to) low (λ i d near. let r = high i d near in omega (arith, r, long))))
