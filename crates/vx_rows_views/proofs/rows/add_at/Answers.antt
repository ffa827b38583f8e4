use Rattle.std.proofs.Common.{ℕ, ◌++◌, [], arith, sym, ap, ◌∙◌, append_assoc, get_or, map, take}
use Rattle.std.specs.Prelude.{slice_range}
use Rattle.std.proofs.lemmas.List.{map-append}
use Rattle.vx_rows_values.specs.Values.{Row}
use Rattle.vx_rows_views.specs.Chunks.{all_rows}
use Rattle.vx_rows_views.proofs.Whole.{take-range}
use Rattle.vx_rows_views.proofs.rows.add_at.Goals as goal

pub runs-preserved : goal.runs-preserved
runs-preserved c =
    let ts = c.args.chunks.now in
    let places = c.args.places.now in
    let from = c.runs.from in
    let to = c.in_ok-from.from in
    let f : ℕ → Row = λ i. get_or (all_rows ts) i [] in
    record {
      far = c.in_ok-from.ensures.end;
      types = c.in_ok-from.ensures.types ∙ c.runs.invariant.types;
      rows = c.in_ok-from.ensures.rows
          ∙ (ap (λ rs. rs ++ map f (slice_range places from to)) c.runs.invariant.rows
          ∙ (append_assoc c.args.found.now.rows (map f (take from places)) (map f (slice_range places from to))
          ∙ ap (λ rs. c.args.found.now.rows ++ rs) (sym (map-append f (take from places) (slice_range places from to)) ∙ ap (map f) (sym (take-range places from to (omega (arith, c.in_ok-from.ensures.more)) c.in_ok-from.ensures.end)))));
    }
