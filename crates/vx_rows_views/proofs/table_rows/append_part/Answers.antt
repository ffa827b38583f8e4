use Rattle.std.proofs.Common.{◌≡◌, ◌+◌, ◌<◌, ◌++◌, arith, sym, ap, ◌∙◌, length}
use Rattle.std.specs.Prelude.{slice_range}
use Rattle.std.proofs.lemmas.List.{append-nil}
use Rattle.vx_rows.specs.View.{row}
use Rattle.vx_rows_views.proofs.Columns.{no-numbers, part-rows, part-far}
use Rattle.vx_rows_views.proofs.Maybe.{on_ok_map}
use Rattle.vx_rows_views.proofs.table_rows.append_part.Goals as goal

pub returns-then-count-eq0-clause-ok : goal.returns-then-count-eq0-clause-ok
returns-then-count-eq0-clause-ok c =
    sym (append-nil c.args.rows.now.rows) ∙ ap (λ xs. c.args.rows.now.rows ++ xs) (no-numbers (row c.args.other.now) (λ k. c.args.from + k) c.args.count c.if-count-eq0.true)

pub append_range-requires-clause-there : goal.append_range-requires-clause-there
append_range-requires-clause-there c =
    let some : 0 < c.args.count = omega (arith, c.if-count-eq0.false) in
    let f = part-far (length c.args.other.now.rows) c.args.from c.args.count c.requires.there some in
    omega (arith, f, c.in-Some.ensures.1)

pub returns-clause-ok : goal.returns-clause-ok
returns-clause-ok c =
    let some : 0 < c.args.count = omega (arith, c.if-count-eq0.false) in
    let f = part-far (length c.args.other.now.rows) c.args.from c.args.count c.requires.there some in
    let e : c.in-Some.to ≡ c.args.from + c.args.count = c.in-Some.ensures.1 in
    on_ok_map c.append_range.result
    (λ h. h ∙ ap (λ xs. c.args.rows.now.rows ++ xs) (ap (λ to. slice_range c.args.other.now.rows c.args.from to) e ∙ part-rows c.args.other.now.rows c.args.from c.args.count f)) c.append_range.ensures.ok
