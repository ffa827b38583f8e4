use Rattle.std.proofs.Common.{◌≡◌, ◌∙◌, ◌++◌, ℕ, List, OnOk, map, sym, ap, subst}
use Rattle.std.specs.List.{zip}
use Rattle.vx_rows_values.specs.Values.{Row}
use Rattle.vx_rows.specs.View.{row}
use Rattle.vx_rows_views.proofs.Joined.{zip-read}
use Rattle.vx_match_merging.specs.Merged.{beside}
use Rattle.vx_match_join.specs.Sides.{side_rows}
use Rattle.vx_match_join.proofs.build_rows.BuildRows.push_joined.Goals as goal

pub returns-in-Several-clause-rows : goal.returns-in-Several-clause-rows
returns-in-Several-clause-rows c =
    let side = side_rows c.args.self.now in
    let f = row c.args.left.now in
    let same : c.parts.inside.rows ≡ side = c.parts.view_is ∙ (sym (ap side_rows c.in-Several.is) ∙ c.settle.ensures) in
    let left = c.in_ok-left-in-Several.ensures.rows in
    let right : c.in_ok-right-in-Several.right.rows ≡ map (row side) c.args.rights.now =
    c.in_ok-right-in-Several.ensures.rows ∙ ap (λ t. map (row t) c.args.rights.now) same in
    let rows : beside c.in_ok-left-in-Several.left.rows c.in_ok-right-in-Several.right.rows ≡ map (λ (p : ℕ × ℕ). f p.0 ++ row side p.1) (zip c.args.lefts.now c.args.rights.now) =
    (λ j. beside (left j) (right j)) ∙ zip-read f (row side) c.args.lefts.now c.args.rights.now in
    subst (λ (xs : List Row). OnOk c.push_beside.result (c.push_beside.new.joined.rows ≡ c.args.joined.now.rows ++ xs)) rows c.push_beside.ensures.rows
