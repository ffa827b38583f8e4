use Rattle.std.proofs.Common.{◌≡◌, ◌&&◌, ◌∙◌, ap, sym, subst, true, map, filter, List, ℕ, Bool}
use Rattle.std.proofs.lemmas.Result.{IfOk-weaker}
use Rattle.std.specs.List.{AllByRecursion}
use Rattle.vx_rows.proofs.Below.{all_here}
use Rattle.vx_rows.specs.View.{row}
use Rattle.vx_rows_values.specs.declared.value.ColType.{ColType}
use Rattle.vx_rows_values.specs.Types.{Fits}
use Rattle.vx_rows_values.specs.Values.{Row, value_at}
use Rattle.vx_rows_views.specs.Selected.{of_number}
use Rattle.vx_rows_views.proofs.Passing.{places-near, places-same}
use Rattle.vx_ops_kernels.specs.Holds.{holds_of}
use Rattle.vx_ops_kernels.specs.Interval.{says}
use Rattle.vx_ops_kernels.proofs.Conditions.{filter-both, keeps-all}
use Rattle.vx_ops_kernels.proofs.Numbers.{conditions-hold}
use Rattle.vx_ops_kernels.proofs.chunks.kept_both.Goals as goal

pub returns-in_default-clause-rows : goal.returns-in_default-clause-rows
returns-in_default-clause-rows c =
    let rows = c.args.chunk.rows in
    let first = holds_of c.args.first.now in
    let second = holds_of c.args.second.now in
    IfOk-weaker c.kept-in_default.result (λ x. x.rows ≡ filter second c.in_ok-found.found.rows) (λ x. x.rows ≡ filter (λ r. first r && second r) rows)
    (λ x e. e ∙ (ap (filter second) c.in_ok-found.ensures.rows ∙ filter-both first second rows)) c.kept-in_default.ensures.rows

pub returns-in_default-2-clause-rows : goal.returns-in_default-2-clause-rows
returns-in_default-2-clause-rows c =
    let first = c.args.first.now in
    let second = c.args.second.now in
    let test = c.in-Some.test in
    let rows = c.args.chunk.rows in
    let passes : Row → Bool = λ r. of_number (λ z. says test.first.test test.first.constant z && says test.second.test test.second.constant z) (value_at r first.left) in
    let both : Row → Bool = λ r. holds_of first r && holds_of second r in
    let found = c.in-Some.ensures in
    let fit = subst (λ (ts : List ColType). AllByRecursion (Fits ts) rows) (sym c.types.ensures.types) c.types.ensures.fit in
    let hold : AllByRecursion (λ r. passes r ≡ both r) rows =
    conditions-hold first second test.first.test test.second.test test.first.constant test.second.constant c.types.result.now rows
    found.first_test found.first_constant found.second_test found.second_constant found.same found.column found.kind fit in
    let all = rw c.in_default-2.is at c.in_ok-places.ensures.all in
    keeps-all both rows (λ k d l. sym (all_here (λ r. passes r ≡ both r) rows hold k d l) ∙ all k d l)

pub at-requires : goal.at-requires
at-requires c =
    let first = c.args.first.now in
    let second = c.args.second.now in
    let test = c.in-Some.test in
    let rows = c.args.chunk.rows in
    let passes : Row → Bool = λ r. of_number (λ z. says test.first.test test.first.constant z && says test.second.test test.second.constant z) (value_at r first.left) in
    let places = rw c.in-Some-2.is at c.in_ok-places.ensures.some in
    rw (c.as_slice.ensures.value, places) (places-near passes rows)

pub returns-clause-rows : goal.returns-clause-rows
returns-clause-rows c =
    let first = c.args.first.now in
    let second = c.args.second.now in
    let test = c.in-Some.test in
    let rows = c.args.chunk.rows in
    let passes : Row → Bool = λ r. of_number (λ z. says test.first.test test.first.constant z && says test.second.test test.second.constant z) (value_at r first.left) in
    let both : Row → Bool = λ r. holds_of first r && holds_of second r in
    let found = c.in-Some.ensures in
    let fit = subst (λ (ts : List ColType). AllByRecursion (Fits ts) rows) (sym c.types.ensures.types) c.types.ensures.fit in
    let hold : AllByRecursion (λ r. passes r ≡ both r) rows =
    conditions-hold first second test.first.test test.second.test test.first.constant test.second.constant c.types.result.now rows
    found.first_test found.first_constant found.second_test found.second_constant found.same found.column found.kind fit in
    let places = rw c.in-Some-2.is at c.in_ok-places.ensures.some in
    c.in_ok-at.ensures.rows
    ∙ (ap (map (row c.args.chunk)) (c.as_slice.ensures.value ∙ (places ∙ places-same passes both rows hold)) ∙ c.places_are_a_filter.ensures both c.args.chunk)
