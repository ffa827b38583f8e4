use Rattle.std.proofs.Common.{◌≡◌, ◌∙◌, sym, subst, true, List, ℕ, Bool, IfOk, IfSome, IfNone}
use Rattle.std.proofs.lemmas.Result.{IfOk-weaker}
use Rattle.std.specs.List.{All, AllByRecursion}
use Rattle.vx_rows.proofs.Below.{all_here}
use Rattle.vx_rows_values.specs.declared.value.ColType.{ColType}
use Rattle.vx_rows_values.specs.Types.{Fits}
use Rattle.vx_rows_values.specs.Values.{Row, value_at}
use Rattle.vx_rows_views.specs.Selected.{of_number}
use Rattle.vx_rows_views.proofs.Maybe.{none_map}
use Rattle.vx_rows_views.proofs.Passing.{places-same}
use Rattle.vx_ops_kernels.specs.Holds.{holds_of}
use Rattle.vx_ops_kernels.specs.Interval.{says}
use Rattle.vx_ops_kernels.proofs.Numbers.{number-holds}
use Rattle.vx_ops_kernels.proofs.chunks.places_that_pass.Goals as goal

-- on each row the test of the column's number says what the condition does
test-holds : (c : goal.After-places_where) → AllByRecursion (λ r. of_number (says c.in-Some.test.test c.in-Some.test.constant) (value_at r c.args.condition.now.left) ≡ holds_of c.args.condition.now r) c.args.chunk.now.rows
test-holds c =
    let test = c.in-Some.test in
    let rows = c.args.chunk.now.rows in
    number-holds c.args.condition.now test.test test.constant c.in-Some.ensures.test c.in-Some.ensures.constant c.types.result.now rows c.in-Some.ensures.column c.in-Some.ensures.kind
    (subst (λ (ts : List ColType). AllByRecursion (Fits ts) rows) (sym c.types.ensures.types) c.types.ensures.fit)

pub returns-in-Some-clause-some : goal.returns-in-Some-clause-some
returns-in-Some-clause-some c =
    let condition = c.args.condition.now in
    let rows = c.args.chunk.now.rows in
    let test = c.in-Some.test in
    subst (λ (ns : List ℕ). IfOk c.places_where.result (λ o. IfSome o (λ v. v.items ≡ ns)))
    (places-same (λ r. of_number (says test.test test.constant) (value_at r condition.left)) (holds_of condition) rows (test-holds c)) c.places_where.ensures.some

pub returns-in-Some-clause-all : goal.returns-in-Some-clause-all
returns-in-Some-clause-all c =
    let condition = c.args.condition.now in
    let rows = c.args.chunk.now.rows in
    let test = c.in-Some.test in
    let passes : Row → Bool = λ r. of_number (says test.test test.constant) (value_at r condition.left) in
    let passed : Type 0 = All (λ r. passes r ≡ true) rows in
    let held : Type 0 = All (λ r. holds_of condition r ≡ true) rows in
    IfOk-weaker c.places_where.result (λ o. IfNone o passed) (λ o. IfNone o held)
    (λ o. none_map o (λ h k d l. sym (all_here (λ r. passes r ≡ holds_of condition r) rows (test-holds c) k d l) ∙ h k d l)) c.places_where.ensures.all
