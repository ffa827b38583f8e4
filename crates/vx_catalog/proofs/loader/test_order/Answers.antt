use Rattle.std.proofs.Common.{◌≡◌, ◌∙◌, ap, sym}
use Rattle.vx_rows_values.specs.Types.{type_at}
use Rattle.vx_catalog.specs.Loading.{first_fall, no_fall}
use Rattle.vx_catalog.proofs.PlacedFacts.{first-fall-placed, order-there}
use Rattle.vx_catalog.proofs.loader.test_order.Goals as goal

pub first_fall-requires : goal.first_fall-requires
first_fall-requires c =
    rw (c.as_slice-2.ensures.value, c.in_ok-in_place.ensures, c.in_ok-table.ensures.types, c.as_slice.ensures.value, c.in_ok-columns.ensures) (order-there c.args.order.now (λ col. type_at c.args.rows.now.types col))

pub returns-in-Some : goal.returns-in-Some
returns-in-Some c =
    let rows = c.args.rows.now.rows in
    let found : first_fall c.as_slice-2.result.now c.in_ok-table.table.rows ≡ first_fall c.args.order.now rows =
    rw (c.as_slice-2.ensures.value, c.in_ok-in_place.ensures, c.in_ok-table.ensures.rows, c.as_slice.ensures.value, c.in_ok-columns.ensures) (first-fall-placed c.args.order.now rows) in
    ap (no_fall rows) (sym found ∙ (sym c.first_fall.ensures ∙ c.in-Some.is))

pub returns : goal.returns
returns c =
    let rows = c.args.rows.now.rows in
    let found : first_fall c.as_slice-2.result.now c.in_ok-table.table.rows ≡ first_fall c.args.order.now rows =
    rw (c.as_slice-2.ensures.value, c.in_ok-in_place.ensures, c.in_ok-table.ensures.rows, c.as_slice.ensures.value, c.in_ok-columns.ensures) (first-fall-placed c.args.order.now rows) in
    ap (no_fall rows) (sym found ∙ (sym c.first_fall.ensures ∙ c.in-None.is))
