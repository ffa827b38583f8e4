use Rattle.std.proofs.Common.{◌≡◌, ◌∙◌}
use Rattle.std.proofs.lemmas.Result.{IfOk-weaker}
use Rattle.vx_rows_values.specs.Keys.{first_clash}
use Rattle.vx_rows_values.specs.Types.{type_at}
use Rattle.vx_catalog.proofs.PlacedFacts.{first-clash-placed, places-there}
use Rattle.vx_catalog.proofs.loader.first_clash.Goals as goal

pub first_key_clash-requires : goal.first_key_clash-requires
first_key_clash-requires c =
    rw (c.as_slice.ensures.value, c.in_ok-places.ensures, c.in_ok-table.ensures.types) (places-there c.args.columns.now (λ col. type_at c.args.rows.now.types col))

pub returns : goal.returns
returns c =
    IfOk-weaker c.first_key_clash.result (λ o. o ≡ first_clash c.as_slice.result.now c.in_ok-table.table.rows) (λ o. o ≡ first_clash c.args.columns.now c.args.rows.now.rows)
    (λ o e. e ∙ rw (c.as_slice.ensures.value, c.in_ok-places.ensures, c.in_ok-table.ensures.rows) (first-clash-placed c.args.columns.now c.args.rows.now.rows)) c.first_key_clash.ensures.clash
