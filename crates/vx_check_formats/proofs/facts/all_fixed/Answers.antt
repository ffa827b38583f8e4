use Rattle.std.proofs.Common.{◌≡◌, ◌∙◌, flat_map, ap, arith}
use Rattle.serde_json.specs.View.{items_of}
use Rattle.serde_json.specs.Data.{array}
use Rattle.serde_json.proofs.Views.{view-Array}
use Rattle.vx_plan_nodes.specs.Phases.{first_columns}
use Rattle.vx_plan_facts.proofs.ValueLists.{flat-more}
use Rattle.vx_check_formats.specs.Json.{fixed_if}
use Rattle.vx_check_formats.proofs.facts.all_fixed.Goals as goal

pub loop-column-preserved : goal.loop-column-preserved
loop-column-preserved c w e f keeps =
    flat-more (fixed_if c.args.names.now e f) c.loop-column.column _ _ (c.loop-column.invariant w e f keeps) (c.in_ok-push_first.ensures w e f keeps)

pub returns : goal.returns
returns c w e f keeps =
    let all : c.loop-column.column ≡ w = omega (arith, c.loop-column-test.false, c.loop-column.auto.column-end, c.width-column-end.ensures, keeps.wide) in
    view-Array c.loop-column.list
    ∙ ap (λ ds. array (items_of ds)) (c.loop-column.invariant w e f keeps ∙ ap (λ n. flat_map (fixed_if c.args.names.now e f) (first_columns n)) all)
