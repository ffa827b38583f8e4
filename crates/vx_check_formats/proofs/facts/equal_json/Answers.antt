use Rattle.std.proofs.Common.{◌≡◌, ◌∙◌, map, flat_map, ap, arith}
use Rattle.serde_json.specs.Data.{array}
use Rattle.serde_json.specs.View.{items_of}
use Rattle.serde_json.proofs.Views.{view-Array}
use Rattle.vx_plan_nodes.specs.Phases.{first_columns}
use Rattle.vx_check_formats.specs.Json.{columns_json, class_at, class_if}
use Rattle.vx_check_formats.proofs.NodeFacts.{classes-more}
use Rattle.vx_check_formats.proofs.facts.equal_json.Goals as goal

pub loop-column-preserved : goal.loop-column-preserved
loop-column-preserved c w e f keeps =
    classes-more c.args.names.now w e c.loop-column.column c.as_slice.result.now _ _ (c.loop-column.invariant w e f keeps) c.in_ok-push_class.ensures
    (c.as_slice.ensures.value ∙ c.in_ok-class.ensures w e f keeps)

pub returns : goal.returns
returns c w e f keeps =
    let all : c.loop-column.column ≡ w = omega (arith, c.loop-column-test.false, c.loop-column.auto.column-end, c.width-column-end.ensures, keeps.wide) in
    view-Array c.loop-column.list
    ∙ ap (λ ds. array (items_of ds)) (c.loop-column.invariant w e f keeps ∙ ap (λ n. map (columns_json c.args.names.now) (flat_map (λ d. class_if d (class_at w e d)) (first_columns n))) all)
