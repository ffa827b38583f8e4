use Rattle.std.proofs.Common.{◌∙◌, sym, map, string_bytes}
use Rattle.std.specs.Arc.{arc_value}
use Rattle.vx_plan_nodes.specs.Outline.{columns_of}
use Rattle.vx_plan_json.specs.Document.{entry_form}
use Rattle.vx_plan.proofs.EntryShapes.{project-found}
use Rattle.vx_plan.proofs.unary_nodes.project_shape.Goals as goal

pub returns : goal.returns
returns c =
    let types = rw (c.as_slice.ensures.value, c.as_slice-2.ensures.value) at c.in_ok-types.ensures in
    project-found c.args.node (columns_of c.args.input.now) (map entry_form c.args.entries.now) c.in_ok-found.found.items (map string_bytes c.in_ok-found.names.items) c.in_ok-types.types.items
    (columns_of (arc_value c.in_ok-own_columns.field-0)) c.in_ok-found.ensures.found c.in_ok-found.ensures.names types c.in_ok-own_columns.ensures
