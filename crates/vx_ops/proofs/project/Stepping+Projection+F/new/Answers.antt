use Rattle.std.proofs.Common.{List, map, ap, ◌∙◌}
use Rattle.vx_rows_values.specs.declared.value.ColType.{ColType}
use Rattle.vx_plan_nodes.specs.Outline.{entry_of}
use Rattle.vx_plan_nodes.specs.Plan.{project}
use Rattle.vx_plan_nodes.specs.Types.{unary_types}
use Rattle.vx_ops.specs.Turn.{Shape}
use Rattle.vx_ops.proofs.project.Stepping+Projection+F.new.Goals as goal

pub returns-clause-types : goal.returns-clause-types
returns-clause-types g c =
    let shape : List ColType → Shape = λ ts. record { left = ts; right = ts; out = unary_types (project (map entry_of c.args.entries.items)) ts } in
    c.with_kernel.ensures.types ∙ ap shape c.in_ok-types.ensures.items
