-- Operators that were found, as the program holds them.
use Rattle.std.specs.Arc.{arc_value}
use Rattle.vx_plan.specs.declared.unary_nodes.UnaryShape as rust
use Rattle.vx_plan.specs.declared.binary_nodes.Joint as rust_joint
use Rattle.vx_plan_nodes.specs.declared.typed.Entry.{Entry}
use Rattle.vx_plan_nodes.specs.Outline.{entry_of, is_renamed, unary_of, renamed_of, binary_of, columns_of}
use Rattle.vx_plan.specs.Resolve.{FoundEntry, Shape, Joint}

abbrev pub found_of : Entry → FoundEntry
found_of e = record { entry = entry_of e; renamed = is_renamed e }

abbrev pub shape_of : rust.UnaryShape → Shape
shape_of s = record { op = unary_of s.unary; renamed = renamed_of s.unary; columns = columns_of (arc_value s.columns) }

abbrev pub joint_of : rust_joint.Joint → Joint
joint_of j = record { op = binary_of j.binary; columns = columns_of (arc_value j.columns) }
