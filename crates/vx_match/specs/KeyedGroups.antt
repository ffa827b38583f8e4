-- What a caller sees of the kernel of a group, and what it has read.
use Rattle.std.specs.Prelude.{ℕ, ◌<◌, List, length, Option, Some, None}
use Rattle.vx_rows_values.specs.Values.{Row}
use Rattle.vx_plan_nodes.specs.Plan.{Unary, Phase, group}
use Rattle.vx_plan_nodes.specs.Types.{unary_types}
use Rattle.vx_match_grouping.specs.Groups.{Groups, HasTaken}
use Rattle.vx_ops.specs.Turn.{Shape}
use Rattle.vx_ops.specs.declared.collecting_kernel.FinishFault.{FinishFault}
use Rattle.vx_ops.specs.declared.collecting_kernel.FinishFault.TheVariants.{Overflow, NoMemory}

-- the step that it is, its groups so far, and why it computes none any more
pub record KeyedGroupsView : Type 0 where
  pub phase : Phase
  pub groups : Groups
  pub failed : Option FinishFault

abbrev pub keyed_group : KeyedGroupsView → Unary
keyed_group s = group s.phase s.groups.by s.groups.aggregates

abbrev pub keyed_types : KeyedGroupsView → Shape
keyed_types s = record { left = s.groups.types; right = s.groups.types; out = unary_types (keyed_group s) s.groups.types }

-- its groups are those of these rows; or they are too many
abbrev pub HasReadWith : Option FinishFault → Groups → List Row → Type 0
HasReadWith None g xs = HasTaken g xs
HasReadWith (Some Overflow) g xs = 4611686018427387904 < length xs
HasReadWith (Some NoMemory) g xs = ⊥

-- the groups that it makes: one for each key, and none where it has failed
abbrev pub groups_held : Option FinishFault → Groups → ℕ
groups_held None g = length g.keys
groups_held (Some f) g = 0

abbrev pub keyed_held : KeyedGroupsView → ℕ
keyed_held s = groups_held s.failed s.groups

abbrev pub KeyedHasRead : KeyedGroupsView → List Row → Type 0
KeyedHasRead s xs = HasReadWith s.failed s.groups xs
