-- The descriptions of operators, as the program holds them.
use Rattle.std.specs.Prelude.{ℕ, List, map, length, option_map}
use Rattle.vx_plan_nodes.specs.Describe.{Copying, whole_rows, columns_kept, entries_kept, kept_column, left_of, right_of, no_columns, OrderAfter, order_kept, sorted_on, KeysAfter, keys_kept, key_of_first, no_key, Described, Meeting, side_by_side, paired_on, matched_on, DescribedBoth}
use Rattle.vx_plan_nodes.specs.Outline.{entry_of}
use Rattle.vx_plan_nodes.specs.declared.describe.KeptColumns as rust_kept
use Rattle.vx_plan_nodes.specs.declared.describe.KeptColumns.TheVariants as kept
use Rattle.vx_plan_nodes.specs.declared.describe.Copying as rust_copying
use Rattle.vx_plan_nodes.specs.declared.describe.Copying.TheVariants as copies
use Rattle.vx_plan_nodes.specs.declared.describe.OrderAfter as rust_order
use Rattle.vx_plan_nodes.specs.declared.describe.OrderAfter.TheVariants as after
use Rattle.vx_plan_nodes.specs.declared.describe.KeysAfter as rust_keys
use Rattle.vx_plan_nodes.specs.declared.describe.KeysAfter.TheVariants as keyed
use Rattle.vx_plan_nodes.specs.declared.describe.Described as rust_described
use Rattle.vx_plan_nodes.specs.declared.describe.Meeting as rust_meeting
use Rattle.vx_plan_nodes.specs.declared.describe.Meeting.TheVariants as meets
use Rattle.vx_plan_nodes.specs.declared.describe.DescribedBoth as rust_both

-- the columns that are kept
abbrev pub kept_columns : rust_kept.KeptColumns → List ℕ
kept_columns (kept.Outputs outputs) = map (λ k. k.column) outputs.now
kept_columns (kept.Keys by) = by.now

abbrev pub copying_of : rust_copying.Copying → Copying
copying_of copies.WholeRows = whole_rows
copying_of (copies.Kept k) = columns_kept (kept_columns k)
copying_of (copies.Entries entries) = entries_kept (map (λ e. kept_column (entry_of e)) entries.now)
copying_of (copies.Left types) = left_of (length types.now)
copying_of (copies.Right types) = right_of (length types.now)
copying_of copies.NoColumns = no_columns

abbrev pub order_after_of : rust_order.OrderAfter → OrderAfter
order_after_of after.Kept = order_kept
order_after_of (after.SortedOn cols) = sorted_on cols.now

abbrev pub keys_after_of : rust_keys.KeysAfter → KeysAfter
keys_after_of keyed.Kept = keys_kept
keys_after_of (keyed.First n) = key_of_first n
keys_after_of keyed.NoKey = no_key

abbrev pub described_of : rust_described.Described → Described
described_of d = record { copying = copying_of d.copying; meets = option_map kept_columns d.meets; order = order_after_of d.order; keys = keys_after_of d.keys }

abbrev pub meeting_of : rust_meeting.Meeting → Meeting
meeting_of meets.SideBySide = side_by_side
meeting_of (meets.PairedOn on) = paired_on on.now
meeting_of (meets.MatchedOn on) = matched_on on.now

abbrev pub described_both_of : rust_both.DescribedBoth → DescribedBoth
described_both_of d = record { left = copying_of d.left; right = copying_of d.right; meeting = meeting_of d.meeting }
