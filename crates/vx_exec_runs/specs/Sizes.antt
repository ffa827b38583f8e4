-- The sizes of a run, within their limits.
use Rattle.std.specs.Prelude.{ℕ, List}
use Rattle.std.specs.List.{All}
use Rattle.vx_plan_nodes.specs.Workers.{IsWithin}
use Rattle.vx_rows_values.specs.Limits.{max_group_workers, max_morsel_rows, max_packet_rows}

-- the workers of each size name by its number, the rows of a packet and those of a morsel
pub record Sizes : Type 0 where
  pub worker_groups : List ℕ
  pub packet : ℕ
  pub morsel : ℕ

-- the sizes of a run are at least 1 and within their limits
pub record AreWithin (s : Sizes) : Type 0 where
  pub worker_groups : All (IsWithin 1 max_group_workers) s.worker_groups
  pub packet : IsWithin 1 max_packet_rows s.packet
  pub morsel : IsWithin 1 max_morsel_rows s.morsel
