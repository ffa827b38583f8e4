-- How a run is set up, and what its size names come to.
use Rattle.std.specs.Prelude.{ℕ, ◌&&◌, Bool, not, nat_le, List, map, Option, option_map, unwrap_or, is_none, bytes_eq, String, string_bytes}
use Rattle.std.specs.List.{find}
use Rattle.std.specs.declared.alloc.Global.{Global}
use Rattle.vx_rows_values.specs.Limits.{max_group_workers}

-- a size name with its number of workers
abbrev pub Entry : Type 0
Entry = List ℕ × ℕ

abbrev pub entry_of : String Global × ℕ → Entry
entry_of e = (string_bytes e.0, e.1)

-- how a run is set up: the workers of size names, the rows of a packet and of a morsel, and by how many packets a producer may run ahead
pub record SetupView : Type 0 where
  pub sizes : List Entry
  pub packet : ℕ
  pub morsel : ℕ
  pub slack : ℕ

-- where none is said: 256 rows a packet, 1,024 a morsel, 8 packets of slack
abbrev pub default_packet_rows : ℕ
default_packet_rows = 256

abbrev pub default_morsel_rows : ℕ
default_morsel_rows = 1024

abbrev pub default_slack : ℕ
default_slack = 8

-- the number that the first entry of a name has
abbrev pub number_of : List Entry → List ℕ → Option ℕ
number_of entries name = option_map (λ e. e.1) (find (λ e. bytes_eq e.0 name) entries)

-- the workers of a name; without an entry none
abbrev pub workers_named : List Entry → List ℕ → ℕ
workers_named entries name = unwrap_or (number_of entries name) 0

-- the workers of each of these names
abbrev pub worker_groups_named : List Entry → List (List ℕ) → List ℕ
worker_groups_named entries names = map (workers_named entries) names

-- a number from 1 to this one
abbrev pub is_within : (most n : ℕ) → Bool
is_within most n = nat_le 1 n && nat_le n most

-- the first name without an entry
abbrev pub first_missing : List Entry → List (List ℕ) → Option (List ℕ)
first_missing entries names = find (λ name. is_none (number_of entries name)) names

-- the first name whose number is no number of workers of a worker group
abbrev pub first_out_of_range : List Entry → List (List ℕ) → Option (List ℕ)
first_out_of_range entries names = find (λ name. not (is_within max_group_workers (workers_named entries name))) names
