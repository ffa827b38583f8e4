-- The limits of tables, plans and runs; in code they are the constants of `crates/vx_rows_values/src/limits.rt`.
use Rattle.std.specs.Prelude.{ℕ, ◌^◌}

-- the most columns of a relation, and of a node's output
abbrev pub max_columns : ℕ
max_columns = 64

-- the most declared keys of a relation
abbrev pub max_keys : ℕ
max_keys = 16

-- the most relations of a catalog
abbrev pub max_relations : ℕ
max_relations = 256

-- the most rows of a relation
abbrev pub max_rows : ℕ
max_rows = 100_000_000

-- the most nodes of a plan, and the most levels from its root down to a scan
abbrev pub max_nodes : ℕ
max_nodes = 1000

abbrev pub max_levels : ℕ
max_levels = 64

-- the most names of sizes that a plan declares
abbrev pub max_size_names : ℕ
max_size_names = 16

-- the most workers of a worker group, and so the most that a size name is bound to
abbrev pub max_group_workers : ℕ
max_group_workers = 64

-- the most workers of a run, all worker groups together
abbrev pub max_workers : ℕ
max_workers = 256

-- the most rows of a packet and of a morsel
abbrev pub max_packet_rows : ℕ
max_packet_rows = 4096

abbrev pub max_morsel_rows : ℕ
max_morsel_rows = 1_000_000

-- the most packets by which a producer may run ahead of a consumer
abbrev pub max_slack : ℕ
max_slack = 1024

-- the most bytes of a text that is read
abbrev pub max_text_bytes : ℕ
max_text_bytes = 2 ^ 40

-- the most rows of a relation that `gen` makes
abbrev pub max_generated_rows : ℕ
max_generated_rows = 10_000_000

-- the most threads that read or write a table
abbrev pub max_threads : ℕ
max_threads = 64
