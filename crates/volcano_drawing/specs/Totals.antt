-- The entries of statistics, added up for each node of a plan that they are of.
use Rattle.std.specs.Prelude.{◌≡◌, ◌<◌, true, ℕ, ◌+◌, ◌^◌, ◌-◌, ◌==◌, ◌&&◌, Bool, List, [], map, length, min, nat_lt, bytes_eq, slice_index_or, Option, Some, None, option_and_then, if◌then◌else◌}
use Rattle.std.specs.List.{filter, list_all, sum_by, range_with_len}
use Rattle.vx_check_formats.specs.declared.totals.NodeTotals.{NodeTotals}
use Rattle.volcano_drawing.specs.Entries.{Entry, entries_in_text}

-- the entries of the node with this number
abbrev pub entries_at : ℕ → List Entry → List Entry
entries_at node es = filter (λ e. e.node == node) es

-- the sum of these numbers of the entries, or 2^64 - 1 where it is more
abbrev pub total : (Entry → ℕ) → List Entry → ℕ
total number es = min (sum_by number es) (2 ^ 64 - 1)

-- an entry is one worker's
abbrev pub worker_of : Entry → ℕ
worker_of e = 1

-- what a worker waited for: packets, and room to send one
abbrev pub waits_of : Entry → ℕ
waits_of e = min (e.counted.waits + e.counted.full) (2 ^ 64 - 1)

abbrev pub totals : List Entry → NodeTotals
totals es = record {
  workers = total worker_of es;
  rows = total (λ e. e.counted.gave) es;
  waits = total waits_of es;
  put = total (λ e. e.counted.put) es;
  taken = total (λ e. e.counted.taken) es;
}

-- nothing counted
abbrev pub nothing : NodeTotals
nothing = record { workers = 0; rows = 0; waits = 0; put = 0; taken = 0 }

abbrev pub plus : ℕ → ℕ → ℕ
plus a b = min (a + b) (2 ^ 64 - 1)

-- totals with those of one more entry
abbrev pub with_entry : NodeTotals → Entry → NodeTotals
with_entry c e = record {
  workers = plus c.workers 1;
  rows = plus c.rows e.counted.gave;
  waits = plus c.waits (waits_of e);
  put = plus c.put e.counted.put;
  taken = plus c.taken e.counted.taken;
}

-- the totals of the node with this number, by these entries
unfoldable pub totals_at : List Entry → ℕ → NodeTotals
totals_at es node = totals (entries_at node es)

-- those of each node of a plan with so many nodes
abbrev pub all_totals : ℕ → List Entry → List NodeTotals
all_totals nodes es = map (totals_at es) (range_with_len 0 nodes)

-- an entry is of a node of the plan whose operators have these words, and has its word
abbrev pub fits : List (List ℕ) → Entry → Bool
fits words e = nat_lt e.node (length words) && bytes_eq e.op (slice_index_or words e.node [])

-- a worker ran the node
abbrev pub is_run : NodeTotals → Bool
is_run c = nat_lt 0 c.workers

-- each entry fits, and these are the totals of the nodes
pub record AreTotals (words : List (List ℕ)) (es : List Entry) (cs : List NodeTotals) : Type 0 where
  pub known : list_all (fits words) es ≡ true
  pub long : length cs ≡ length words
  pub each : (k : ℕ) (d : NodeTotals) → k < length words → slice_index_or cs k d ≡ totals_at es k

-- the totals of each node of the plan whose operators have these words, if the entries are of this plan: each fits, and each node has one
abbrev pub added_up : List (List ℕ) → List Entry → Option (List NodeTotals)
added_up words es =
    if list_all (fits words) es && list_all is_run (all_totals (length words) es)
    then Some (all_totals (length words) es)
    else None

-- the same by the text that lists the entries
abbrev pub totals_in : List (List ℕ) → List ℕ → Option (List NodeTotals)
totals_in words text = option_and_then (added_up words) (entries_in_text text)
