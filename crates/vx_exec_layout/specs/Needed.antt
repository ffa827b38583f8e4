-- How many rounds a run of a plan needs at most, where each round is a step of each worker.
use Rattle.std.specs.Prelude.{ℕ, ◌≡◌, ◌+◌, ◌*◌, List, length, nat_le, if◌then◌else◌, slice_index}
use Rattle.vx_rows_values.specs.Values.{Row}
use Rattle.vx_plan_nodes.specs.Plan.{Plan, scan, unary, binary, exchange, union, join, semi_join, size, target}
use Rattle.vx_plan_nodes.specs.Streams.{workers}

-- the largest number of 64 bits in place of a larger one
abbrev pub capped : ℕ → ℕ
capped n = if nat_le n 18446744073709551615 then n else 18446744073709551615

-- a relation has so many rows
abbrev pub AreSizesOf : (ℕ → List Row) → List ℕ → Type 0
AreSizesOf db counts = (r : ℕ) → length (db r) ≡ slice_index counts r

-- db: the rows of each relation; sizes: the workers of each size name
module _ (db : ℕ → List Row) (sizes : ℕ → ℕ) where
  -- the most rows that one worker may have at a node: of a scan those of its relation; of an operator over one input those of the input; of a union those of
  -- both inputs, of a join each left row with each right one, of a semi or an anti join those of the left input; of an exchange all rows of all its producers
  abbrev pub most_rows : Plan → ℕ
  most_rows (scan n c r m z) = length (db r)
  most_rows (unary n c op p) = most_rows p
  most_rows (binary n c union p q) = most_rows p + most_rows q
  most_rows (binary n c (join m on) p q) = most_rows p * most_rows q
  most_rows (binary n c (semi_join matched on conditions) p q) = most_rows p
  most_rows (exchange n c k merge p) = workers sizes (size p) * most_rows p

  -- the most turns that one worker may need for its operators from a node down, besides one for each row at its top: a draw for each morsel, which has a row at
  -- least; a take for each row of each producer, and for its closing packet; a turn for each row that goes from one operator to the next; and where two inputs
  -- come together, one more for each of their rows, and one for each of their ends
  abbrev pub most_turns : Plan → ℕ
  most_turns (scan n c r m z) = length (db r)
  most_turns (unary n c op p) = most_rows p + most_turns p
  most_turns (binary n c op p q) = 2 * (most_rows p + most_rows q) + 2 + (most_turns p + most_turns q)
  most_turns (exchange n c k merge p) = workers sizes (size p) * (most_rows p + 1)

  -- the most steps by which a worker whose fragment has this top may go on: those turns, one for each row at its top, and one for each consumer to which such a
  -- row may go; for each consumer one to close it, and one more in case it fails; and four for the end of its top, its own end, and a failure
  abbrev pub worker_steps : (consumers : ℕ) → Plan → ℕ
  worker_steps n p = (n + 1) * most_rows p + most_turns p + (2 * n + 4)

  -- those of all workers below the top fragment
  abbrev pub steps_below : Plan → ℕ
  steps_below (scan n c r m z) = 0
  steps_below (unary n c op p) = steps_below p
  steps_below (binary n c op p q) = steps_below p + steps_below q
  steps_below (exchange n c k merge p) = workers sizes (size p) * worker_steps (workers sizes (target k)) p + steps_below p

  -- in each round some worker goes on, until all have ended; so a run needs no more rounds than its workers need steps: the root's worker, which sends to no one,
  -- and all others
  abbrev pub rounds_needed : Plan → ℕ
  rounds_needed p = worker_steps 0 p + steps_below p
