-- Worked plans of limits, semi joins and anti joins: what is accepted of them, what is refused, and what they mean. Each fact holds by computing.
use Rattle.std.specs.Prelude.{◌≡◌, ℕ, Bool, true, false, List, [], ◌∷◌, Some, None}
use Rattle.vx_plan_nodes.specs.Plan.{one_worker, one, any, all, routed, column, constant, below, at_most, Condition, limit, Binary, by_hashing, join, semi_join, route_to, broadcast, gather, Plan, scan, unary, binary, exchange}
use Rattle.vx_plan_nodes.specs.Serial.{rows, serial}
use Rattle.vx_plan_nodes.specs.Erase.{erase}
use Rattle.vx_plan_nodes.specs.Typed.{typed}
use Rattle.vx_check_rules.specs.Refusal.{part_not_shown, inputs_not_matched, key_not_shown, first_rows_open, refusal}
use Rattle.vx_check_rules.specs.Tables.{refusal_by}
use Rattle.vx_exec_laws.specs.WorkedPlans.{t_and_d, many, h, claimed, part_only, first_key, by_first, shared_t, shared_d, worked_scope, one_row, a, b, c, n, minus_2, t_rows, db}

-- ---- semi and anti joins

-- t's v is below d's n; d's n is 10 at most; and a column that neither has
abbrev pub v_below_n : List Condition
v_below_n = record { left = 2; test = below; right = column 4 } ∷ []

abbrev pub small_n : List Condition
small_n = record { left = 4; test = at_most; right = constant (n 10) } ∷ []

abbrev pub no_column : List Condition
no_column = record { left = 5; test = at_most; right = constant (n 10) } ∷ []

-- a join on k
abbrev pub kept : (matched : Bool) → List Condition → Binary
kept matched conditions = semi_join matched ((1, 0) ∷ []) conditions

-- a merging gather over t joined on k with a broadcast of d
abbrev pub by_broadcast : Binary → Plan
by_broadcast op =
    exchange 0 (claimed one by_first first_key) gather by_first
    (binary 1 (claimed any by_first first_key) op
    (shared_t 2 (claimed any by_first first_key))
    (exchange 3 (claimed all [] first_key) (broadcast many) [] (shared_d 4 (claimed any [] first_key))))

-- a gather over a broadcast of t joined on k with d
abbrev pub left_broadcast : Binary → Plan
left_broadcast op =
    exchange 0 (part_only one) gather []
    (binary 1 (part_only any) op (exchange 2 (part_only all) (broadcast many) [] (shared_t 3 (part_only any))) (shared_d 4 (part_only any)))

-- a gather over t and d by hash on k, joined on it, which claims this part
abbrev pub by_hashes : Binary → (cols : List ℕ) → Plan
by_hashes op cols =
    exchange 0 (part_only one) gather []
    (binary 1 (part_only (routed h cols)) op
    (exchange 2 (part_only (routed h (1 ∷ []))) (route_to many h (1 ∷ [])) [] (shared_t 3 (part_only any)))
    (exchange 4 (part_only (routed h (0 ∷ []))) (route_to many h (0 ∷ [])) [] (shared_d 5 (part_only any))))

-- ---- limits

-- so many first rows of t by id, which a gather merges; it and the limit claim these keys
abbrev pub first_of_t : (most : ℕ) → (keys limit_keys : List (List ℕ)) → Plan
first_of_t most keys limit_keys =
    unary 0 (claimed one by_first limit_keys) (limit most) (exchange 1 (claimed one by_first keys) gather by_first (shared_t 2 (claimed any by_first first_key)))

-- a limit below the gather
abbrev pub limits_gathered : Plan
limits_gathered =
    exchange 0 (claimed one by_first first_key) gather by_first (unary 1 (claimed any by_first first_key) (limit 2) (shared_t 2 (claimed any by_first first_key)))

-- the key of no columns, of which one row at most is told
abbrev pub no_columns : List (List ℕ)
no_columns = [] ∷ []

pub record WorkedLimits : Type 0 where
  pub semi_accepted : refusal t_and_d true (by_broadcast (kept true [])) ≡ None
  pub anti_accepted : refusal t_and_d true (by_broadcast (kept false v_below_n)) ≡ None
  pub semi_by_hashes : refusal t_and_d false (by_hashes (kept true small_n) (1 ∷ [])) ≡ None
  pub typed_semi : typed worked_scope (by_broadcast (kept true v_below_n)) ≡ true
  pub untyped_semi : typed worked_scope (by_broadcast (kept true no_column)) ≡ false
  -- a left row that each worker has may be kept by several of them, where an inner join may have it
  pub left_on_each : refusal t_and_d false (left_broadcast (kept true [])) ≡ Some (1, inputs_not_matched)
  pub left_of_anti : refusal t_and_d false (left_broadcast (kept false [])) ≡ Some (1, inputs_not_matched)
  pub left_of_join : refusal t_and_d false (left_broadcast (join by_hashing ((1, 0) ∷ []))) ≡ None
  -- the right columns are none of its own
  pub route_of_right : refusal t_and_d false (by_hashes (kept true []) (3 ∷ [])) ≡ Some (1, part_not_shown)
  pub route_of_joined : refusal t_and_d false (by_hashes (join by_hashing ((1, 0) ∷ [])) (3 ∷ [])) ≡ None
  -- what they mean
  pub matched : serial db (by_broadcast (kept true [])) ≡ rows (one_row (n 0) a (n 5) ∷ one_row (n 1) b (n 7) ∷ one_row (n 2) a minus_2 ∷ [])
  pub unmatched : serial db (by_broadcast (kept false [])) ≡ rows (one_row (n 3) c (n 7) ∷ [])
  pub matched_small : serial db (by_broadcast (kept true small_n)) ≡ rows (one_row (n 0) a (n 5) ∷ one_row (n 2) a minus_2 ∷ [])
  pub unmatched_small : serial db (by_broadcast (kept false small_n)) ≡ rows (one_row (n 1) b (n 7) ∷ one_row (n 3) c (n 7) ∷ [])
  -- limits: over all workers, and an order that a key makes total
  pub limit_accepted : refusal t_and_d true (first_of_t 2 first_key first_key) ≡ None
  pub typed_limit : typed worked_scope (first_of_t 2 first_key first_key) ≡ true
  pub limit_untold : refusal t_and_d true (first_of_t 2 [] []) ≡ Some (0, first_rows_open)
  pub limit_told_by_input : refusal_by true t_and_d true (first_of_t 2 [] []) ≡ None
  pub limit_spread : refusal t_and_d true limits_gathered ≡ Some (1, first_rows_open)
  pub one_row_at_most : refusal t_and_d true (first_of_t 1 first_key no_columns) ≡ None
  pub two_rows : refusal t_and_d true (first_of_t 2 first_key no_columns) ≡ Some (0, key_not_shown)
  -- what they mean
  pub first_two : serial db (first_of_t 2 first_key first_key) ≡ rows (one_row (n 0) a (n 5) ∷ one_row (n 1) b (n 7) ∷ [])
  pub first_none : serial db (first_of_t 0 first_key first_key) ≡ rows []
  pub first_all : serial db (first_of_t 9 first_key first_key) ≡ rows t_rows
  pub erased_limit : erase (first_of_t 2 first_key first_key) ≡ unary 0 (claimed one [] []) (limit 2) (scan 1 (claimed one [] []) 0 false one_worker)
