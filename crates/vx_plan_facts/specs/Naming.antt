-- Plans whose operators name columns of their inputs.
use Rattle.std.specs.Prelude.{◌≡◌, ℕ, ◌==◌, nat_lt, Bool, true, ◌&&◌, List}
use Rattle.std.specs.List.{list_all}
use Rattle.vx_catalog_relations.specs.Relation.{Relation}
use Rattle.vx_catalog_relations.specs.Catalog.{all_below}
use Rattle.vx_plan_nodes.specs.Plan.{Side, column, constant, Condition, Filter, comparing, computing, Entry, copy_of, made_by, Unary, select, project, distinct, sort, group, limit, Binary, union, join, semi_join, Plan}
use Rattle.vx_plan_nodes.specs.Typed.{Scope, typed}

abbrev pub side_within : ℕ → Side → Bool
side_within w (column c) = nat_lt c w
side_within w (constant v) = true

abbrev pub condition_within : ℕ → Condition → Bool
condition_within w c = nat_lt c.left w && side_within w c.right

-- what is computed may name any columns
abbrev pub filter_within : ℕ → Filter → Bool
filter_within w (comparing c) = condition_within w c
filter_within w (computing e) = true

abbrev pub entry_within : ℕ → Entry → Bool
entry_within w (copy_of c) = nat_lt c w
entry_within w (made_by e) = true

-- the columns that an operator compares, or of which it makes copies, are some of the first w
abbrev pub names_within : ℕ → Unary → Bool
names_within w (select fs) = list_all (filter_within w) fs
names_within w (project es) = list_all (entry_within w) es
names_within w (distinct cols) = all_below w cols
names_within w (sort of_parts cols) = true
names_within w (group phase by aggregates) = all_below w by
names_within w (limit n) = true

-- a pair of one of the first v and one of the first w columns
abbrev pub pair_within : ℕ → ℕ → ℕ × ℕ → Bool
pair_within v w p = nat_lt p.0 v && nat_lt p.1 w

-- a union has equally wide inputs; the pairs of a join name some of the first v and of the first w columns
abbrev pub both_within : ℕ → ℕ → Binary → Bool
both_within v w union = w == v
both_within v w (join method on) = list_all (pair_within v w) on
both_within v w (semi_join matched on conditions) = list_all (pair_within v w) on

-- a typed plan over these relations
abbrev pub IsTypedOver : List Relation → Plan → Type 0
IsTypedOver catalog p = (s : Scope) × (s.catalog ≡ catalog) × (typed s p ≡ true)
