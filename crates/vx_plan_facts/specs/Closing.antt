-- The columns that fixed and equal columns and keys add to a set, without those of inputs.
use Rattle.std.specs.Prelude.{◌≡◌, ◌<◌, ◌==◌, ℕ, true, ◌&&◌, ◌||◌, List, length, slice_index}
use Rattle.std.specs.List.{list_any}
use Rattle.vx_rows_values.specs.Lists.{is_some_list}
use Rattle.vx_plan_nodes.specs.Phases.{first_columns}
use Rattle.vx_plan_facts.specs.Equal.{Equality}
use Rattle.vx_plan_facts.specs.Fixed.{Values}
use Rattle.vx_plan_facts.specs.Facts.{Facts, values_of}
use Rattle.vx_plan_facts.specs.Determined.{Columns, by_rows}
use Rattle.vx_plan_facts.specs.DeterminedFacts.{WithinFirst}

-- the first column of the class of one of the set, which is among the first n columns
abbrev pub has_first : Facts → Columns → ℕ → Columns
has_first k s n v = list_any (λ d. s d && (slice_index k.firsts d == v)) (first_columns n)

-- a column that is equal to one of the set, itself among them
abbrev pub has_equal : Facts → Columns → Columns
has_equal k s c = has_first k s (length k.firsts) (slice_index k.firsts c)

-- a fixed column, or such a one
abbrev pub is_reached : Facts → Columns → Columns
is_reached k s c = is_some_list (values_of k c) || has_equal k s c

-- the least set of the first w columns that holds those of another and to which fixed and equal columns and keys add none
pub record IsClosed (w : ℕ) (e : Equality) (f : Values) (keys : List (List ℕ)) (s found : Columns) : Type 0 where
  pub narrow : (c : ℕ) → found c ≡ true → c < w
  pub holds : WithinFirst w s found
  pub closed : WithinFirst w (by_rows w e f keys found) found
  pub least : (t : Columns) → WithinFirst w s t → WithinFirst w (by_rows w e f keys t) t → WithinFirst w found t
