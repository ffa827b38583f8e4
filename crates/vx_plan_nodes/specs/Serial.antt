-- What a plan means without workers (relational algebra over lists): its exchanges give their input.
use Rattle.std.specs.Prelude.{ℕ, ℤ, pos, negsuc, ◌-ℤ◌, suc, Bool, true, cond, not, ◌&&◌, List, [], ◌∷◌, ◌++◌, map, filter, flat_map, take, Option, Some, None, ◌<◌, ◌⊎◌, length, ◌≡◌, ◌≤◌, ◌==◌, false}
use Rattle.std.specs.List.{list_all, list_any}
use Rattle.std.specs.declared.cmp.Ordering.{Ordering}
use Rattle.std.specs.Ordering.{is_eq, is_ne, is_lt, is_le, is_gt, is_ge}
use Rattle.vx_rows_values.specs.Values.{Val, num, text, Row, val_cmp, row_eq, value_at, pick}
use Rattle.vx_rows_values.specs.Order.{sort_on}
use Rattle.vx_rows_values.specs.Types.{fits_64}
use Rattle.vx_rows_values.specs.Bags.{total, count}
use Rattle.vx_plan_nodes.specs.Expressions.{answer, is_answered, answered, says_yes}
use Rattle.vx_plan_nodes.specs.Plan.{Side, column, constant, Test, equal, unequal, below, at_most, above, at_least, Condition, Filter, comparing, computing, Entry, copy_of, made_by, Aggregate, least, greatest, sum, count_rows, Unary, select, project, distinct, sort, group, limit, Binary, union, join, semi_join, Plan, scan, unary, binary, exchange, partial}

-- the value of a condition's right side
abbrev pub side : Side → Row → Val
side (column c) row = value_at row c
side (constant v) row = v

-- what a test says of a comparison
abbrev pub answers : Test → Ordering → Bool
answers equal o = is_eq o
answers unequal o = is_ne o
answers below o = is_lt o
answers at_most o = is_le o
answers above o = is_gt o
answers at_least o = is_ge o

-- a comparison holds of the row
abbrev pub compares : Condition → Row → Bool
compares c row = answers c.test (val_cmp (value_at row c.left) (side c.right row))

-- all comparisons hold of the row
abbrev pub passes : List Condition → Row → Bool
passes cs row = list_all (λ c. compares c row) cs

-- a condition of a select holds of the row
abbrev pub filter_holds : Filter → Row → Bool
filter_holds (comparing c) row = compares c row
filter_holds (computing e) row = says_yes (answer e row)

abbrev pub filters_hold : List Filter → Row → Bool
filters_hold fs row = list_all (λ f. filter_holds f row) fs

-- nothing overflows in it
abbrev pub filter_fits : Filter → Row → Bool
filter_fits (comparing c) row = true
filter_fits (computing e) row = is_answered (answer e row)

abbrev pub filters_fit : List Filter → Row → Bool
filters_fit fs row = list_all (λ f. filter_fits f row) fs

-- a column of a projection's output
abbrev pub entry_value : Entry → Row → Val
entry_value (copy_of c) row = value_at row c
entry_value (made_by e) row = answered (answer e row)

abbrev pub entries_row : List Entry → Row → Row
entries_row es row = map (λ e. entry_value e row) es

-- nothing overflows in it
abbrev pub entry_fits : Entry → Row → Bool
entry_fits (copy_of c) row = true
entry_fits (made_by e) row = is_answered (answer e row)

abbrev pub entries_fit : List Entry → Row → Bool
entries_fit es row = list_all (λ e. entry_fits e row) es

-- a list, or none where something overflows in one of these rows
abbrev pub where_fit : (fits : Row → Bool) → (xs : List Row) → List Row → Option (List Row)
where_fit fits xs ys = cond (list_all fits xs) (Some ys) None

-- the first occurrence of each row
abbrev pub firsts : List Row → List Row
firsts [] = []
firsts (x ∷ xs) = x ∷ filter (λ y. not (row_eq x y)) (firsts xs)

-- the left row and the right row agree on all pairs
abbrev pub matches : List (ℕ × ℕ) → Row → Row → Bool
matches on l r = row_eq (pick (map (λ p. p.0) on) l) (pick (map (λ p. p.1) on) r)

-- the rows that one left row gives
abbrev pub joined_with : List (ℕ × ℕ) → List Row → Row → List Row
joined_with on rs l = map (λ r. l ++ r) (filter (matches on l) rs)

-- for each left row in order, each right row in order that agrees with it on all pairs: left columns, then right
abbrev pub join_rows : List (ℕ × ℕ) → List Row → List Row → List Row
join_rows on ls rs = flat_map (joined_with on rs) ls

-- some right row matches the left one: it agrees on all pairs, and the conditions hold of both rows side by side
abbrev pub is_matched : List (ℕ × ℕ) → List Condition → List Row → Row → Bool
is_matched on conditions rs l = list_any (λ r. matches on l r && passes conditions (l ++ r)) rs

-- the left rows in order that are matched, or those that are not
abbrev pub matched_rows : (matched : Bool) → List (ℕ × ℕ) → List Condition → List Row → List Row → List Row
matched_rows true on conditions ls rs = filter (is_matched on conditions rs) ls
matched_rows false on conditions ls rs = filter (λ l. not (is_matched on conditions rs l)) ls

-- a number's part above zero and its part below zero
abbrev pub above_zero : Val → ℕ
above_zero (num (pos n)) = n
above_zero (num (negsuc n)) = 0
above_zero (text t) = 0

abbrev pub below_zero : Val → ℕ
below_zero (num (pos n)) = 0
below_zero (num (negsuc n)) = suc n
below_zero (text t) = 0

-- the sum of a column, a whole number without limit
abbrev pub sum_of : ℕ → List Row → ℤ
sum_of c xs = pos (total (λ r. above_zero (value_at r c)) xs) -ℤ pos (total (λ r. below_zero (value_at r c)) xs)

-- how many rows, a whole number without limit
abbrev pub count_of : List Row → ℤ
count_of xs = pos (total (λ r. 1) xs)

-- the smaller and the larger of two values
abbrev pub smaller : Val → Val → Val
smaller a b = cond (is_le (val_cmp a b)) a b

abbrev pub larger : Val → Val → Val
larger a b = cond (is_le (val_cmp a b)) b a

-- the least and the greatest value of a column of the row x and these rows
abbrev pub least_of : ℕ → Row → List Row → Val
least_of c x [] = value_at x c
least_of c x (y ∷ ys) = smaller (value_at x c) (least_of c y ys)

abbrev pub greatest_of : ℕ → Row → List Row → Val
greatest_of c x [] = value_at x c
greatest_of c x (y ∷ ys) = larger (value_at x c) (greatest_of c y ys)

-- the least or the greatest value of any rows; of no rows the number 0, which no group shows since each of its keys has a row
abbrev pub first_or_none : (Row → List Row → Val) → List Row → Val
first_or_none f [] = num (pos 0)
first_or_none f (x ∷ xs) = f x xs

-- an aggregate of the rows of one key
abbrev pub aggregate_of : Aggregate → List Row → Val
aggregate_of (least c) xs = first_or_none (least_of c) xs
aggregate_of (greatest c) xs = first_or_none (greatest_of c) xs
aggregate_of (sum c) xs = num (sum_of c xs)
aggregate_of count_rows xs = num (count_of xs)

-- whether a sum and a count are 64 signed bits; the others are values of the rows
abbrev pub fits : Aggregate → List Row → Bool
fits (least c) xs = true
fits (greatest c) xs = true
fits (sum c) xs = fits_64 (sum_of c xs)
fits count_rows xs = fits_64 (count_of xs)

-- the rows with this key
abbrev pub of_key : List ℕ → Row → List Row → List Row
of_key by key xs = filter (λ r. row_eq key (pick by r)) xs

-- the keys in order of first occurrence
abbrev pub group_keys : List ℕ → List Row → List Row
group_keys by xs = firsts (map (pick by) xs)

-- a key, and the aggregates of its rows
abbrev pub group_row : List ℕ → List Aggregate → List Row → Row → Row
group_row by aggregates xs key = key ++ map (λ a. aggregate_of a (of_key by key xs)) aggregates

-- whether the aggregates of a key fit
abbrev pub group_fits : List ℕ → List Aggregate → List Row → Row → Bool
group_fits by aggregates xs key = list_all (λ a. fits a (of_key by key xs)) aggregates

-- the keys with their aggregates, or none where a sum or a count does not fit 64 bits
abbrev pub group_rows : List ℕ → List Aggregate → List Row → Option (List Row)
group_rows by aggregates xs =
    cond (list_all (group_fits by aggregates xs) (group_keys by xs)) (Some (map (group_row by aggregates xs) (group_keys by xs))) None

-- the list that an operator makes of its input's list, or none where a function, a sum or a count overflows. Select keeps the rows of which its filters hold,
-- project makes a row of each, distinct takes the first occurrences of the picked rows, sort is `sort_on`, group `group_rows`, a limit takes the first rows
abbrev pub unary_rows : Unary → List Row → Option (List Row)
unary_rows (select fs) xs = where_fit (filters_fit fs) xs (filter (filters_hold fs) xs)
unary_rows (project es) xs = where_fit (entries_fit es) xs (map (entries_row es) xs)
unary_rows (distinct cols) xs = Some (firsts (map (pick cols) xs))
unary_rows (sort of_parts cols) xs = Some (sort_on cols xs)
unary_rows (group phase by aggregates) xs = group_rows by aggregates xs
unary_rows (limit n) xs = Some (take n xs)

-- the list that an operator makes of its inputs' lists: union the left one and then the right one, a join of either method `join_rows`, a semi or an anti
-- join `matched_rows`
abbrev pub binary_rows : Binary → List Row → List Row → List Row
binary_rows union ls rs = ls ++ rs
binary_rows (join m on) ls rs = join_rows on ls rs
binary_rows (semi_join matched on conditions) ls rs = matched_rows matched on conditions ls rs

-- the aggregate is the sum of this column
abbrev pub is_sum_of : ℕ → Aggregate → Bool
is_sum_of c (least d) = false
is_sum_of c (greatest d) = false
is_sum_of c (sum d) = c == d
is_sum_of c count_rows = false

-- a list of rows, or overflow at a node
pub data SerialResult : Type 0 where
  rows : List Row → SerialResult
  overflow : ℕ → SerialResult

-- overflow at the node where an operator answers none
abbrev pub or_overflow : ℕ → Option (List Row) → SerialResult
or_overflow n (Some xs) = rows xs
or_overflow n None = overflow n

-- what comes of an input's rows; its overflow stays
abbrev pub after : SerialResult → (List Row → SerialResult) → SerialResult
after (rows xs) next = next xs
after (overflow n) next = overflow n

-- the serial meaning: the left input's overflow first, then the right's, then the node's own
abbrev pub serial : (ℕ → List Row) → Plan → SerialResult
serial db (scan n c r m z) = rows (db r)
serial db (unary n c op p) = after (serial db p) (λ xs. or_overflow n (unary_rows op xs))
serial db (binary n c op p q) = after (serial db p) (λ xs. after (serial db q) (λ ys. rows (binary_rows op xs ys)))
serial db (exchange n c k m p) = serial db p

-- the outcome is an overflow
abbrev pub IsOverflow : SerialResult → Type 0
IsOverflow (rows xs) = ⊥
IsOverflow (overflow n) = Unit {0}

-- this list is the operator's serial input, and too long for one grouping
abbrev pub IsTooLong : Unary → SerialResult → Type 0
IsTooLong (group phase by aggregates) (rows xs) = 4611686018427387904 < length xs
IsTooLong op o = ⊥

-- the serial input of one of the plan's groupings has more than 2^62 rows
abbrev pub HasTooLong : (ℕ → List Row) → Plan → Type 0
HasTooLong db (scan n c r m z) = ⊥
HasTooLong db (unary n c op p) = HasTooLong db p ⊎ IsTooLong op (serial db p)
HasTooLong db (binary n c op p q) = HasTooLong db p ⊎ HasTooLong db q
HasTooLong db (exchange n c k m p) = HasTooLong db p

-- some rows of one key of this list, the serial input of a partial, have a sum outside 64 bits
pub record LargePart (by : List ℕ) (aggregates : List Aggregate) (xs : List Row) : Type 0 where
  pub some : List Row
  pub among : (row : Row) → count (row_eq row) some ≤ count (row_eq row) xs
  pub key : Row
  pub alike : list_all (λ r. row_eq key (pick by r)) some ≡ true
  pub column : ℕ
  pub summed : list_any (is_sum_of column) aggregates ≡ true
  pub outside : fits_64 (sum_of column some) ≡ false

abbrev pub HasLargeInput : Unary → SerialResult → Type 0
HasLargeInput (group partial by aggregates) (rows xs) = LargePart by aggregates xs
HasLargeInput op o = ⊥

-- of one of the plan's groupings in two phases, some rows of one key of its serial input have a sum outside 64 bits
abbrev pub HasLargePart : (ℕ → List Row) → Plan → Type 0
HasLargePart db (scan n c r m z) = ⊥
HasLargePart db (unary n c op p) = HasLargePart db p ⊎ HasLargeInput op (serial db p)
HasLargePart db (binary n c op p q) = HasLargePart db p ⊎ HasLargePart db q
HasLargePart db (exchange n c k m p) = HasLargePart db p
