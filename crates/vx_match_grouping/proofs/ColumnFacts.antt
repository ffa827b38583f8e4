-- The aggregates of a grouping when the rows of a chunk come.
use Rattle.std.proofs.Common.{◌≡◌, ℕ, zero, suc, ◌<◌, List, [], ◌∷◌, ◌++◌, map, length, get_or, slice_get, Some, refl, sym, ap, ◌∙◌, subst, arith}
use Rattle.std.specs.List.{AllByRecursion}
use Rattle.std.proofs.lemmas.List.{length-map, get_or-map}
use Rattle.std.proofs.lemmas.Option.{get_or_from_slice_get}
use Rattle.indexmap.specs.IndexSet.{insert_all}
use Rattle.vx_rows_values.specs.Values.{Val, Row, row_eq, pick}
use Rattle.vx_rows_values.specs.Types.{Fits}
use Rattle.vx_match_keys.specs.Numbers.{numbers_of}
use Rattle.vx_plan_nodes.specs.Plan.{Aggregate, count_rows}
use Rattle.vx_plan_nodes.specs.Serial.{group_keys}
use Rattle.vx_match_grouping.specs.declared.column.AggregateColumn.{AggregateColumn}
use Rattle.vx_match_grouping.specs.Groups.{Held, Groups, HasTaken, column_of}
use Rattle.vx_match_grouping.specs.GroupFaults.{TakeBlame}
use Rattle.vx_match_grouping.specs.declared.fault.GroupFault.{GroupFault}
use Rattle.vx_match_grouping.specs.Takes.{entry_held, Takes}
use Rattle.vx_match_grouping.specs.Shown.{column_held, aggregate_in}
use Rattle.vx_match_grouping.proofs.FrontFacts.{Pairs}
use Rattle.vx_match_grouping.proofs.GroupFacts.{of_rows, keys-more}

-- the second aggregate is the first with these rows, whose keys have these numbers
abbrev pub TookRows : List Row → List ℕ → AggregateColumn → AggregateColumn → Type 0
TookRows rows numbers old new = Takes (aggregate_in old) rows numbers (column_held old) (column_held new)

rest_of : List (List Held) → List (List Held)
rest_of [] = []
rest_of (x ∷ xs) = xs

pub columns-taken : (by : List ℕ) (xs rows : List Row) (numbers : List ℕ) → numbers ≡ numbers_of (group_keys by xs) (map (pick by) rows) → (olds news : List AggregateColumn) → Pairs (TookRows rows numbers) olds news
    → map column_held olds ≡ map (column_of by xs) (map aggregate_in olds) → map column_held news ≡ map (column_of by (xs ++ rows)) (map aggregate_in olds)
unfolding rest_of
columns-taken by xs rows numbers are [] [] all h = refl
columns-taken by xs rows numbers are [] (n ∷ news) all h = absurd all
columns-taken by xs rows numbers are (o ∷ olds) [] all h = absurd all
columns-taken by xs rows numbers are (o ∷ olds) (n ∷ news) all h =
    λ i. all.0 by xs are (ap (λ l. get_or l 0 []) h) i ∷ columns-taken by xs rows numbers are olds news all.1 (ap rest_of h) i

pub column-was : (by : List ℕ) (xs : List Row) (columns : List AggregateColumn) (n : ℕ) (c : AggregateColumn) → n < length columns
    → map column_held columns ≡ map (column_of by xs) (map aggregate_in columns) → column_held (get_or columns n c) ≡ column_of by xs (aggregate_in (get_or columns n c))
unfolding rest_of
column-was by xs [] n c l h = absurd (omega (arith, l))
column-was by xs (d ∷ columns) zero c l h = ap (λ l. get_or l 0 []) h
column-was by xs (d ∷ columns) (suc n) c l h = column-was by xs columns n c (omega (arith, l)) (ap rest_of h)

-- the aggregates of a grouping are as long as its keys
pub all-long : (g : Groups) (xs : List Row) (columns : List AggregateColumn) (n k : ℕ) (d : AggregateColumn) → HasTaken g xs → n < length g.keys → map column_held columns ≡ g.columns → k < length columns → n < length (column_held (get_or columns k d))
all-long g xs columns n k d t l are there =
    let inside : n < length (group_keys g.by xs) = subst (λ keys. n < length keys) t.keys_are l in
    let as' = g.aggregates in
    let same : map column_held columns ≡ map (column_of g.by xs) as' = are ∙ t.columns_are in
    let many : length columns ≡ length as' = sym (length-map columns column_held) ∙ (ap length same ∙ length-map as' (column_of g.by xs)) in
    let own : column_held (get_or columns k d) ≡ column_of g.by xs (get_or as' k count_rows) =
    sym (get_or-map column_held columns k d [] there) ∙ (ap (λ (l : List (List Held)). get_or l k []) same ∙ get_or-map (column_of g.by xs) as' k count_rows [] (omega (arith, there, many))) in
    let long : length (column_held (get_or columns k d)) ≡ length (group_keys g.by xs) = ap length own ∙ length-map (group_keys g.by xs) (of_rows g.by (get_or as' k count_rows) xs) in
    omega (arith, inside, long)

pub key-at : (ks gs : List Row) (n : ℕ) (k : Row) → slice_get ks n ≡ Some k → ks ≡ gs → k ≡ get_or gs n []
key-at ks gs n k e h = sym (get_or_from_slice_get ks n k [] e) ∙ ap (λ xs. get_or xs n []) h

-- the rows that come fit the types too
all-both : {X : Type 0} (P : X → Type 0) (xs ys : List X) → AllByRecursion P xs → AllByRecursion P ys → AllByRecursion P (xs ++ ys)
all-both P [] ys h k = k
all-both P (x ∷ xs) ys h k = (h.0, all-both P xs ys h.1 k)

-- a grouping takes rows where its keys and its columns do
pub took-rows : (g : Groups) (xs rows : List Row) (numbers : List ℕ) (keys : List Row) (aggregates : List Aggregate) (columns : List (List Held)) → HasTaken g xs
    → numbers ≡ numbers_of g.keys (map (pick g.by) rows) → keys ≡ insert_all row_eq g.keys (map (pick g.by) rows) → AllByRecursion (Fits g.types) rows → aggregates ≡ g.aggregates
    → ((by : List ℕ) (ys : List Row) → numbers ≡ numbers_of (group_keys by ys) (map (pick by) rows) → g.columns ≡ map (column_of by ys) g.aggregates → columns ≡ map (column_of by (ys ++ rows)) g.aggregates)
    → HasTaken (record { types = g.types; by = g.by; aggregates = aggregates; keys = keys; columns = columns; failed = g.failed }) (xs ++ rows)
took-rows g xs rows numbers keys aggregates columns t are keys-are fit same took = record {
  runs = t.runs;
  keys_are = keys-are ∙ (ap (λ ks. insert_all row_eq ks (map (pick g.by) rows)) t.keys_are ∙ keys-more g.by xs rows);
  columns_are = took g.by xs (are ∙ ap (λ ks. numbers_of ks (map (pick g.by) rows)) t.keys_are) t.columns_are ∙ ap (map (column_of g.by (xs ++ rows))) (sym same);
  fit = all-both (Fits g.types) xs rows t.fit fit;
}

-- and the same of what it says where they do not
pub took-not : (g : Groups) (xs rows : List Row) (numbers : List ℕ) (e : GroupFault) → HasTaken g xs → numbers ≡ numbers_of g.keys (map (pick g.by) rows)
    → ((by : List ℕ) (ys : List Row) → numbers ≡ numbers_of (group_keys by ys) (map (pick by) rows) → g.columns ≡ map (column_of by ys) g.aggregates → TakeBlame e (ys ++ rows)) → TakeBlame e (xs ++ rows)
took-not g xs rows numbers e t are blame = blame g.by xs (are ∙ ap (λ ks. numbers_of ks (map (pick g.by) rows)) t.keys_are) t.columns_are

-- the least or the greatest values are the same, as numbers or as values
with-value : Aggregate → Val → Held
with-value a v = record { aggregate = a; value = v; taken = 0 }

valued : {X : Type 0} (a : Aggregate) (f : X → Val) (xs : List X) → map (entry_held a f (λ _. 0)) xs ≡ map (with-value a) (map f xs)
unfolding with-value
valued a f [] = refl
valued a f (x ∷ xs) = ap (λ l. with-value a (f x) ∷ l) (valued a f xs)

pub same-values : {X Y : Type 0} (a : Aggregate) (f : X → Val) (g : Y → Val) (xs : List X) (ys : List Y) → map f xs ≡ map g ys → map (entry_held a f (λ _. 0)) xs ≡ map (entry_held a g (λ _. 0)) ys
same-values a f g xs ys h = valued a f xs ∙ (ap (map (with-value a)) h ∙ sym (valued a g ys))
