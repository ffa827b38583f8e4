use Rattle.std.proofs.Common.{◌≡◌, ◌++◌, ◌∙◌, sym, ap, subst, length, map, List, ℕ}
use Rattle.std.specs.List.{AllByRecursion}
use Rattle.std.proofs.lemmas.List.{length-map}
use Rattle.std.proofs.lemmas.Result.{on_ok_weaker}
use Rattle.indexmap.specs.IndexSet.{insert_all}
use Rattle.vx_rows_values.specs.Values.{Row, row_eq, pick}
use Rattle.vx_rows_values.specs.Types.{Fits}
use Rattle.vx_match_keys.specs.Numbers.{numbers_of}
use Rattle.vx_match_keys.proofs.NumberFacts.{numbers-long}
use Rattle.vx_match_keys.proofs.ErrorFacts.{if-err}
use Rattle.vx_plan_nodes.specs.Serial.{group_keys}
use Rattle.vx_match_grouping.specs.declared.fault.GroupFault.{GroupFault}
use Rattle.vx_match_grouping.specs.Groups.{Groups, HasTaken, column_of}
use Rattle.vx_match_grouping.specs.GroupFaults.{TakeBlame}
use Rattle.vx_match_grouping.specs.Shown.{column_held, aggregate_in}
use Rattle.vx_match_grouping.proofs.ColumnFacts.{took-rows, took-not}
use Rattle.vx_match_grouping.proofs.grouping.Grouping.add_block.Goals as goal

pub add_columns-requires : goal.add_columns-requires
add_columns-requires c =
    let rows = c.args.block.now.rows in
    let f = pick c.deref.result.now in
    ap length c.as_slice.ensures.value ∙ (ap length c.in_ok-number_chunk.ensures.numbers
    ∙ (ap (λ ns. length (ns ++ numbers_of c.self.inside.keys (map f rows))) c.clear.ensures.items ∙ (numbers-long c.self.inside.keys (map f rows) ∙ length-map rows f)))

pub returns-clause-taken : goal.returns-clause-taken
returns-clause-taken c =
    let rows = c.args.block.now.rows in
    let own = c.self.inside in
    let view : Groups = record { types = own.types.items; by = own.by.items; aggregates = map aggregate_in own.columns.items; keys = own.keys; columns = map column_held own.columns.items; failed = own.failed } in
    let f = pick c.deref.result.now in
    let numbers-are : c.as_slice.result.now ≡ numbers_of own.keys (map (pick own.by.items) rows) =
    c.as_slice.ensures.value ∙ (c.in_ok-number_chunk.ensures.numbers ∙ (ap (λ ns. ns ++ numbers_of own.keys (map f rows)) c.clear.ensures.items ∙ ap (λ (b : List ℕ). numbers_of own.keys (map (pick b) rows)) c.deref.ensures.value)) in
    let keys-are : c.number_chunk.new.self ≡ insert_all row_eq own.keys (map (pick own.by.items) rows) =
    c.in_ok-number_chunk.ensures.keys ∙ ap (λ (b : List ℕ). insert_all row_eq own.keys (map (pick b) rows)) c.deref.ensures.value in
    let fit : AllByRecursion (Fits own.types.items) rows =
    subst (λ types. AllByRecursion (Fits types) rows) (c.requires.types ∙ sym (ap (λ (g : Groups). g.types) c.self.view_is)) c.types-types.ensures.fit in
    on_ok_weaker c.add_columns.result
    (λ took xs taken. took-rows view xs rows c.as_slice.result.now c.number_chunk.new.self (map aggregate_in c.add_columns.new.columns.items) (map column_held c.add_columns.new.columns.items)
    (subst (λ (g : Groups). HasTaken g xs) (sym c.self.view_is) taken) numbers-are keys-are fit c.add_columns.ensures.aggregates took)
    c.add_columns.ensures.taken

pub returns-clause-err : goal.returns-clause-err
returns-clause-err c =
    let rows = c.args.block.now.rows in
    let own = c.self.inside in
    let view : Groups = record { types = own.types.items; by = own.by.items; aggregates = map aggregate_in own.columns.items; keys = own.keys; columns = map column_held own.columns.items; failed = own.failed } in
    let f = pick c.deref.result.now in
    let numbers-are : c.as_slice.result.now ≡ numbers_of own.keys (map (pick own.by.items) rows) =
    c.as_slice.ensures.value ∙ (c.in_ok-number_chunk.ensures.numbers ∙ (ap (λ ns. ns ++ numbers_of own.keys (map f rows)) c.clear.ensures.items ∙ ap (λ (b : List ℕ). numbers_of own.keys (map (pick b) rows)) c.deref.ensures.value)) in
    if-err c.add_columns.result
    (λ (e : GroupFault). (by : List ℕ) (xs : List Row) → c.as_slice.result.now ≡ numbers_of (group_keys by xs) (map (pick by) rows) → view.columns ≡ map (column_of by xs) view.aggregates → TakeBlame e (xs ++ rows))
    (λ (e : GroupFault). (xs : List Row) → HasTaken c.args.self.now xs → TakeBlame e (xs ++ rows))
    (λ e blame xs taken. took-not view xs rows c.as_slice.result.now e (subst (λ (g : Groups). HasTaken g xs) (sym c.self.view_is) taken) numbers-are blame)
    c.add_columns.ensures.err
