use Rattle.std.proofs.Common.{ℕ, ◌∙◌, ◌<◌, Vec, Global, map, length, rules, arith, ap, get_or}
use Rattle.std.proofs.lemmas.List.{length-map}
use Rattle.std.proofs.lemmas.Result.{on_ok_weaker}
use Rattle.vx_catalog_relations.specs.Catalog.{are_distinct}
use Rattle.vx_check_options.proofs.FoundFacts.{finds-last, no-choices, first-choices, choices-start, choices-next, choices-done, column-distinct}
use Rattle.vx_check_options.proofs.choices.+add_choices.Goals as goal

pub returns-in_default : goal.returns-in_default
returns-in_default t c =
    let items = λ (v : Vec ℕ Global). v.items in
    let few : length (map items c.args.found.now.items) < 16 = simp length-map (omega arith) in
    on_ok_weaker _ (λ e. finds-last c.args.columns.now c.in_ok-from_slice.field-0.items (map items c.args.choices.now) _ _ (ap (map items) (no-choices c.args.choices.now c.in_default.len_below)) c.in_ok-from_slice.ensures.items c.requires few e) c.add_key.ensures

pub add_choices-requires : goal.add_choices-requires
add_choices-requires t c = (search rules, ap are_distinct (c.as_slice.ensures.value ∙ c.in_ok-longer.ensures) ∙ column-distinct c.args.columns.now (get_or c.as_slice-column-items.result.now c.loop-column.column-index 0) c.requires)

pub loop-column-preserved : goal.loop-column-preserved
loop-column-preserved t c =
    choices-next c.args.columns.now c.as_slice-column-items.result.now c.as_slice.result.now _ _ _ _ _ c.loop-column.column-index
    (rw c.as_slice-column-items.ensures.value (first-choices c.args.choices.now c.first-item.result c.in-len1-up.len_at_least c.first-item.is)) (c.as_slice.ensures.value ∙ c.in_ok-longer.ensures) c.loop-column-test.true c.loop-column.invariant c.in_ok-add_choices.ensures

pub loop-column-init : goal.loop-column-init
loop-column-init t c = choices-start c.args.columns.now (map (λ (v : Vec ℕ Global). v.items) c.args.choices.now) _ _

pub returns : goal.returns
returns t c =
    choices-done c.args.columns.now c.as_slice-column-items.result.now _ _ _ _ c.loop-column.column-index
    (rw c.as_slice-column-items.ensures.value (first-choices c.args.choices.now c.first-item.result c.in-len1-up.len_at_least c.first-item.is)) (omega (arith, c.loop-column-test.false)) c.loop-column.invariant
