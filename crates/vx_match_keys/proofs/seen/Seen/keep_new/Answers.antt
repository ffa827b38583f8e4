use Rattle.std.proofs.Common.{◌≡◌, List, [], ◌++◌, sym, ap, ◌∙◌, subst, length, map, get_or, arith}
use Rattle.std.proofs.lemmas.List.{length-map, length-append}
use Rattle.indexmap.specs.IndexSet.{insert_all}
use Rattle.vx_rows_values.specs.declared.value.ColType.{ColType}
use Rattle.vx_rows_values.specs.Values.{row_eq, pick}
use Rattle.vx_rows.specs.View.{row, AreColumns, ArePositions}
use Rattle.vx_match_keys.proofs.NumberFacts.{numbers-long, all-long, firsts-all, picked-at}
use Rattle.vx_match_keys.proofs.seen.Seen.keep_new.Goals as goal

pub at-requires : goal.at-requires
at-requires c =
    let rows = c.args.batch.now.rows in
    let keys = map (pick c.args.columns.now) rows in
    let long : length c.as_slice.result.now ≡ length rows = ap length (c.as_slice.ensures.value ∙ c.in_ok-numbers.ensures.numbers) ∙ (numbers-long c.self.inside.keys keys ∙ length-map rows (pick c.args.columns.now)) in
    subst (ArePositions (length rows)) (sym c.as_slice-2.ensures.value) (subst (λ n. ArePositions n c.in_ok-places.places.items) long c.in_ok-places.ensures.there)

pub project-requires : goal.project-requires
project-requires c = subst (λ (ts : List ColType). AreColumns (length ts) c.args.columns.now) (sym c.in_ok-fresh.ensures.types) c.requires

pub returns-clause-new : goal.returns-clause-new
returns-clause-new c =
    let rows = c.args.batch.now.rows in
    let cols = c.args.columns.now in
    let keys = map (pick cols) rows in
    let old = c.self.inside.keys in
    let ps = c.in_ok-places.places.items in
    let long : length c.as_slice.result.now ≡ length rows = ap length (c.as_slice.ensures.value ∙ c.in_ok-numbers.ensures.numbers) ∙ (numbers-long old keys ∙ length-map rows (pick cols)) in
    let there : ArePositions (length rows) ps = subst (λ n. ArePositions n ps) long c.in_ok-places.ensures.there in
    let new-is : insert_all row_eq old keys ≡ old ++ map (λ i. get_or keys i []) ps =
    c.in_ok-places.ensures.new old keys (sym c.len-known.ensures.len) (c.as_slice.ensures.value ∙ c.in_ok-numbers.ensures.numbers) in
    let found-is : c.in_ok-found.found.rows ≡ map (λ i. get_or keys i []) ps =
    c.in_ok-found.ensures.rows ∙ (ap (map (pick cols)) (c.in_ok-fresh.ensures.rows ∙ ap (map (row c.args.batch.now)) c.as_slice-2.ensures.value) ∙ picked-at cols rows ps there) in
    c.in_ok-numbers.ensures.keys ∙ (new-is ∙ (λ j. c.self.view_is j ++ sym found-is j))

pub returns-clause-seen : goal.returns-clause-seen
returns-clause-seen c = λ xs is.
    let keys = map (pick c.args.columns.now) c.args.batch.now.rows in
    c.in_ok-numbers.ensures.keys ∙ (ap (λ ks. insert_all row_eq ks keys) (c.self.view_is ∙ is) ∙ firsts-all xs keys)

pub returns-clause-fewer : goal.returns-clause-fewer
returns-clause-fewer c =
    let rows = c.args.batch.now.rows in
    let keys = map (pick c.args.columns.now) rows in
    let old = c.args.self.now in
    let found = c.in_ok-found.found.rows in
    let kept = ap length (returns-clause-new c) ∙ length-append old found in
    let most = all-long c.self.inside.keys keys in
    let all = ap length c.in_ok-numbers.ensures.keys in
    let same = ap length c.self.view_is in
    let count = length-map rows (pick c.args.columns.now) in
    omega (arith, kept, most, all, same, count)
