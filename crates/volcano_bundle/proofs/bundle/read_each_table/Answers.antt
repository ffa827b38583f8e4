use Rattle.std.proofs.Common.{◌≡◌, ◌∙◌, ℕ, List, ap, map, string_bytes}
use Rattle.std.proofs.lemmas.List.{map_push}
use Rattle.std.proofs.lemmas.Result.{err_from_is_err_and}
use Rattle.serde_json.specs.Find.{as_str}
use Rattle.volcano_bundle.specs.BundleView.{table_form}
use Rattle.volcano_bundle.proofs.MemberFacts.{member_more, member_none, member_done}
use Rattle.volcano_bundle.proofs.bundle.read_each_table.Goals as goal

pub returns-in_err-table : goal.returns-in_err-table
returns-in_err-table c =
    let l = c.loop-name in
    let p = err_from_is_err_and c.from_residual.result c.from_residual.ensures.1 in
    rw (p.1, p.2) (λ n. member_none as_str (map table_form l.tables.items) l.name-iterator (c.in-Some.name.now, c.in-Some.value.now) c.next.new.self _ c.in-Some.ensures.steps c.in_err-table.ensures.text.1 l.invariant)

pub loop-name-preserved : goal.loop-name-preserved
loop-name-preserved c =
    let l = c.loop-name in
    let t = c.in_ok-table.table in
    let e : table_form t ≡ (string_bytes c.in-Some.name.now, t.text.now) =
    ap (λ (s : List ℕ). let p : List ℕ × List ℕ = (s, t.text.now) in p) (c.in_ok-table.ensures.name ∙ c.as_str.ensures.value) in
    rw (c.in_ok-push.ensures.items, map_push table_form l.tables.items _, e)
    (member_more as_str (map table_form l.tables.items) l.name-iterator (c.in-Some.name.now, c.in-Some.value.now) c.next.new.self _ _ c.in-Some.ensures.steps c.in_ok-table.ensures.text l.invariant)

pub returns : goal.returns
returns c =
    let l = c.loop-name in
    member_done as_str (map table_form l.tables.items) l.name-iterator _ c.in-None.ensures.steps.0 l.invariant
