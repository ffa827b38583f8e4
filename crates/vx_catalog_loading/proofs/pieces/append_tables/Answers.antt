use Rattle.std.proofs.Common.{◌≡◌, ◌++◌, ◌∷◌, ap, sym, ◌∙◌, subst, rules}
use Rattle.std.specs.Vec.Iter.{into_iter_items}
use Rattle.std.proofs.lemmas.List.{append_assoc}
use Rattle.std.proofs.lemmas.List.Elements.{All-tail}
use Rattle.vx_rows.specs.Parts.{rows_of_all, HaveTypes}
use Rattle.vx_rows.specs.View.{RowsView}
use Rattle.vx_catalog_loading.proofs.pieces.append_tables.Goals as goal

pub loop-table-preserved : goal.loop-table-preserved
loop-table-preserved c =
    let inv = c.loop-table.invariant in
    let types = c.args.rows.now.types in
    let before = c.loop-table.rows.rows in
    let table = c.in-Some.table in
    let rest = into_iter_items c.next.new.self in
    let next : into_iter_items c.loop-table.table-iterator ≡ table ∷ rest = search rules in
    let all : HaveTypes types (table ∷ rest) = subst (HaveTypes types) next inv.3 in
    let added = c.in_ok-append.ensures.ok ∙ ap (λ (t : RowsView). before ++ t.rows) c.in_ok-of_table.ensures in (
      tt,
      tt,
      c.append.ensures.types ∙ inv.2,
      All-tail (λ t. t.types ≡ types) table rest all,
      inv.4 ∙ (ap (λ ts. before ++ rows_of_all ts) next ∙ (sym (append_assoc before table.rows (rows_of_all rest)) ∙ ap (λ rs. rs ++ rows_of_all rest) (sym added))),
    )
