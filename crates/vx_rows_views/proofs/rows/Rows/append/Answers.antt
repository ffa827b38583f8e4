use Rattle.std.proofs.Common.{◌≡◌, List, sym, ap, ◌∙◌, subst, length}
use Rattle.std.specs.Prelude.{All}
use Rattle.std.specs.Arc.{arc_slice_items}
use Rattle.std.specs.List.{AllByRecursion}
use Rattle.vx_rows_values.specs.declared.value.ColType.{ColType}
use Rattle.vx_rows_values.specs.Types.{Fits}
use Rattle.vx_rows.specs.View.{RowsView}
use Rattle.vx_rows_views.specs.declared.marks.Mark.{Mark}
use Rattle.vx_rows_views.specs.Chunks.{all_rows}
use Rattle.vx_rows_views.specs.Marks.{IsMark}
use Rattle.vx_rows_views.proofs.Marked.{marks-kept, joined-keep}
use Rattle.vx_rows_views.proofs.rows.Rows.append.Goals as goal

pub invariant_of-self-2 : goal.invariant_of-self-2
invariant_of-self-2 c =
    let xs = c.self.inside.chunks.items in
    let ys = c.others.inside.chunks.items in
    let ts = arc_slice_items c.self.inside.types in
    let here = c.self.invariant in
    let there = c.others.invariant in
    let alike : arc_slice_items c.others.inside.types ≡ ts =
    ap (λ (v : RowsView). v.types) c.others.view_is ∙ (c.requires ∙ sym (ap (λ (v : RowsView). v.types) c.self.view_is)) in
    let kept = subst (λ (us : List RowsView). All (IsMark us) c.mark_end.new.marks) c.as_slice.ensures.value c.mark_end.ensures in
    let theirs = subst (λ (ms : List Mark). All (IsMark ys) ms) (sym c.as_slice-2.ensures) there.3 in
    let marks = c.add_marks.ensures xs ys (c.len-before.ensures ∙ (sym c.as_slice.ensures.len ∙ ap length c.as_slice.ensures.value)) here.0 (marks-kept xs ys c.mark_end.new.marks kept) theirs in
    joined-keep ts xs ys c.append.new.self.items c.add_marks.new.marks c.self.inside.count c.others.inside.count c.in-Some.count
    c.in_ok-append.ensures.items c.in-Some.ensures.1 (here.0, here.1, here.2)
    (there.0, subst (λ (us : List ColType). All (λ t. t.types ≡ us) ys) alike there.1, subst (λ (us : List ColType). AllByRecursion (Fits us) (all_rows ys)) alike there.2) marks
