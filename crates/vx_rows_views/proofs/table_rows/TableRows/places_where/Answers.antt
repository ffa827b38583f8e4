use Rattle.std.proofs.Common.{◌≡◌, ℕ, ◌<◌, [], arith, ap, ◌∙◌, length, get_or, map, pos, subst}
use Rattle.std.specs.Arc.{arc_value}
use Rattle.vx_rows_values.specs.Values.{num, value_at}
use Rattle.vx_rows.specs.View.{RowsView}
use Rattle.vx_rows_views.specs.Selected.{of_number}
use Rattle.vx_rows_views.proofs.Columns.{column-at, range-near}
use Rattle.vx_rows_views.proofs.Found.{some-found, each-found}
use Rattle.vx_rows_views.proofs.table_rows.TableRows.places_where.Goals as goal

pub part_of-part-requires : goal.part_of-part-requires
part_of-part-requires g c = λ k h.
    let r = range-near _ c.in-Range.from c.in-Range.count c.self.inside.at c.in-Range.ensures c.self.invariant k h in
    let e = ap (λ t. length t.rows) c.deref.ensures in
    let l = c.in-Some.ensures.long in
    omega (arith, r, e, l)

pub returns-in-Range-clause-some : goal.returns-in-Range-clause-some
returns-in-Range-clause-some g c =
    let numbers = c.in-Some.numbers.now in
    let base = arc_value c.self.inside.base in
    let values : (k : ℕ) → k < length base.rows → value_at (get_or base.rows k []) c.args.column ≡ num (get_or numbers k (pos 0)) = subst (λ (t : RowsView). (k : ℕ) → k < length t.rows → value_at (get_or t.rows k []) c.args.column ≡ num (get_or numbers k (pos 0))) c.deref.ensures c.in-Some.ensures.values in
    some-found (of_number (g.T.NumberTest.says c.args.test.now)) (λ r. value_at r c.args.column) c.args.self.now.rows _ c.places_in.result
    (c.part_of-part.ensures ∙ (ap (map (λ q. num (get_or numbers q (pos 0)))) c.in-Range.ensures
    ∙ (column-at numbers base.rows c.args.column c.self.inside.at values c.self.invariant ∙ ap (λ t. map (λ r. value_at r c.args.column) t.rows) c.self.view_is)))
    c.places_in.ensures.some

pub returns-in-Range-clause-all : goal.returns-in-Range-clause-all
returns-in-Range-clause-all g c =
    let numbers = c.in-Some.numbers.now in
    let base = arc_value c.self.inside.base in
    let values : (k : ℕ) → k < length base.rows → value_at (get_or base.rows k []) c.args.column ≡ num (get_or numbers k (pos 0)) = subst (λ (t : RowsView). (k : ℕ) → k < length t.rows → value_at (get_or t.rows k []) c.args.column ≡ num (get_or numbers k (pos 0))) c.deref.ensures c.in-Some.ensures.values in
    each-found (of_number (g.T.NumberTest.says c.args.test.now)) (λ r. value_at r c.args.column) c.args.self.now.rows _ c.places_in.result
    (c.part_of-part.ensures ∙ (ap (map (λ q. num (get_or numbers q (pos 0)))) c.in-Range.ensures
    ∙ (column-at numbers base.rows c.args.column c.self.inside.at values c.self.invariant ∙ ap (λ t. map (λ r. value_at r c.args.column) t.rows) c.self.view_is)))
    c.places_in.ensures.all

pub returns-in-Narrow-clause-some : goal.returns-in-Narrow-clause-some
returns-in-Narrow-clause-some g c =
    let numbers = c.in-Some.numbers.now in
    let base = arc_value c.self.inside.base in
    let values : (k : ℕ) → k < length base.rows → value_at (get_or base.rows k []) c.args.column ≡ num (get_or numbers k (pos 0)) = subst (λ (t : RowsView). (k : ℕ) → k < length t.rows → value_at (get_or t.rows k []) c.args.column ≡ num (get_or numbers k (pos 0))) c.deref.ensures c.in-Some.ensures.values in
    some-found (of_number (g.T.NumberTest.says c.args.test.now)) (λ r. value_at r c.args.column) c.args.self.now.rows _ c.places_at.result
    (ap (map (λ q. num (get_or numbers q (pos 0)))) c.in-Narrow.ensures
    ∙ (column-at numbers base.rows c.args.column c.self.inside.at values c.self.invariant ∙ ap (λ t. map (λ r. value_at r c.args.column) t.rows) c.self.view_is))
    c.places_at.ensures.some

pub returns-in-Narrow-clause-all : goal.returns-in-Narrow-clause-all
returns-in-Narrow-clause-all g c =
    let numbers = c.in-Some.numbers.now in
    let base = arc_value c.self.inside.base in
    let values : (k : ℕ) → k < length base.rows → value_at (get_or base.rows k []) c.args.column ≡ num (get_or numbers k (pos 0)) = subst (λ (t : RowsView). (k : ℕ) → k < length t.rows → value_at (get_or t.rows k []) c.args.column ≡ num (get_or numbers k (pos 0))) c.deref.ensures c.in-Some.ensures.values in
    each-found (of_number (g.T.NumberTest.says c.args.test.now)) (λ r. value_at r c.args.column) c.args.self.now.rows _ c.places_at.result
    (ap (map (λ q. num (get_or numbers q (pos 0)))) c.in-Narrow.ensures
    ∙ (column-at numbers base.rows c.args.column c.self.inside.at values c.self.invariant ∙ ap (λ t. map (λ r. value_at r c.args.column) t.rows) c.self.view_is))
    c.places_at.ensures.all

pub returns-in-Wide-clause-some : goal.returns-in-Wide-clause-some
returns-in-Wide-clause-some g c =
    let numbers = c.in-Some.numbers.now in
    let base = arc_value c.self.inside.base in
    let values : (k : ℕ) → k < length base.rows → value_at (get_or base.rows k []) c.args.column ≡ num (get_or numbers k (pos 0)) = subst (λ (t : RowsView). (k : ℕ) → k < length t.rows → value_at (get_or t.rows k []) c.args.column ≡ num (get_or numbers k (pos 0))) c.deref.ensures c.in-Some.ensures.values in
    some-found (of_number (g.T.NumberTest.says c.args.test.now)) (λ r. value_at r c.args.column) c.args.self.now.rows _ c.places_at-in-Wide.result
    (ap (map (λ q. num (get_or numbers q (pos 0)))) c.in-Wide.ensures
    ∙ (column-at numbers base.rows c.args.column c.self.inside.at values c.self.invariant ∙ ap (λ t. map (λ r. value_at r c.args.column) t.rows) c.self.view_is))
    c.places_at-in-Wide.ensures.some

pub returns-in-Wide-clause-all : goal.returns-in-Wide-clause-all
returns-in-Wide-clause-all g c =
    let numbers = c.in-Some.numbers.now in
    let base = arc_value c.self.inside.base in
    let values : (k : ℕ) → k < length base.rows → value_at (get_or base.rows k []) c.args.column ≡ num (get_or numbers k (pos 0)) = subst (λ (t : RowsView). (k : ℕ) → k < length t.rows → value_at (get_or t.rows k []) c.args.column ≡ num (get_or numbers k (pos 0))) c.deref.ensures c.in-Some.ensures.values in
    each-found (of_number (g.T.NumberTest.says c.args.test.now)) (λ r. value_at r c.args.column) c.args.self.now.rows _ c.places_at-in-Wide.result
    (ap (map (λ q. num (get_or numbers q (pos 0)))) c.in-Wide.ensures
    ∙ (column-at numbers base.rows c.args.column c.self.inside.at values c.self.invariant ∙ ap (λ t. map (λ r. value_at r c.args.column) t.rows) c.self.view_is))
    c.places_at-in-Wide.ensures.all
