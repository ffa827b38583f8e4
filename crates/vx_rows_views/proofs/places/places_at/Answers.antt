use Rattle.std.proofs.Common.{◌≡◌, ap, ◌∙◌, get_or, pos, subst}
use Rattle.std.specs.Prelude.{ℕ, ℤ, List, true, All, IfOk, IfSome}
use Rattle.std.proofs.lemmas.List.{map-id}
use Rattle.std.proofs.lemmas.List.Elements.{All-map}
use Rattle.vx_rows_values.specs.Values.{num}
use Rattle.vx_rows_views.specs.Selected.{of_number, places_of}
use Rattle.vx_rows_views.proofs.Found.{none-moved}
use Rattle.vx_rows_views.proofs.Passing.{places-map}
use Rattle.vx_rows_views.proofs.places.places_at.Goals as goal

pub returns-in-Narrow-clause-some : goal.returns-in-Narrow-clause-some
returns-in-Narrow-clause-some g c =
    let says = g.T.NumberTest.says c.args.test.now in
    let place = g.P.Position.place in
    let positions = c.args.positions.now in
    let same = map-id c.in-Narrow.narrow.now ∙ c.in-Narrow.ensures in
    subst (λ (ks : List ℕ). IfOk c.passing_at.result (λ o. IfSome o (λ v. v.items ≡ ks)))
    (ap (λ (ns : List ℤ). places_of (λ p. says (get_or ns (place p) (pos 0))) positions) same ∙ places-map (of_number says) (λ p. num (get_or c.args.numbers.now (place p) (pos 0))) positions)
    c.passing_at.ensures.some

pub returns-in-Narrow-clause-all : goal.returns-in-Narrow-clause-all
returns-in-Narrow-clause-all g c =
    let says = g.T.NumberTest.says c.args.test.now in
    let place = g.P.Position.place in
    let positions = c.args.positions.now in
    let same = map-id c.in-Narrow.narrow.now ∙ c.in-Narrow.ensures in
    none-moved c.passing_at.result (λ h. All-map (λ v. of_number says v ≡ true) (λ p. num (get_or c.args.numbers.now (place p) (pos 0))) positions
    (subst (λ (ns : List ℤ). All (λ p. says (get_or ns (place p) (pos 0)) ≡ true) positions) same h))
    c.passing_at.ensures.all

pub returns-in-Wide-clause-some : goal.returns-in-Wide-clause-some
returns-in-Wide-clause-some g c =
    let says = g.T.NumberTest.says c.args.test.now in
    let place = g.P.Position.place in
    let positions = c.args.positions.now in
    let same = map-id c.in-Wide.wide.now ∙ c.in-Wide.ensures in
    subst (λ (ks : List ℕ). IfOk c.passing_at-in-Wide.result (λ o. IfSome o (λ v. v.items ≡ ks)))
    (ap (λ (ns : List ℤ). places_of (λ p. says (get_or ns (place p) (pos 0))) positions) same ∙ places-map (of_number says) (λ p. num (get_or c.args.numbers.now (place p) (pos 0))) positions)
    c.passing_at-in-Wide.ensures.some

pub returns-in-Wide-clause-all : goal.returns-in-Wide-clause-all
returns-in-Wide-clause-all g c =
    let says = g.T.NumberTest.says c.args.test.now in
    let place = g.P.Position.place in
    let positions = c.args.positions.now in
    let same = map-id c.in-Wide.wide.now ∙ c.in-Wide.ensures in
    none-moved c.passing_at-in-Wide.result (λ h. All-map (λ v. of_number says v ≡ true) (λ p. num (get_or c.args.numbers.now (place p) (pos 0))) positions
    (subst (λ (ns : List ℤ). All (λ p. says (get_or ns (place p) (pos 0)) ≡ true) positions) same h))
    c.passing_at-in-Wide.ensures.all
