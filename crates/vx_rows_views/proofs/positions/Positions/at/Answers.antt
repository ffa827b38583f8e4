use Rattle.std.specs.Prelude.{slice_range, IfOk}
use Rattle.std.proofs.Common.{◌≡◌, ◌<◌, ◌+◌, ℕ, List, arith, rules, ap, ◌∙◌, subst, length, get_or, map}
use Rattle.std.specs.Arc.{arc_value}
use Rattle.vx_rows_views.proofs.Columns.{run-within, run-at}
use Rattle.vx_rows_views.proofs.Facts.{count-seen, range-seen, part-seen, moved-all}
use Rattle.vx_rows_views.proofs.positions.Positions.at.Goals as goal

pub overflow_add-places : goal.overflow_add-places
overflow_add-places c =
    let places = c.args.places.now in
    let some : 0 < length places = search rules in
    let within = run-within c.args.self.now places (get_or places 0 0) (c.are_counted_from.ensures.0 c.if-are_counted_from.true) c.requires some in
    omega (arith, within, c.len-count.ensures)

pub slice-requires-clause-there : goal.slice-requires-clause-there
slice-requires-clause-there c =
    let places = c.args.places.now in
    let some : 0 < length places = search rules in
    run-within c.args.self.now places (get_or places 0 0) (c.are_counted_from.ensures.0 c.if-are_counted_from.true) c.requires some

pub returns-then-are_counted_from : goal.returns-then-are_counted_from
returns-then-are_counted_from c =
    let places = c.args.places.now in
    let some : 0 < length places = search rules in
    let is = c.are_counted_from.ensures.0 c.if-are_counted_from.true in
    let within = run-within c.args.self.now places (get_or places 0 0) is c.requires some in
    subst (λ (xs : List ℕ). IfOk c.slice.result (λ s. s ≡ xs)) (run-at c.args.self.now places (get_or places 0 0) is within) c.slice.ensures

pub moved-requires-clause-there : goal.moved-requires-clause-there
moved-requires-clause-there c = λ k d h. let r = c.requires k d h in omega (arith, r, count-seen arc_value c.self.view_is c.self.invariant)

pub at-requires-clause-places : goal.at-requires-clause-places
at-requires-clause-places c = λ k d h. let r = c.requires k d h in omega (arith, r, count-seen arc_value c.self.view_is c.self.invariant)

pub returns-in_ok-list-in-None : goal.returns-in_ok-list-in-None
returns-in_ok-list-in-None c =
    c.in_ok-list-in-None.ensures
    ∙ (c.in_ok-positions-in-None.ensures
    ∙ moved-all c.self.inside.from c.args.places.now c.args.self.now c.requires (λ k h. range-seen arc_value c.self.view_is c.self.invariant k c.in-None.is h))

pub returns-in_ok-list-in-Some : goal.returns-in_ok-list-in-Some
returns-in_ok-list-in-Some c =
    let e =
    ap (λ xs. slice_range xs c.self.inside.from (c.self.inside.from + c.self.inside.count)) c.deref.ensures ∙ part-seen arc_value c.self.view_is c.self.invariant c.in-Some.listed c.in-Some.is
    in
    c.in_ok-list-in-Some.ensures ∙ (c.in_ok-positions-in-Some.ensures ∙ ap (λ xs. map (λ i. get_or xs i 0) c.args.places.now) e)
