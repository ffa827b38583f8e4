use Rattle.std.proofs.Common.{◌≡◌, ◌∙◌, ◌+◌, ◌++◌, ◌∷◌, ◌<◌, List, ℕ, length, drop, cond, Some, ap, sym, eqb, arith, slice_get, refl}
use Rattle.std.proofs.lemmas.List.{append-nil, at_drop_all}
use Rattle.std.specs.Option.{option_eq}
use Rattle.vx_plan_nodes.specs.DescribeView.{kept_columns}
use Rattle.vx_check_options.specs.Options.{places_from}
use Rattle.vx_check_options.proofs.CopyLists.{places-step, found-here, found-later}
use Rattle.vx_check_options.proofs.copies.add_kept.Goals as goal
use Rattle.vx_check_options.proofs.copies.add_kept.Goals.{then-eq+in_ok-push, else-eq}

pub loop-place-preserved : goal.loop-place-preserved
loop-place-preserved c =
    let kept : List ℕ = kept_columns c.args.kept in
    let n : ℕ = c.loop-place.place in
    let within : n < length kept = omega (arith, c.loop-place-test.true, c.len-place-end.ensures) in
    let more : List ℕ = places_from (n + 1) (drop (n + 1) kept) c.args.column in
    let step : c.args.found.now.items ++ places_from 0 kept c.args.column ≡ c.loop-place.found.items ++ cond (option_eq eqb (slice_get kept n) (Some c.args.column)) (n ∷ more) more =
    c.loop-place.invariant ∙ ap (λ xs. c.loop-place.found.items ++ xs) (places-step kept n c.args.column within) in
    let test : c.eq.result ≡ option_eq eqb (slice_get kept n) (Some c.args.column) = rw c.get.ensures at c.eq.ensures in
    elim c.if-eq.branch [
      | then-eq+in_ok-push w ↦ rw (w.found-is, w.in_ok-push.ensures.items) (found-here _ n _ more _ step (sym test ∙ w.if-eq.true))
      | else-eq w ↦ rw w.found-is (found-later _ n _ more _ step (sym test ∙ w.if-eq.false))
    ]

pub loop-place-init : goal.loop-place-init
loop-place-init c = refl

pub returns : goal.returns
returns c =
    let before : List ℕ = c.loop-place.found.items in
    let all : List ℕ → List ℕ = λ ks. before ++ places_from c.loop-place.place ks c.args.column in
    sym (c.loop-place.invariant ∙ at_drop_all all (kept_columns c.args.kept) c.loop-place.place (omega (arith, c.loop-place-test.false, c.len-place-end.ensures)) ∙ append-nil before)
