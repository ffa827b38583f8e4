use Rattle.std.proofs.Common.{◌≡◌, ◌∙◌, ◌+◌, ◌++◌, ◌∷◌, ◌<◌, List, ℕ, Option, length, map, drop, cond, Some, ap, sym, eqb, arith, refl}
use Rattle.std.proofs.lemmas.List.{append-nil, at_drop_all, length-map}
use Rattle.std.specs.Option.{option_eq}
use Rattle.vx_plan_nodes.specs.Describe.{entries_kept, kept_column, source}
use Rattle.vx_plan_nodes.specs.Outline.{entry_of}
use Rattle.vx_check_options.specs.Options.{entries_from}
use Rattle.vx_check_options.proofs.CopyLists.{entries-step, found-here, found-later}
use Rattle.vx_check_options.proofs.copies.add_entries.Goals as goal
use Rattle.vx_check_options.proofs.copies.add_entries.Goals.{then-eq+in_ok-push, else-eq}

pub loop-place-preserved : goal.loop-place-preserved
loop-place-preserved c =
    let ks : List (Option ℕ) = map (λ e. kept_column (entry_of e)) c.args.entries.now in
    let n : ℕ = c.loop-place.place in
    let long : length ks ≡ length c.args.entries.now = length-map c.args.entries.now (λ e. kept_column (entry_of e)) in
    let within : n < length ks = omega (arith, c.loop-place-test.true, long) in
    let more : List ℕ = entries_from (n + 1) (drop (n + 1) ks) c.args.column in
    let step : c.args.found.now.items ++ entries_from 0 ks c.args.column ≡ c.loop-place.found.items ++ cond (option_eq eqb (source (entries_kept ks) n) (Some c.args.column)) (n ∷ more) more =
    c.loop-place.invariant ∙ ap (λ xs. c.loop-place.found.items ++ xs) (entries-step ks n c.args.column within) in
    let test : c.eq.result ≡ option_eq eqb (source (entries_kept ks) n) (Some c.args.column) = rw c.source.ensures at c.eq.ensures in
    elim c.if-eq.branch [
      | then-eq+in_ok-push w ↦ rw (w.found-is, w.in_ok-push.ensures.items) (found-here _ n _ more _ step (sym test ∙ w.if-eq.true))
      | else-eq w ↦ rw w.found-is (found-later _ n _ more _ step (sym test ∙ w.if-eq.false))
    ]

pub loop-place-init : goal.loop-place-init
loop-place-init c = refl

pub returns : goal.returns
returns c =
    let ks : List (Option ℕ) = map (λ e. kept_column (entry_of e)) c.args.entries.now in
    let long : length ks ≡ length c.args.entries.now = length-map c.args.entries.now (λ e. kept_column (entry_of e)) in
    let before : List ℕ = c.loop-place.found.items in
    let all : List (Option ℕ) → List ℕ = λ xs. before ++ entries_from c.loop-place.place xs c.args.column in
    sym (c.loop-place.invariant ∙ at_drop_all all ks c.loop-place.place (omega (arith, c.loop-place-test.false, long)) ∙ append-nil before)
