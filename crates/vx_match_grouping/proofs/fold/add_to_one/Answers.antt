use Rattle.std.proofs.Common.{◌<◌, ◌∙◌, ℕ, arith, length, take, take_all, get_or, [], sym, ap, subst}
use Rattle.vx_match_keys.proofs.ErrorFacts.{reported}
use Rattle.vx_match_grouping.specs.Groups.{Held, advance}
use Rattle.vx_match_grouping.specs.GroupFaults.{StepBlame}
use Rattle.vx_match_grouping.specs.Takes.{entry_held, advance_all}
use Rattle.vx_match_grouping.proofs.GroupFacts.{advance-more}
use Rattle.vx_match_grouping.proofs.fold.add_to_one.Goals as goal

pub loop-i-preserved : goal.loop-i-preserved
loop-i-preserved g c =
    let held = entry_held (g.F.Fold.aggregate c.args.fold.now) g.F.Fold.value g.F.Fold.taken in
    let rows = g.F.Fold.rows c.args.fold.now in
    let i = c.loop-i.i in
    let test = c.loop-i-test.true in
    let near : i < length rows = omega (arith, test, c.requires) in
    c.in_ok-add.ensures.ok ∙ (ap (advance (get_or rows i [])) c.loop-i.invariant ∙ sym (advance-more rows i (held c.args.entry.now) near))

pub returns-clause-taken : goal.returns-clause-taken
returns-clause-taken g c =
    let held = entry_held (g.F.Fold.aggregate c.args.fold.now) g.F.Fold.value g.F.Fold.taken in
    let rows = g.F.Fold.rows c.args.fold.now in
    let i = c.loop-i.i in
    let test = c.loop-i-test.false in
    c.loop-i.invariant ∙ ap (λ ys. advance_all ys (held c.args.entry.now)) (take_all i rows (omega (arith, test, c.requires)))

pub returns-in_err-add-clause-err : goal.returns-in_err-add-clause-err
returns-in_err-add-clause-err g c =
    let held = entry_held (g.F.Fold.aggregate c.args.fold.now) g.F.Fold.value g.F.Fold.taken in
    let rows = g.F.Fold.rows c.args.fold.now in
    let i = c.loop-i.i in
    let test = c.loop-i-test.true in
    let near : i < length rows = omega (arith, test, c.requires) in
    let e = c.in_err-add.field-0.0 in
    reported c.from_residual.result e (λ x. (i : ℕ) × ((i < length rows) × StepBlame x (advance_all (take i rows) (held c.args.entry.now)).taken)) c.from_residual.ensures.1
    (i, (near, subst (λ (h : Held). StepBlame e h.taken) c.loop-i.invariant c.in_err-add.ensures.err))
