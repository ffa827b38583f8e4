use Rattle.std.proofs.Common.{ℕ, Bool, ◌==◌, not, ap, refl, sym, get_or, arith}
use Rattle.std.specs.List.{filter}
use Rattle.std.proofs.lemmas.Bool.{ne_eqb}
use Rattle.vx_check_options.proofs.LoopLists.{whole, filter-next, filter-skip, same-eqb}
use Rattle.vx_check_options.proofs.keys.without.Goals as goal
use Rattle.vx_check_options.proofs.keys.without.Goals.{then-other-column+in_ok-push, else-other-column}

pub loop-other-preserved : goal.loop-other-preserved
loop-other-preserved c =
    let test : ℕ → Bool = λ other. not (other == c.args.column) in
    let here : ℕ = get_or c.args.columns.now c.loop-other.other-index 0 in
    elim c.if-other-column.branch [
      | then-other-column+in_ok-push w ↦
          rw (w.others-is, w.in_ok-push.ensures.items) (filter-next test c.args.columns.now c.loop-other.other-index 0 _ _ c.loop-other-test.true c.loop-other.invariant (sym (ap not (ne_eqb here c.args.column w.if-other-column.true))) refl)
      | else-other-column w ↦
          rw w.others-is (filter-skip test c.args.columns.now c.loop-other.other-index 0 _ _ c.loop-other-test.true c.loop-other.invariant (sym (ap not (same-eqb here c.args.column w.if-other-column.false))) refl)
    ]

pub loop-other-init : goal.loop-other-init
loop-other-init c = c.new-others.ensures.items

pub returns : goal.returns
returns c =
    let test : ℕ → Bool = λ other. not (other == c.args.column) in
    whole (filter test) c.args.columns.now c.loop-other.other-index _ (omega (arith, c.loop-other-test.false)) c.loop-other.invariant
