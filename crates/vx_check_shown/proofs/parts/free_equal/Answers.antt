use Rattle.std.proofs.Common.{◌≡◌, ◌∙◌, ◌<◌, sym, ap, arith, ℕ, Bool, ◌&&◌, not, cond, true, Some}
use Rattle.vx_plan_facts.specs.FactsView.{width_of}
use Rattle.vx_check_rules.specs.DerivedView.{equality_of}
use Rattle.vx_check_rules.specs.Rules.{contains}
use Rattle.vx_check_shown.proofs.FirstColumns.{first_from, first-here, first-later, first-none}
use Rattle.vx_check_shown.proofs.parts.free_equal.Goals as goal

pub returns-then-is_free : goal.returns-then-is_free
returns-then-is_free c =
    let test : ℕ → Bool = λ d. equality_of c.args.facts.now c.args.column d && not (contains c.args.taken.now d) in
    let w : ℕ = width_of c.args.facts.now in
    let within : c.loop-other.other < w = omega arith in
    let gone : contains c.args.taken.now c.args.column ≡ true = sym c.is_taken.ensures ∙ c.if-not-is_taken.false in
    sym (ap (λ b. cond b (first_from 0 w test) (Some c.args.column)) gone
    ∙ c.loop-other.invariant ∙ first-here c.loop-other.other w test within (sym c.is_free.ensures ∙ c.if-is_free.true))

pub loop-other-preserved : goal.loop-other-preserved
loop-other-preserved c =
    let test : ℕ → Bool = λ d. equality_of c.args.facts.now c.args.column d && not (contains c.args.taken.now d) in
    let within : c.loop-other.other < width_of c.args.facts.now = omega arith in
    c.loop-other.invariant ∙ first-later c.loop-other.other (width_of c.args.facts.now) test within (sym c.is_free.ensures ∙ c.if-is_free.false)

pub returns : goal.returns
returns c =
    let test : ℕ → Bool = λ d. equality_of c.args.facts.now c.args.column d && not (contains c.args.taken.now d) in
    let w : ℕ = width_of c.args.facts.now in
    let gone : contains c.args.taken.now c.args.column ≡ true = sym c.is_taken.ensures ∙ c.if-not-is_taken.false in
    sym (ap (λ b. cond b (first_from 0 w test) (Some c.args.column)) gone
    ∙ c.loop-other.invariant ∙ first-none c.loop-other.other w test (omega arith))
