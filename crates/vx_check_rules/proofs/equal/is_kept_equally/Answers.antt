use Rattle.std.proofs.Common.{◌∙◌, sym, ap, arith, ℕ, Bool, ◌<◌, List, length}
use Rattle.vx_plan_nodes.specs.DescribeView.{kept_columns}
use Rattle.vx_plan_facts.specs.Determined.{column_in}
use Rattle.vx_check_rules.specs.DerivedView.{equality_of}
use Rattle.vx_check_rules.proofs.EqualFacts.{any-passes, any-fails}
use Rattle.vx_check_rules.proofs.equal.is_kept_equally.Goals as goal

pub returns-then-is_equal_to : goal.returns-then-is_equal_to
returns-then-is_equal_to c =
    let f : ℕ → Bool = equality_of c.args.facts.now c.args.column in
    let kept : List ℕ = kept_columns c.args.kept in
    let within : c.loop-i.i < length kept = omega arith in
    sym (c.loop-i.invariant ∙ any-passes f kept c.loop-i.i within (ap (column_in f) (sym c.get.ensures) ∙ (sym c.is_equal_to.ensures.own ∙ c.if-is_equal_to.true)))

pub loop-i-preserved : goal.loop-i-preserved
loop-i-preserved c =
    let f : ℕ → Bool = equality_of c.args.facts.now c.args.column in
    let kept : List ℕ = kept_columns c.args.kept in
    let within : c.loop-i.i < length kept = omega arith in
    c.loop-i.invariant ∙ any-fails f kept c.loop-i.i within (ap (column_in f) (sym c.get.ensures) ∙ (sym c.is_equal_to.ensures.own ∙ c.if-is_equal_to.false))
