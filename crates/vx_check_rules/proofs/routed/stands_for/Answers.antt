use Rattle.std.proofs.Common.{◌∙◌, ◌<◌, sym, ap, arith, ℕ, Bool, ◌&&◌, ◌||◌}
use Rattle.vx_plan_nodes.specs.Describe.{source}
use Rattle.vx_plan_nodes.specs.DescribeView.{copying_of}
use Rattle.vx_plan_facts.specs.Determined.{column_in}
use Rattle.vx_plan_facts.specs.FactsView.{width_of}
use Rattle.vx_plan_facts.proofs.ColumnSets.{any-at, any-push}
use Rattle.vx_check_rules.specs.DerivedView.{equality_of}
use Rattle.vx_check_rules.proofs.routed.stands_for.Goals as goal

pub returns-then-stands_between : goal.returns-then-stands_between
returns-then-stands_between c =
    let test : ℕ → Bool = λ d. equality_of c.args.output.now d c.args.column && column_in (λ y. equality_of c.args.input.now y c.args.other) (source (copying_of c.args.copying) d) in
    let within : c.loop-between.between < width_of c.args.output.now = omega arith in
    sym (any-at test (width_of c.args.output.now) c.loop-between.between within (sym c.stands_between.ensures ∙ c.if-stands_between.true))

pub loop-between-preserved : goal.loop-between-preserved
loop-between-preserved c =
    let test : ℕ → Bool = λ d. equality_of c.args.output.now d c.args.column && column_in (λ y. equality_of c.args.input.now y c.args.other) (source (copying_of c.args.copying) d) in
    any-push test c.loop-between.between
    ∙ (ap (λ b. b || test c.loop-between.between) c.loop-between.invariant ∙ (sym c.stands_between.ensures ∙ c.if-stands_between.false))
