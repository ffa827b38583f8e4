use Rattle.std.proofs.Common.{◌^◌, ◌<◌, ◌∙◌, sym, true≢false, eqb-true, eq-eqb, bit_and, arith}
use Rattle.vx_plan_facts.proofs.ColumnSets.{bits-within, bit-missing}
use Rattle.vx_plan_facts.proofs.column_set.ColumnSet.is_within.Goals as goal

pub returns-clause-all : goal.returns-clause-all
returns-clause-all c h x e =
    let a = c.args.self.now.held in
    let b = c.args.others.now.held in
    bits-within a b x (eqb-true (bit_and a b) a h) e

pub returns-clause-one : goal.returns-clause-one
returns-clause-one c h =
    let a = c.args.self.now.held in
    let b = c.args.others.now.held in
    let few : a < 2 ^ 64 = omega arith in
    bit-missing a b few (λ e. true≢false (sym (eq-eqb (bit_and a b) a e) ∙ h))
