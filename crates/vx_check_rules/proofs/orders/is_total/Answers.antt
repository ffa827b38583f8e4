use Rattle.std.proofs.Common.{◌≡◌, ◌∙◌, ◌||◌, List, ℕ, false, sym, ap}
use Rattle.vx_rows_values.specs.Order.{order_columns}
use Rattle.vx_plan_nodes.specs.Outline.{claim_of}
use Rattle.vx_plan_nodes.specs.Phases.{first_columns}
use Rattle.vx_check_rules.specs.Rules.{contains, within, covers, numbers_below}
use Rattle.vx_check_rules.proofs.Bools.{or-false}
use Rattle.vx_check_rules.proofs.Exact.{all-first}
use Rattle.vx_check_rules.proofs.orders.is_total.Goals as goal

pub returns-else-are_covered : goal.returns-else-are_covered
returns-else-are_covered c =
    let w : ℕ = c.args.width in
    let order : List ℕ = order_columns (claim_of c.args.claim.now).order in
    let none : covers (claim_of c.args.claim.now).keys order ≡ false = rw (c.as_slice.ensures.value, c.as_slice-2.ensures.value) at (sym c.are_covered.ensures ∙ c.if-are_covered.false) in
    (rw c.as_slice.ensures.value at c.are_covered-else-are_covered.ensures)
    ∙ (or-false (within (first_columns w) order) ∙ (sym (all-first (contains order) w) ∙ ap (λ a. a || within (numbers_below w) order) (sym none)))
