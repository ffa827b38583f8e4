use Rattle.std.proofs.Common.{nat_lt, map, sym, ap, ◌∙◌}
use Rattle.std.specs.List.{list_all}
use Rattle.vx_plan_facts.specs.FactsView.{facts_of}
use Rattle.vx_plan_facts.specs.ColumnSetView.{set_of_columns}
use Rattle.vx_plan_facts.proofs.ColumnSets.{held-few}
use Rattle.vx_plan_facts.proofs.ClosingFacts.{any-map, closed-keyed, closed-unkeyed}
use Rattle.vx_plan_facts.proofs.closing.closed.Goals as goal

pub returns-then-has_key : goal.returns-then-has_key
returns-then-has_key c e f keep =
    let found = set_of_columns c.with_equal-found.result in
    let keys = c.args.keys.now in
    closed-keyed (facts_of c.args.own.now) e f keep c.requires (set_of_columns c.args.set.now) found (held-few c.with_equal-found.result)
    c.with_equal-found.ensures (map (λ k. k.items) keys) (any-map (list_all found) (λ k. k.items) keys ∙ sym c.if-has_key.ensures)
    (set_of_columns c.first.result) (held-few c.first.result) (λ x l. c.first.ensures x l ∙ ap (λ n. nat_lt x n) c.width.ensures)

pub returns : goal.returns
returns c e f keep =
    let found = set_of_columns c.with_equal-found.result in
    let keys = c.args.keys.now in
    closed-unkeyed (facts_of c.args.own.now) e f keep c.requires (set_of_columns c.args.set.now) found (held-few c.with_equal-found.result)
    c.with_equal-found.ensures (map (λ k. k.items) keys) (any-map (list_all found) (λ k. k.items) keys ∙ sym c.if-has_key.ensures)
