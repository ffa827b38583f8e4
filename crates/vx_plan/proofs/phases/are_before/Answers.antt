use Rattle.std.proofs.Common.{sym, ◌∙◌, ℕ, nat_lt}
use Rattle.vx_rows_values.specs.declared.order.OrderEntry.{OrderEntry}
use Rattle.std.proofs.lemmas.List.Folds.{list_all-map}
use Rattle.vx_plan.proofs.phases.are_before.Goals as goal

pub returns : goal.returns
returns c = c.all_before.ensures ∙ sym (list_all-map (λ (k : ℕ). nat_lt k c.args.end) (λ (e : OrderEntry). e.column) c.args.order.now)
