use Rattle.std.proofs.Common.{◌≡◌, ap, ◌∙◌}
use Rattle.std.specs.Bool.{Decides}
use Rattle.std.specs.Cmp.{booleans_Decides}
use Rattle.std.proofs.lemmas.Bool.Decides.{Decides-eqb, Decides-and}
use Rattle.std.proofs.lemmas.Slice.Eq.{slice_eq-Decides}
use Rattle.vx_rows_values.specs.contracts.order.OrderEntryPartialEq.TheImpl.{ghosts}
use Rattle.vx_rows_values.specs.declared.order.OrderEntry.{OrderEntry}
use Rattle.vx_catalog_finding.proofs.relation.are_same_orders.Goals as goal

entry_is : (a b : OrderEntry) → (a.column ≡ b.column) × (a.falling ≡ b.falling) → a ≡ b
entry_is a b h = ap (λ c. record { column = c; falling = a.falling }) h.0 ∙ ap (λ f. record { column = b.column; falling = f }) h.1

entry_decides : (a b : OrderEntry) → Decides (ghosts.eq a b) (a ≡ b)
entry_decides a b =
    let both = Decides-and _ _ (Decides-eqb a.column b.column) (booleans_Decides a.falling b.falling) in
    (λ h. entry_is a b (both.0 h), λ e. both.1 (ap (λ (x : OrderEntry). x.column) e, ap (λ (x : OrderEntry). x.falling) e))

pub returns : goal.returns
returns c = slice_eq-Decides entry_decides c.args.order.now c.args.others.now c.eq.result c.eq.ensures
