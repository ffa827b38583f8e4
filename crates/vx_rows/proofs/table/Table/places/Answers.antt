use Rattle.std.proofs.Common.{◌∙◌, ap, sym, ◌++◌, ◌∷◌, []}
use Rattle.vx_rows.specs.Sorting.{place_of}
use Rattle.vx_rows.specs.Lists.{each_below}
use Rattle.vx_rows.proofs.Below.{each_below-next, each_below-none}
use Rattle.vx_rows.proofs.table.Table.places.Goals as goal

pub loop-i-init : goal.loop-i-init
loop-i-init c = c.in_ok-places.ensures.items ∙ sym (each_below-none (place_of c.args.order.now c.args.self.now.rows))

pub loop-i-preserved : goal.loop-i-preserved
loop-i-preserved c =
    let f = place_of c.args.order.now c.args.self.now.rows in
    let i = c.loop-i.i in
    c.in_ok-push.ensures.items ∙ (ap (λ l. l ++ c.place.result ∷ []) c.loop-i.invariant ∙ (ap (λ p. each_below i f ++ p ∷ []) c.place.ensures ∙ sym (each_below-next i f)))
