use Rattle.std.proofs.Common.{◌≡◌, ◌<◌, ◌+◌, ◌++◌, ◌∷◌, [], ◌∙◌, ap, sym, length, rules, false, take, slice_index_or, add-one}
use Rattle.std.proofs.Math.Seq.{take-suc}
use Rattle.vx_rows_values.specs.declared.order.OrderEntry.{OrderEntry}
use Rattle.vx_catalog.specs.Loading.{in_place}
use Rattle.vx_catalog.proofs.PlacedFacts.{in-place-next}
use Rattle.vx_catalog.proofs.loader.in_place.Goals as goal

pub loop-column-preserved : goal.loop-column-preserved
loop-column-preserved c =
    let order = c.args.order.now in
    let i = c.loop-column.column in
    let none : OrderEntry = record { column = 0; falling = false } in
    let entry : OrderEntry = slice_index_or order i none in
    let near : i < length order = search rules in
    let pushed : c.push.new.self.items ≡ c.loop-column.found.items ++ record { column = i; falling = entry.falling } ∷ [] = search rules in
    let long : length (take i order) ≡ i = search rules in
    let more : take (i + 1) order ≡ take i order ++ entry ∷ [] = rw add-one (take-suc order i none near) in
    pushed ∙ (ap (λ es. es ++ record { column = i; falling = entry.falling } ∷ []) c.loop-column.invariant ∙ sym (ap in_place more ∙ in-place-next (take i order) entry i long))
