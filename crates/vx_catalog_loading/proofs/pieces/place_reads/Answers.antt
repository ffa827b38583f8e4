use Rattle.std.proofs.Common.{◌≡◌, ◌∷◌, ◌∙◌, subst, rules}
use Rattle.std.specs.Vec.Iter.{into_iter_items}
use Rattle.std.proofs.lemmas.List.Elements.{All-head, All-tail}
use Rattle.vx_catalog_loading.specs.Pieces.{IsDrawn, AreDrawn}
use Rattle.vx_catalog_loading.proofs.Drawn.{part_placed}
use Rattle.vx_catalog_loading.proofs.pieces.place_reads.Goals as goal

pub loop-drawn-preserved : goal.loop-drawn-preserved
loop-drawn-preserved c =
    let inv = c.loop-drawn.invariant in
    let drawn = c.in-Some.drawn in
    let rest = into_iter_items c.next.new.self in
    let next : into_iter_items c.loop-drawn.drawn-iterator ≡ drawn ∷ rest = search rules in (
      tt,
      tt,
      c.place.ensures.len ∙ inv.2,
      λ types text cuts all. All-tail (IsDrawn types text cuts) drawn rest (subst (AreDrawn types text cuts) next (inv.3 types text cuts all)),
      λ types text cuts all before.
          part_placed types text cuts c.loop-drawn.parts.items c.place.new.parts.items drawn (inv.4 types text cuts all before)
          (All-head (IsDrawn types text cuts) drawn rest (subst (AreDrawn types text cuts) next (inv.3 types text cuts all)))
          c.place.ensures.there c.place.ensures.beyond,
    )
