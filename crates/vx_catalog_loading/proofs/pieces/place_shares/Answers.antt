use Rattle.std.proofs.Common.{◌≡◌, ◌∷◌, ◌∙◌, Ok, sym, subst, rules}
use Rattle.std.specs.Vec.Iter.{into_iter_items}
use Rattle.std.proofs.lemmas.List.Elements.{All-head, All-tail}
use Rattle.vx_catalog_loading.specs.Pieces.{IsShared, AreShared}
use Rattle.vx_catalog_loading.proofs.Drawn.{unread_parts}
use Rattle.vx_catalog_loading.proofs.pieces.place_shares.Goals as goal

pub loop-share-preserved : goal.loop-share-preserved
loop-share-preserved c =
    let inv = c.loop-share.invariant in
    let share = c.in-Some.share in
    let rest = into_iter_items c.next.new.self in
    let next : into_iter_items c.loop-share.share-iterator ≡ share ∷ rest = search rules in
    let was : share ≡ Ok c.in_ok-share.field-0 = c.in_ok-share.was in (
      tt,
      tt,
      c.place_reads.ensures.len ∙ inv.2,
      λ types text cuts all. All-tail (IsShared types text cuts) share rest (subst (AreShared types text cuts) next (inv.3 types text cuts all)),
      λ types text cuts all.
          c.place_reads.ensures.read types text cuts
          (subst (IsShared types text cuts) was (All-head (IsShared types text cuts) share rest (subst (AreShared types text cuts) next (inv.3 types text cuts all))))
          (inv.4 types text cuts all),
    )

pub loop-share-init : goal.loop-share-init
loop-share-init c =
    let same : into_iter_items c.into_iter-share-iterator.result ≡ c.args.shares.items = search rules in (
      tt,
      tt,
      c.in_ok-parts.ensures.len,
      λ types text cuts all. subst (AreShared types text cuts) (sym same) all,
      λ types text cuts all. unread_parts types text cuts c.in_ok-parts.parts.items c.in_ok-parts.ensures.none,
    )
