use Rattle.std.proofs.Common.{◌≡◌, ℕ, List, vec_len}
use Rattle.std.specs.Vec.Iter.{into_iter_items}
use Rattle.vx_rows_values.specs.declared.value.ColType.{ColType}
use Rattle.vx_catalog_loading.specs.Pieces.{AreShared, ArePartsRead}
use Rattle.vx_catalog_loading.proofs.pieces.place_shares.Given as goal

abbrev pub invariant-loop-share : goal.invariant-loop-share
invariant-loop-share l =
    (goal.iterator-loop-share).can_next l.share-iterator
    × (goal.iterator-loop-share).is_finite l.share-iterator
    × (vec_len l.parts ≡ l.fn.count)
    × ((types : List ColType) (text cuts : List ℕ) → AreShared types text cuts l.fn.shares.items → AreShared types text cuts (into_iter_items l.share-iterator))
    × ((types : List ColType) (text cuts : List ℕ) → AreShared types text cuts l.fn.shares.items → ArePartsRead types text cuts l.parts.items)
