use Rattle.std.proofs.Common.{◌≡◌, ℕ, List, vec_len}
use Rattle.std.specs.Vec.Iter.{into_iter_items}
use Rattle.vx_rows_values.specs.declared.value.ColType.{ColType}
use Rattle.vx_catalog_loading.specs.Pieces.{AreDrawn, ArePartsRead}
use Rattle.vx_catalog_loading.proofs.pieces.place_reads.Given as goal

abbrev pub invariant-loop-drawn : goal.invariant-loop-drawn
invariant-loop-drawn l =
    (goal.iterator-loop-drawn).can_next l.drawn-iterator
    × (goal.iterator-loop-drawn).is_finite l.drawn-iterator
    × (vec_len l.parts ≡ vec_len l.initial.parts)
    × ((types : List ColType) (text cuts : List ℕ) → AreDrawn types text cuts l.fn.reads.items → AreDrawn types text cuts (into_iter_items l.drawn-iterator))
    × ((types : List ColType) (text cuts : List ℕ) → AreDrawn types text cuts l.fn.reads.items → ArePartsRead types text cuts l.initial.parts.items → ArePartsRead types text cuts l.parts.items)
