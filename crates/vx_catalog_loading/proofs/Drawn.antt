-- What threads drew, put where its pieces stand.
use Rattle.std.proofs.Common.{◌≡◌, ℕ, ◌<◌, ◌≤◌, inl, inr, List, length, Option, None, Result, Ok, Err, IfOk, All, get_or, sym, subst}
use Rattle.std.proofs.Math.ListN.{set}
use Rattle.std.proofs.lemmas.List.{length-set, get_or-set_same, get_or-set_other}
use Rattle.std.proofs.lemmas.Bool.Decides.{eqb_tells}
use Rattle.vx_rows.specs.View.{RowsView}
use Rattle.vx_rows_values.specs.declared.value.ColType.{ColType}
use Rattle.vx_catalog.specs.declared.fault.LoadFault.{LoadFault}
use Rattle.vx_catalog_loading.proofs.Behind.{either}
use Rattle.vx_catalog_loading.specs.declared.pieces.PieceRead.{PieceRead}
use Rattle.vx_catalog_loading.specs.Pieces.{piece_at, IsPieceRead, IsDrawn, ArePartsRead}

-- nothing is read of any piece
pub unread_parts : (types : List ColType) (text cuts : List ℕ) (parts : List (Option (Result RowsView LoadFault)))
    → All (λ (p : Option (Result RowsView LoadFault)). p ≡ None) parts → ArePartsRead types text cuts parts
unread_parts types text cuts parts none i d near = subst (IsPieceRead types (piece_at text cuts i)) (sym (none i d near)) tt

-- one more piece was read
pub part_put : (types : List ColType) (text cuts : List ℕ) (parts : List (Option (Result RowsView LoadFault))) (k : ℕ) (read : Option (Result RowsView LoadFault))
    → ArePartsRead types text cuts parts → IsPieceRead types (piece_at text cuts k) read → ArePartsRead types text cuts (set parts k read)
part_put types text cuts parts k read old new i d near =
    let there : i < length parts = subst (λ n. i < n) (length-set parts k read) near in
    elim (eqb_tells i k) [
      | inl h ↦
          let same : i ≡ k = h.1 in
          let at : k < length parts = subst (λ n. n < length parts) same there in
          subst (λ n. IsPieceRead types (piece_at text cuts n) (get_or (set parts k read) n d)) (sym same)
          (subst (IsPieceRead types (piece_at text cuts k)) (sym (get_or-set_same parts k read d at)) new)
      | inr h ↦ subst (IsPieceRead types (piece_at text cuts i)) (sym (get_or-set_other parts k i read d h.1)) (old i d there)
    ]

-- a part was put where it stands, or nothing was
pub part_placed : (types : List ColType) (text cuts : List ℕ) (parts now : List (Option (Result RowsView LoadFault))) (drawn : PieceRead)
    → ArePartsRead types text cuts parts → IsDrawn types text cuts drawn
    → (drawn.piece < length parts → now ≡ set parts drawn.piece drawn.read)
    → (length parts ≤ drawn.piece → now ≡ parts)
    → ArePartsRead types text cuts now
part_placed types text cuts parts now drawn old new there beyond =
    elim (either drawn.piece (length parts)) [
      | inl lt ↦ subst (ArePartsRead types text cuts) (sym (there lt)) (part_put types text cuts parts drawn.piece drawn.read old new)
      | inr le ↦ subst (ArePartsRead types text cuts) (sym (beyond le)) old
    ]

-- what two facts say of a value, if there is one
pub both_ok : {T E : Type 0} (r : Result T E) (P Q R : T → Type 0) → IfOk r P → IfOk r Q → ((v : T) → P v → Q v → R v) → IfOk r R
both_ok (Ok v) P Q R p q f = f v p q
both_ok (Err e) P Q R p q f = tt
