-- A round: the pieces of a text between its cuts, and what is left before each of them.
use Rattle.std.proofs.Common.{◌≡◌, ℕ, ◌+◌, ◌-◌, ◌<◌, ◌≤◌, List, ◌++◌, Option, true, Result, sym, ap, ◌∙◌, arith, length, drop, get_or, append_assoc}
use Rattle.std.specs.Prelude.{slice_range}
use Rattle.std.proofs.lemmas.List.{take-append-drop, drop-drop}
use Rattle.vx_rows_values.specs.declared.value.ColType.{ColType}
use Rattle.vx_rows.specs.View.{RowsView}
use Rattle.vx_catalog.specs.declared.fault.LoadFault.{LoadFault}
use Rattle.vx_catalog_loading.specs.Pieces.{may_cut_before, piece_at, AreCuts, IsPieceRead, ArePieces}
use Rattle.vx_catalog_loading.proofs.Cut.{cut_append}

-- what is left of a text from a cut on, and what follows it
abbrev pub left_from : List ℕ → List ℕ → List ℕ → ℕ → List ℕ
left_from text cuts rest i = drop (get_or cuts i 0) text ++ rest

parted : (text rest : List ℕ) (a b : ℕ) → a ≤ b → drop a text ++ rest ≡ slice_range text a b ++ (drop b text ++ rest)
parted text rest a b h =
    let e : a + (b - a) ≡ b = omega (arith, h) in
    ap (λ l. l ++ rest) (sym (take-append-drop (b - a) (drop a text)))
    ∙ (append_assoc (slice_range text a b) (drop (b - a) (drop a text)) rest
    ∙ ap (λ l. slice_range text a b ++ (l ++ rest)) (drop-drop (b - a) a text ∙ ap (λ n. drop n text) e))

pub round_pieces : (types : List ColType) (text cuts rest : List ℕ) (parts : List (Option (Result RowsView LoadFault))) → AreCuts text cuts (length text) → may_cut_before rest ≡ true
    → length parts ≡ length cuts - 1
    → ((i : ℕ) (d : Option (Result RowsView LoadFault)) → i + 1 < length cuts → IsPieceRead types (piece_at text cuts i) (get_or parts i d))
    → ArePieces types parts (left_from text cuts rest)
round_pieces types text cuts rest parts a may many each =
    let some = a.some in
    record {
      piece = piece_at text cuts;
      read = λ i d h. each i d (omega (arith, many, some, h));
      left_is = λ i h. parted text rest (get_or cuts i 0) (get_or cuts (i + 1) 0) (a.rise i (omega (arith, many, some, h)));
      cut = λ i h. cut_append (drop (get_or cuts (i + 1) 0) text) rest (a.cut (i + 1) (omega arith) (omega (arith, many, some, h))) may;
    }

-- nothing is left out before the first piece
pub left_first : (text cuts rest : List ℕ) (end : ℕ) → AreCuts text cuts end → left_from text cuts rest 0 ≡ text ++ rest
left_first text cuts rest end a = ap (λ n. drop n text ++ rest) a.start
