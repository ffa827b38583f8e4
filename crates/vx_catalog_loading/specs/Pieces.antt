-- Where a text is cut, and what its pieces are read as.
use Rattle.std.specs.Prelude.{◌≡◌, ℕ, ◌+◌, ◌-◌, ◌<◌, ◌≤◌, ◌==◌, nat_lt, if◌then◌else◌, List, [], ◌∷◌, ◌++◌, length, drop, slice_index, slice_index_or, slice_range, Option, Some, None, Bool, true, All, Vec, Result, Ok, Err, IfOk}
use Rattle.std.specs.declared.alloc.Global.{Global}
use Rattle.std.specs.declared.alloc.AllocError.{AllocError}
use Rattle.vx_rows_values.specs.Values.{Row}
use Rattle.vx_rows_values.specs.declared.value.ColType.{ColType}
use Rattle.vx_rows.specs.View.{RowsView}
use Rattle.vx_rows.specs.Parts.{rows_of_all, HaveTypes}
use Rattle.vx_catalog.specs.declared.fault.LoadFault.{LoadFault}
use Rattle.vx_catalog.specs.declared.fault.LoadFault.TheVariants as fault
use Rattle.vx_catalog.specs.Loading.{Fails, Gives, records_of, rows_onto}
use Rattle.vx_catalog_split.specs.Split.{is_unquoted}
use Rattle.vx_catalog_loading.specs.declared.pieces.PieceRead.{PieceRead}
use Rattle.vx_rows_values.specs.Limits.{max_rows}

-- an error in a row, where n rows come before; a row past the most that there may be is too many
abbrev pub row_fault : ℕ → ℕ → LoadFault → LoadFault
row_fault n row moved = if nat_lt (n + row) max_rows then moved else fault.TooLarge

-- an error in a piece, whose rows are counted from 0, where n rows come before
abbrev pub fault_behind : ℕ → LoadFault → LoadFault
fault_behind n (fault.BadWidth row) = row_fault n row (fault.BadWidth (n + row))
fault_behind n (fault.BadInt row col) = row_fault n row (fault.BadInt (n + row) col)
fault_behind n (fault.NotUtf8 row) = row_fault n row (fault.NotUtf8 (n + row))
fault_behind n fault.TooLarge = fault.TooLarge
fault_behind n fault.NoMemory = fault.NoMemory
fault_behind n fault.ReadFailed = fault.ReadFailed
fault_behind n fault.HeaderMismatch = fault.HeaderMismatch
fault_behind n (fault.KeyBroken key first second) = fault.KeyBroken key first second
fault_behind n (fault.OrderBroken row) = fault.OrderBroken row

-- what a piece is read as by itself, behind the rows at the front
unfoldable pub behind : List Row → Result (List Row) LoadFault → Result (List Row) LoadFault
behind front (Ok rows) = if nat_lt max_rows (length front + length rows) then Err fault.TooLarge else Ok (front ++ rows)
behind front (Err e) = Err (fault_behind (length front) e)

-- a text may be cut before these bytes: they begin with a line feed, or there are none
abbrev pub may_cut_before : List ℕ → Bool
may_cut_before [] = true
may_cut_before (c ∷ rest) = c == 10

-- the rows of the records of a text, behind those at the front
abbrev pub rows_of_text : List ColType → List Row → List ℕ → Result (List Row) LoadFault
rows_of_text types front text = rows_onto types front (records_of text)

-- lines were read into rows, but for what is left of them: whatever follows where the text may be cut, its rows are those now, and those of what is left and follows
abbrev pub AreLinesRead : List ColType → List Row → List ℕ → List Row → List ℕ → Type 0
AreLinesRead types front lines rows left = (rest : List ℕ) → may_cut_before rest ≡ true → rows_of_text types front (lines ++ rest) ≡ rows_of_text types rows (left ++ rest)

-- why lines behind the rows at the front are refused
abbrev pub LinesFail : List ColType → List Row → List ℕ → LoadFault → Type 0
LinesFail types front lines e = (rest : List ℕ) → may_cut_before rest ≡ true → Fails e (rows_of_text types front (lines ++ rest))

-- where the pieces of a text begin, and `end`, where the last of them ends: the text may be cut at each of these places but the first, which is its start
pub record AreCuts (text cuts : List ℕ) (end : ℕ) : Type 0 where
  pub some : 0 < length cuts
  pub start : slice_index cuts 0 ≡ 0
  pub rise : (i : ℕ) → i + 1 < length cuts → slice_index cuts i ≤ slice_index cuts (i + 1)
  pub within : (i : ℕ) → i < length cuts → slice_index cuts i ≤ length text
  pub cut : (i : ℕ) → 0 < i → i < length cuts → may_cut_before (drop (slice_index cuts i) text) ≡ true
  pub last : slice_index cuts (length cuts - 1) ≡ end

-- the piece with this number
abbrev pub piece_at : List ℕ → List ℕ → ℕ → List ℕ
piece_at text cuts i = slice_range text (slice_index cuts i) (slice_index cuts (i + 1))

-- a piece has no quote, and was read by itself; or nothing is said of it
abbrev pub IsPieceRead : List ColType → List ℕ → Option (Result RowsView LoadFault) → Type 0
IsPieceRead types piece None = Unit {0}
IsPieceRead types piece (Some read) = (is_unquoted piece ≡ true) × IfOk read (λ t. t.types ≡ types) × Gives (λ t. t.rows) read (rows_of_text types [] piece)

-- what a piece of a text that is cut there was read as
abbrev pub IsDrawn : List ColType → List ℕ → List ℕ → PieceRead → Type 0
IsDrawn types text cuts drawn = IsPieceRead types (piece_at text cuts drawn.piece) drawn.read

-- what one thread read of such a text
abbrev pub AreDrawn : List ColType → List ℕ → List ℕ → List PieceRead → Type 0
AreDrawn types text cuts reads = All (IsDrawn types text cuts) reads

-- the same, or that the thread ran out of memory
abbrev pub IsShared : List ColType → List ℕ → List ℕ → Result (Vec PieceRead Global) AllocError → Type 0
IsShared types text cuts share = IfOk share (λ reads. AreDrawn types text cuts reads.items)

-- what all threads read of such a text
abbrev pub AreShared : List ColType → List ℕ → List ℕ → List (Result (Vec PieceRead Global) AllocError) → Type 0
AreShared types text cuts shares = All (IsShared types text cuts) shares

-- what each piece of such a text was read as
abbrev pub ArePartsRead : List ColType → List ℕ → List ℕ → List (Option (Result RowsView LoadFault)) → Type 0
ArePartsRead types text cuts parts =
    (i : ℕ) (d : Option (Result RowsView LoadFault)) → i < length parts → IsPieceRead types (piece_at text cuts i) (slice_index_or parts i d)

-- pieces of a text that were read, where this is left of the text before each of them: that piece, and what is left before the next, where the text may be cut
pub record ArePieces (types : List ColType) (parts : List (Option (Result RowsView LoadFault))) (left : ℕ → List ℕ) : Type 0 where
  pub piece : ℕ → List ℕ
  pub read : (i : ℕ) (d : Option (Result RowsView LoadFault)) → i < length parts → IsPieceRead types (piece i) (slice_index_or parts i d)
  pub left_is : (i : ℕ) → i < length parts → left i ≡ piece i ++ left (i + 1)
  pub cut : (i : ℕ) → i < length parts → may_cut_before (left (i + 1)) ≡ true

-- the tables of the first pieces: behind the rows at the front, they and what is left after these pieces come to the whole
pub record Joined (types : List ColType) (front : List Row) (left : ℕ → List ℕ) (tables : List RowsView) : Type 0 where
  pub same_types : HaveTypes types tables
  pub rows : rows_of_text types front (left 0) ≡ rows_of_text types (front ++ rows_of_all tables) (left (length tables))
