-- The tables of pieces, one behind the other.
use Rattle.std.proofs.Common.{inl, inr, ◌≡◌, ℕ, ◌+◌, ◌<◌, ◌≤◌, List, [], ◌∷◌, ◌++◌, Option, Some, None, Bool, true, false, cond, Result, Ok, Err, refl, sym, ap, subst, ◌∙◌, arith, length, zero, suc, drop, get_or, nat_lt, lt-ltb, le-ltb, append_assoc}
use Rattle.std.specs.Prelude.{IfSome}
use Rattle.std.proofs.lemmas.List.{append-nil, length-append, length_push, get_or_append_left, get_or_push}
use Rattle.std.proofs.lemmas.Grind.{flat_map-append}
use Rattle.std.proofs.lemmas.Bool.{cases_lt}
use Rattle.vx_rows_values.specs.Values.{Row}
use Rattle.vx_rows_values.specs.declared.value.ColType.{ColType}
use Rattle.vx_rows.specs.View.{RowsView}
use Rattle.vx_rows.specs.Parts.{rows_of_all}
use Rattle.vx_catalog_relations.specs.Walk.{◌>>=◌}
use Rattle.vx_catalog.specs.declared.fault.LoadFault.{LoadFault}
use Rattle.vx_catalog.specs.declared.fault.LoadFault.TheVariants as fault
use Rattle.vx_catalog.specs.Loading.{Fails, Gives, rows_onto}
use Rattle.vx_catalog_loading.specs.Pieces.{fault_behind, behind, rows_of_text, IsPieceRead, ArePieces, Joined}
use Rattle.vx_catalog_loading.proofs.Cut.{bind_ok, records_behind, piece_cut}
use Rattle.vx_rows_values.specs.Limits.{max_rows}

row_reported : (b : Bool) (moved : LoadFault) (whole : Result (List Row) LoadFault) → ((whole ≡ Err moved) → Fails moved whole) → whole ≡ Err (cond b moved fault.TooLarge) → Fails (cond b moved fault.TooLarge) whole
row_reported true moved whole f e = f e
row_reported false moved whole f e = e

-- a piece that is refused
stops : (front : List Row) (e : LoadFault) (read whole : Result (List Row) LoadFault) (next : List Row → Result (List Row) LoadFault) → Fails e read → whole ≡ (behind front read >>= next) → Fails (fault_behind (length front) e) whole
unfolding behind
stops front fault.NoMemory read whole next bad is = tt
stops front fault.ReadFailed read whole next bad is = absurd bad
stops front fault.HeaderMismatch read whole next bad is = rw bad at is
stops front (fault.BadWidth row) read whole next bad is = row_reported (nat_lt (length front + row) max_rows) (fault.BadWidth (length front + row)) whole (λ e. e) (rw bad at is)
stops front (fault.BadInt row col) read whole next bad is = row_reported (nat_lt (length front + row) max_rows) (fault.BadInt (length front + row) col) whole (λ e. e) (rw bad at is)
stops front (fault.NotUtf8 row) read whole next bad is = row_reported (nat_lt (length front + row) max_rows) (fault.NotUtf8 (length front + row)) whole (λ e. e) (rw bad at is)
stops front (fault.KeyBroken key first second) read whole next bad is = rw bad at is
stops front (fault.OrderBroken row) read whole next bad is = rw bad at is
stops front fault.TooLarge read whole next bad is = rw bad at is

-- rows that do not fit behind those so far are too many
over : (front rows : List Row) (next : List Row → Result (List Row) LoadFault) → max_rows < length front + length rows → (behind front (Ok rows) >>= next) ≡ Err fault.TooLarge
unfolding behind
over front rows next h = rw (lt-ltb max_rows (length front + length rows) h) refl

fits : (front rows : List Row) (next : List Row → Result (List Row) LoadFault) → length front + length rows ≤ max_rows → (behind front (Ok rows) >>= next) ≡ next (front ++ rows)
unfolding behind
fits front rows next h = rw (le-ltb max_rows (length front + length rows) h) refl

rows_pushed : (tables : List RowsView) (table : RowsView) → rows_of_all (tables ++ table ∷ []) ≡ rows_of_all tables ++ table.rows
rows_pushed tables table =
    flat_map-append (λ (t : RowsView). t.rows) tables (table ∷ []) ∙ ap (λ l. rows_of_all tables ++ l) (append-nil table.rows)

-- how many rows there are with one table more
pub count_pushed : (before count : ℕ) (tables : List RowsView) (table : RowsView) → count ≡ before + length (rows_of_all tables) → count + length table.rows ≡ before + length (rows_of_all (tables ++ table ∷ []))
count_pushed before count tables table e =
    let a = ap length (rows_pushed tables table) in
    let b = length-append (rows_of_all tables) table.rows in
    omega (arith, a, b, e)

module _ (types : List ColType) (front : List Row) (left : ℕ → List ℕ) (parts : List (Option (Result RowsView LoadFault))) (tables : List RowsView) (count before : ℕ) where
  -- no piece yet
  pub joined_none : Joined types front left []
  joined_none = record { same_types = λ i d h. absurd (omega arith); rows = ap (λ r. rows_of_text types r (left 0)) (sym (append-nil front)) }

  -- the next piece, read behind the rows so far
  next_piece : length front ≡ before → ArePieces types parts left → Joined types front left tables → count ≡ before + length (rows_of_all tables) → count ≤ max_rows → length tables < length parts
      → (read : Result RowsView LoadFault) → get_or parts (length tables) (Some read) ≡ Some read
      → (piece : List ℕ) × IsPieceRead types piece (Some read) × (rows_of_text types front (left 0) ≡ (behind (front ++ rows_of_all tables) (rows_of_text types [] piece) >>= λ rows. rows_of_text types rows (left (length tables + 1)))) × (length (front ++ rows_of_all tables) ≡ count)
  next_piece long p j counted few near read here =
      let i = length tables in
      let all = front ++ rows_of_all tables in
      let n = length-append front (rows_of_all tables) in
      let many : length all ≡ count = omega (arith, n, counted, long) in
      let is = subst (IsPieceRead types (p.piece i)) here (p.read i (Some read) near) in
      let step = piece_cut types all (p.piece i) (left (i + 1)) (omega (arith, many, few)) is.0 (p.cut i near) in
      (p.piece i, is, j.rows ∙ (ap (rows_of_text types all) (p.left_is i near) ∙ step), many)

  pub joined_more : length front ≡ before → ArePieces types parts left → Joined types front left tables → count ≡ before + length (rows_of_all tables) → count ≤ max_rows → length tables < length parts
      → (table : RowsView) → get_or parts (length tables) (Some (Ok table)) ≡ Some (Ok table) → count + length table.rows ≤ max_rows → Joined types front left (tables ++ table ∷ [])
  joined_more long p j counted few near table here fit =
      let q = next_piece long p j counted few near (Ok table) here in
      let all = front ++ rows_of_all tables in
      let many = q.3 in
      let read = q.1.2 in
      let whole : rows_of_text types front (left 0) ≡ rows_of_text types (all ++ table.rows) (left (length tables + 1))
      = q.2 ∙ (ap (λ (r : Result (List Row) LoadFault). (behind all r >>= λ rows. rows_of_text types rows (left (length tables + 1)))) read
      ∙ fits all table.rows (λ rows. rows_of_text types rows (left (length tables + 1))) (omega (arith, many, fit))) in
      let n = length_push tables table in
      record {
        same_types = λ i d h. elim (cases_lt i (length tables)) [
          | inl l ↦ ap (λ (t : RowsView). t.types) (get_or_append_left tables (table ∷ []) d i l) ∙ j.same_types i d l
          | inr g ↦ ap (λ (t : RowsView). t.types) (get_or_push tables table d i (omega (arith, n, h, g))) ∙ q.1.1
        ];
        rows = whole ∙ (ap (λ r. rows_of_text types r (left (length tables + 1))) (append_assoc front (rows_of_all tables) table.rows ∙ ap (λ l. front ++ l) (sym (rows_pushed tables table)))
            ∙ ap (λ k. rows_of_text types (front ++ rows_of_all (tables ++ table ∷ [])) (left k)) (sym n));
      }

  pub joined_over : length front ≡ before → ArePieces types parts left → Joined types front left tables → count ≡ before + length (rows_of_all tables) → count ≤ max_rows → length tables < length parts
      → (table : RowsView) → get_or parts (length tables) (Some (Ok table)) ≡ Some (Ok table) → max_rows < count + length table.rows → rows_of_text types front (left 0) ≡ Err fault.TooLarge
  joined_over long p j counted few near table here many_rows =
      let q = next_piece long p j counted few near (Ok table) here in
      let all = front ++ rows_of_all tables in
      let many = q.3 in
      q.2 ∙ (ap (λ (r : Result (List Row) LoadFault). (behind all r >>= λ rows. rows_of_text types rows (left (length tables + 1)))) q.1.2
      ∙ over all table.rows (λ rows. rows_of_text types rows (left (length tables + 1))) (omega (arith, many, many_rows)))

  pub joined_stop : length front ≡ before → ArePieces types parts left → Joined types front left tables → count ≡ before + length (rows_of_all tables) → count ≤ max_rows → length tables < length parts
      → (e : LoadFault) → get_or parts (length tables) (Some (Err e)) ≡ Some (Err e) → Fails (fault_behind count e) (rows_of_text types front (left 0))
  joined_stop long p j counted few near e here =
      let q = next_piece long p j counted few near (Err e) here in
      let all = front ++ rows_of_all tables in
      subst (λ n. Fails (fault_behind n e) (rows_of_text types front (left 0))) q.3
      (stops all e (rows_of_text types [] q.0) (rows_of_text types front (left 0)) (λ rows. rows_of_text types rows (left (length tables + 1))) q.1.2 q.2)

-- the next of a list of which the first n were taken
pub next_is : {X : Type 0} (n : ℕ) (xs rest : List X) (x d : X) → drop n xs ≡ x ∷ rest → (n < length xs) × (get_or xs n d ≡ x) × (rest ≡ drop (n + 1) xs)
next_is zero [] rest x d e = cc
next_is zero (y ∷ xs) rest x d e =
    let p = cons_same y xs x rest e in (omega arith, p.0, sym p.1)
  where
    cons_same : {A : Type 0} (a : A) (one : List A) (b : A) (two : List A) → a ∷ one ≡ b ∷ two → (a ≡ b) × (one ≡ two)
    cons_same a one b two h = (cc, cc)
next_is (suc n) [] rest x d e = cc
next_is (suc n) (y ∷ xs) rest x d e = let p = next_is n xs rest x d e in let l = p.0 in (omega (arith, l), p.1, p.2 ∙ ap (λ k. drop k (y ∷ xs)) (further n))
  where
    further : (n : ℕ) → suc (n + 1) ≡ suc n + 1
    further n = omega arith

-- an error in records that are read by themselves, behind rows
pub rest_fails : (types : List ColType) (front : List Row) (records : Option (List (List (List ℕ)))) (e : LoadFault) → length front ≤ max_rows
    → IfSome records (λ rs. Fails e (rows_onto types [] rs)) → IfSome records (λ rs. Fails (fault_behind (length front) e) (rows_onto types front rs))
rest_fails types front None e few bad = tt
rest_fails types front (Some rs) e few bad =
    stops front e (rows_onto types [] rs) (rows_onto types front rs) (λ rows. Ok rows) bad
    (sym (bind_ok (behind front (rows_onto types [] rs)) ∙ records_behind types front rs few))

-- rows that are read by themselves, behind others
pub rest_joined : {X : Type 0} (look : X → List Row) (result : Result X LoadFault) (types : List ColType) (front rows : List Row) (records : Option (List (List (List ℕ)))) → length front ≤ max_rows
    → IfSome records (λ rs. rows_onto types [] rs ≡ Ok rows) → Gives look result (behind front (Ok rows)) → IfSome records (λ rs. Gives look result (rows_onto types front rs))
rest_joined look result types front rows None few read joined = tt
rest_joined look result types front rows (Some rs) few read joined =
    subst (λ (r : Result (List Row) LoadFault). Gives look result r) (ap (behind front) (sym read) ∙ records_behind types front rs few) joined
