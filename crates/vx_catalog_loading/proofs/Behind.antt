-- The rows of a piece, behind those before it.
use Rattle.std.proofs.Common.{◌≡◌, ℕ, ◌+◌, ◌<◌, ◌≤◌, List, [], ◌∷◌, ◌++◌, Result, Ok, Err, refl, sym, arith, length, append_assoc, ◌⊎◌, inl, inr, lt-ltb, le-ltb}
use Rattle.std.proofs.lemmas.List.{length-append}
use native.Mathlib.Decide.{dec_lt}
use Rattle.vx_rows_values.specs.Values.{Row}
use Rattle.vx_rows_values.specs.declared.value.ColType.{ColType}
use Rattle.vx_catalog_relations.specs.Walk.{◌>>=◌}
use Rattle.vx_catalog.specs.declared.fault.LoadFault.{LoadFault}
use Rattle.vx_catalog.specs.declared.fault.LoadFault.TheVariants as fault
use Rattle.vx_catalog.specs.Loading.{row_of, row_added, rows_onto}
use Rattle.vx_catalog_loading.specs.Pieces.{behind}
use Rattle.vx_catalog_loading.proofs.RowTells.{IsRowFault, RowTells, tells_row}
use Rattle.vx_rows_values.specs.Limits.{max_rows}

-- what is read of rows on top of m rows has m rows, or refuses one of a number from m on
pub Above : ℕ → Result (List Row) LoadFault → Type 0
Above m (Ok rows) = m ≤ length rows
Above m (Err (fault.BadWidth row)) = m ≤ row
Above m (Err (fault.BadInt row col)) = m ≤ row
Above m (Err (fault.NotUtf8 row)) = m ≤ row
Above m (Err fault.TooLarge) = Unit {0}
Above m (Err fault.NoMemory) = ⊥
Above m (Err fault.ReadFailed) = ⊥
Above m (Err fault.HeaderMismatch) = ⊥
Above m (Err (fault.KeyBroken key first second)) = ⊥
Above m (Err (fault.OrderBroken row)) = ⊥

lower : (m n : ℕ) (r : Result (List Row) LoadFault) → m ≤ n → Above n r → Above m r
unfolding Above
lower m n (Ok rows) h a = omega (arith, h, a)
lower m n (Err (fault.BadWidth row)) h a = omega (arith, h, a)
lower m n (Err (fault.BadInt row col)) h a = omega (arith, h, a)
lower m n (Err (fault.NotUtf8 row)) h a = omega (arith, h, a)
lower m n (Err fault.TooLarge) h a = tt
lower m n (Err fault.NoMemory) h a = absurd a
lower m n (Err fault.ReadFailed) h a = absurd a
lower m n (Err fault.HeaderMismatch) h a = absurd a
lower m n (Err (fault.KeyBroken key first second)) h a = absurd a
lower m n (Err (fault.OrderBroken row)) h a = absurd a

above_fault : (m : ℕ) (f : ℕ → LoadFault) → IsRowFault f → Above m (Err (f m))
unfolding Above
above_fault m f (inl e) = rw e (omega arith)
above_fault m f (inr (inl e)) = rw e (omega arith)
above_fault m f (inr (inr (col, e))) = rw e (omega arith)

-- one more row, where there is room
added_room : (types : List ColType) (front : List Row) (fields : List (List ℕ)) → length front < max_rows → row_added types front fields ≡ (row_of (length front) types fields >>= λ row. Ok (front ++ row ∷ []))
unfolding row_added
added_room types front fields h = rw (lt-ltb (length front) max_rows h) refl

added_full : (types : List ColType) (front : List Row) (fields : List (List ℕ)) → max_rows ≤ length front → row_added types front fields ≡ Err fault.TooLarge
unfolding row_added
added_full types front fields h = rw (le-ltb (length front) max_rows h) refl

pub either : (m n : ℕ) → (m < n) ⊎ (n ≤ m)
either m n = elim (dec_lt m n) [
  | yes below ↦ inl below
  | no over ↦ inr (omega arith)
]

above : (types : List ColType) (records : List (List (List ℕ))) (mid : List Row) → Above (length mid) (rows_onto types mid records)
unfolding rows_onto Above
above types [] mid = omega arith
above types (fields ∷ records) mid = elim (either (length mid) max_rows) [
  | inr full ↦ rw (added_full types mid fields full) tt
  | inl room ↦ elim (tells_row types fields) [
    | inl p ↦
        let next = above types records (mid ++ p.0 ∷ []) in
        rw (added_room types mid fields room, p.1 (length mid))
        (lower (length mid) (length (mid ++ p.0 ∷ [])) _ (let l = length-append mid (p.0 ∷ []) in omega (arith, l)) next)
    | inr p ↦ rw (added_room types mid fields room, p.2 (length mid)) (above_fault (length mid) p.0 p.1)
  ]
]

-- rows that come behind too many
all_behind : (front : List Row) (n m : ℕ) (r : Result (List Row) LoadFault) → length front ≡ n → max_rows < n + m → Above m r → behind front r ≡ Err fault.TooLarge
unfolding Above behind
all_behind front n m (Ok rows) e h a = rw (lt-ltb max_rows (length front + length rows) (omega (arith, e, h, a))) refl
all_behind front n m (Err (fault.BadWidth row)) e h a = rw (le-ltb (length front + row) max_rows (omega (arith, e, h, a))) refl
all_behind front n m (Err (fault.BadInt row col)) e h a = rw (le-ltb (length front + row) max_rows (omega (arith, e, h, a))) refl
all_behind front n m (Err (fault.NotUtf8 row)) e h a = rw (le-ltb (length front + row) max_rows (omega (arith, e, h, a))) refl
all_behind front n m (Err fault.TooLarge) e h a = refl
all_behind front n m (Err fault.NoMemory) e h a = absurd a
all_behind front n m (Err fault.ReadFailed) e h a = absurd a
all_behind front n m (Err fault.HeaderMismatch) e h a = absurd a
all_behind front n m (Err (fault.KeyBroken key first second)) e h a = absurd a
all_behind front n m (Err (fault.OrderBroken row)) e h a = absurd a

-- a refusal of a row behind others
fault_room : (front : List Row) (m : ℕ) (f : ℕ → LoadFault) → IsRowFault f → length front + m < max_rows → behind front (Err (f m)) ≡ Err (f (length front + m))
unfolding behind
fault_room front m f (inl e) h = rw (e, lt-ltb (length front + m) max_rows h) refl
fault_room front m f (inr (inl e)) h = rw (e, lt-ltb (length front + m) max_rows h) refl
fault_room front m f (inr (inr (col, e))) h = rw (e, lt-ltb (length front + m) max_rows h) refl

fault_full : (front : List Row) (m : ℕ) (f : ℕ → LoadFault) → IsRowFault f → max_rows ≤ length front + m → behind front (Err (f m)) ≡ Err fault.TooLarge
unfolding behind
fault_full front m f (inl e) h = rw (e, le-ltb (length front + m) max_rows h) refl
fault_full front m f (inr (inl e)) h = rw (e, le-ltb (length front + m) max_rows h) refl
fault_full front m f (inr (inr (col, e))) h = rw (e, le-ltb (length front + m) max_rows h) refl

-- rows are read behind others as they are by themselves
pub onto_behind : (types : List ColType) (records : List (List (List ℕ))) (front mid : List Row) → length front + length mid ≤ max_rows
    → rows_onto types (front ++ mid) records ≡ behind front (rows_onto types mid records)
unfolding rows_onto behind
onto_behind types [] front mid h = sym (fits front mid h)
  where
    fits : (front mid : List Row) → length front + length mid ≤ max_rows → behind front (Ok mid) ≡ Ok (front ++ mid)
    fits front mid h = rw (le-ltb max_rows (length front + length mid) h) refl
onto_behind types (fields ∷ records) front mid h =
    let long = length-append front mid in
    elim (either (length front + length mid) max_rows) [
      | inl room ↦
          let whole = added_room types (front ++ mid) fields (omega (arith, long, room)) in
          let part = added_room types mid fields (omega (arith, room)) in
          elim (tells_row types fields) [
            | inl p ↦
                let one = length-append mid (p.0 ∷ []) in
                let next = onto_behind types records front (mid ++ p.0 ∷ []) (omega (arith, one, room)) in
                rw (whole, part, p.1 (length (front ++ mid)), p.1 (length mid), append_assoc front mid (p.0 ∷ [])) next
            | inr p ↦ rw (whole, part, p.2 (length (front ++ mid)), p.2 (length mid), fault_room front (length mid) p.0 p.1 room, long) refl
          ]
      | inr full ↦
          let whole = added_full types (front ++ mid) fields (omega (arith, long, full)) in
          rw whole (sym (too_many (either (length mid) max_rows) full (tells_row types fields)))
    ]
  where
    too_many : (length mid < max_rows) ⊎ (max_rows ≤ length mid) → max_rows ≤ length front + length mid → RowTells (λ k. row_of k types fields) → behind front (rows_onto types mid (fields ∷ records)) ≡ Err fault.TooLarge
    too_many (inr none) full t = rw (added_full types mid fields none) refl
    too_many (inl some) full (inl p) =
        let one = length-append mid (p.0 ∷ []) in
        rw (added_room types mid fields some, p.1 (length mid)) (all_behind front (length front) (length (mid ++ p.0 ∷ [])) _ refl (omega (arith, one, full)) (above types records (mid ++ p.0 ∷ [])))
    too_many (inl some) full (inr p) = rw (added_room types mid fields some, p.2 (length mid)) (fault_full front (length mid) p.0 p.1 full)
