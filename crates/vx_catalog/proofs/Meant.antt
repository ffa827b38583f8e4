-- What is loaded of bytes is what they say, and all that they say is loaded.
use Rattle.std.proofs.Common.{◌≡◌, ℕ, zero, suc, ◌+◌, ◌<◌, ◌≤◌, ◌==◌, nat_lt, Bool, true, false, cond, List, [], ◌∷◌, ◌++◌, Option, Some, None, Result, Ok, Err, refl, sym, ap, subst, ◌∙◌, length, append_assoc, arith, inl, inr, true≢false}
use Rattle.std.proofs.lemmas.Bool.{cases_lt}
use Rattle.std.specs.Prelude.{ℤ}
use Rattle.std.specs.List.{AllZip}
use Rattle.std.specs.Str.{is_utf8}
use Rattle.std.proofs.lemmas.List.{append-nil, length-append, length_push}
use Rattle.std.proofs.lemmas.Bool.Decides.{Decides-ltb, Decides-eqb}
use Rattle.csv.specs.Records.{field_at}
use Rattle.vx_rows_values.specs.Values.{Val, num, text, Row}
use Rattle.vx_rows_values.specs.declared.order.OrderEntry.{OrderEntry}
use Rattle.vx_rows_values.specs.Order.{sorted}
use Rattle.vx_rows_values.specs.declared.value.ColType.{ColType}
use Rattle.vx_rows_values.specs.declared.value.ColType.TheVariants as kind
use Rattle.vx_rows_values.proofs.KeyFacts.{key-law}
use Rattle.vx_rows_values.proofs.SortedFacts.{NoFall, sorted_neighbours}
use Rattle.vx_catalog_relations.specs.Relation.{Relation, KeysHold}
use Rattle.vx_catalog_relations.specs.Walk.{◌>>=◌, walk_onto}
use Rattle.vx_catalog.specs.Number.{number_of}
use Rattle.vx_catalog.specs.declared.fault.LoadFault.{LoadFault}
use Rattle.vx_catalog.specs.declared.fault.LoadFault.TheVariants as fault
use Rattle.vx_catalog.specs.Loading.{records_of, some_number, value_of, some_value, next_value, row_of, row_added, rows_onto, is_header, under_header, keys_kept, fall_from, first_fall, order_kept, load_of}
use Rattle.vx_catalog.specs.Meaning.{IsValueOf, IsRowOf, Under, IsTextOf, LoadLaw}
use Rattle.vx_catalog_relations.proofs.Accepted.{ok_bind}
use Rattle.vx_catalog.proofs.OrderFacts.{keys_kept_is, order_kept_is}
use Rattle.vx_rows_values.specs.Limits.{max_rows, max_text_bytes}

-- ---- values

value_is : (row col : ℕ) (type : ColType) (field : List ℕ) (v : Val) → value_of row col type field ≡ Ok v → IsValueOf type field v
unfolding value_of
value_is row col kind.Int field v h = by_number (number_of field) refl h
  where
    by_number : (o : Option ℤ) → number_of field ≡ o → some_number row col o ≡ Ok v → IsValueOf kind.Int field v
    by_number None e k = cc
    by_number (Some z) e k = let same : num z ≡ v = cc in subst (λ (w : Val). IsValueOf kind.Int field w) same e
value_is row col kind.Text field v h = by_test (is_utf8 field) refl h
  where
    by_test : (b : Bool) → is_utf8 field ≡ b → cond b (Ok (text field)) (Err (fault.NotUtf8 row)) ≡ Ok v → IsValueOf kind.Text field v
    by_test true e k = let same : text field ≡ v = cc in subst (λ (w : Val). IsValueOf kind.Text field w) same (e, refl)
    by_test false e k = cc

is_value : (row col : ℕ) (type : ColType) (field : List ℕ) (v : Val) → IsValueOf type field v → value_of row col type field ≡ Ok v
unfolding value_of
is_value row col kind.Int field (num z) h = rw h refl
is_value row col kind.Int field (text s) h = absurd h
is_value row col kind.Text field (num z) h = absurd h
is_value row col kind.Text field (text s) h = rw h.0 (ap (λ x. Ok (text x)) h.1)

field_at_seam : (before : List (List ℕ)) (f : List ℕ) (fs : List (List ℕ)) → field_at (before ++ f ∷ fs) (length before) ≡ Some f
unfolding field_at
field_at_seam [] f fs = refl
field_at_seam (b ∷ bs) f fs = field_at_seam bs f fs

next_is : (row : ℕ) (before : List (List ℕ)) (f : List ℕ) (fs : List (List ℕ)) (front : List Val) (type : ColType) → length before ≡ length front
    → next_value row (before ++ f ∷ fs) front type ≡ value_of row (length front) type f
unfolding next_value
next_is row before f fs front type e = ap (λ o. some_value row (length front) type o) (ap (field_at (before ++ f ∷ fs)) (sym e) ∙ field_at_seam before f fs)

-- ---- rows

values_are : (row : ℕ) (types : List ColType) (before fs : List (List ℕ)) (front out : List Val) → length before ≡ length front → length fs ≡ length types
    → walk_onto (next_value row (before ++ fs)) front types ≡ Ok out → (rest : List Val) × (out ≡ front ++ rest) × IsRowOf types fs rest
unfolding walk_onto
values_are row [] before [] front out e n h = let same : front ≡ out = cc in ([], sym same ∙ sym (append-nil front), tt)
values_are row [] before (f ∷ fs) front out e n h = absurd (omega arith)
values_are row (t ∷ ts) before [] front out e n h = absurd (omega arith)
values_are row (t ∷ ts) before (f ∷ fs) front out e n h =
    let b = ok_bind (next_value row (before ++ f ∷ fs) front t) (λ (v : Val). walk_onto (next_value row (before ++ f ∷ fs)) (front ++ v ∷ []) ts) out h in
    let value = value_is row (length front) t f b.0 (sym (next_is row before f fs front t e) ∙ b.1) in
    let again = append_assoc before (f ∷ []) fs in
    let m = length_push before f in
    let k = length_push front b.0 in
    let more = values_are row ts (before ++ f ∷ []) fs (front ++ b.0 ∷ []) out (omega (arith, m, k, e)) (omega (arith, n)) (ap (λ all. walk_onto (next_value row all) (front ++ b.0 ∷ []) ts) again ∙ b.2) in
    (b.0 ∷ more.0, more.1 ∙ append_assoc front (b.0 ∷ []) more.0, (value, more.2))

are_values : (row : ℕ) (types : List ColType) (before fs : List (List ℕ)) (front rest : List Val) → length before ≡ length front → IsRowOf types fs rest
    → walk_onto (next_value row (before ++ fs)) front types ≡ Ok (front ++ rest)
unfolding walk_onto
are_values row [] before [] front [] e h = ap (λ l. Ok l) (sym (append-nil front))
are_values row [] before [] front (v ∷ vs) e h = absurd h
are_values row [] before (f ∷ fs) front rest e h = absurd h
are_values row (t ∷ ts) before [] front rest e h = absurd h
are_values row (t ∷ ts) before (f ∷ fs) front [] e h = absurd h
are_values row (t ∷ ts) before (f ∷ fs) front (v ∷ vs) e h =
    let first = next_is row before f fs front t e ∙ is_value row (length front) t f v h.0 in
    let again = append_assoc before (f ∷ []) fs in
    let m = length_push before f in
    let k = length_push front v in
    ap (λ (r : Result Val LoadFault). r >>= λ (v : Val). walk_onto (next_value row (before ++ f ∷ fs)) (front ++ v ∷ []) ts) first
    ∙ (ap (λ all. walk_onto (next_value row all) (front ++ v ∷ []) ts) (sym again)
    ∙ (are_values row ts (before ++ f ∷ []) fs (front ++ v ∷ []) vs (omega (arith, m, k, e)) h.1 ∙ ap (λ l. Ok l) (append_assoc front (v ∷ []) vs)))

row_is : (row : ℕ) (types : List ColType) (fields : List (List ℕ)) (r : Row) → row_of row types fields ≡ Ok r → IsRowOf types fields r
unfolding row_of
row_is row types fields r h = by_length (length fields == length types) refl h
  where
    by_length : (b : Bool) → (length fields == length types) ≡ b → cond b (walk_onto (next_value row fields) [] types) (Err (fault.BadWidth row)) ≡ Ok r → IsRowOf types fields r
    by_length true e k =
        let v = values_are row types [] fields [] r refl ((Decides-eqb (length fields) (length types)).0 e) k in
        subst (λ (x : Row). IsRowOf types fields x) (sym v.1) v.2
    by_length false e k = cc

as_long : (types : List ColType) (fields : List (List ℕ)) (r : Row) → IsRowOf types fields r → length fields ≡ length types
as_long [] [] r h = refl
as_long [] (f ∷ fs) r h = absurd h
as_long (t ∷ ts) [] r h = absurd h
as_long (t ∷ ts) (f ∷ fs) [] h = absurd h
as_long (t ∷ ts) (f ∷ fs) (v ∷ vs) h = ap suc (as_long ts fs vs h.1)

is_row : (row : ℕ) (types : List ColType) (fields : List (List ℕ)) (r : Row) → IsRowOf types fields r → row_of row types fields ≡ Ok r
unfolding row_of
is_row row types fields r h = rw ((Decides-eqb (length fields) (length types)).1 (as_long types fields r h)) (are_values row types [] fields [] r refl h)

added_is : (types : List ColType) (front next : List Row) (fields : List (List ℕ)) → row_added types front fields ≡ Ok next → (r : Row) × (next ≡ front ++ r ∷ []) × IsRowOf types fields r × (length front < max_rows)
unfolding row_added
added_is types front next fields h = by_room (nat_lt (length front) max_rows) refl h
  where
    by_room : (b : Bool) → nat_lt (length front) max_rows ≡ b → cond b (row_of (length front) types fields >>= λ row. Ok (front ++ row ∷ [])) (Err fault.TooLarge) ≡ Ok next
        → (r : Row) × (next ≡ front ++ r ∷ []) × IsRowOf types fields r × (length front < max_rows)
    by_room true e k =
        let b = ok_bind (row_of (length front) types fields) (λ (row : Row). Ok (front ++ row ∷ [])) next k in
        let same : front ++ b.0 ∷ [] ≡ next = let q = b.2 in cc in
        (b.0, sym same, row_is (length front) types fields b.0 b.1, (Decides-ltb (length front) max_rows).0 e)
    by_room false e k = cc

is_added : (types : List ColType) (front : List Row) (fields : List (List ℕ)) (r : Row) → IsRowOf types fields r → length front < max_rows → row_added types front fields ≡ Ok (front ++ r ∷ [])
unfolding row_added
is_added types front fields r h room = rw ((Decides-ltb (length front) max_rows).1 room, is_row (length front) types fields r h) refl

rows_are : (types : List ColType) (records : List (List (List ℕ))) (front out : List Row) → rows_onto types front records ≡ Ok out → length front ≤ max_rows
    → (rest : List Row) × (out ≡ front ++ rest) × AllZip (IsRowOf types) records rest × (length out ≤ max_rows)
unfolding rows_onto
rows_are types [] front out h few = let same : front ≡ out = cc in ([], sym same ∙ sym (append-nil front), tt, rw (← same) few)
rows_are types (fields ∷ records) front out h few =
    let b = ok_bind (row_added types front fields) (λ (rows : List Row). rows_onto types rows records) out h in
    let a = added_is types front b.0 fields b.1 in
    let n = ap length a.1 ∙ length_push front a.0 in
    let room = a.3 in
    let more = rows_are types records b.0 out b.2 (omega (arith, n, room)) in
    (a.0 ∷ more.0, more.1 ∙ (ap (λ l. l ++ more.0) a.1 ∙ append_assoc front (a.0 ∷ []) more.0), (a.2, more.2), more.3)

are_rows : (types : List ColType) (records : List (List (List ℕ))) (front rest : List Row) → AllZip (IsRowOf types) records rest → length (front ++ rest) ≤ max_rows
    → rows_onto types front records ≡ Ok (front ++ rest)
unfolding rows_onto
are_rows types [] front [] h few = ap (λ l. Ok l) (sym (append-nil front))
are_rows types [] front (r ∷ rs) h few = absurd h
are_rows types (fields ∷ records) front [] h few = absurd h
are_rows types (fields ∷ records) front (r ∷ rs) h few =
    let n = length-append front (r ∷ rs) in
    let again = append_assoc front (r ∷ []) rs in
    rw (is_added types front fields r h.0 (omega (arith, n, few)))
    (are_rows types records (front ++ r ∷ []) rs h.1 (rw again few) ∙ ap (λ l. Ok l) again)

-- ---- keys and order

are_kept : (keys : List (List ℕ)) (k : ℕ) (rows : List Row) → KeysHold keys rows → keys_kept k keys rows ≡ Ok rows
unfolding keys_kept
are_kept [] k rows h = refl
are_kept (cols ∷ keys) k rows h = rw ((key-law.clashed cols rows).1 ((key-law.tested cols rows).1 h.0)) (are_kept keys (k + 1) rows h.1)

falls_never : (order : List OrderEntry) (rows : List Row) (n : ℕ) (last : Row) → NoFall order (last ∷ rows) (length (last ∷ rows)) → fall_from order n last rows ≡ None
falls_never order [] n last h = refl
falls_never order (x ∷ xs) n last h = rw (h zero (omega arith)) (falls_never order xs (n + 1) x (λ k l. h (suc k) (omega arith)))

no_first_fall : (order : List OrderEntry) (rows : List Row) → sorted order rows ≡ true → first_fall order rows ≡ None
unfolding first_fall
no_first_fall order [] h = refl
no_first_fall order (x ∷ xs) h = falls_never order xs 1 x (sorted_neighbours order (x ∷ xs) h)

-- ---- texts

under_is : (relation : Relation) (records : List (List (List ℕ))) (rows : List Row) → under_header relation.names relation.types records ≡ Ok rows → Under relation records rows × (length rows ≤ max_rows)
under_is relation [] rows h = cc
under_is relation (header ∷ records) rows h = by_header (is_header relation.names header) refl h
  where
    by_header : (b : Bool) → is_header relation.names header ≡ b → cond b (rows_onto relation.types [] records) (Err fault.HeaderMismatch) ≡ Ok rows
        → Under relation (header ∷ records) rows × (length rows ≤ max_rows)
    by_header true e k =
        let r = rows_are relation.types records [] rows k (omega arith) in
        ((e, subst (λ (l : List Row). AllZip (IsRowOf relation.types) records l) (sym r.1) r.2), r.3)
    by_header false e k = cc

is_under : (relation : Relation) (records : List (List (List ℕ))) (rows : List Row) → Under relation records rows → length rows ≤ max_rows → under_header relation.names relation.types records ≡ Ok rows
is_under relation [] rows h few = absurd h
is_under relation (header ∷ records) rows h few = rw h.0 (are_rows relation.types records [] rows h.1 few)

not_less : (m n : ℕ) → nat_lt m n ≡ false → n ≤ m
not_less m n k = elim (cases_lt m n) [
  | inl l ↦ absurd (true≢false (sym ((Decides-ltb m n).1 l) ∙ k))
  | inr r ↦ r
]

small_enough : (m n : ℕ) (b : Bool) → nat_lt m n ≡ b → n ≤ m → b ≡ false
small_enough m n false e h = refl
small_enough m n true e h = let l = (Decides-ltb m n).0 e in absurd (omega arith)

text_if : (b : Bool) (relation : Relation) (bytes : List ℕ) (rows : List Row) → nat_lt max_text_bytes (length bytes) ≡ b
    → cond b (Err fault.TooLarge) (under_header relation.names relation.types (records_of bytes) >>= λ rows. keys_kept 0 relation.keys rows >>= λ rows. order_kept relation.order rows) ≡ Ok rows → IsTextOf relation bytes rows
text_if true relation bytes rows e h = cc
text_if false relation bytes rows e h =
    let u = ok_bind (under_header relation.names relation.types (records_of bytes)) _ rows h in
    let k = ok_bind (keys_kept 0 relation.keys u.0) _ rows u.2 in
    let keys = keys_kept_is relation.keys 0 u.0 k.0 k.1 in
    let order = order_kept_is relation.order k.0 rows k.2 in
    let same : u.0 ≡ rows = keys.0 ∙ order.0 in
    let under = under_is relation (records_of bytes) u.0 u.1 in
    record {
      small = not_less max_text_bytes (length bytes) e;
      under = subst (λ (l : List Row). Under relation (records_of bytes) l) same under.0;
      few = subst (λ (l : List Row). length l ≤ max_rows) same under.1;
      keys = subst (λ (l : List Row). KeysHold relation.keys l) same keys.1;
      order = subst (λ (l : List Row). sorted relation.order l ≡ true) order.0 order.1;
    }

text_is : (relation : Relation) (bytes : List ℕ) (rows : List Row) → load_of relation bytes ≡ Ok rows → IsTextOf relation bytes rows
unfolding load_of
text_is relation bytes rows h = text_if (nat_lt max_text_bytes (length bytes)) relation bytes rows refl h

is_text : (relation : Relation) (bytes : List ℕ) (rows : List Row) → IsTextOf relation bytes rows → load_of relation bytes ≡ Ok rows
unfolding load_of
is_text relation bytes rows t =
    rw (small_enough max_text_bytes (length bytes) _ refl t.small, is_under relation (records_of bytes) rows t.under t.few, are_kept relation.keys 0 rows t.keys, no_first_fall relation.order rows t.order) refl

pub texts_load_exactly : LoadLaw
texts_load_exactly = record { loads = λ relation bytes rows. (text_is relation bytes rows, is_text relation bytes rows) }
