-- The names in a header, field by field.
use Rattle.std.proofs.Common.{◌≡◌, ℕ, zero, suc, ◌+◌, ◌<◌, ◌≤◌, List, [], ◌∷◌, ◌++◌, Bool, true, false, Some, None, Ok, Err, refl, ap, ◌∙◌, length, get_or, take, take_all, map, string_bytes, arith, add-one}
use Rattle.std.proofs.lemmas.List.{map_push}
use Rattle.std.proofs.lemmas.List.Folds.{list_all-append, list_all_at}
use Rattle.std.specs.List.{list_all}
use Rattle.std.specs.Prelude.{IsUtf8, String}
use Rattle.std.specs.declared.alloc.Global.{Global}
use Rattle.std.specs.Str.{is_utf8}
use Rattle.std.proofs.lemmas.Str.{is_utf8-from_IsUtf8, IsUtf8-from_is_utf8}
use Rattle.csv.specs.Records.{field_at}
use Rattle.vx_catalog.specs.Loading.{Fails}
use Rattle.vx_catalog.proofs.RowFacts.{fails_along}
use Rattle.vx_catalog.specs.declared.fault.LoadFault.{LoadFault}
use Rattle.vx_catalog.specs.declared.fault.LoadFault.TheVariants as fault
use Rattle.vx_catalog_finding.specs.Found.{name_in, names_in}

pub name_read : (field name : List ℕ) → IsUtf8 field → name ≡ field → name_in field ≡ Ok name
name_read field name h e = rw (is_utf8-from_IsUtf8 field h, e) refl

pub name_refused : (field : List ℕ) → (IsUtf8 field → ⊥) → name_in field ≡ Err fault.HeaderMismatch
name_refused field h = by_test (is_utf8 field) refl
  where
    by_test : (b : Bool) → is_utf8 field ≡ b → name_in field ≡ Err fault.HeaderMismatch
    by_test true e = absurd (h (IsUtf8-from_is_utf8 field e))
    by_test false e = rw e refl

pub field_taken : (fields : List (List ℕ)) (i : ℕ) (f : List ℕ) → field_at fields i ≡ Some f → take (suc i) fields ≡ take i fields ++ f ∷ []
unfolding field_at
field_taken [] i f h = cc
field_taken (x ∷ xs) zero f h = let e : x ≡ f = cc in rw e refl
field_taken (x ∷ xs) (suc i) f h = ap (λ l. x ∷ l) (field_taken xs i f h)

-- what a name that was read is
pub name_is : (field name : List ℕ) → name_in field ≡ Ok name → (is_utf8 field ≡ true) × (name ≡ field)
name_is field name h = by_test (is_utf8 field) refl
  where
    by_test : (b : Bool) → is_utf8 field ≡ b → (is_utf8 field ≡ true) × (name ≡ field)
    by_test true e =
        let read : name_in field ≡ Ok field = rw e refl in
        let same : name ≡ field = cc in
        (e, same)
    by_test false e = let read : name_in field ≡ Err fault.HeaderMismatch = rw e refl in cc

pub names_more : (fields : List (List ℕ)) (i : ℕ) (field : List ℕ) (names : List (String Global)) (name : String Global) → field_at fields i ≡ Some field → name_in field ≡ Ok (string_bytes name)
    → map string_bytes names ≡ take i fields → map string_bytes (names ++ name ∷ []) ≡ take (i + 1) fields
names_more fields i field names name at read so_far =
    rw (add-one, field_taken fields i field at, map_push string_bytes names name, so_far, (name_is field (string_bytes name) read).1) refl

pub utf8_more : (fields : List (List ℕ)) (i : ℕ) (field name : List ℕ) → field_at fields i ≡ Some field → name_in field ≡ Ok name
    → list_all is_utf8 (take i fields) ≡ true → list_all is_utf8 (take (i + 1) fields) ≡ true
utf8_more fields i field name at read so_far =
    rw (add-one, field_taken fields i field at, list_all-append is_utf8 (take i fields) (field ∷ []), so_far, (name_is field name read).0) refl

pub names_done : (fields : List (List ℕ)) (i : ℕ) (names : List (List ℕ)) → length fields ≤ i → names ≡ take i fields → list_all is_utf8 (take i fields) ≡ true → names_in fields ≡ Ok names
unfolding names_in
names_done fields i names h so_far utf8 =
    let all : take i fields ≡ fields = take_all i fields h in
    rw (rw all at utf8, so_far ∙ all) refl

-- a field that is there
field_there : (fields : List (List ℕ)) (i : ℕ) (f : List ℕ) → field_at fields i ≡ Some f → (i < length fields) × (get_or fields i [] ≡ f)
unfolding field_at
field_there [] i f h = cc
field_there (x ∷ xs) zero f h = let e : x ≡ f = cc in (omega arith, e)
field_there (x ∷ xs) (suc i) f h = let there = field_there xs i f h in (omega (arith, there.0), there.1)

no_name : (field : List ℕ) (f : LoadFault) → name_in field ≡ Err f → (is_utf8 field ≡ false) × (f ≡ fault.HeaderMismatch)
no_name field f h = by_test (is_utf8 field) refl
  where
    by_test : (b : Bool) → is_utf8 field ≡ b → (is_utf8 field ≡ false) × (f ≡ fault.HeaderMismatch)
    by_test true e = let read : name_in field ≡ Ok field = rw e refl in cc
    by_test false e =
        let read : name_in field ≡ Err fault.HeaderMismatch = rw e refl in
        let same : f ≡ fault.HeaderMismatch = cc in
        (e, same)

no_header : (fields : List (List ℕ)) (i : ℕ) (field : List ℕ) (f : LoadFault) → field_at fields i ≡ Some field → name_in field ≡ Err f → names_in fields ≡ Err f
unfolding names_in
no_header fields i field f at h =
    let there = field_there fields i field at in
    let bad = no_name field f h in
    rw (list_all_at is_utf8 fields i [] there.0 (ap is_utf8 there.1 ∙ bad.0), bad.1) refl

-- a field that is no name makes the header none
pub name_stops : (fields : List (List ℕ)) (i : ℕ) (field : List ℕ) (e : LoadFault) → field_at fields i ≡ Some field → Fails e (name_in field) → Fails e (names_in fields)
name_stops fields i field e at bad = fails_along e (name_in field) (names_in fields) (λ f g. no_header fields i field f at g) bad

-- there is a field at each place
pub field_missing : (fields : List (List ℕ)) (i : ℕ) → i < length fields → field_at fields i ≡ None → ⊥
unfolding field_at
field_missing [] i h k = omega arith
field_missing (x ∷ xs) zero h k = cc
field_missing (x ∷ xs) (suc i) h k = field_missing xs i (omega arith) k

pub ruleset name_steps = (name_read, name_refused)

pub ruleset header_steps = (names_more, utf8_more, names_done, name_stops, field_missing)
