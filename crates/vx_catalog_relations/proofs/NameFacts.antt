-- Tests of names over lists of strings.
use Rattle.std.proofs.Common.{◌≡◌, ℕ, List, [], ◌∷◌, Bool, refl, sym, ap, ◌∙◌, map, position, ◌||◌, String, Vec, Global, string_bytes, bytes_eq}
use Rattle.std.specs.Bool.{Decides}
use Rattle.std.specs.Cmp.{unsigned_Decides}
use Rattle.std.specs.Cmp.Lexicographic.{pointwise}
use Rattle.std.specs.Cmp.Derive.Mapped.{pointwise-map}
use Rattle.std.proofs.lemmas.Slice.Eq.{slice_eq-Decides}
use Rattle.std.specs.List.{list_any, position_or_len}
use Rattle.std.proofs.lemmas.List.{length-map}

pub list_any-map : {X Y : Type 0} (p : X → Bool) (h : Y → X) (ys : List Y) → list_any p (map h ys) ≡ list_any (λ y. p (h y)) ys
list_any-map p h [] = refl
list_any-map p h (y ∷ ys) = ap (λ b. p (h y) || b) (list_any-map p h ys)

position_or_len-map : {X Y : Type 0} (p : X → Bool) (h : Y → X) (ys : List Y) → position_or_len p (map h ys) ≡ position_or_len (λ y. p (h y)) ys
position_or_len-map p h [] = refl
position_or_len-map p h (y ∷ ys) = rw (position_or_len-map p h ys) refl

pub position-map : {X Y : Type 0} (p : X → Bool) (h : Y → X) (ys : List Y) → position p (map h ys) ≡ position (λ y. p (h y)) ys
position-map p h ys = rw (position_or_len-map p h ys, length-map ys h) refl

pub text_decides : (a b : List ℕ) → Decides (bytes_eq a b) (a ≡ b)
text_decides a b = slice_eq-Decides unsigned_Decides a b (bytes_eq a b) refl

pub same_texts : (xs ys : List (String Global)) (r : Bool) → r ≡ pointwise (λ (s t : String Global). bytes_eq (string_bytes s) (string_bytes t)) xs ys → Decides r (map string_bytes xs ≡ map string_bytes ys)
same_texts xs ys r e = slice_eq-Decides text_decides (map string_bytes xs) (map string_bytes ys) r (e ∙ sym (pointwise-map (λ (s : String Global). string_bytes s) bytes_eq xs ys))

pub same_lists : (xs ys : List (Vec ℕ Global)) (r : Bool) → r ≡ pointwise (λ (s t : Vec ℕ Global). bytes_eq s.items t.items) xs ys → Decides r (map (λ (k : Vec ℕ Global). k.items) xs ≡ map (λ (k : Vec ℕ Global). k.items) ys)
same_lists xs ys r e = slice_eq-Decides text_decides (map (λ (k : Vec ℕ Global). k.items) xs) (map (λ (k : Vec ℕ Global). k.items) ys) r (e ∙ sym (pointwise-map (λ (k : Vec ℕ Global). k.items) bytes_eq xs ys))
