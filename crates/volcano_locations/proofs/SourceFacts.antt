-- Known bytes behind a byte order mark.
use Rattle.std.proofs.Common.{◌≡◌, ℕ, ◌≤◌, ◌⊎◌, List, [], ◌∷◌, ◌++◌, drop, length, Option, Some, None, true, false, refl, sym, arith, inl, inr}
use Rattle.std.specs.Prelude.{option_map}
use Rattle.std.specs.Io.KnownBytes.{Keeps, IsAtEnd, prepend_known}
use Rattle.csv.specs.Reading.{strip_bom}
use Rattle.volcano_locations.specs.Lines.{has_mark}

mark_off : (chunk ys : List ℕ) → has_mark chunk ≡ true → drop 3 chunk ++ ys ≡ strip_bom (chunk ++ ys)
unfolding strip_bom
mark_off [] ys h = cc
mark_off (a ∷ []) ys h = cc
mark_off (a ∷ b ∷ []) ys h = cc
mark_off (a ∷ b ∷ c ∷ rest) ys h = rw h refl

no_mark : (chunk ys : List ℕ) → (3 ≤ length chunk) ⊎ (ys ≡ []) → has_mark chunk ≡ false → chunk ++ ys ≡ strip_bom (chunk ++ ys)
unfolding strip_bom
no_mark [] ys (inl e) h = absurd (omega arith)
no_mark [] ys (inr e) h = rw e refl
no_mark (a ∷ []) ys (inl e) h = absurd (omega arith)
no_mark (a ∷ []) ys (inr e) h = rw e refl
no_mark (a ∷ b ∷ []) ys (inl e) h = absurd (omega arith)
no_mark (a ∷ b ∷ []) ys (inr e) h = rw e refl
no_mark (a ∷ b ∷ c ∷ rest) ys e h = rw h refl

at_end : (chunk : List ℕ) (known : Option (List ℕ)) → (3 ≤ length chunk) ⊎ IsAtEnd known → (ys : List ℕ) → known ≡ Some ys → (3 ≤ length chunk) ⊎ (ys ≡ [])
at_end chunk known (inl e) ys is = inl e
at_end chunk known (inr e) ys is = inr (rw is at e)

pub marked : (all known : Option (List ℕ)) (chunk : List ℕ) → Keeps all (prepend_known chunk known) → has_mark chunk ≡ true → Keeps (option_map strip_bom all) (prepend_known (drop 3 chunk) known)
marked None known chunk k h = tt
marked (Some xs) None chunk k h = absurd k
marked (Some xs) (Some ys) chunk k h = rw (sym k) (mark_off chunk ys h)

pub unmarked : (all known : Option (List ℕ)) (chunk : List ℕ) → Keeps all (prepend_known chunk known) → (3 ≤ length chunk) ⊎ IsAtEnd known → has_mark chunk ≡ false
    → Keeps (option_map strip_bom all) (prepend_known chunk known)
unmarked None known chunk k e h = tt
unmarked (Some xs) None chunk k e h = absurd k
unmarked (Some xs) (Some ys) chunk k e h = rw (sym k) (no_mark chunk ys (at_end chunk (Some ys) e ys refl) h)
