-- Writes and reads one after the other.
use Rattle.std.proofs.Common.{◌≡◌, ℕ, ◌<◌, List, [], ◌++◌, Option, Some, None, refl, sym, ap, ◌∙◌, append_assoc, take, drop, length, true, false, Bool, ◌||◌, arith}
use Rattle.std.proofs.lemmas.List.{append-nil, take-append-drop}
use Rattle.std.proofs.Math.ListN.{length-append}
use Rattle.std.specs.Io.KnownBytes.{Appends, Consumes, IsAtEnd}
use Rattle.vx_catalog_bytes.specs.Ports.{IsAll, IsOver}

pub appends_more : (a b c : Option (List ℕ)) (x y : List ℕ) → Appends a b x → Appends b c y → Appends a c (x ++ y)
appends_more None b c x y p q = tt
appends_more (Some xs) None c x y p q = absurd p
appends_more (Some xs) (Some ys) None x y p q = absurd q
appends_more (Some xs) (Some ys) (Some zs) x y p q = q ∙ (ap (λ s. s ++ y) p ∙ append_assoc xs x y)

pub consumes_more : (a b c : Option (List ℕ)) (x y : List ℕ) → Consumes a b x → Consumes b c y → Consumes a c (x ++ y)
consumes_more None b c x y p q = tt
consumes_more (Some xs) None c x y p q = absurd p
consumes_more (Some xs) (Some ys) None x y p q = absurd q
consumes_more (Some xs) (Some ys) (Some zs) x y p q = p ∙ (ap (λ s. x ++ s) q ∙ sym (append_assoc x y zs))

-- more than the limit were read, so there were more
pub over-consumed : (limit : ℕ) (a b : Option (List ℕ)) (x : List ℕ) → Consumes a b x → limit < length x → IsOver limit a
over-consumed limit None b x p h = tt
over-consumed limit (Some xs) None x p h = absurd p
over-consumed limit (Some xs) (Some ys) x p h = omega (arith, h, ap length p, length-append x ys)

-- at the end, what was read is all
pub all-consumed : (a b c : Option (List ℕ)) (x : List ℕ) → Consumes a b x → Consumes b c [] → IsAtEnd c → IsAll a x
all-consumed None b c x p q e = tt
all-consumed (Some xs) None c x p q e = absurd p
all-consumed (Some xs) (Some ys) None x p q e = absurd q
all-consumed (Some xs) (Some ys) (Some zs) x p q e = p ∙ (ap (λ s. x ++ s) (q ∙ e) ∙ append-nil x)

-- a call that had an answer did not fail
pub still-works : (old new : Bool) → new ≡ (old || false) → (old ≡ true → false ≡ true) → new ≡ false
still-works true new e stays = let no : false ≡ true = stays refl in cc
still-works false new e stays = e

pub or_false : (b : Bool) → (b || false) ≡ b
or_false true = refl
or_false false = refl

pub split_front : (front rest : List ℕ) (n : ℕ) → front ++ rest ≡ (front ++ take n rest) ++ drop n rest
split_front front rest n = ap (λ s. front ++ s) (sym (take-append-drop n rest)) ∙ sym (append_assoc front (take n rest) (drop n rest))
