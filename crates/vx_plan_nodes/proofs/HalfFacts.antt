-- Texts that lie in two halves: they are equal, and in order, as their halves are.
use Rattle.std.proofs.Common.{◌≡◌, ℕ, ◌<◌, List, [], ◌∷◌, ◌++◌, Bool, true, false, ◌&&◌, refl, sym, ap, ◌∙◌, length, bytes_eq, arith, nat_eq, true≢false, append_assoc}
use Rattle.std.specs.declared.cmp.Ordering.{Ordering}
use Rattle.std.specs.declared.cmp.Ordering.TheVariants.{Less, Equal, Greater}
use Rattle.std.specs.Ordering.{ordering_then, ordering_reverse, nat_cmp, is_ne}
use Rattle.std.specs.Cmp.Lexicographic.{slice_cmp, nat_list_cmp_total}

by-both : (p q r : Ordering) → ordering_then p (ordering_then q r) ≡ ordering_then (ordering_then p q) r
by-both Less q r = refl
by-both Equal q r = refl
by-both Greater q r = refl

-- fronts of one length decide, and where they are equal the backs
halves-order : (s r f b : List ℕ) → length s ≡ length f → slice_cmp nat_cmp (s ++ r) (f ++ b) ≡ ordering_then (slice_cmp nat_cmp s f) (slice_cmp nat_cmp r b)
halves-order [] r [] b e = refl
halves-order [] r (y ∷ f) b e = absurd (omega (arith, e))
halves-order (x ∷ s) r [] b e = absurd (omega (arith, e))
halves-order (x ∷ s) r (y ∷ f) b e = ap (ordering_then (nat_cmp x y)) (halves-order s r f b (omega (arith, e))) ∙ by-both (nat_cmp x y) (slice_cmp nat_cmp s f) (slice_cmp nat_cmp r b)

decided : (o r : Ordering) → is_ne o ≡ true → ordering_then o r ≡ o
decided Less r e = refl
decided Equal r e = absurd (true≢false (sym e))
decided Greater r e = refl

tied : (o r : Ordering) → is_ne o ≡ false → ordering_then o r ≡ r
tied Less r e = absurd (true≢false e)
tied Equal r e = refl
tied Greater r e = absurd (true≢false e)

-- the fronts differ
pub fronts-decide : (t s r f b : List ℕ) (o : Ordering) → t ≡ s ++ r → length s ≡ length f → o ≡ slice_cmp nat_cmp s f → is_ne o ≡ true → o ≡ slice_cmp nat_cmp t (f ++ b)
fronts-decide t s r f b o cut long found side =
    sym (ap (λ (u : List ℕ). slice_cmp nat_cmp u (f ++ b)) cut ∙ (halves-order s r f b long ∙ (ap (λ (p : Ordering). ordering_then p (slice_cmp nat_cmp r b)) (sym found) ∙ decided o _ side)))

-- the fronts are equal
pub backs-decide : (t s r f b : List ℕ) (o : Ordering) → t ≡ s ++ r → length s ≡ length f → o ≡ slice_cmp nat_cmp s f → is_ne o ≡ false → slice_cmp nat_cmp r b ≡ slice_cmp nat_cmp t (f ++ b)
backs-decide t s r f b o cut long found side =
    sym (ap (λ (u : List ℕ). slice_cmp nat_cmp u (f ++ b)) cut ∙ (halves-order s r f b long ∙ (ap (λ (p : Ordering). ordering_then p (slice_cmp nat_cmp r b)) (sym found) ∙ tied o _ side)))

-- a text that is shorter than the front is not equal to its beginning
pub short-order : (t f b : List ℕ) → length t < length f → slice_cmp nat_cmp t (f ++ b) ≡ slice_cmp nat_cmp t f
short-order t [] b h = absurd (omega (arith, h))
short-order [] (y ∷ f) b h = refl
short-order (x ∷ t) (y ∷ f) b h = ap (ordering_then (nat_cmp x y)) (short-order t f b (omega (arith, h)))

pub turned-order : (a b : List ℕ) → ordering_reverse (slice_cmp nat_cmp a b) ≡ slice_cmp nat_cmp b a
turned-order a b = sym (nat_list_cmp_total.antisymm b a)

both-eq : (p q r : Bool) → (p && (q && r)) ≡ ((p && q) && r)
both-eq true q r = refl
both-eq false q r = refl

-- the same of equality
pub halves-eq : (s r f b : List ℕ) → length s ≡ length f → bytes_eq (s ++ r) (f ++ b) ≡ (bytes_eq s f && bytes_eq r b)
halves-eq [] r [] b e = refl
halves-eq [] r (y ∷ f) b e = absurd (omega (arith, e))
halves-eq (x ∷ s) r [] b e = absurd (omega (arith, e))
halves-eq (x ∷ s) r (y ∷ f) b e = ap (λ (z : Bool). nat_eq x y && z) (halves-eq s r f b (omega (arith, e))) ∙ both-eq (nat_eq x y) (bytes_eq s f) (bytes_eq r b)

pub backs-equal : (t s r f b : List ℕ) (q : Bool) → t ≡ s ++ r → length s ≡ length f → true ≡ bytes_eq s f → q ≡ bytes_eq r b → q ≡ bytes_eq t (f ++ b)
backs-equal t s r f b q cut long same e =
    e ∙ sym (ap (λ (u : List ℕ). bytes_eq u (f ++ b)) cut ∙ (halves-eq s r f b long ∙ ap (λ (z : Bool). z && bytes_eq r b) (sym same)))

pub fronts-apart : (t s r f b : List ℕ) (p : Bool) → t ≡ s ++ r → length s ≡ length f → p ≡ bytes_eq s f → p ≡ false → p ≡ bytes_eq t (f ++ b)
fronts-apart t s r f b p cut long same e =
    e ∙ sym (ap (λ (u : List ℕ). bytes_eq u (f ++ b)) cut ∙ (halves-eq s r f b long ∙ ap (λ (z : Bool). z && bytes_eq r b) (sym same ∙ e)))

whole : (p s r c : List ℕ) → p ≡ s ++ r → p ++ c ≡ s ++ (r ++ c)
whole p s r c cut = ap (λ (u : List ℕ). u ++ c) cut ∙ append_assoc s r c

-- a front that is cut where the other ends
pub longer-fronts : (p s r c q d : List ℕ) (o : Ordering) → p ≡ s ++ r → length s ≡ length q → o ≡ slice_cmp nat_cmp s q → is_ne o ≡ true → o ≡ slice_cmp nat_cmp (p ++ c) (q ++ d)
longer-fronts p s r c q d o cut long found side = fronts-decide (p ++ c) s (r ++ c) q d o (whole p s r c cut) long found side

pub longer-backs : (p s r c q d : List ℕ) (o : Ordering) → p ≡ s ++ r → length s ≡ length q → o ≡ slice_cmp nat_cmp s q → is_ne o ≡ false
    → ordering_reverse (slice_cmp nat_cmp d (r ++ c)) ≡ slice_cmp nat_cmp (p ++ c) (q ++ d)
longer-backs p s r c q d o cut long found side = turned-order d (r ++ c) ∙ backs-decide (p ++ c) s (r ++ c) q d o (whole p s r c cut) long found side
