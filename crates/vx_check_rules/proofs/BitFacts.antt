-- Columns as bits of a number.
use Rattle.std.proofs.Common.{◌≡◌, ℕ, ◌*◌, ◌%◌, ◌^◌, ◌<◌, ◌==◌, ◌||◌, ap, sym, subst, ◌∙◌, w64, eqb, bit_or}
use Rattle.std.specs.Int.{bit_at}
use Rattle.std.proofs.Math.Bool.{or-true, or-false}
use Rattle.std.proofs.Math.Logic.{⊎_elim}
use Rattle.std.proofs.lemmas.Bool.Decides.{eqb_tells}
use Rattle.std.proofs.lemmas.Nat.Bits.{bit_at_set_same, bit_at_set_other}

-- setting bit k answers yes for k, and for the others what was there
pub set-bit : (low k c : ℕ) → k < 64 → (bit_at (bit_or low (1 * 2 ^ k % 2 ^ 64)) c == 1) ≡ ((bit_at low c == 1) || eqb k c)
set-bit low k c small = ⊎_elim
    (λ h. subst (λ x. (bit_at (bit_or low (1 * 2 ^ k % 2 ^ 64)) x == 1) ≡ ((bit_at low x == 1) || eqb k c)) h.1
    (ap (λ b. b == 1) (bit_at_set_same w64 low k small) ∙ sym (ap (λ t. (bit_at low k == 1) || t) h.0 ∙ or-true (bit_at low k == 1))))
    (λ h. ap (λ b. b == 1) (bit_at_set_other w64 low k small c (λ e. h.1 (sym e))) ∙ sym (ap (λ t. (bit_at low c == 1) || t) h.0 ∙ or-false (bit_at low c == 1)))
    (eqb_tells k c)
