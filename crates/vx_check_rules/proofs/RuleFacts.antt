-- What is not there.
use Rattle.std.proofs.Common.{◌≡◌, Option, Some, None, refl}

-- what is nothing that is there is not there
pub not-some : {X : Type 0} (o : Option X) → ((x : X) → o ≡ Some x → ⊥) → o ≡ None
not-some (Some x) other = absurd (other x refl)
not-some None other = refl
