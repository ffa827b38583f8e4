-- Texts put behind one another.
use Rattle.std.proofs.Common.{◌≡◌, ◌∙◌, ℕ, ◌++◌, ap, append_assoc, List, Result, Ok, Err}
use Rattle.std.specs.Prelude.{OnOk}

regrouped : (old a b c d : List ℕ) → (((old ++ a) ++ b) ++ c) ++ d ≡ old ++ (a ++ (b ++ (c ++ d)))
regrouped old a b c d = simp append_assoc

pub four-behind : {T E : Type 0} (r : Result T E) (old one two three new a b c d : List ℕ) → one ≡ old ++ a → two ≡ one ++ b → three ≡ two ++ c → OnOk r (new ≡ three ++ d)
    → OnOk r (new ≡ old ++ (a ++ (b ++ (c ++ d))))
four-behind (Ok x) old one two three new a b c d f g h k =
    k ∙ (ap (λ t. t ++ d) (h ∙ ap (λ t. t ++ c) (g ∙ ap (λ t. t ++ b) f)) ∙ regrouped old a b c d)
four-behind (Err e) old one two three new a b c d f g h k = tt

pub both-behind : {T E : Type 0} (r : Result T E) (old one new a b : List ℕ) → one ≡ old ++ a → OnOk r (new ≡ one ++ b) → OnOk r (new ≡ old ++ (a ++ b))
both-behind (Ok x) old one new a b f g = g ∙ (ap (λ t. t ++ b) f ∙ append_assoc old a b)
both-behind (Err e) old one new a b f g = tt
