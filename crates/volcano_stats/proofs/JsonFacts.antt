-- Texts that are closed by a last write.
use Rattle.std.proofs.Common.{◌≡◌, ◌++◌, ◌∙◌, ap, List, ℕ, Result, Ok, Err, is_ok, if◌then◌else◌, OnOk}
use Rattle.std.proofs.lemmas.List.{append_assoc}

-- the text after three writes, of which the last one may fail
pub closed : {T E : Type 0} (r : Result T E) (before opened listed after opening items ending : List ℕ) → opened ≡ before ++ opening → listed ≡ opened ++ items
    → after ≡ if is_ok r then listed ++ ending else listed → OnOk r (after ≡ before ++ (opening ++ (items ++ ending)))
closed (Ok v) before opened listed after opening items ending o l e =
    e ∙ ap (λ t. t ++ ending) (l ∙ ap (λ t. t ++ items) o ∙ append_assoc before opening items)
    ∙ append_assoc before (opening ++ items) ending ∙ ap (λ t. before ++ t) (append_assoc opening items ending)
closed (Err f) before opened listed after opening items ending o l e = tt
