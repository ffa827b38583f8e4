-- Files that are put in their place.
use Rattle.std.proofs.Common.{◌≡◌, ℕ, List, [], Option, Some, sym, subst}
use Rattle.std.specs.Io.KnownBytes.{Appends}
use Rattle.vx_catalog_bytes.specs.Stored.{Stored, silent, absent, present, IfBytes}
use Rattle.volcano_answer.specs.Replacing.{IsNew, IsPut}

opened_is : (after : Stored) (old new : Option (List ℕ)) (text : List ℕ) → old ≡ Some [] → Appends old new text → IsPut absent after new → IfBytes after (λ bytes. bytes ≡ text)
opened_is silent old new text fresh wrote is = tt
opened_is absent old new text fresh wrote is = absurd is
opened_is (present xs) old new text fresh wrote is =
    let P : Option (List ℕ) → Type 0 = λ o. Appends o new text in
    let Q : Option (List ℕ) → Type 0 = λ n. Appends (Some []) n text in
    subst Q is (subst P fresh wrote)

-- what was written to a new file stands in its place
pub put_is : (before after : Stored) (old new : Option (List ℕ)) (text : List ℕ) → IsNew before old → Appends old new text → IsPut before after new → IfBytes after (λ bytes. bytes ≡ text)
put_is silent after old new text fresh wrote is =
    let P : Stored → Type 0 = λ s. IfBytes s (λ bytes. bytes ≡ text) in
    subst P (sym is) tt
put_is absent after old new text fresh wrote is = opened_is after old new text fresh wrote is
put_is (present xs) after old new text fresh wrote is = opened_is after old new text fresh wrote is

-- what was put into a place that was as it had been before the new file began
pub put_over : (before begun : List ℕ → Stored) (path : List ℕ) (after : Stored) (known : Option (List ℕ)) → begun ≡ before → IsPut (begun path) after known → IsPut (before path) after known
put_over before begun path after known kept put =
    let P : (List ℕ → Stored) → Type 0 = λ h. IsPut (h path) after known in
    subst P kept put
