-- The rows of the relation, cell by cell.
use Rattle.std.proofs.Common.{◌≡◌, ℕ, List, [], ◌∷◌, ◌++◌, ◌≤◌, map, refl}
use Rattle.std.specs.Prelude.{pos}
use Rattle.std.specs.List.{All}
use Rattle.std.specs.Str.{IsUtf8}
use Rattle.std.proofs.lemmas.Str.{IsUtf8-from_is_utf8}
use Rattle.vx_rows_values.specs.Values.{num, text, Row}
use Rattle.vx_rows.proofs.Below.{all_at}
use Rattle.vx_wisconsin.specs.Wisconsin.{unique1, numbers, text_of, string4, row_of}
use Rattle.vx_wisconsin.proofs.RelationFacts.{small, text-held, string4-held}

-- the numbers fit into 64 bits
pub numbers-small : (u i : ℕ) → u ≤ 9223372036854775807 → i ≤ 9223372036854775807 → All (λ k. k ≤ 9223372036854775807) (numbers u i)
numbers-small u i h k = all_at (λ n. n ≤ 9223372036854775807) (numbers u i) (small u i h k)

-- the texts are UTF-8
pub text-utf8 : (k : ℕ) → IsUtf8 (text_of k)
text-utf8 k = IsUtf8-from_is_utf8 (text_of k) (text-held k)

pub string4-utf8 : (i : ℕ) → IsUtf8 (string4 i)
string4-utf8 i = IsUtf8-from_is_utf8 (string4 i) (string4-held i)

-- a row that got its numbers, and then its texts one by one
pub row-put : (n i u : ℕ) (ks s t v : List ℕ) (f0 f1 f2 f3 : Row) → u ≡ unique1 n i → ks ≡ numbers u i → s ≡ text_of u → t ≡ text_of i → v ≡ string4 i
    → f0 ≡ map (λ k. num (pos k)) ks → f1 ≡ f0 ++ text s ∷ [] → f2 ≡ f1 ++ text t ∷ [] → f3 ≡ f2 ++ text v ∷ [] → f3 ≡ row_of n i
unfolding row_of
row-put n i u ks s t v f0 f1 f2 f3 eu ek es et ev e0 e1 e2 e3 = rw (e3, e2, e1, e0, ev, et, es, ek, eu) refl
