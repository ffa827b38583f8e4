-- A list that is made of another one, entry by entry.
use Rattle.std.proofs.Common.{◌≡◌, ◌∙◌, ℕ, ◌+◌, ◌≤◌, List, [], ◌∷◌, ◌++◌, take, length, Some, slice_get, sym, ap}
use Rattle.std.proofs.lemmas.List.{take_more, take_all}
use Rattle.std.proofs.lemmas.Option.{slice_get_within, get_or_from_slice_get}

-- one entry further
pub entry-next : {X : Type 0} (xs : List X) (i : ℕ) (x : X) (old new : List X) → slice_get xs i ≡ Some x → old ≡ take i xs → new ≡ old ++ x ∷ [] → new ≡ take (i + 1) xs
entry-next xs i x old new at is pushed =
    pushed ∙ ap (λ ys. ys ++ x ∷ []) is ∙ ap (λ y. take i xs ++ y ∷ []) (sym (get_or_from_slice_get xs i x x at)) ∙ sym (take_more xs i x (slice_get_within xs i x at))

-- all of them
pub entries-all : {X : Type 0} (xs : List X) (i : ℕ) (ys : List X) → length xs ≤ i → ys ≡ take i xs → ys ≡ xs
entries-all xs i ys past is = is ∙ take_all i xs past
