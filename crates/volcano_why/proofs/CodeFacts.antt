-- The code that a word is or names, and its entry.
use Rattle.std.proofs.Common.{◌≡◌, ℕ, Bool, true, false, cond, List, [], ◌∷◌, Some, map, option_map, refl}
use Rattle.std.specs.Prelude.{IfSome}
use Rattle.std.specs.List.{find, list_all}
use Rattle.std.proofs.lemmas.Bool.{and_parts}
use Rattle.volcano_why.specs.Codes.{Named, is_for, code_in}
use Rattle.volcano_why.specs.Names.{named_is}
use Rattle.volcano_why.specs.declared.names.CodeName.{CodeName}

-- the code that is found among names as they are held
pub code_found : (word : List ℕ) (names : List CodeName)
    → option_map (λ c. c.now) (option_map (λ (n : CodeName). n.0) (find (λ (n : CodeName). is_for word (named_is n)) names)) ≡ code_in word (map named_is names)
code_found word [] = refl
code_found word (n ∷ ns) =
    elim (is_for word (named_is n)) as (λ b. option_map (λ c. c.now) (option_map (λ (n : CodeName). n.0) (cond b (Some n) (find (λ (n : CodeName). is_for word (named_is n)) ns)))
    ≡ option_map (λ (n : Named). n.0) (cond b (Some (named_is n)) (find (is_for word) (map named_is ns)))) [
      | true ↦ refl
      | false ↦ code_found word ns
    ]

-- a code that is found passes each test that all codes pass
pub found_passes : (word : List ℕ) (test : List ℕ → Bool) (names : List CodeName) → list_all (λ (n : CodeName). test n.0.now) names ≡ true
    → IfSome (option_map (λ (n : CodeName). n.0) (find (λ (n : CodeName). is_for word (named_is n)) names)) (λ c. test c.now ≡ true)
found_passes word test [] all = tt
found_passes word test (n ∷ ns) all =
    let parts = and_parts (test n.0.now) (list_all (λ (n : CodeName). test n.0.now) ns) all in
    elim (is_for word (named_is n)) as (λ b. IfSome (option_map (λ (n : CodeName). n.0) (cond b (Some n) (find (λ (n : CodeName). is_for word (named_is n)) ns))) (λ c. test c.now ≡ true)) [
      | true ↦ parts.0
      | false ↦ found_passes word test ns parts.1
    ]
