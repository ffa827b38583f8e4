-- Numbers and arguments NAME=N as they are read.
use Rattle.std.proofs.Common.{◌≡◌, ◌∙◌, ℕ, ◌+◌, List, [], ◌∷◌, ◌++◌, map, take, drop, length, codes, append_assoc, get_or, String, Global, ◌<◌, arith, sym, ap, subst}
use Rattle.std.proofs.lemmas.List.{take-append-drop, length-map, get_or-map, map-append, map_more, take-map}
use Rattle.std.proofs.lemmas.Str.{encode_ascii}
use Rattle.std.specs.Prelude.{◌==◌}
use Rattle.std.specs.Str.{NoCharPasses}
use Rattle.std.specs.Str.Pattern.{RFindsChar, SplitsAroundMatch}
use Rattle.vx_exec_setup.specs.Setup.{entry_of}
use Rattle.volcano_bundle.specs.Named.{Named}
use Rattle.volcano_arguments.specs.Asked.{Given}
use Rattle.volcano_answer.specs.Arguments.{IsCut, IsSize, IsNoSize, AreSizes, HasNoSize, IsFirstNoSize, IsNoSetting, for_packet, for_morsel, for_slack, for_mode, for_size, IsWrongPart, wrong_packet, wrong_morsel, wrong_slack, wrong_mode, wrong_size}

-- one argument more
pub sizes_more : (words : List (List ℕ)) (sizes : Named ℕ) (word : List ℕ) (size : List ℕ × ℕ) → AreSizes words sizes → IsSize word size
    → AreSizes (words ++ word ∷ []) (sizes ++ size ∷ [])
sizes_more [] [] word size h is = (is, tt)
sizes_more [] (z ∷ zs) word size h is = absurd h
sizes_more (w ∷ ws) [] word size h is = absurd h
sizes_more (w ∷ ws) (z ∷ zs) word size h is = (h.0, sizes_more ws zs word size h.1 is)

-- a text that is split around its last =
pub cut_at : (word front back : List ℕ) → SplitsAroundMatch (RFindsChar 61) word front back → IsCut word front back
cut_at word front back h =
    let i = h.0 in
    let j = h.1 in
    let split : drop i word ≡ codes "=" ++ drop j word = h.2.1.split ∙ ap (λ (front : List ℕ). front ++ drop j word) (encode_ascii 61 (omega arith)) in
    let whole : word ≡ take i word ++ (codes "=" ++ drop j word) = sym (take-append-drop i word) ∙ ap (λ (rest : List ℕ). take i word ++ rest) split in
    let P : List ℕ → Type 0 = λ number. NoCharPasses (λ c. c == 61) number in
    (whole ∙ ap (λ (front : List ℕ). front ++ (codes "=" ++ drop j word)) (sym h.3) ∙ ap (λ (back : List ℕ). front ++ (codes "=" ++ back)) (sym h.4) ∙ sym (append_assoc front (codes "=") back), subst P (sym h.4) h.2.0)

-- the first argument of a list that is no NAME=N
pub size_missing : {W : Type 0} (look : W → List ℕ) (words : List W) (i : ℕ) (d : W) (sizes : Named ℕ) → i < length words → AreSizes (map look (take i words)) sizes → IsNoSize (look (get_or words i d))
    → IsFirstNoSize (map look words) (look (get_or words i d))
size_missing look words i d sizes there so_far h =
    let N : ℕ → Type 0 = λ n. i < n in
    let P : List (List ℕ) → Type 0 = λ ws. AreSizes ws sizes in
    (i, sizes, subst N (sym (length-map words look)) there, get_or-map look words i d [] there, subst P (sym (take-map look i words)) so_far, h)

-- there is one
no_sizes : (arguments : List (List ℕ)) (argument : List ℕ) → IsFirstNoSize arguments argument → HasNoSize arguments
no_sizes arguments argument h = let P : List ℕ → Type 0 = λ w. IsNoSize w in (h.0, h.2, subst P (sym h.3) h.5)

-- arguments with a part that sets no run up set none up
pub no_setting : (given : Given) (before argument : List ℕ) → IsWrongPart given before argument → IsNoSetting given
no_setting given before argument (wrong_packet h b a) = for_packet h
no_setting given before argument (wrong_morsel h b a) = for_morsel h
no_setting given before argument (wrong_slack h b a) = for_slack h
no_setting given before argument (wrong_mode h b a) = for_mode h
no_setting given before argument (wrong_size h b) = for_size (no_sizes given.sizes argument h)

-- the sizes of the arguments so far, and that of the next
pub sizes_grow : {W : Type 0} (look : W → List ℕ) (words : List W) (i : ℕ) (d : W) (sizes grown : List (String Global × ℕ)) (size : String Global × ℕ) → i < length words
    → AreSizes (map look (take i words)) (map entry_of sizes) → IsSize (look (get_or words i d)) (entry_of size) → grown ≡ sizes ++ size ∷ []
    → AreSizes (map look (take (i + 1) words)) (map entry_of grown)
sizes_grow look words i d sizes grown size there h is more =
    let all : map entry_of grown ≡ map entry_of sizes ++ entry_of size ∷ [] = ap (map entry_of) more ∙ map-append entry_of sizes (size ∷ []) in
    let P : List (List ℕ) → Type 0 = λ ws. AreSizes ws (map entry_of grown) in
    let Q : Named ℕ → Type 0 = λ zs. AreSizes (map look (take i words) ++ look (get_or words i d) ∷ []) zs in
    subst P (sym (map_more look words i d there)) (subst Q (sym all) (sizes_more (map look (take i words)) (map entry_of sizes) (look (get_or words i d)) (entry_of size) h is))
