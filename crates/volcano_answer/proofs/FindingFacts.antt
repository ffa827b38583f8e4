-- Where the name of a file begins in its path.
use Rattle.std.proofs.Common.{◌≡◌, refl, sym, ap, subst, ◌∙◌, ℕ, suc, ◌+◌, ◌<◌, ◌==◌, List, [], ◌∷◌, ◌++◌, length, map, take, get_or, Bool, true, false, cond, not, ◌||◌, inl, inr, arith}
use Rattle.std.specs.Prelude.{codes}
use Rattle.std.specs.List.{list_any, position_or_len, before_first, after_first}
use Rattle.std.proofs.lemmas.Bool.{eqb-true}
use Rattle.std.proofs.lemmas.Bool.Decides.{leb_tells}
use Rattle.std.proofs.lemmas.List.{append_assoc, map_more, get_or-map, get_or_append_left, get_or_push, length-map, length_push}
use Rattle.std.proofs.lemmas.List.Sums.{split_at_first, passes_at_first}
use Rattle.vx_catalog_bytes.specs.Stored.{Stored}
use Rattle.volcano_answer.specs.declared.command_line.ArgumentFault.{ArgumentFault}
use Rattle.volcano_answer.specs.declared.command_line.ArgumentFault.TheVariants as fault
use Rattle.volcano_answer.specs.CommandLineView.{IsUsageFault}
use Rattle.volcano_answer.specs.Files.{file_memory}
use Rattle.vx_catalog_finding.specs.Finding.{NamedText}
use Rattle.volcano_answer.specs.Finding.{IsNoTablePath, IsTextAt, AreTextsAt, for_path}
use Rattle.volcano_answer.specs.FindingView.{IsPathFault, IsCatalogFault}

abbrev pub is_slash : ℕ → Bool
is_slash c = c == 47

-- a text in which no slash is found has none
pub no_slash : (name : List ℕ) → position_or_len is_slash name ≡ length name → list_any is_slash name ≡ false
no_slash [] e = refl
no_slash (c ∷ name) e = by_test (c == 47) (list_any is_slash name) (no_slash name) e
  where
    by_test : (b r : Bool) → (position_or_len is_slash name ≡ length name → r ≡ false) → cond (not b) (1 + position_or_len is_slash name) 0 ≡ suc (length name) → (b || r) ≡ false
    by_test true r rest h = absurd (omega arith)
    by_test false r rest h = rest (omega arith)

-- what stands behind the first slash of what follows a front follows one too
pub front_of_rest : (path front name rest : List ℕ) → path ≡ front ++ name → position_or_len is_slash name < length name → rest ≡ after_first is_slash name
    → path ≡ ((front ++ before_first is_slash name) ++ codes "/") ++ rest
front_of_rest path front name rest e lt r =
    let slash = eqb-true _ 47 (passes_at_first is_slash name 0 lt) in
    let tail : name ≡ before_first is_slash name ++ (47 ∷ rest) = split_at_first is_slash name 0 lt ∙ ap (λ c. before_first is_slash name ++ (c ∷ after_first is_slash name)) slash
    ∙ ap (λ t. before_first is_slash name ++ (47 ∷ t)) (sym r) in
    e ∙ ap (λ t. front ++ t) tail ∙ sym (append_assoc front (before_first is_slash name) (47 ∷ rest)) ∙ sym (append_assoc (front ++ before_first is_slash name) (codes "/") rest)

-- a message that names a path which is that of no table says so
pub path_fault_of : (files : List ℕ → Stored) (reliable : List ℕ → Bool) (path after : List ℕ) (e : ArgumentFault) → IsNoTablePath path → IsUsageFault (codes "volcano: catalog ") path after e
    → IsPathFault files reliable path e
path_fault_of files reliable path after (fault.Usage text) none h = (none, (after, h))
path_fault_of files reliable path after (fault.Refused e) none h = file_memory h
path_fault_of files reliable path after (fault.Failing lines) none h = absurd h

fault_at : (files : List ℕ → Stored) (reliable : List ℕ → Bool) (paths : List (List ℕ)) (i : ℕ) (e : ArgumentFault) → i < length paths → IsPathFault files reliable (get_or paths i []) e
    → IsCatalogFault files reliable paths e
fault_at files reliable paths i (fault.Usage text) there h = (get_or paths i [], (i, there, refl, h.0), h.1)
fault_at files reliable paths i (fault.Refused e) there h = for_path i there h
fault_at files reliable paths i (fault.Failing lines) there h = absurd h

-- a fault of one path is one of all
pub paths_fault_of : {W : Type 0} (look : W → List ℕ) (files : List ℕ → Stored) (reliable : List ℕ → Bool) (ws : List W) (i : ℕ) (d : W) (e : ArgumentFault) → i < length ws
    → IsPathFault files reliable (look (get_or ws i d)) e → IsCatalogFault files reliable (map look ws) e
paths_fault_of look files reliable ws i d e there h =
    let P : List ℕ → Type 0 = λ path. IsPathFault files reliable path e in
    let many = length-map ws look in
    fault_at files reliable (map look ws) i e (omega arith) (subst P (sym (get_or-map look ws i d [] there)) h)

-- what stands for a text that is missing
abbrev nothing : NamedText
nothing = record { name = []; text = [] }

texts_and_one : (files : List ℕ → Stored) (ps : List (List ℕ)) (p : List ℕ) (ts : List NamedText) (t : NamedText) → AreTextsAt files ps ts → IsTextAt files p t
    → AreTextsAt files (ps ++ p ∷ []) (ts ++ t ∷ [])
texts_and_one files ps p ts t so_far here =
    let paths = length_push ps p in
    let texts = length_push ts t in
    let many = so_far.many in
    let before : (i : ℕ) → i < length ps → IsTextAt files (get_or (ps ++ p ∷ []) i []) (get_or (ts ++ t ∷ []) i nothing) = λ i there.
    let P : List ℕ → Type 0 = λ q. IsTextAt files q (get_or (ts ++ t ∷ []) i nothing) in
    let Q : NamedText → Type 0 = λ u. IsTextAt files (get_or ps i []) u in
    subst P (sym (get_or_append_left ps (p ∷ []) [] i there)) (subst Q (sym (get_or_append_left ts (t ∷ []) nothing i (omega arith))) (so_far.each i there)) in
    let last : (i : ℕ) → length ps ≡ i → IsTextAt files (get_or (ps ++ p ∷ []) i []) (get_or (ts ++ t ∷ []) i nothing) = λ i at.
    let P : List ℕ → Type 0 = λ q. IsTextAt files q (get_or (ts ++ t ∷ []) i nothing) in
    let Q : NamedText → Type 0 = λ u. IsTextAt files p u in
    subst P (sym (get_or_push ps p [] i at)) (subst Q (sym (get_or_push ts t nothing i (many ∙ at))) here) in
    record { many = omega arith; each = λ i there. elim (leb_tells (length ps) i) [ inl h ↦ last i (let least = h.1 in omega arith) | inr h ↦ before i h.1 ] }

-- the texts at the first paths, and one more
pub texts_grow : {W : Type 0} (look : W → List ℕ) (files : List ℕ → Stored) (ws : List W) (i : ℕ) (d : W) (ts : List NamedText) (t : NamedText) → i < length ws
    → AreTextsAt files (map look (take i ws)) ts → IsTextAt files (look (get_or ws i d)) t → AreTextsAt files (map look (take (i + 1) ws)) (ts ++ t ∷ [])
texts_grow look files ws i d ts t there so_far here =
    let P : List (List ℕ) → Type 0 = λ ps. AreTextsAt files ps (ts ++ t ∷ []) in
    subst P (sym (map_more look ws i d there)) (texts_and_one files (map look (take i ws)) (look (get_or ws i d)) ts t so_far here)
