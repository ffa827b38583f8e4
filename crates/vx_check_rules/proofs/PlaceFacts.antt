-- Places of columns, one by one.
use Rattle.std.proofs.Common.{Vec, Global, map, append_assoc, ◌≡◌, ℕ, suc, ◌+◌, ◌<◌, Bool, true, false, List, [], ◌∷◌, ◌++◌, length, drop, get_or, Option, Some, None, is_some, refl, sym, ap, ◌∙◌, add-one, drop-cons}
use Rattle.std.specs.List.{cons_option}
use Rattle.std.proofs.lemmas.List.{map-append, append-nil, at_drop_more}
use Rattle.vx_plan_nodes.specs.Describe.{Copying, place}
use Rattle.vx_check_rules.specs.Rules.{cons_both}
use Rattle.vx_check_rules.specs.Behaviour.{places, place_then, front_places, kept_keys}

-- where each column has a place, the front is all
pub all-placed : (k : Copying) (cols : List ℕ) → is_some (places k cols) ≡ true → places k cols ≡ Some (front_places k cols)
all-placed k [] h = refl
all-placed k (c ∷ cs) h = by (place k c) (places k cs) (λ e. all-placed k cs e) h
  where
    by : (o : Option ℕ) (os : Option (List ℕ)) → (is_some os ≡ true → os ≡ Some (front_places k cs)) → is_some (cons_both o os) ≡ true
        → cons_both o os ≡ Some (place_then o (front_places k cs))
    by None os more e = cc
    by (Some d) None more e = cc
    by (Some d) (Some ds) more e = ap (cons_both (Some d)) (more refl)

none-placed : {X : Type 0} (o : Option X) → is_some o ≡ false → o ≡ None
none-placed None h = refl
none-placed (Some x) h = cc

-- the key at this place, and those behind it
key-here : (k : Copying) (keys : List (List ℕ)) (i : ℕ) (key : List ℕ) → i < length keys → key ≡ get_or keys i key
    → kept_keys k (drop i keys) ≡ cons_option (places k key) (kept_keys k (drop (i + 1) keys))
key-here k keys i key h e = rw (drop-cons keys i key h, add-one) (ap (λ x. cons_option (places k x) (kept_keys k (drop (suc i) keys))) (sym e))

pub kept-here : (k : Copying) (keys : List (List ℕ)) (i : ℕ) (key : List ℕ) (b : Bool) → i < length keys → key ≡ get_or keys i key → b ≡ is_some (places k key) → b ≡ true
    → kept_keys k (drop i keys) ≡ front_places k key ∷ kept_keys k (drop (i + 1) keys)
kept-here k keys i key b h e is has = key-here k keys i key h e ∙ ap (λ o. cons_option o (kept_keys k (drop (i + 1) keys))) (all-placed k key (sym is ∙ has))

pub kept-later : (k : Copying) (keys : List (List ℕ)) (i : ℕ) (key : List ℕ) (b : Bool) → i < length keys → key ≡ get_or keys i key → b ≡ is_some (places k key) → b ≡ false
    → kept_keys k (drop i keys) ≡ kept_keys k (drop (i + 1) keys)
kept-later k keys i key b h e is lacks = key-here k keys i key h e ∙ ap (λ o. cons_option o (kept_keys k (drop (i + 1) keys))) (none-placed (places k key) (sym is ∙ lacks))

-- one more key is put behind the others
pub kept-put : (k : Copying) (keys : List (List ℕ)) (i : ℕ) (key : List ℕ) (b : Bool) (olds news : List (Vec ℕ Global)) (new filled : Vec ℕ Global)
    → i < length keys → key ≡ get_or keys i key → b ≡ is_some (places k key) → b ≡ true → new.items ≡ [] → filled.items ≡ new.items ++ front_places k key → news ≡ olds ++ filled ∷ []
    → map (λ (v : Vec ℕ Global). v.items) olds ++ kept_keys k (drop i keys) ≡ map (λ (v : Vec ℕ Global). v.items) news ++ kept_keys k (drop (i + 1) keys)
kept-put k keys i key b olds news new filled h e is has empty full pushed =
    let items = λ (v : Vec ℕ Global). v.items in
    let rest : List (List ℕ) = kept_keys k (drop (i + 1) keys) in
    let all : front_places k key ≡ filled.items = sym (full ∙ ap (λ xs. xs ++ front_places k key) empty) in
    ap (λ ks. map items olds ++ ks) (kept-here k keys i key b h e is has) ∙ ap (λ x. map items olds ++ (x ∷ rest)) all
    ∙ sym (ap (λ vs. map items vs ++ rest) pushed ∙ ap (λ xs. xs ++ rest) (map-append items olds (filled ∷ [])) ∙ append_assoc (map items olds) (filled.items ∷ []) rest)

-- a column with no place ends the front, and one with a place continues it
front-here : (k : Copying) (cols : List ℕ) (i : ℕ) (o : Option ℕ) → i < length cols → o ≡ place k (get_or cols i 0) → front_places k (drop i cols) ≡ place_then o (front_places k (drop (i + 1) cols))
front-here k cols i o h e = at_drop_more (front_places k) cols i 0 h ∙ ap (λ p. place_then p (front_places k (drop (i + 1) cols))) (sym e)

pub front-none : (k : Copying) (cols : List ℕ) (i : ℕ) (o : Option ℕ) (found all : List ℕ) → i < length cols → o ≡ place k (get_or cols i 0) → all ≡ found ++ front_places k (drop i cols) → o ≡ None → found ≡ all
front-none k cols i o found all h e left none =
    sym (left ∙ ap (λ xs. found ++ xs) (front-here k cols i o h e ∙ ap (λ p. place_then p (front_places k (drop (i + 1) cols))) none) ∙ append-nil found)

pub front-some : (k : Copying) (cols : List ℕ) (i : ℕ) (o : Option ℕ) (found all : List ℕ) (c : ℕ) → i < length cols → o ≡ place k (get_or cols i 0) → all ≡ found ++ front_places k (drop i cols) → o ≡ Some c
    → all ≡ (found ++ c ∷ []) ++ front_places k (drop (i + 1) cols)
front-some k cols i o found all c h e left some =
    let rest : List ℕ = front_places k (drop (i + 1) cols) in
    left ∙ ap (λ xs. found ++ xs) (front-here k cols i o h e ∙ ap (λ p. place_then p rest) some) ∙ sym (append_assoc found (c ∷ []) rest)
