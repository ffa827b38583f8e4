-- The relations that are found in texts, text by text.
use Rattle.std.proofs.Common.{◌≡◌, ℕ, zero, suc, ◌+◌, ◌<◌, ◌≤◌, List, [], ◌∷◌, ◌++◌, Bool, true, false, Result, Ok, refl, sym, ap, ◌∙◌, subst, inl, inr, length, get_or, take, take_all, map, arith}
use Rattle.std.proofs.Math.Dec.{eqb}
use Rattle.std.proofs.lemmas.Bool.{eqb-true, eqb-false}
use Rattle.std.proofs.lemmas.List.{map_push, take_more, get_or-map, get_or_default, length-map}
use Rattle.vx_catalog_relations.specs.Relation.{Relation}
use Rattle.vx_catalog_relations.specs.Catalog.{relation_at}
use Rattle.vx_catalog.specs.declared.fault.LoadFault.{LoadFault}
use Rattle.vx_catalog.specs.Loading.{Fails, load_of}
use Rattle.vx_catalog_finding.specs.Found.{found, in_header}
use Rattle.vx_catalog_finding.specs.Finding.{NamedText, text_of, text_at, all_found, Loads, IsNotFound, for_text, IsNoHeader, header_memory, for_header, for_relation}
use Rattle.vx_catalog_finding.specs.declared.catalog.NamedText as held
use Rattle.vx_catalog_finding.specs.declared.fault.FindFault.TheVariants as fault

abbrev no_text : NamedText
no_text = record { name = []; text = [] }

pub found_more : (texts : List held.NamedText) (i : ℕ) (t : held.NamedText) (relations : List Relation) (r : Relation) → i < length texts → t ≡ get_or texts i t → found t.name.now t.text.items ≡ Ok r
    → all_found (map text_of (take i texts)) ≡ map Ok relations → all_found (map text_of (take (i + 1) texts)) ≡ map Ok (relations ++ r ∷ [])
found_more texts i t relations r h at here so_far =
    let taken : take (i + 1) texts ≡ take i texts ++ t ∷ [] = take_more texts i t h ∙ ap (λ x. take i texts ++ x ∷ []) (sym at) in
    rw (taken, map_push text_of (take i texts) t, map_push {Y = Result Relation LoadFault} (λ (x : NamedText). found x.name x.text) (map text_of (take i texts)) (text_of t), so_far, here, map_push {Y = Result Relation LoadFault} Ok relations r) refl

pub found_all : (texts : List held.NamedText) (i : ℕ) (relations : List Relation) → length texts ≤ i → all_found (map text_of (take i texts)) ≡ map Ok relations → all_found (map text_of texts) ≡ map Ok relations
found_all texts i relations h so_far = rw (take_all i texts h) at so_far

-- the text with this number, as it is held
text_is : (texts : List held.NamedText) (i : ℕ) (t : held.NamedText) → i < length texts → t ≡ get_or texts i t → get_or (map text_of texts) i no_text ≡ text_of t
text_is texts i t h at = get_or-map text_of texts i t no_text h ∙ ap text_of (sym at)

in_all : (texts : List held.NamedText) (i : ℕ) → i < length texts → i < length (map text_of texts)
in_all texts i h = let same = length-map texts text_of in omega (arith, same)

-- a text in which no relation is found
pub not_found : (texts : List held.NamedText) (i : ℕ) (t : held.NamedText) (f : LoadFault) → i < length texts → t ≡ get_or texts i t → Fails f (found t.name.now t.text.items)
    → IsNotFound (map text_of texts) (fault.Load i f)
not_found texts i t f h at bad =
    for_text i f refl (in_all texts i h) (inl (subst (λ (x : NamedText). Fails f (found x.name x.text)) (sym (text_is texts i t h at)) bad))

-- what is found in the text with this number is the relation with this number
pub found_at : (texts : List NamedText) (relations : List Relation) (i : ℕ) (d : NamedText) → all_found texts ≡ map Ok relations → i < length texts
    → (i < length relations) × (found (get_or texts i d).name (get_or texts i d).text ≡ Ok (relation_at relations i))
found_at [] relations i d h k = absurd (omega arith)
found_at (t ∷ ts) [] i d h k = cc
found_at (t ∷ ts) (r ∷ rs) zero d h k = let e : found t.name t.text ≡ Ok r = cc in (omega arith, e)
found_at (t ∷ ts) (r ∷ rs) (suc i) d h k =
    let rest : all_found ts ≡ map Ok rs = cc in
    let more = found_at ts rs i d rest (omega arith) in
    (omega (arith, more.0), more.1)

-- there is a relation for each text
pub relation_there : (texts : List held.NamedText) (relations : List Relation) (i : ℕ) → all_found (map text_of texts) ≡ map Ok relations → i < length texts → i < length relations
relation_there texts relations i h k = (found_at (map text_of texts) relations i no_text h (in_all texts i k)).0

-- a text that does not load as its relation
pub not_loaded : (texts : List held.NamedText) (relations : List Relation) (i : ℕ) (t : held.NamedText) (f : LoadFault) → all_found (map text_of texts) ≡ map Ok relations → i < length texts
    → t ≡ get_or texts i t → Fails f (load_of (relation_at relations i) t.text.items) → IsNotFound (map text_of texts) (fault.Load i f)
not_loaded texts relations i t f all h at bad =
    let there = found_at (map text_of texts) relations i no_text all (in_all texts i h) in
    for_text i f refl (in_all texts i h)
    (inr (relation_at relations i, there.1, subst (λ (x : NamedText). Fails f (load_of (relation_at relations i) x.text)) (sym (text_is texts i t h at)) bad))

-- the text with this number loads too
pub loads_more : (texts : List held.NamedText) (relations : List Relation) (i : ℕ) (t : held.NamedText) → i < length texts → t ≡ get_or texts i t → Loads (relation_at relations i) t.text.items
    → ((k : ℕ) → k < i → Loads (relation_at relations k) (text_at (map text_of texts) k)) → (k : ℕ) → k < i + 1 → Loads (relation_at relations k) (text_at (map text_of texts) k)
loads_more texts relations i t h at here before k near = by_place (eqb k i) refl
  where
    by_place : (b : Bool) → eqb k i ≡ b → Loads (relation_at relations k) (text_at (map text_of texts) k)
    by_place true e =
        let same : k ≡ i = eqb-true k i e in
        rw same (subst (λ (x : NamedText). Loads (relation_at relations i) x.text) (sym (text_is texts i t h at)) here)
    by_place false e = before k (omega (arith, near, eqb-false k i e))

abbrev no_relation : Relation
no_relation = record { name = []; names = []; types = []; keys = []; order = [] }

-- one more relation that is the same, and one that is not
pub relations_more : (xs ys : List Relation) (i : ℕ) (y : Relation) → i < length xs → i < length ys → y ≡ get_or ys i y → relation_at xs i ≡ y → take i xs ≡ take i ys → take (i + 1) xs ≡ take (i + 1) ys
relations_more xs ys i y h k at same so_far =
    let right : take (i + 1) ys ≡ take i ys ++ y ∷ [] = take_more ys i y k ∙ ap (λ z. take i ys ++ z ∷ []) (sym at) in
    rw (take_more xs i no_relation h, right, so_far, same) refl

pub relations_differ : (xs ys : List Relation) (i : ℕ) (y : Relation) → i < length ys → y ≡ get_or ys i y → (relation_at xs i ≡ y → ⊥) → xs ≡ ys → ⊥
relations_differ xs ys i y h at differ e = differ (ap (λ l. relation_at l i) e ∙ (get_or_default ys i no_relation y h ∙ sym at))

pub ruleset catalog_steps = (found_more, found_all, not_found, relation_there, not_loaded)

-- a text has no header, or its relation makes no catalog
pub no_header : (t : NamedText) (f : LoadFault) → Fails f (in_header t.name t.text) → IsNoHeader t (fault.Load 0 f)
no_header t f bad = for_header f refl bad

pub ruleset header_steps = (no_header, for_relation, header_memory)
