-- What the form of a catalog shows of its relations.
use Rattle.std.proofs.Common.{◌≡◌, ℕ, suc, arith, nat_lt, Bool, true, false, cond, List, [], ◌∷◌, ◌++◌, Option, Some, None, refl, sym, ap, ◌∙◌, length, ◌+◌, option_and_then, option_map, Ok, Err}
use Rattle.std.specs.Prelude.{codes}
use Rattle.std.specs.List.{list_all}
use Rattle.std.proofs.lemmas.List.Folds.{list_all-append}
use Rattle.std.proofs.lemmas.List.{length-append}
use Rattle.std.proofs.lemmas.Bool.{and_from}
use Rattle.std.proofs.lemmas.Bool.Decides.{Decides-ltb}
use Rattle.serde_json.specs.Data.{Data}
use Rattle.serde_json.specs.Find.{get, as_str}
use Rattle.vx_rows_values.specs.declared.value.ColType.{ColType}
use Rattle.vx_catalog_relations.specs.Catalog.{is_named, IsCatalog}
use Rattle.vx_catalog_relations.specs.Walk.{walk_onto}
use Rattle.vx_catalog_json.specs.Look.{as_list, some_entry, name_in, each_onto}
use Rattle.vx_catalog_relations.specs.Form.{ColumnText, RelationText, kind_in, column_in, entries, key_in, columns_in, keys_or, order_or, relation_in, relations_in, catalog_in}
use Rattle.vx_catalog_relations.specs.Relation.{Relation}
use Rattle.vx_catalog_relations.specs.Naming.{too_large, relation_after, is_within_limits, named, catalog_of, States, CatalogLaw}
use Rattle.vx_catalog_relations.proofs.Accepted.{is_stated, relations_are}
use Rattle.vx_catalog_relations.proofs.Complete.{catalog_found}

-- a value that a chain gave came from one
then_some : {A B : Type 0} (f : A → Option B) (o : Option A) (y : B) → option_and_then f o ≡ Some y → (x : A) × (o ≡ Some x) × (f x ≡ Some y)
then_some f None y h = cc
then_some f (Some x) y h = (x, refl, h)

map_some : {A B : Type 0} (f : A → B) (o : Option A) (y : B) → option_map f o ≡ Some y → (x : A) × (o ≡ Some x) × (f x ≡ y)
map_some f None y h = cc
map_some f (Some x) y h = let e : f x ≡ y = cc in (x, refl, e)

if_some : {A : Type 0} (b : Bool) (o : Option A) (y : A) → cond b o None ≡ Some y → o ≡ Some y
if_some true o y h = h
if_some false o y h = cc

-- what is read of each value passes a test that each reading passes
each_passes : {B : Type 0} (read : Data → Option B) (p : B → Bool) → ((x : Data) (y : B) → read x ≡ Some y → p y ≡ true)
    → (xs : List Data) (prior : List B) (out : List B) → list_all p prior ≡ true → each_onto read prior xs ≡ Some out → list_all p out ≡ true
unfolding each_onto
each_passes read p passes [] prior out h e = let k : prior ≡ out = cc in rw (← k) h
each_passes read p passes (x ∷ xs) prior out h e =
    let t = then_some (λ (y : _). each_onto read (prior ++ y ∷ []) xs) (read x) out e in
    each_passes read p passes xs (prior ++ t.0 ∷ []) out (list_all-append p prior (t.0 ∷ []) ∙ and_from _ _ h (and_from _ _ (passes x t.0 t.1) refl)) t.2

is_some_length : (n : ℕ) → nat_lt 0 (suc n) ≡ true
is_some_length n = (Decides-ltb 0 (suc n)).1 (omega arith)

entry_named : (s n : List ℕ) → some_entry s ≡ Some n → is_named n ≡ true
entry_named [] n h = cc
entry_named (b ∷ bs) n h = let e : b ∷ bs ≡ n = cc in rw (← e) (is_some_length (length bs))

name_stated : (d : Data) (n : List ℕ) → name_in d ≡ Some n → is_named n ≡ true
unfolding name_in
name_stated d n h = let t = then_some some_entry (as_str d) n h in entry_named t.0 n t.2

column_stated : (d : Data) (c : ColumnText) → column_in d ≡ Some c → is_named c.name ≡ true
unfolding column_in
column_stated d c h =
    let n = then_some (λ (n : List ℕ). option_map (λ (k : ColType). record { name = n; kind = k }) (option_and_then kind_in (get (codes "type") d))) (option_and_then name_in (get (codes "name") d)) c (if_some _ _ c h) in
    let k = map_some (λ (k : ColType). record { name = n.0; kind = k }) (option_and_then kind_in (get (codes "type") d)) c n.2 in
    let g = then_some name_in (get (codes "name") d) n.0 n.1 in
    rw (← k.2) (name_stated g.0 n.0 g.2)

entries_some : (d : Data) (ds : List Data) → entries d ≡ Some ds → nat_lt 0 (length ds) ≡ true
entries_some d ds h = by_list (as_list d) h
  where
    by_entries : (es : List Data) → some_entry es ≡ Some ds → nat_lt 0 (length ds) ≡ true
    by_entries [] e = cc
    by_entries (x ∷ xs) e = let k : x ∷ xs ≡ ds = cc in rw (← k) (is_some_length (length xs))

    by_list : (o : Option (List Data)) → option_and_then some_entry o ≡ Some ds → nat_lt 0 (length ds) ≡ true
    by_list o e = let t = then_some some_entry o ds e in by_entries t.0 t.2

each_long : {B : Type 0} (read : Data → Option B) (xs : List Data) (prior : List B) (out : List B) → each_onto read prior xs ≡ Some out → length out ≡ length prior + length xs
unfolding each_onto
each_long read [] prior out e = let k : prior ≡ out = cc in rw (← k) (omega arith)
each_long read (x ∷ xs) prior out e =
    let t = then_some (λ (y : _). each_onto read (prior ++ y ∷ []) xs) (read x) out e in
    let l = each_long read xs (prior ++ t.0 ∷ []) out t.2 in
    let m = length-append prior (t.0 ∷ []) in
    omega (arith, l, m)

entries_long : {B : Type 0} (read : Data → Option B) (d : Data) (out : List B) → option_and_then (each_onto read []) (entries d) ≡ Some out → nat_lt 0 (length out) ≡ true
entries_long read d out h =
    let t = then_some (each_onto read []) (entries d) out h in
    let some = (Decides-ltb 0 (length t.0)).0 (entries_some d t.0 t.1) in
    let long = each_long read t.0 [] out t.2 in
    (Decides-ltb 0 (length out)).1 (omega (arith, some, long))

key_stated : (d : Data) (k : List (List ℕ)) → key_in d ≡ Some k → nat_lt 0 (length k) ≡ true
unfolding key_in
key_stated d k h = entries_long name_in d k h

columns_stated : (d : Data) (cs : List ColumnText) → columns_in d ≡ Some cs → (nat_lt 0 (length cs) ≡ true) × (list_all (λ c. is_named c.name) cs ≡ true)
unfolding columns_in
columns_stated d cs h =
    let t = then_some (each_onto column_in []) (entries d) cs h in
    (entries_long column_in d cs h, each_passes column_in (λ (c : ColumnText). is_named c.name) column_stated t.0 [] cs refl t.2)

keys_stated : (o : Option Data) (ks : List (List (List ℕ))) → keys_or o ≡ Some ks → list_all (λ k. nat_lt 0 (length k)) ks ≡ true
keys_stated None ks h = let e : [] ≡ ks = cc in rw (← e) refl
keys_stated (Some d) ks h =
    let t = then_some (each_onto key_in []) (as_list d) ks h in
    each_passes key_in (λ (k : List (List ℕ)). nat_lt 0 (length k)) key_stated t.0 [] ks refl t.2

relation_stated : (d : Data) (t : RelationText) → relation_in d ≡ Some t → is_stated t ≡ true
unfolding relation_in
relation_stated d t h =
    let n = then_some _ (option_and_then name_in (get (codes "name") d)) t (if_some _ _ t h) in
    let c = then_some _ (option_and_then columns_in (get (codes "columns") d)) t n.2 in
    let k = then_some _ (keys_or (get (codes "keys") d)) t c.2 in
    let o = map_some _ (order_or (get (codes "order") d)) t k.2 in
    let gn = then_some name_in (get (codes "name") d) n.0 n.1 in
    let gc = then_some columns_in (get (codes "columns") d) c.0 c.1 in
    let cs = columns_stated gc.0 c.0 gc.2 in
    rw (← o.2) (and_from _ _ (name_stated gn.0 n.0 gn.2) (and_from _ _ cs.0 (and_from _ _ cs.1 (keys_stated (get (codes "keys") d) k.0 k.1))))

-- every relation of a value of the form has a name, columns with names, and no empty key
pub catalog_stated : (d : Data) (ts : List RelationText) → catalog_in d ≡ Some ts → list_all is_stated ts ≡ true
unfolding catalog_in
catalog_stated d ts h =
    let g = then_some relations_in (get (codes "relations") d) ts (if_some _ _ ts h) in
    let t = then_some (each_onto relation_in []) (as_list g.0) ts g.2 in
    each_passes relation_in is_stated relation_stated t.0 [] ts refl t.2

named_is : (o : Option (List RelationText)) (c : List Relation) → named o ≡ Ok c → (ts : List RelationText) × (o ≡ Some ts) × (is_within_limits ts ≡ true) × (walk_onto relation_after [] ts ≡ Ok c)
named_is None c h = cc
named_is (Some ts) c h = by_limits (is_within_limits ts) refl h
  where
    by_limits : (b : Bool) → is_within_limits ts ≡ b → cond b (walk_onto relation_after [] ts) (Err too_large) ≡ Ok c
        → (us : List RelationText) × (Some ts ≡ Some us) × (is_within_limits us ≡ true) × (walk_onto relation_after [] us ≡ Ok c)
    by_limits true e k = (ts, refl, e, k)
    by_limits false e k = cc

-- what is read is a catalog, and the value says it
pub catalog_is : (d : Data) (c : List Relation) → catalog_of d ≡ Ok c → IsCatalog c × States d c
unfolding catalog_of
catalog_is d c h =
    let n = named_is (catalog_in d) c h in
    let r = relations_are n.0 c (catalog_stated d n.0 n.1) n.2 n.3 in
    (r.0, n.1 ∙ ap (λ l. Some l) (sym r.1))

pub catalogs_read_exactly : CatalogLaw
catalogs_read_exactly = record { read = λ d c. (catalog_is d c, λ h. catalog_found d c h.0 h.1) }
