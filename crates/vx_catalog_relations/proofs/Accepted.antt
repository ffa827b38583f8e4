-- What is read as a catalog is one, and says what the text says.
use Rattle.std.proofs.Common.{◌≡◌, ℕ, zero, suc, ◌<◌, ◌==◌, ◌||◌, ◌&&◌, not, nat_lt, nat_le, Bool, true, false, cond, List, [], ◌∷◌, ◌++◌, Option, Some, None, Result, Ok, Err, refl, sym, ap, subst, ◌∙◌, map, get_or, length, position, append_assoc, bytes_eq, arith}
use Rattle.std.specs.List.{list_all, list_any}
use Rattle.std.proofs.lemmas.List.{append-nil, map-append, length-map}
use Rattle.std.proofs.lemmas.List.Folds.{list_any-append, list_all-append, list_all-map}
use Rattle.std.proofs.lemmas.List.Quantifiers.{position-Some}
use Rattle.std.proofs.lemmas.Bool.{and_parts, and_from, or_parts, not-true, not_from_false}
use Rattle.std.proofs.lemmas.Bool.Decides.{Decides-ltb}
use Rattle.vx_catalog_json.specs.Look.{OrderText}
use Rattle.vx_rows_values.specs.declared.order.OrderEntry.{OrderEntry}
use Rattle.vx_rows_values.specs.Order.{order_columns, in_directions}
use Rattle.vx_catalog_relations.specs.Relation.{Relation}
use Rattle.vx_catalog_relations.specs.Catalog.{relation_at, are_distinct_names, are_distinct, all_below, is_key_of, is_named, IsRelation, IsCatalog}
use Rattle.vx_catalog_relations.specs.Walk.{◌>>=◌, walk_onto}
use Rattle.vx_catalog_relations.specs.Form.{ColumnText, RelationText}
use Rattle.vx_catalog_relations.specs.Naming.{Refusal, duplicate_name, name_once, names_of, column_once, column_of, columns_of, keys_of, order_of, relation_of, relation_after, is_small, is_within_limits, columns_text, name_at, order_text, text_of}
use Rattle.vx_catalog_relations.proofs.NameFacts.{text_decides, list_any-map}
use Rattle.vx_catalog_relations.proofs.DirectionFacts.{columns_back, text_back}

pub ok_bind : {E A B : Type 0} (r : Result A E) (f : A → Result B E) (y : B) → (r >>= f) ≡ Ok y → (x : A) × (r ≡ Ok x) × (f x ≡ Ok y)
ok_bind (Ok x) f y h = (x, refl, h)
ok_bind (Err e) f y h = cc

-- what holds of the prior and each step keeps, holds of the whole
pub walk_keeps : {E A B : Type 0} (step : List B → A → Result B E) (P : List A → List B → Type 0)
    → ((done : List A) (prior : List B) (x : A) (y : B) → P done prior → step prior x ≡ Ok y → P (done ++ x ∷ []) (prior ++ y ∷ []))
    → (xs : List A) (done : List A) (prior : List B) (out : List B) → P done prior → walk_onto step prior xs ≡ Ok out → P (done ++ xs) out
unfolding walk_onto
walk_keeps step P more [] done prior out p h =
    let e : prior ≡ out = cc in
    subst (λ (l : List _). P l out) (sym (append-nil done)) (subst (λ (l : List _). P done l) e p)
walk_keeps step P more (x ∷ xs) done prior out p h =
    let b = ok_bind (step prior x) (λ (y : _). walk_onto step (prior ++ y ∷ []) xs) out h in
    subst (λ (l : List _). P l out) (append_assoc done (x ∷ []) xs) (walk_keeps step P more xs (done ++ x ∷ []) (prior ++ b.0 ∷ []) out (more done prior x b.0 p b.1) b.2)

-- ---- names that stand once

taken_if : {X : Type 0} (b : Bool) (name : List ℕ) (n m : X) (whole : Result X Refusal) → whole ≡ Ok m → whole ≡ cond b (Err (duplicate_name name)) (Ok n) → (n ≡ m) × (b ≡ false)
taken_if true name n m whole h e = cc
taken_if false name n m whole h e = let k : n ≡ m = cc in (k, refl)

name_taken : (prior : List (List ℕ)) (n m : List ℕ) → name_once prior n ≡ Ok m → (n ≡ m) × (list_any (λ y. bytes_eq y n) prior ≡ false)
unfolding name_once
name_taken prior n m h = taken_if (list_any (λ y. bytes_eq y n) prior) n n m _ h refl

or_none : (a b : Bool) → a ≡ false → b ≡ false → (a || (b || false)) ≡ false
or_none true b p q = cc
or_none false true p q = cc
or_none false false p q = refl

pub distinct_names_push : (prior : List (List ℕ)) (n : List ℕ) → are_distinct_names prior ≡ true → list_any (λ y. bytes_eq y n) prior ≡ false → are_distinct_names (prior ++ n ∷ []) ≡ true
distinct_names_push [] n d h = refl
distinct_names_push (x ∷ xs) n d h =
    let parts = and_parts (not (list_any (bytes_eq x) xs)) (are_distinct_names xs) d in
    let apart = or_parts (bytes_eq x n) (list_any (λ y. bytes_eq y n) xs) h in
    and_from _ _ (not_from_false _ (list_any-append (bytes_eq x) xs (n ∷ []) ∙ or_none _ _ (not-true _ parts.0) apart.0)) (distinct_names_push xs n parts.1 apart.1)

pub distinct_push : (prior : List ℕ) (n : ℕ) → are_distinct prior ≡ true → list_any (λ y. y == n) prior ≡ false → are_distinct (prior ++ n ∷ []) ≡ true
distinct_push [] n d h = refl
distinct_push (x ∷ xs) n d h =
    let parts = and_parts (not (list_any (λ y. x == y) xs)) (are_distinct xs) d in
    let apart = or_parts (x == n) (list_any (λ y. y == n) xs) h in
    and_from _ _ (not_from_false _ (list_any-append (λ y. x == y) xs (n ∷ []) ∙ or_none _ _ (not-true _ parts.0) apart.0)) (distinct_push xs n parts.1 apart.1)

names_kept : (ns out : List (List ℕ)) → names_of ns ≡ Ok out → (out ≡ ns) × (are_distinct_names out ≡ true)
names_kept ns out h =
    walk_keeps name_once (λ (done : List (List ℕ)) (prior : List (List ℕ)). (prior ≡ done) × (are_distinct_names prior ≡ true))
    (λ (done : List (List ℕ)) (prior : List (List ℕ)) (x : List ℕ) (y : List ℕ) (p : (prior ≡ done) × (are_distinct_names prior ≡ true)) e.
    let t = name_taken prior x y e in
    (rw (p.0, ← t.0) refl, rw (← t.0) (distinct_names_push prior x p.1 t.1)))
    ns [] [] out (refl, refl) h

-- ---- columns by their names

column_taken : (names : List (List ℕ)) (prior : List ℕ) (n : List ℕ) (c : ℕ) → column_of names prior n ≡ Ok c
    → (c < length names) × (name_at names c ≡ n) × (list_any (λ y. y == c) prior ≡ false)
unfolding column_of
column_taken names prior n c h = by_position (position (bytes_eq n) names) refl h
  where
    by_position : (o : Option ℕ) → position (bytes_eq n) names ≡ o → column_once prior n o ≡ Ok c → (c < length names) × (name_at names c ≡ n) × (list_any (λ y. y == c) prior ≡ false)
    by_position None e k = cc
    by_position (Some d) e k =
        let t = taken_if (list_any (λ y. y == d) prior) n d c _ k refl in
        let at = position-Some (bytes_eq n) names d [] e in
        (rw (← t.0) at.0, rw (← t.0) (sym ((text_decides n (get_or names d [])).0 at.1)), rw (← t.0) t.1)

record Columns (names done : List (List ℕ)) (prior : List ℕ) : Type 0 where
  below : all_below (length names) prior ≡ true
  apart : are_distinct prior ≡ true
  same : map (name_at names) prior ≡ done

columns_kept : (names list : List (List ℕ)) (out : List ℕ) → columns_of names list ≡ Ok out → Columns names list out
columns_kept names list out h =
    walk_keeps (column_of names) (Columns names)
    (λ (done : List (List ℕ)) (prior : List ℕ) (x : List ℕ) (y : ℕ) (p : Columns names done prior) e.
    let t = column_taken names prior x y e in
    record {
      below = list_all-append (λ c. nat_lt c (length names)) prior (y ∷ []) ∙ and_from _ _ p.below (and_from _ _ ((Decides-ltb y (length names)).1 t.0) refl);
      apart = distinct_push prior y p.apart t.2;
      same = map-append (name_at names) prior (y ∷ []) ∙ rw (p.same, t.1) refl;
    })
    list [] [] out (record { below = refl; apart = refl; same = refl }) h

-- ---- orders

record Ordered (names : List (List ℕ)) (text : List OrderText) (order : List OrderEntry) : Type 0 where
  below : all_below (length names) (order_columns order) ≡ true
  apart : are_distinct (order_columns order) ≡ true
  same : order_text names order ≡ text

order_kept : (names : List (List ℕ)) (text : List OrderText) (out : List OrderEntry) → order_of names text ≡ Ok out → Ordered names text out
order_kept names text out h =
    let b = ok_bind (columns_of names (map (λ (e : OrderText). e.name) text)) _ out h in
    let made : in_directions b.0 (map (λ (e : OrderText). e.falling) text) ≡ out = cc in
    let k = columns_kept names (map (λ (e : OrderText). e.name) text) b.0 b.1 in
    let columns : order_columns out ≡ b.0 = ap order_columns (sym made) ∙ columns_back names b.0 text k.same in
    record {
      below = rw columns k.below;
      apart = rw columns k.apart;
      same = ap (order_text names) (sym made) ∙ text_back names b.0 text k.same;
    }

-- ---- keys

some_left : {X Y : Type 0} (f : X → Y) (xs : List X) (ys : List Y) → map f xs ≡ ys → nat_lt 0 (length ys) ≡ true → nat_lt 0 (length xs) ≡ true
some_left f xs ys e h = rw (← length-map xs f, e) h

record Keys (names : List (List ℕ)) (done : List (List (List ℕ))) (prior : List (List ℕ)) : Type 0 where
  keys : list_all (λ k. nat_lt 0 (length k)) done ≡ true → list_all (is_key_of (length names)) prior ≡ true
  same : map (λ k. map (name_at names) k) prior ≡ done

key_kept : (names key : List (List ℕ)) (out : List ℕ) → columns_of names key ≡ Ok out → nat_lt 0 (length key) ≡ true → is_key_of (length names) out ≡ true
key_kept names key out h some =
    let k = columns_kept names key out h in
    and_from _ _ (some_left (name_at names) out key k.same some) (and_from _ _ k.below k.apart)

keys_kept : (names : List (List ℕ)) (list : List (List (List ℕ))) (out : List (List ℕ)) → keys_of list names ≡ Ok out → Keys names list out
keys_kept names list out h =
    walk_keeps (λ (prior : List (List ℕ)) (key : List (List ℕ)). columns_of names key) (Keys names)
    (λ (done : List (List (List ℕ))) (prior : List (List ℕ)) (x : List (List ℕ)) (y : List ℕ) (p : Keys names done prior) e.
    record {
      keys = λ all.
          let parts = and_parts (list_all (λ k. nat_lt 0 (length k)) done) _ (sym (list_all-append (λ k. nat_lt 0 (length k)) done (x ∷ [])) ∙ all) in
          let some = and_parts (nat_lt 0 (length x)) true parts.1 in
          list_all-append (is_key_of (length names)) prior (y ∷ []) ∙ and_from _ _ (p.keys parts.0) (and_from _ _ (key_kept names x y e some.0) refl);
      same = map-append (λ k. map (name_at names) k) prior (y ∷ []) ∙ rw (p.same, (columns_kept names x y e).same) refl;
    })
    list [] [] out (record { keys = λ _. refl; same = refl }) h

-- ---- a relation

-- what the form shows of a relation's text
abbrev pub is_stated : RelationText → Bool
is_stated t =
    is_named t.name && (nat_lt 0 (length t.columns) && (list_all (λ c. is_named c.name) t.columns && list_all (λ k. nat_lt 0 (length k)) t.keys))

columns_again : (cs : List ColumnText) → columns_text (map (λ (c : ColumnText). c.name) cs) (map (λ (c : ColumnText). c.kind) cs) ≡ cs
columns_again [] = refl
columns_again (c ∷ cs) = ap (λ l. c ∷ l) (columns_again cs)

record Made (t : RelationText) (r : Relation) : Type 0 where
  is : is_stated t ≡ true → is_small t ≡ true → IsRelation r
  says : text_of r ≡ t
  name : r.name ≡ t.name

made_from : (t : RelationText) (names : List (List ℕ)) (keys : List (List ℕ)) (order : List OrderEntry) → names_of (map (λ (c : ColumnText). c.name) t.columns) ≡ Ok names → keys_of t.keys names ≡ Ok keys
    → order_of names t.order ≡ Ok order → Made t (record { name = t.name; names = names; types = map (λ (c : ColumnText). c.kind) t.columns; keys = keys; order = order })
made_from t names keys order hn hk ho =
    let n = names_kept (map (λ (c : ColumnText). c.name) t.columns) names hn in
    let k = keys_kept names t.keys keys hk in
    let o = order_kept names t.order order ho in
    let columns : columns_text names (map (λ (c : ColumnText). c.kind) t.columns) ≡ t.columns =
    ap (λ l. columns_text l (map (λ (c : ColumnText). c.kind) t.columns)) n.0 ∙ columns_again t.columns in
    let long : length names ≡ length t.columns = ap length n.0 ∙ length-map t.columns (λ (c : ColumnText). c.name) in
    record {
      is = λ stated small.
          let s1 = and_parts (is_named t.name) _ stated in
          let s2 = and_parts (nat_lt 0 (length t.columns)) _ s1.1 in
          let s3 = and_parts (list_all (λ c. is_named c.name) t.columns) _ s2.1 in
          let z = and_parts (nat_le (length t.columns) 64) _ small in
          record {
            named = s1.0;
            columns = rw long (and_from _ _ s2.0 z.0);
            typed = length-map t.columns (λ (c : ColumnText). c.kind) ∙ sym long;
            columns_named = rw n.0 (list_all-map is_named (λ (c : ColumnText). c.name) t.columns ∙ s3.0);
            distinct = n.1;
            few_keys = rw (← length-map keys (λ (k : List ℕ). map (name_at names) k), k.same) z.1;
            keys = k.keys s3.1;
            order = and_from _ _ o.below o.apart;
          };
      says = rw (k.same, o.same, columns) refl;
      name = refl;
    }

relation_made : (t : RelationText) (r : Relation) → relation_of t ≡ Ok r → Made t r
unfolding relation_of
relation_made t r h =
    let n = ok_bind (names_of (map (λ (c : ColumnText). c.name) t.columns)) _ r h in
    let k = ok_bind (keys_of t.keys n.0) _ r n.2 in
    let o = ok_bind (order_of n.0 t.order) _ r k.2 in
    let e : record { name = t.name; names = n.0; types = map (λ (c : ColumnText). c.kind) t.columns; keys = k.0; order = o.0 } ≡ r = cc in
    subst (λ (x : Relation). Made t x) e (made_from t n.0 k.0 o.0 n.1 k.1 o.1)

-- ---- relations

relation_taken : (prior : List Relation) (t : RelationText) (r : Relation) → relation_after prior t ≡ Ok r → (relation_of t ≡ Ok r) × (list_any (λ x. bytes_eq x.name t.name) prior ≡ false)
unfolding relation_after
relation_taken prior t r h = by_test (list_any (λ (x : Relation). bytes_eq x.name t.name) prior) h
  where
    by_test : (b : Bool) → cond b (Err (duplicate_name t.name)) (relation_of t) ≡ Ok r → (relation_of t ≡ Ok r) × (b ≡ false)
    by_test true e = cc
    by_test false e = (e, refl)

abbrev Each : List Relation → Type 0
Each [] = Unit {0}
Each (r ∷ rs) = IsRelation r × Each rs

each_push : (rs : List Relation) (r : Relation) → Each rs → IsRelation r → Each (rs ++ r ∷ [])
each_push [] r e i = (i, tt)
each_push (x ∷ xs) r e i = (e.0, each_push xs r e.1 i)

each_at : (rs : List Relation) → Each rs → (i : ℕ) → nat_lt i (length rs) ≡ true → IsRelation (relation_at rs i)
each_at [] e i h = absurd (omega (arith, (Decides-ltb i 0).0 h))
each_at (x ∷ xs) e zero h = e.0
each_at (x ∷ xs) e (suc i) h =
    let k : suc i < suc (length xs) = (Decides-ltb (suc i) (length (x ∷ xs))).0 h in
    each_at xs e.1 i ((Decides-ltb i (length xs)).1 (omega arith))

record Relations (done : List RelationText) (prior : List Relation) : Type 0 where
  is : list_all is_stated done ≡ true → list_all is_small done ≡ true → Each prior
  distinct : are_distinct_names (map (λ (r : Relation). r.name) prior) ≡ true
  says : map text_of prior ≡ done

relations_kept : (ts : List RelationText) (out : List Relation) → walk_onto relation_after [] ts ≡ Ok out → Relations ts out
relations_kept ts out h =
    walk_keeps relation_after Relations
    (λ (done : List RelationText) (prior : List Relation) (x : RelationText) (y : Relation) (p : Relations done prior) e.
    let t = relation_taken prior x y e in
    let m = relation_made x y t.0 in
    let new : list_any (λ n. bytes_eq n y.name) (map (λ (r : Relation). r.name) prior) ≡ false =
    list_any-map (λ n. bytes_eq n y.name) (λ (r : Relation). r.name) prior ∙ rw (m.name) t.1 in
    record {
      is = λ stated small.
          let s = and_parts (list_all is_stated done) _ (sym (list_all-append is_stated done (x ∷ [])) ∙ stated) in
          let z = and_parts (list_all is_small done) _ (sym (list_all-append is_small done (x ∷ [])) ∙ small) in
          each_push prior y (p.is s.0 z.0) (m.is (and_parts (is_stated x) true s.1).0 (and_parts (is_small x) true z.1).0);
      distinct = rw (map-append (λ (r : Relation). r.name) prior (y ∷ [])) (distinct_names_push (map (λ (r : Relation). r.name) prior) y.name p.distinct new);
      says = map-append text_of prior (y ∷ []) ∙ rw (p.says, m.says) refl;
    })
    ts [] [] out (record { is = λ _ _. tt; distinct = refl; says = refl }) h

-- the relations of a text of the form, within the limits
pub relations_are : (ts : List RelationText) (out : List Relation) → list_all is_stated ts ≡ true → is_within_limits ts ≡ true → walk_onto relation_after [] ts ≡ Ok out → IsCatalog out × (map text_of out ≡ ts)
relations_are ts out stated limits h =
    let k = relations_kept ts out h in
    let z = and_parts (nat_le (length ts) 256) _ limits in
    let long : length out ≡ length ts = sym (length-map out text_of) ∙ ap length k.says in
    (record { few = rw long z.0; distinct = k.distinct; each = each_at out (k.is stated z.1) }, k.says)
