-- Keys and order of rows, one after another, and what is shown when none is broken.
use Rattle.std.proofs.Common.{◌≡◌, ℕ, zero, suc, ◌+◌, ◌<◌, ◌≤◌, List, [], ◌∷◌, Bool, true, false, cond, Option, Some, None, Result, Ok, Err, refl, sym, ap, ◌∙◌, length, get_or, drop, arith, add-one, drop-cons, is_lt}
use Rattle.std.specs.List.{AllByRecursion}
use Rattle.vx_rows_values.specs.Types.{Fits}
use Rattle.std.proofs.lemmas.List.{drop_all}
use Rattle.vx_rows_values.specs.Values.{Row}
use Rattle.vx_rows_values.specs.declared.order.OrderEntry.{OrderEntry}
use Rattle.vx_rows_values.specs.Order.{compare_on, sorted}
use Rattle.vx_rows_values.specs.Keys.{first_clash, HasKey}
use Rattle.vx_rows_values.proofs.KeyFacts.{key-law}
use Rattle.vx_rows_values.proofs.SortedFacts.{NoFall, sorted_from}
use Rattle.vx_catalog_relations.specs.Relation.{Relation, KeysHold, Meets}
use Rattle.vx_catalog.specs.declared.fault.LoadFault.{LoadFault}
use Rattle.vx_catalog.specs.declared.fault.LoadFault.TheVariants as fault
use Rattle.vx_catalog.specs.Loading.{no_clash, keys_kept, fall_from, first_fall, no_fall, order_kept}

-- ---- the order

fall_step : (order : List OrderEntry) (rows : List Row) (i : ℕ) (last : Row) → i < length rows
    → fall_from order i last (drop i rows) ≡ cond (is_lt (compare_on order (get_or rows i []) last)) (Some i) (fall_from order (i + 1) (get_or rows i []) (drop (i + 1) rows))
fall_step order rows i last h = rw (drop-cons rows i [], add-one) refl

pub falls_here : (order : List OrderEntry) (rows : List Row) (i : ℕ) (last : Row) (total : Option ℕ) → i < length rows → is_lt (compare_on order (get_or rows i []) last) ≡ true
    → fall_from order i last (drop i rows) ≡ total → Some i ≡ total
falls_here order rows i last total h falls so_far = sym (fall_step order rows i last h ∙ rw falls refl) ∙ so_far

pub falls_later : (order : List OrderEntry) (rows : List Row) (i : ℕ) (last : Row) (total : Option ℕ) → i < length rows → is_lt (compare_on order (get_or rows i []) last) ≡ false
    → fall_from order i last (drop i rows) ≡ total → fall_from order (i + 1) (get_or rows i []) (drop (i + 1) rows) ≡ total
falls_later order rows i last total h falls so_far = sym (fall_step order rows i last h ∙ rw falls refl) ∙ so_far

pub falls_first : (order : List OrderEntry) (rows : List Row) → fall_from order 1 (get_or rows 0 []) (drop 1 rows) ≡ first_fall order rows
unfolding first_fall
falls_first order [] = refl
falls_first order (x ∷ xs) = refl

pub falls_nowhere : (order : List OrderEntry) (rows : List Row) (i : ℕ) (last : Row) (total : Option ℕ) → length rows ≤ i → fall_from order i last (drop i rows) ≡ total → None ≡ total
falls_nowhere order rows i last total h so_far = let none : drop i rows ≡ [] = drop_all i rows h in sym (ap (λ l. fall_from order i last l) none) ∙ so_far

none_if : (b : Bool) (n : ℕ) (o : Option ℕ) → cond b (Some n) o ≡ None → (b ≡ false) × (o ≡ None)
none_if true n o h = cc
none_if false n o h = (refl, h)

no_fall_from : (order : List OrderEntry) (rows : List Row) (n : ℕ) (last : Row) → fall_from order n last rows ≡ None → NoFall order (last ∷ rows) (length (last ∷ rows))
no_fall_from order [] n last h k l = absurd (omega arith)
no_fall_from order (x ∷ xs) n last h zero l = (none_if (is_lt (compare_on order x last)) n (fall_from order (n + 1) x xs) h).0
no_fall_from order (x ∷ xs) n last h (suc k) l = no_fall_from order xs (n + 1) x (none_if (is_lt (compare_on order x last)) n (fall_from order (n + 1) x xs) h).1 k (omega arith)

sorted_rows : (order : List OrderEntry) (rows : List Row) → first_fall order rows ≡ None → sorted order rows ≡ true
unfolding first_fall
sorted_rows order [] h = refl
sorted_rows order (x ∷ xs) h = sorted_from order (x ∷ xs) (no_fall_from order xs 1 x h)

pub order_kept_is : (order : List OrderEntry) (rows out : List Row) → order_kept order rows ≡ Ok out → (rows ≡ out) × (sorted order rows ≡ true)
order_kept_is order rows out h = by_fall (first_fall order rows) refl h
  where
    by_fall : (o : Option ℕ) → first_fall order rows ≡ o → no_fall rows o ≡ Ok out → (rows ≡ out) × (sorted order rows ≡ true)
    by_fall None e k = let same : rows ≡ out = cc in (same, sorted_rows order rows e)
    by_fall (Some n) e k = cc

-- ---- the keys

pub keys_step : (keys : List (List ℕ)) (rows : List Row) (k : ℕ) → k < length keys
    → keys_kept k (drop k keys) rows ≡ no_clash k (first_clash (get_or keys k []) rows) (keys_kept (k + 1) (drop (k + 1) keys) rows)
unfolding keys_kept
keys_step keys rows k h = rw (drop-cons keys k [], add-one) refl

pub key_clashes : (keys : List (List ℕ)) (rows : List Row) (k first second : ℕ) (total : Result (List Row) LoadFault) → k < length keys → first_clash (get_or keys k []) rows ≡ Some (first, second)
    → keys_kept k (drop k keys) rows ≡ total → total ≡ Err (fault.KeyBroken k first second)
key_clashes keys rows k first second total h clash so_far = sym so_far ∙ (keys_step keys rows k h ∙ rw clash refl)

pub key_holds : (keys : List (List ℕ)) (rows : List Row) (k : ℕ) (total : Result (List Row) LoadFault) → k < length keys → first_clash (get_or keys k []) rows ≡ None
    → keys_kept k (drop k keys) rows ≡ total → keys_kept (k + 1) (drop (k + 1) keys) rows ≡ total
key_holds keys rows k total h clash so_far = sym (keys_step keys rows k h ∙ rw clash refl) ∙ so_far

pub keys_done : (keys : List (List ℕ)) (rows : List Row) (k : ℕ) (total : Result (List Row) LoadFault) → length keys ≤ k → keys_kept k (drop k keys) rows ≡ total → total ≡ Ok rows
unfolding keys_kept
keys_done keys rows k total h so_far = let none : drop k keys ≡ [] = drop_all k keys h in sym so_far ∙ ap (λ l. keys_kept k l rows) none

pub keys_kept_is : (keys : List (List ℕ)) (k : ℕ) (rows out : List Row) → keys_kept k keys rows ≡ Ok out → (rows ≡ out) × KeysHold keys rows
unfolding keys_kept
keys_kept_is [] k rows out h = let same : rows ≡ out = cc in (same, tt)
keys_kept_is (cols ∷ keys) k rows out h = by_clash (first_clash cols rows) refl h (keys_kept_is keys (k + 1) rows out)
  where
    by_clash : (o : Option (ℕ × ℕ)) → first_clash cols rows ≡ o → no_clash k o (keys_kept (k + 1) keys rows) ≡ Ok out
        → (keys_kept (k + 1) keys rows ≡ Ok out → (rows ≡ out) × KeysHold keys rows) → (rows ≡ out) × (HasKey cols rows × KeysHold keys rows)
    by_clash None e r more = let m = more r in (m.0, ((key-law.tested cols rows).0 ((key-law.clashed cols rows).0 e), m.1))
    by_clash (Some c) e r more = cc

-- ---- columns that are there

-- ---- what is accepted meets the relation

kept_meets : (relation : Relation) (rows a out : List Row) → AllByRecursion (Fits relation.types) rows → keys_kept 0 relation.keys rows ≡ Ok a → order_kept relation.order a ≡ Ok out → Meets relation rows
kept_meets relation rows a out fit k o =
    let keys = keys_kept_is relation.keys 0 rows a k in
    let order = order_kept_is relation.order a out o in
    record { fit = fit; keys = keys.1; order = rw keys.0 order.1 }

pub meets : (relation : Relation) (rows : List Row) → AllByRecursion (Fits relation.types) rows → keys_kept 0 relation.keys rows ≡ Ok rows → order_kept relation.order rows ≡ Ok rows → Meets relation rows
meets relation rows fit k o = kept_meets relation rows rows rows fit k o
