-- What a grouping shows at its end is the definition's rows, or an overflow.
use Rattle.std.proofs.Common.{◌≡◌, ℕ, ◌+◌, ◌<◌, ◌≤◌, true, false, cond, ◌&&◌, List, [], ◌∷◌, ◌++◌, map, take, length, get_or, take_all, Some, None, refl, sym, ap, ◌∙◌, subst}
use Rattle.std.specs.List.{list_all}
use Rattle.std.proofs.lemmas.List.{get_or-map, map_more}
use Rattle.std.proofs.lemmas.List.Folds.{list_all_at, list_all_more}
use Rattle.vx_rows_values.specs.Values.{Row}
use Rattle.vx_plan_nodes.specs.Plan.{Aggregate, least, greatest, sum, count_rows}
use Rattle.vx_plan_nodes.specs.Serial.{group_keys, of_key, fits, aggregate_of, group_row, group_fits, group_rows}
use Rattle.vx_match_grouping.specs.Groups.{Held, held_of, no_held, all_held, held_fits, part_of, column_of, held_at, Groups, HasTaken}
use Rattle.vx_match_grouping.proofs.GroupFacts.{of_rows}

-- a key with the values of its aggregates
abbrev pub key_row : Row → List Held → Row
key_row key hs = key ++ map (λ h. h.value) hs

fits-held : (a : Aggregate) (xs : List Row) → held_fits (held_of a xs) ≡ fits a xs
fits-held (least c) xs = refl
fits-held (greatest c) xs = refl
fits-held (sum c) xs = refl
fits-held count_rows xs = refl

part-fits : (as' : List Aggregate) (xs : List Row) → list_all held_fits (all_held as' xs) ≡ list_all (λ a. fits a xs) as'
part-fits [] xs = refl
part-fits (a ∷ as') xs = λ i. fits-held a xs i && part-fits as' xs i

values-are : (as' : List Aggregate) (xs : List Row) → map (λ h. h.value) (all_held as' xs) ≡ map (λ a. aggregate_of a xs) as'
values-are [] xs = refl
values-are (a ∷ as') xs = λ i. aggregate_of a xs ∷ values-are as' xs i

pub row-is : (by : List ℕ) (as' : List Aggregate) (xs : List Row) (k : Row) → key_row k (part_of by as' xs k) ≡ group_row by as' xs k
row-is by as' xs k = ap (λ vs. k ++ vs) (values-are as' (of_key by k xs))

-- the aggregates of a number are those of the rows of its key
pub held-is : (g : Groups) (xs : List Row) (n : ℕ) → HasTaken g xs → n < length (group_keys g.by xs) → held_at n g.columns ≡ part_of g.by g.aggregates xs (get_or (group_keys g.by xs) n [])
held-is g xs n t l = ap (held_at n) t.columns_are ∙ all g.aggregates
  where
    all : (as' : List Aggregate) → held_at n (map (column_of g.by xs) as') ≡ part_of g.by as' xs (get_or (group_keys g.by xs) n [])
    all [] = refl
    all (a ∷ as') = λ i. get_or-map (of_rows g.by a xs) (group_keys g.by xs) n [] no_held l i ∷ all as' i

-- the rows and the fits of the keys so far, with one key more
pub rows-next : (g : Groups) (xs : List Row) (n : ℕ) (found next : List Row) (key : Row) → HasTaken g xs → n < length g.keys → key ≡ get_or g.keys n []
    → found ≡ map (group_row g.by g.aggregates xs) (take n (group_keys g.by xs)) → next ≡ found ++ key_row key (held_at n g.columns) ∷ []
    → next ≡ map (group_row g.by g.aggregates xs) (take (n + 1) (group_keys g.by xs))
rows-next g xs n found next key t l at was is =
    let ks = group_keys g.by xs in
    let near : n < length ks = subst (λ keys. n < length keys) t.keys_are l in
    let key-is : key ≡ get_or ks n [] = at ∙ ap (λ keys. get_or keys n []) t.keys_are in
    is ∙ ((λ i. was i ++ (ap (λ k. key_row k (held_at n g.columns)) key-is ∙ (ap (key_row (get_or ks n [])) (held-is g xs n t near) ∙ row-is g.by g.aggregates xs (get_or ks n []))) i ∷ [])
    ∙ sym (map_more (group_row g.by g.aggregates xs) ks n [] near))

pub fits-next : (g : Groups) (xs : List Row) (n : ℕ) → HasTaken g xs → n < length g.keys → list_all (group_fits g.by g.aggregates xs) (take n (group_keys g.by xs)) ≡ true
    → list_all held_fits (held_at n g.columns) ≡ true → list_all (group_fits g.by g.aggregates xs) (take (n + 1) (group_keys g.by xs)) ≡ true
fits-next g xs n t l was fit =
    let ks = group_keys g.by xs in
    let near : n < length ks = subst (λ keys. n < length keys) t.keys_are l in
    let own : group_fits g.by g.aggregates xs (get_or ks n []) ≡ true =
    sym (part-fits g.aggregates (of_key g.by (get_or ks n []) xs)) ∙ (ap (list_all held_fits) (sym (held-is g xs n t near)) ∙ fit) in
    list_all_more (group_fits g.by g.aggregates xs) ks n [] near ∙ rw (was, own) refl

-- all keys came
pub finished-rows : (g : Groups) (xs : List Row) (n : ℕ) (found : List Row) → HasTaken g xs → length g.keys ≤ n → found ≡ map (group_row g.by g.aggregates xs) (take n (group_keys g.by xs))
    → list_all (group_fits g.by g.aggregates xs) (take n (group_keys g.by xs)) ≡ true → group_rows g.by g.aggregates xs ≡ Some found
finished-rows g xs n found t past are fit =
    let ks = group_keys g.by xs in
    let whole : take n ks ≡ ks = take_all n ks (subst (λ keys. length keys ≤ n) t.keys_are past) in
    ap (λ b. cond b (Some (map (group_row g.by g.aggregates xs) ks)) None) (ap (list_all (group_fits g.by g.aggregates xs)) (sym whole) ∙ fit)
    ∙ ap Some (ap (map (group_row g.by g.aggregates xs)) (sym whole) ∙ sym are)

-- one does not fit
pub finished-none : (g : Groups) (xs : List Row) (n : ℕ) → HasTaken g xs → n < length g.keys → list_all held_fits (held_at n g.columns) ≡ false → group_rows g.by g.aggregates xs ≡ None
finished-none g xs n t l h =
    let ks = group_keys g.by xs in
    let near : n < length ks = subst (λ keys. n < length keys) t.keys_are l in
    let own : group_fits g.by g.aggregates xs (get_or ks n []) ≡ false =
    sym (part-fits g.aggregates (of_key g.by (get_or ks n []) xs)) ∙ (ap (list_all held_fits) (sym (held-is g xs n t near)) ∙ h) in
    ap (λ b. cond b (Some (map (group_row g.by g.aggregates xs) ks)) None) (list_all_at (group_fits g.by g.aggregates xs) ks n [] near own)
