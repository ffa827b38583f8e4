-- Orders that begin with some entries, as the program puts them together.
use Rattle.std.proofs.Common.{Vec, Global, ◌≡◌, ◌≤◌, ◌<◌, ◌+◌, ◌-◌, ◌&&◌, ◌||◌, ◌==◌, ℕ, suc, Bool, true, false, cond, List, [], ◌∷◌, ◌++◌, map, length, take, drop, get_or, set, refl, sym, ap, ◌∙◌, arith, length-drop, Option, Some, None, slice_get, option_map}
use Rattle.std.specs.Prelude.{is_some}
use Rattle.std.proofs.lemmas.Bool.Decides.{nat_tests}
use Rattle.std.specs.List.{list_any, filter}
use Rattle.std.proofs.lemmas.List.{take_all, at_drop_more, at_drop_all, drop-map, map-append}
use Rattle.std.proofs.lemmas.Option.{get_or_from_slice_get}
use Rattle.vx_rows_values.specs.declared.order.OrderEntry.{OrderEntry}
use Rattle.vx_plan_nodes.specs.Plan.{Part}
use Rattle.vx_check_rules.specs.Rules.{contains, rises_by}
use Rattle.vx_check_options.specs.Options.{OrderChoices, singles, place_then, rising, narrowed, or_nowhere, has_entry}

-- ---- orders that begin with some entries

-- where they may, they stand alone
pub narrowed-as : (order : List OrderEntry) (places : OrderChoices) → is_some (narrowed order places) ≡ true → or_nowhere (narrowed order places) ≡ singles order ++ drop (length order) places
narrowed-as [] places h = refl
narrowed-as (c ∷ cs) [] h = cc
narrowed-as (c ∷ cs) (s ∷ places) h = by (has_entry s c) (narrowed cs places) (narrowed-as cs places) h
  where
    by : (b : Bool) (o : Option OrderChoices) → (is_some o ≡ true → or_nowhere o ≡ singles cs ++ drop (length cs) places) → is_some (cond b (option_map (λ more. (c ∷ []) ∷ more) o) None) ≡ true
        → or_nowhere (cond b (option_map (λ more. (c ∷ []) ∷ more) o) None) ≡ (c ∷ []) ∷ (singles cs ++ drop (length cs) places)
    by true (Some more) f h = ap (λ l. (c ∷ []) ∷ l) (f refl)
    by true None f h = cc
    by false o f h = cc

pub narrowed-long : (order : List OrderEntry) (vs : List (Vec OrderEntry Global)) → is_some (narrowed order (map (λ (v : Vec OrderEntry Global). v.items) vs)) ≡ true → length order ≤ length vs
narrowed-long [] vs h = omega arith
narrowed-long (c ∷ cs) [] h = cc
narrowed-long (c ∷ cs) (v ∷ vs) h = by (has_entry v.items c) (narrowed cs (map (λ (u : Vec OrderEntry Global). u.items) vs)) (narrowed-long cs vs) h
  where
    by : (b : Bool) (o : Option OrderChoices) → (is_some o ≡ true → length cs ≤ length vs) → is_some (cond b (option_map (λ more. (c ∷ []) ∷ more) o) None) ≡ true → suc (length cs) ≤ suc (length vs)
    by true (Some more) f h = let l = f refl in omega (arith, l)
    by true None f h = cc
    by false o f h = cc

pub narrowed-short : (order : List OrderEntry) (vs : List (Vec OrderEntry Global)) → length vs < length order → false ≡ is_some (narrowed order (map (λ (v : Vec OrderEntry Global). v.items) vs))
narrowed-short order vs short = by (is_some (narrowed order (map (λ (v : Vec OrderEntry Global). v.items) vs))) (narrowed-long order vs)
  where
    by : (b : Bool) → (b ≡ true → length order ≤ length vs) → false ≡ b
    by true long = let l = long refl in absurd (omega (arith, l, short))
    by false long = refl

-- a test that the column is among others, as a slice has it
turned : (a b : ℕ) → (a == b) ≡ (b == a)
turned a b = grind (arith, nat_tests)

pub contains-as : (cols : List ℕ) (c : ℕ) → list_any (λ d. d == c) cols ≡ contains cols c
contains-as [] c = refl
contains-as (d ∷ ds) c = ap (λ b. b || list_any (λ e. e == c) ds) (turned d c) ∙ ap (λ b. (c == d) || b) (contains-as ds c)

-- place by place
one-more : (c : OrderEntry) (b : Bool) (o : Option OrderChoices) → is_some (cond b (option_map (λ more. (c ∷ []) ∷ more) o) None) ≡ (b && is_some o)
one-more c true None = refl
one-more c true (Some more) = refl
one-more c false o = refl

begin-step : (order : List OrderEntry) (vs : List (Vec OrderEntry Global)) (i : ℕ) (v : Vec OrderEntry Global) (d : OrderEntry) → i < length order → i < length vs → v ≡ get_or vs i v
    → is_some (narrowed (drop i order) (map (λ (u : Vec OrderEntry Global). u.items) (drop i vs)))
    ≡ (has_entry v.items (get_or order i d) && is_some (narrowed (drop (i + 1) order) (map (λ (u : Vec OrderEntry Global). u.items) (drop (i + 1) vs))))
begin-step order vs i v d here within is =
    let items = map (λ (u : Vec OrderEntry Global). u.items) in
    let c : OrderEntry = get_or order i d in
    let cs : List OrderEntry = drop (i + 1) order in
    let rest : OrderChoices = items (drop (i + 1) vs) in
    at_drop_more (λ xs. is_some (narrowed xs (items (drop i vs)))) order i d here
    ∙ at_drop_more (λ (us : List (Vec OrderEntry Global)). is_some (narrowed (c ∷ cs) (items us))) vs i v within
    ∙ ap (λ (u : Vec OrderEntry Global). is_some (narrowed (c ∷ cs) (u.items ∷ rest))) (sym is) ∙ one-more c (has_entry v.items c) (narrowed cs rest)

pub begin-more : (order : List OrderEntry) (vs : List (Vec OrderEntry Global)) (i : ℕ) (v : Vec OrderEntry Global) (e : OrderEntry) (all b : Bool) → i < length order → i < length vs → v ≡ get_or vs i v
    → slice_get order i ≡ Some e
    → all ≡ is_some (narrowed (drop i order) (map (λ (u : Vec OrderEntry Global). u.items) (drop i vs))) → b ≡ has_entry v.items e
    → all ≡ (b && is_some (narrowed (drop (i + 1) order) (map (λ (u : Vec OrderEntry Global). u.items) (drop (i + 1) vs))))
begin-more order vs i v e all b here within is there left test =
    left ∙ begin-step order vs i v e here within is ∙ ap (λ a. a && is_some (narrowed (drop (i + 1) order) (map (λ (u : Vec OrderEntry Global). u.items) (drop (i + 1) vs)))) (sym (test ∙ ap (has_entry v.items) (sym (get_or_from_slice_get order i e e there))))

pub begin-all : (order : List OrderEntry) (vs : List (Vec OrderEntry Global)) (i : ℕ) (all : Bool) → length order ≤ i → all ≡ is_some (narrowed (drop i order) (map (λ (u : Vec OrderEntry Global). u.items) (drop i vs))) → true ≡ all
begin-all order vs i all past left = sym (left ∙ at_drop_all (λ xs. is_some (narrowed xs (map (λ (u : Vec OrderEntry Global). u.items) (drop i vs)))) order i past)

pub nowhere : (o : Option OrderChoices) (b : Bool) → b ≡ is_some o → b ≡ false → [] ≡ or_nowhere o
nowhere None b e h = refl
nowhere (Some places) b e h = cc

-- ---- lists that are put together

rest-lists : (m : ℕ) (vs : List (Vec OrderEntry Global)) → map (λ (v : Vec OrderEntry Global). v.items) (take (length vs - m) (drop m vs)) ≡ drop m (map (λ (v : Vec OrderEntry Global). v.items) vs)
rest-lists m vs =
    ap (map (λ (v : Vec OrderEntry Global). v.items)) (take_all (length vs - m) (drop m vs) (omega (arith, length-drop m vs))) ∙ sym (drop-map (λ (v : Vec OrderEntry Global). v.items) m vs)

pub narrowed-put : (order : List OrderEntry) (vs found more new : List (Vec OrderEntry Global)) → is_some (narrowed order (map (λ (v : Vec OrderEntry Global). v.items) vs)) ≡ true → map (λ (v : Vec OrderEntry Global). v.items) found ≡ singles order
    → map (λ (v : Vec OrderEntry Global). v.items) more ≡ map (λ (v : Vec OrderEntry Global). v.items) (take (length vs - length order) (drop (length order) vs)) → new ≡ found ++ more
    → map (λ (v : Vec OrderEntry Global). v.items) new ≡ or_nowhere (narrowed order (map (λ (v : Vec OrderEntry Global). v.items) vs))
narrowed-put order vs found more new may first rest all =
    let items = map (λ (v : Vec OrderEntry Global). v.items) in
    ap items all ∙ map-append (λ (v : Vec OrderEntry Global). v.items) found more ∙ ap (λ xs. xs ++ items more) first ∙ ap (λ ys. singles order ++ ys) (rest ∙ rest-lists (length order) vs) ∙ sym (narrowed-as order (items vs) may)

pub then-some : (place : List OrderEntry) (places : OrderChoices) → 0 < length place → place_then place places ≡ place ∷ places
then-some [] places l = absurd (omega (arith, l))
then-some (c ∷ cs) places l = refl

pub rising-put : (parts : List Part) (vs found : List (Vec OrderEntry Global)) (v entries : Vec OrderEntry Global) → 1 ≤ length vs → v ≡ get_or vs 0 v
    → entries.items ≡ filter (λ c. list_any (λ x. rises_by x (c ∷ [])) parts) v.items → 0 < length entries.items
    → map (λ (u : Vec OrderEntry Global). u.items) found ≡ map (λ (u : Vec OrderEntry Global). u.items) vs → map (λ (u : Vec OrderEntry Global). u.items) (set found 0 entries) ≡ rising parts (map (λ (u : Vec OrderEntry Global). u.items) vs)
rising-put parts [] found v entries l e are some same = absurd (omega (arith, l))
rising-put parts (w ∷ ws) [] v entries l e are some same = cc
rising-put parts (w ∷ ws) (f ∷ fs) v entries l e are some same =
    let behind : OrderChoices = map (λ (u : Vec OrderEntry Global). u.items) ws in
    let rest : map (λ (u : Vec OrderEntry Global). u.items) fs ≡ behind = ap (drop 1) same in
    ap (λ ys. entries.items ∷ ys) rest ∙ sym (then-some entries.items behind some)
    ∙ ap (λ cs. place_then cs behind) (are ∙ ap (λ (u : Vec OrderEntry Global). filter (λ c. list_any (λ x. rises_by x (c ∷ [])) parts) u.items) e)

pub first-within : (vs found : List (Vec OrderEntry Global)) → 1 ≤ length vs → map (λ (u : Vec OrderEntry Global). u.items) found ≡ map (λ (u : Vec OrderEntry Global). u.items) vs → 0 < length found
first-within [] found l same = absurd (omega (arith, l))
first-within (w ∷ ws) [] l same = cc
first-within (w ∷ ws) (f ∷ fs) l same = omega arith

-- ---- whether a list is empty

pub some-length : {X : Type 0} (xs : List X) (n : ℕ) (b : Bool) → n ≡ length xs → b ≡ (n == 0) → b ≡ false → 0 < length xs
some-length [] n b e f h = let is : n ≡ 0 = e in let yes : (n == 0) ≡ true = rw is refl in cc
some-length (x ∷ xs) n b e f h = omega arith

pub none-length : {X : Type 0} (xs : List X) (n : ℕ) (b : Bool) → n ≡ length xs → b ≡ (n == 0) → b ≡ true → length xs ≡ 0
none-length xs n b e f h = let zero : n ≡ 0 = grind (arith, nat_tests) in sym e ∙ zero
