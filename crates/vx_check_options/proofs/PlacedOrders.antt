-- Orders that are chosen of the entries that may stand at each place.
use Rattle.std.proofs.Common.{◌≡◌, ℕ, suc, ◌+◌, ◌-◌, ◌==◌, nat_lt, nat_le, Bool, true, false, cond, ◌&&◌, ◌||◌, List, [], ◌∷◌, length, refl, sym, ap, ◌∙◌, arith, Option, Some, None, slice_get, is_some, option_map, unwrap_or}
use Rattle.std.specs.List.{list_any, list_all, flat_map}
use Rattle.std.proofs.lemmas.Bool.{eqb-true}
use Rattle.std.proofs.lemmas.Bool.Decides.{nat_tests}
use Rattle.std.proofs.lemmas.List.Folds.{list_any-append}
use Rattle.vx_rows_values.specs.declared.order.OrderEntry.{OrderEntry}
use Rattle.vx_rows_values.specs.Order.{entry_eq}
use Rattle.vx_rows_values.specs.Lists.{is_some_list}
use Rattle.vx_rows_values.proofs.Booleans.{and-left, and-right, and-both}
use Rattle.vx_plan_nodes.specs.Plan.{Part}
use Rattle.vx_plan_nodes.specs.Describe.{Copying, whole_rows, columns_kept, entries_kept, left_of, right_of, no_columns, source, OrderAfter, order_kept, sorted_on}
use Rattle.vx_check_rules.specs.Rules.{contains, is_front, entry_at, entry_both, if_order}
use Rattle.vx_check_rules.specs.Behaviour.{order_sources, order_after}
use Rattle.vx_check_rules.proofs.Bools.{or-false, or-left, or-right}
use Rattle.vx_check_options.specs.Options.{places_from, copies, OrderChoices, singles, has_entry, entry_copies, place_then, places_up, narrowed, or_nowhere, places_after, rising}
use Rattle.vx_check_options.specs.Placed.{first_entries, entry_or_first, source_entry, order_along, order_below, is_chosen}
use Rattle.vx_check_options.proofs.EntryCopies.{entry-source}
use Rattle.vx_check_options.proofs.Entries.{entry-same, entry-itself, lone-entry, has-first, front-same, any-entry, copy-column, copy-back}

-- ---- tests

pub same-number : (x : ℕ) → (x == x) ≡ true
same-number x = grind (arith, nat_tests)

-- tests that pass together are the same
pub same-tests : (a b : Bool) → (a ≡ true → b ≡ true) → (b ≡ true → a ≡ true) → a ≡ b
same-tests true b f g = sym (f refl)
same-tests false true f g = g refl
same-tests false false f g = refl

-- a lone column is in the list if it is that one
alone-is : (c d : ℕ) → contains (c ∷ []) d ≡ true → d ≡ c
alone-is c d h = eqb-true d c (sym (or-false (d == c)) ∙ h)

pub any-flat : {X Y : Type 0} (test : Y → Bool) (f : X → List Y) (xs : List X) → list_any test (flat_map f xs) ≡ list_any (λ x. list_any test (f x)) xs
any-flat test f [] = refl
any-flat test f (x ∷ xs) = list_any-append test (f x) (flat_map f xs) ∙ ap (λ b. list_any test (f x) || b) (any-flat test f xs)

-- a number that passes
pub any-number : (test : ℕ → Bool) (xs : List ℕ) → list_any test xs ≡ true → (x : ℕ) × (contains xs x ≡ true) × (test x ≡ true)
any-number test [] h = cc
any-number test (x ∷ xs) h = by (test x) refl (any-number test xs) h
  where
    by : (b : Bool) → test x ≡ b → (list_any test xs ≡ true → (y : ℕ) × (contains xs y ≡ true) × (test y ≡ true)) → (b || list_any test xs) ≡ true
        → (y : ℕ) × (contains (x ∷ xs) y ≡ true) × (test y ≡ true)
    by true e more l = (x, or-left (x == x) (contains xs x) (same-number x), e)
    by false e more l = let w = more l in (w.0, or-right (w.0 == x) (contains xs w.0) w.1, w.2)

-- what there is
pub some-is : {X : Type 0} (o : Option X) → is_some o ≡ true → (x : X) × (o ≡ Some x)
some-is None h = cc
some-is (Some x) h = (x, refl)

-- ---- copies

-- at the place of a column it stands
from-source : (n : ℕ) (cols : List ℕ) (c d : ℕ) → contains (places_from n cols c) d ≡ true → (i : ℕ) × (d ≡ n + i) × (slice_get cols i ≡ Some c)
from-source n [] c d h = cc
from-source n (k ∷ ks) c d h = by (c == k) refl (from-source (suc n) ks c d) h
  where
    later : ((i : ℕ) × (d ≡ suc n + i) × (slice_get ks i ≡ Some c)) → (i : ℕ) × (d ≡ n + i) × (slice_get (k ∷ ks) i ≡ Some c)
    later w = let at : d ≡ suc n + w.0 = w.1 in (suc w.0, omega arith, w.2)

    here : c ≡ k → (contains (places_from (suc n) ks c) d ≡ true → (i : ℕ) × (d ≡ suc n + i) × (slice_get ks i ≡ Some c)) → (b : Bool) → (d == n) ≡ b
        → (b || contains (places_from (suc n) ks c) d) ≡ true → (i : ℕ) × (d ≡ n + i) × (slice_get (k ∷ ks) i ≡ Some c)
    here is more true e l = let at : d ≡ n = eqb-true d n e in (0, omega arith, ap Some (sym is))
    here is more false e l = later (more l)

    by : (b : Bool) → (c == k) ≡ b → (contains (places_from (suc n) ks c) d ≡ true → (i : ℕ) × (d ≡ suc n + i) × (slice_get ks i ≡ Some c))
        → contains (cond b (n ∷ places_from (suc n) ks c) (places_from (suc n) ks c)) d ≡ true → (i : ℕ) × (d ≡ n + i) × (slice_get (k ∷ ks) i ≡ Some c)
    by true e more l = here (eqb-true c k e) more (d == n) refl l
    by false e more l = later (more l)

left-source : (w c d : ℕ) → contains (cond (nat_lt c w) (c ∷ []) []) d ≡ true → cond (nat_lt d w) (Some d) None ≡ Some c
left-source w c d h = by (nat_lt c w) refl h
  where
    by : (b : Bool) → nat_lt c w ≡ b → contains (cond b (c ∷ []) []) d ≡ true → cond (nat_lt d w) (Some d) None ≡ Some c
    by true t e = let is : d ≡ c = alone-is c d e in rw (is, t) refl
    by false t e = cc

right-source : (w c d : ℕ) → contains (cond (nat_lt c 64) ((w + c) ∷ []) []) d ≡ true → cond (nat_le w d) (Some (d - w)) None ≡ Some c
right-source w c d h = by (nat_lt c 64) h
  where
    at : nat_le w (w + c) ≡ true
    at = grind (arith, nat_tests)

    back : (w + c) - w ≡ c
    back = omega arith

    by : (b : Bool) → contains (cond b ((w + c) ∷ []) []) d ≡ true → cond (nat_le w d) (Some (d - w)) None ≡ Some c
    by true e = let is : d ≡ w + c = alone-is (w + c) d e in rw (is, at, back) refl
    by false e = cc

-- a copy of a column is one
pub copies-source : (k : Copying) (c d : ℕ) → contains (copies k c) d ≡ true → source k d ≡ Some c
copies-source whole_rows c d h = ap Some (alone-is c d h)
copies-source (columns_kept cols) c d h =
    let w = from-source 0 cols c d h in
    let at : d ≡ 0 + w.0 = w.1 in
    let is : d ≡ w.0 = omega arith in
    rw is w.2
copies-source (entries_kept ks) c d h = entry-source ks c d h
copies-source (left_of w) c d h = left-source w c d h
copies-source (right_of w) c d h = right-source w c d h
copies-source no_columns c d h = cc

-- a copy of one of these entries
pub copied-from : (k : Copying) (s : List OrderEntry) (e : OrderEntry) → has_entry (flat_map (entry_copies k) s) e ≡ true
    → (x : OrderEntry) × (has_entry s x ≡ true) × (source k e.column ≡ Some x.column) × (entry_at x.column e ≡ x)
copied-from k s e h =
    let w = any-entry (λ x. has_entry (entry_copies k x) e) s (sym (any-flat (entry_eq e) (entry_copies k) s) ∙ h) in
    (w.0, w.1, copies-source k w.0.column e.column (copy-column k w.0 e w.2), copy-back k w.0 e w.2)

-- ---- places that are not empty

abbrev pub are_full : OrderChoices → Bool
are_full places = list_all is_some_list places

pub full-singles : (cols : List OrderEntry) → are_full (singles cols) ≡ true
full-singles [] = refl
full-singles (c ∷ cols) = full-singles cols

full-then : (cols : List OrderEntry) (places : OrderChoices) → are_full places ≡ true → are_full (place_then cols places) ≡ true
full-then [] places h = refl
full-then (c ∷ cols) places h = h

pub full-up : (k : Copying) (places : OrderChoices) → are_full (places_up k places) ≡ true
full-up k [] = refl
full-up k (s ∷ places) = full-then (flat_map (entry_copies k) s) (places_up k places) (full-up k places)

pub full-rising : (parts : List Part) (places : OrderChoices) → are_full places ≡ true → are_full (rising parts places) ≡ true
full-rising parts [] h = refl
full-rising parts (s ∷ places) h = full-then _ places (and-right (is_some_list s) (are_full places) h)

-- ---- narrowed places

-- the first entry may stand there, and the others are narrowed
narrowed-cons : (c : OrderEntry) (cs s : List OrderEntry) (places N : OrderChoices) → narrowed (c ∷ cs) (s ∷ places) ≡ Some N
    → (M : OrderChoices) × (has_entry s c ≡ true) × (narrowed cs places ≡ Some M) × (N ≡ (c ∷ []) ∷ M)
narrowed-cons c cs s places N e = by (has_entry s c) (narrowed cs places) refl refl e
  where
    by : (b : Bool) (o : Option OrderChoices) → has_entry s c ≡ b → narrowed cs places ≡ o → cond b (option_map (λ more. (c ∷ []) ∷ more) o) None ≡ Some N
        → (M : OrderChoices) × (has_entry s c ≡ true) × (narrowed cs places ≡ Some M) × (N ≡ (c ∷ []) ∷ M)
    by false o f g h = cc
    by true None f g h = cc
    by true (Some M) f g h = (M, f, g, cc)

full-narrowed : (cs : List OrderEntry) (places N : OrderChoices) → are_full places ≡ true → narrowed cs places ≡ Some N → are_full N ≡ true
full-narrowed [] places N h e = let is : N ≡ places = cc in rw is h
full-narrowed (c ∷ cs) [] N h e = cc
full-narrowed (c ∷ cs) (s ∷ places) N h e =
    let w = narrowed-cons c cs s places N e in
    rw w.3 (full-narrowed cs places w.0 (and-right (is_some_list s) (are_full places) h) w.2)

pub full-nowhere : (cs : List OrderEntry) (places : OrderChoices) → are_full places ≡ true → are_full (or_nowhere (narrowed cs places)) ≡ true
full-nowhere cs places h = by (narrowed cs places) refl
  where
    by : (o : Option OrderChoices) → narrowed cs places ≡ o → are_full (or_nowhere o) ≡ true
    by None e = refl
    by (Some N) e = full-narrowed cs places N h e

pub narrowed-length : (cs : List OrderEntry) (places N : OrderChoices) → narrowed cs places ≡ Some N → length N ≡ length places
narrowed-length [] places N e = let is : N ≡ places = cc in ap length is
narrowed-length (c ∷ cs) [] N e = cc
narrowed-length (c ∷ cs) (s ∷ places) N e =
    let w = narrowed-cons c cs s places N e in
    ap length w.3 ∙ ap suc (narrowed-length cs places w.0 w.2)

-- what is chosen of narrowed places is chosen of all, and begins with these entries
narrowed-chosen : (cs : List OrderEntry) (places N : OrderChoices) (order : List OrderEntry) → narrowed cs places ≡ Some N → is_chosen order N ≡ true
    → (is_chosen order places ≡ true) × (is_front cs order ≡ true)
narrowed-chosen [] places N order e h = let is : N ≡ places = cc in (rw is at h, refl)
narrowed-chosen (c ∷ cs) [] N order e h = cc
narrowed-chosen (c ∷ cs) (s ∷ places) N [] e h =
    let w = narrowed-cons c cs s places N e in
    let g : is_chosen [] ((c ∷ []) ∷ w.0) ≡ true = rw w.3 at h in
    cc
narrowed-chosen (c ∷ cs) (s ∷ places) N (d ∷ ds) e h =
    let w = narrowed-cons c cs s places N e in
    let g : (has_entry (c ∷ []) d && is_chosen ds w.0) ≡ true = rw w.3 at h in
    let is : d ≡ c = lone-entry c d (and-left (has_entry (c ∷ []) d) (is_chosen ds w.0) g) in
    let more = narrowed-chosen cs places w.0 ds w.2 (and-right (has_entry (c ∷ []) d) (is_chosen ds w.0) g) in
    (and-both (has_entry s d) (is_chosen ds places) (ap (has_entry s) is ∙ w.1) more.0, and-both (entry_eq c d) (is_front cs ds) (ap (entry_eq c) is ∙ entry-itself c) more.1)

some-map : {X Y : Type 0} (f : X → Y) (o : Option X) → is_some o ≡ true → is_some (option_map f o) ≡ true
some-map f None h = cc
some-map f (Some x) h = refl

some-step : {X Y : Type 0} (f : X → Y) (b : Bool) (o : Option X) → is_some (cond b (option_map f o) None) ≡ true → (b ≡ true) × (is_some o ≡ true)
some-step f false o h = cc
some-step f true None h = cc
some-step f true (Some x) h = (refl, refl)

-- places of which an order is chosen that begins so can be narrowed
front-narrowed : (cs : List OrderEntry) (places : OrderChoices) (order : List OrderEntry) → is_chosen order places ≡ true → is_front cs order ≡ true → is_some (narrowed cs places) ≡ true
front-narrowed [] places order h k = refl
front-narrowed (c ∷ cs) places [] h k = cc
front-narrowed (c ∷ cs) [] (d ∷ ds) h k = cc
front-narrowed (c ∷ cs) (s ∷ places) (d ∷ ds) h k =
    let is : c ≡ d = entry-same c d (and-left (entry_eq c d) (is_front cs ds) k) in
    let at : has_entry s c ≡ true = ap (has_entry s) is ∙ and-left (has_entry s d) (is_chosen ds places) h in
    rw at (some-map _ _ (front-narrowed cs places ds (and-right (has_entry s d) (is_chosen ds places) h) (and-right (entry_eq c d) (is_front cs ds) k)))

-- ---- chosen orders

pub chosen-length : (order : List OrderEntry) (places : OrderChoices) → is_chosen order places ≡ true → length order ≡ length places
chosen-length [] [] h = refl
chosen-length [] (s ∷ places) h = cc
chosen-length (c ∷ cs) [] h = cc
chosen-length (c ∷ cs) (s ∷ places) h = ap suc (chosen-length cs places (and-right (has_entry s c) (is_chosen cs places) h))

entry-in : (s : List OrderEntry) (c : OrderEntry) → has_entry s c ≡ true → entry_or_first s c ≡ c
entry-in [] c h = refl
entry-in (d ∷ ds) c h = ap (λ b. cond b c d) h

entry-stands : (s : List OrderEntry) (c : OrderEntry) → is_some_list s ≡ true → has_entry s (entry_or_first s c) ≡ true
entry-stands [] c h = cc
entry-stands (d ∷ ds) c h = by (has_entry (d ∷ ds) c) refl
  where
    by : (b : Bool) → has_entry (d ∷ ds) c ≡ b → has_entry (d ∷ ds) (cond b c d) ≡ true
    by true e = e
    by false e = has-first d ds

pub first-chosen : (places : OrderChoices) → are_full places ≡ true → is_chosen (first_entries places) places ≡ true
first-chosen [] h = refl
first-chosen ([] ∷ places) h = cc
first-chosen ((c ∷ cs) ∷ places) h = and-both (has_entry (c ∷ cs) c) (is_chosen (first_entries places) places) (has-first c cs) (first-chosen places h)

-- the order of an input is chosen
pub along-chosen : (k : Copying) (cs : List OrderEntry) (places : OrderChoices) → are_full places ≡ true → is_chosen (order_along k cs places) places ≡ true
along-chosen k [] places h = first-chosen places h
along-chosen k (c ∷ cs) [] h = refl
along-chosen k (c ∷ cs) (s ∷ places) h =
    and-both (has_entry s (entry_or_first s (source_entry k c))) (is_chosen (order_along k cs places) places)
    (entry-stands s (source_entry k c) (and-left (is_some_list s) (are_full places) h)) (along-chosen k cs places (and-right (is_some_list s) (are_full places) h))

-- a chosen one stays as it is
pub chosen-along : (order : List OrderEntry) (places : OrderChoices) → is_chosen order places ≡ true → order_along whole_rows order places ≡ order
chosen-along [] [] h = refl
chosen-along [] (s ∷ places) h = cc
chosen-along (c ∷ cs) [] h = cc
chosen-along (c ∷ cs) (s ∷ places) h =
    ap (λ x. x ∷ order_along whole_rows cs places) (entry-in s c (and-left (has_entry s c) (is_chosen cs places) h))
    ∙ ap (λ xs. c ∷ xs) (chosen-along cs places (and-right (has_entry s c) (is_chosen cs places) h))

-- it begins with entries that may stand there
along-begins : (cs : List OrderEntry) (places : OrderChoices) → is_some (narrowed cs places) ≡ true → is_front cs (order_along whole_rows cs places) ≡ true
along-begins [] places h = refl
along-begins (c ∷ cs) [] h = cc
along-begins (c ∷ cs) (s ∷ places) h =
    let w = some-step (λ more. (c ∷ []) ∷ more) (has_entry s c) (narrowed cs places) h in
    and-both (entry_eq c (entry_or_first s c)) (is_front cs (order_along whole_rows cs places)) (ap (entry_eq c) (entry-in s c w.0) ∙ entry-itself c) (along-begins cs places w.1)

-- an order is given exactly where it can be: of an input that is put in this order
pub begins-same : (cs : List OrderEntry) (places : OrderChoices) → are_full places ≡ true → is_front cs (order_along whole_rows cs places) ≡ is_some (narrowed cs places)
begins-same cs places h =
    same-tests _ _ (front-narrowed cs places (order_along whole_rows cs places) (along-chosen whole_rows cs places h)) (along-begins cs places)

-- what is chosen of places that can keep this order
pub kept-chosen : (cs : List OrderEntry) (places : OrderChoices) (order : List OrderEntry) → is_some (narrowed cs places) ≡ true → is_chosen order (or_nowhere (narrowed cs places)) ≡ true
    → (is_chosen order places ≡ true) × (is_front cs order ≡ true)
kept-chosen cs places order h k =
    let w = some-is (narrowed cs places) h in
    narrowed-chosen cs places w.0 order w.1 (rw w.1 at k)

-- and of an input whose order goes on
pub goes-on-same : (claimed cs : List OrderEntry) (places : OrderChoices) (order : List OrderEntry) → are_full places ≡ true → is_some (narrowed claimed (or_nowhere (narrowed cs places))) ≡ true
    → is_chosen order (or_nowhere (narrowed claimed (or_nowhere (narrowed cs places)))) ≡ true
    → is_front cs (order_along whole_rows order places) ≡ is_some (narrowed cs places)
goes-on-same claimed cs places order f h k =
    same-tests _ _ (front-narrowed cs places (order_along whole_rows order places) (along-chosen whole_rows order places f)) back
  where
    back : is_some (narrowed cs places) ≡ true → is_front cs (order_along whole_rows order places) ≡ true
    back l =
        let w = kept-chosen claimed (or_nowhere (narrowed cs places)) order h k in
        let v = kept-chosen cs places order l w.0 in
        ap (is_front cs) (chosen-along order places v.0) ∙ v.1

-- ---- orders that are shown

pub none-chosen : (order : List OrderEntry) → is_chosen order [] ≡ true → order ≡ []
none-chosen [] h = refl
none-chosen (c ∷ cs) h = cc

-- an order that goes on is shown
pub kept-front : (cs : List OrderEntry) (places : OrderChoices) (order : List OrderEntry) → is_chosen order (or_nowhere (narrowed cs places)) ≡ true
    → is_front order (order_along whole_rows order places) ≡ true
kept-front cs places order h = by (narrowed cs places) refl h
  where
    by : (o : Option OrderChoices) → narrowed cs places ≡ o → is_chosen order (or_nowhere o) ≡ true → is_front order (order_along whole_rows order places) ≡ true
    by None e k = let is : order ≡ [] = none-chosen order k in rw is refl
    by (Some N) e k = let w = narrowed-chosen cs places N order e k in ap (is_front order) (chosen-along order places w.0) ∙ front-same order

-- one that is chosen of single entries is these entries
pub singles-chosen : (order cols : List OrderEntry) → is_chosen order (singles cols) ≡ true → order ≡ cols
singles-chosen [] [] h = refl
singles-chosen [] (c ∷ cols) h = cc
singles-chosen (d ∷ ds) [] h = cc
singles-chosen (d ∷ ds) (c ∷ cols) h =
    let is : d ≡ c = lone-entry c d (and-left (has_entry (c ∷ []) d) (is_chosen ds (singles cols)) h) in
    ap (λ x. x ∷ ds) is ∙ ap (λ xs. c ∷ xs) (singles-chosen ds cols (and-right (has_entry (c ∷ []) d) (is_chosen ds (singles cols)) h))

pub then-chosen : (d : OrderEntry) (ds cols : List OrderEntry) (places : OrderChoices) → is_chosen (d ∷ ds) (place_then cols places) ≡ true → (has_entry cols d ≡ true) × (is_chosen ds places ≡ true)
then-chosen d ds [] places h = cc
then-chosen d ds (c ∷ cols) places h = (and-left (has_entry (c ∷ cols) d) (is_chosen ds places) h, and-right (has_entry (c ∷ cols) d) (is_chosen ds places) h)

if-cons : (c : ℕ) (e x : OrderEntry) (o : Option (List OrderEntry)) (below : List OrderEntry) → entry_at c e ≡ x → if_order o (λ given. is_front given below) ≡ true
    → if_order (entry_both (Some c) e o) (λ given. is_front given (x ∷ below)) ≡ true
if-cons c e x None below is h = cc
if-cons c e x (Some given) below is h = and-both (entry_eq (entry_at c e) x) (is_front given below) (ap (λ y. entry_eq y x) is ∙ entry-itself x) h

along-shown : (k : Copying) (order : List OrderEntry) (places : OrderChoices) → is_chosen order (places_up k places) ≡ true
    → if_order (order_sources k order) (λ given. is_front given (order_along k order places)) ≡ true
along-shown k [] places h = refl
along-shown k (d ∷ ds) [] h = cc
along-shown k (d ∷ ds) (s ∷ places) h =
    let w = then-chosen d ds (flat_map (entry_copies k) s) (places_up k places) h in
    let v = copied-from k s d w.0 in
    let from : source_entry k d ≡ v.0 = ap (λ o. entry_at (unwrap_or o 0) d) v.2 ∙ v.3 in
    let is : entry_or_first s (source_entry k d) ≡ v.0 = ap (entry_or_first s) from ∙ entry-in s v.0 v.1 in
    ap (λ o. if_order (entry_both o d (order_sources k ds)) (λ given. is_front given (order_along k (d ∷ ds) (s ∷ places)))) v.2
    ∙ (ap (λ x. if_order (entry_both (Some v.0.column) d (order_sources k ds)) (λ given. is_front given (x ∷ order_along k ds places))) is
    ∙ if-cons v.0.column d v.0 (order_sources k ds) (order_along k ds places) v.3 (along-shown k ds places w.1))

sorted-shown : (k : Copying) (order given : List OrderEntry) → is_chosen order (places_up k (singles given)) ≡ true → if_order (order_sources k order) (λ from. is_front from given) ≡ true
sorted-shown k [] given h = refl
sorted-shown k (d ∷ ds) [] h = cc
sorted-shown k (d ∷ ds) (c ∷ given) h =
    let w = then-chosen d ds (flat_map (entry_copies k) (c ∷ [])) (places_up k (singles given)) h in
    let v = copied-from k (c ∷ []) d w.0 in
    let is : v.0 ≡ c = lone-entry c v.0 v.1 in
    ap (λ o. if_order (entry_both o d (order_sources k ds)) (λ from. is_front from (c ∷ given))) v.2
    ∙ if-cons v.0.column d c (order_sources k ds) given (v.3 ∙ is) (sorted-shown k ds given w.1)

-- an order over one input is shown by the input's
pub below-shown : (a : OrderAfter) (k : Copying) (order : List OrderEntry) (places : OrderChoices) → is_chosen order (places_up k (places_after a places)) ≡ true
    → if_order (order_sources k order) (λ given. is_front given (order_after a (order_below a k order places))) ≡ true
below-shown order_kept k order places h = along-shown k order places h
below-shown (sorted_on given) k order places h = sorted-shown k order given h
