-- Lists that a loop makes, one item further.
use Rattle.std.proofs.Common.{Vec, Global, ◌≡◌, ◌+◌, ◌<◌, ◌≤◌, ℕ, Bool, true, false, cond, List, [], ◌∷◌, ◌++◌, map, flat_map, take, drop, length, get_or, ◌==◌, Some, slice_get, sym, ap, ◌∙◌, append_assoc, arith}
use Rattle.std.specs.List.{filter}
use Rattle.std.proofs.lemmas.Bool.Decides.{nat_tests}
use Rattle.std.proofs.lemmas.Grind.{flat_map-append}
use Rattle.std.proofs.lemmas.List.{take_more, take_all, at_drop_more, append-nil, map_push, nil_from_length}
use Rattle.std.proofs.lemmas.Option.{get_or_from_slice_get}
use Rattle.std.proofs.lemmas.List.Elements.{filter-append}
use Rattle.vx_rows_values.specs.declared.order.OrderEntry.{OrderEntry}
use Rattle.vx_plan_nodes.specs.Describe.{Copying}
use Rattle.vx_check_options.specs.Options.{OrderChoices, singles, entry_copies, place_then, places_up}
use Rattle.vx_check_options.proofs.OptionFacts.{then-some}

-- what is made of all items
pub whole : {X Y : Type 0} (f : List X → Y) (xs : List X) (i : ℕ) (y : Y) → length xs ≤ i → y ≡ f (take i xs) → y ≡ f xs
whole f xs i y past is = is ∙ ap f (take_all i xs past)

-- and of those that are left
pub flat-left : {X Y : Type 0} (f : X → List Y) (xs : List X) (i : ℕ) (d : X) (all old new : List Y) → i < length xs → all ≡ old ++ flat_map f (drop i xs) → new ≡ old ++ f (get_or xs i d)
    → all ≡ new ++ flat_map f (drop (i + 1) xs)
flat-left f xs i d all old new within is more =
    is ∙ ap (λ ys. old ++ ys) (at_drop_more (flat_map f) xs i d within) ∙ sym (append_assoc old (f (get_or xs i d)) (flat_map f (drop (i + 1) xs)))
    ∙ ap (λ ys. ys ++ flat_map f (drop (i + 1) xs)) (sym more)

-- what is made of each item
pub flat-next : {X Y : Type 0} (f : X → List Y) (xs : List X) (i : ℕ) (d : X) (old new : List Y) → i < length xs → old ≡ flat_map f (take i xs) → new ≡ old ++ f (get_or xs i d)
    → new ≡ flat_map f (take (i + 1) xs)
flat-next f xs i d old new within is more =
    more ∙ ap (λ ys. ys ++ f (get_or xs i d)) is ∙ ap (λ ys. flat_map f (take i xs) ++ ys) (sym (append-nil (f (get_or xs i d))))
    ∙ sym (ap (flat_map f) (take_more xs i d within) ∙ flat_map-append f (take i xs) (get_or xs i d ∷ []))

-- one entry for each item, behind those that are there
pub map-next : {X Y : Type 0} (f : X → Y) (xs : List X) (i : ℕ) (d : X) (old new before : List Y) → i < length xs → old ≡ before ++ map f (take i xs) → new ≡ old ++ f (get_or xs i d) ∷ []
    → new ≡ before ++ map f (take (i + 1) xs)
map-next f xs i d old new before within is more =
    more ∙ ap (λ ys. ys ++ f (get_or xs i d) ∷ []) is ∙ append_assoc before (map f (take i xs)) (f (get_or xs i d) ∷ [])
    ∙ ap (λ ys. before ++ ys) (sym (ap (map f) (take_more xs i d within) ∙ map_push f (take i xs) (get_or xs i d)))

-- the items that pass a test
filtered : {X : Type 0} (test : X → Bool) (xs : List X) (i : ℕ) (d : X) (b : Bool) → i < length xs → b ≡ test (get_or xs i d)
    → filter test (take (i + 1) xs) ≡ filter test (take i xs) ++ cond b (get_or xs i d ∷ []) []
filtered test xs i d b within is =
    ap (filter test) (take_more xs i d within) ∙ filter-append test (take i xs) (get_or xs i d ∷ []) ∙ ap (λ a. filter test (take i xs) ++ cond a (get_or xs i d ∷ []) []) (sym is)

pub filter-next : {X : Type 0} (test : X → Bool) (xs : List X) (i : ℕ) (d : X) (b : Bool) (old : List X) → i < length xs → old ≡ filter test (take i xs) → b ≡ test (get_or xs i d) → b ≡ true
    → old ++ get_or xs i d ∷ [] ≡ filter test (take (i + 1) xs)
filter-next test xs i d b old within is here has =
    ap (λ ys. ys ++ get_or xs i d ∷ []) is ∙ ap (λ a. filter test (take i xs) ++ cond a (get_or xs i d ∷ []) []) (sym has) ∙ sym (filtered test xs i d b within here)

pub filter-skip : {X : Type 0} (test : X → Bool) (xs : List X) (i : ℕ) (d : X) (b : Bool) (old : List X) → i < length xs → old ≡ filter test (take i xs) → b ≡ test (get_or xs i d) → b ≡ false
    → old ≡ filter test (take (i + 1) xs)
filter-skip test xs i d b old within is here lacks =
    is ∙ sym (append-nil (filter test (take i xs))) ∙ ap (λ a. filter test (take i xs) ++ cond a (get_or xs i d ∷ []) []) (sym lacks) ∙ sym (filtered test xs i d b within here)

-- each list with a column in front
pub front-next : (col : ℕ) (vs : List (Vec ℕ Global)) (i : ℕ) (v copy made : Vec ℕ Global) (found new : List (Vec ℕ Global)) (before : List (List ℕ)) → i < length vs → v ≡ get_or vs i v → copy.items ≡ v.items
    → made.items ≡ col ∷ copy.items → new ≡ found ++ made ∷ [] → map (λ (u : Vec ℕ Global). u.items) found ≡ before ++ map (λ ds. col ∷ ds) (map (λ (u : Vec ℕ Global). u.items) (take i vs))
    → map (λ (u : Vec ℕ Global). u.items) new ≡ before ++ map (λ ds. col ∷ ds) (map (λ (u : Vec ℕ Global). u.items) (take (i + 1) vs))
front-next col vs i v copy made found new before within is copied put pushed left =
    let items : Vec ℕ Global → List ℕ = λ (u : Vec ℕ Global). u.items in
    let longer : List ℕ → List ℕ = λ ds. col ∷ ds in
    let old : List (List ℕ) = map longer (map items (take i vs)) in
    let step : map longer (map items (take (i + 1) vs)) ≡ old ++ (col ∷ v.items) ∷ [] =
    ap (λ us. map longer (map items us)) (take_more vs i v within) ∙ ap (map longer) (map_push items (take i vs) (get_or vs i v)) ∙ map_push longer (map items (take i vs)) (items (get_or vs i v))
    ∙ ap (λ (u : Vec ℕ Global). old ++ (col ∷ u.items) ∷ []) (sym is) in
    ap (map items) pushed ∙ map_push items found made ∙ ap (λ ls. ls ++ made.items ∷ []) left ∙ ap (λ l. (before ++ old) ++ l ∷ []) (put ∙ ap longer copied) ∙ append_assoc before old ((col ∷ v.items) ∷ [])
    ∙ ap (λ ls. before ++ ls) (sym step)

-- the same number
pub same-eqb : (a b : ℕ) → a ≡ b → (a == b) ≡ true
same-eqb a b e = grind (arith, nat_tests)

-- one entry more, alone at its place
pub single-next : (order : List OrderEntry) (i : ℕ) (e : OrderEntry) (old new : List (Vec OrderEntry Global)) (made : Vec OrderEntry Global) → i < length order → slice_get order i ≡ Some e → made.items ≡ e ∷ []
    → new ≡ old ++ made ∷ [] → map (λ (u : Vec OrderEntry Global). u.items) old ≡ singles (take i order) → map (λ (u : Vec OrderEntry Global). u.items) new ≡ singles (take (i + 1) order)
single-next order i e old new made within there alone put left =
    let items : Vec OrderEntry Global → List OrderEntry = λ (u : Vec OrderEntry Global). u.items in
    let one : OrderEntry → List OrderEntry = λ x. x ∷ [] in
    ap (map items) put ∙ map_push items old made ∙ ap (λ ps. ps ++ made.items ∷ []) left
    ∙ ap (λ s. singles (take i order) ++ s ∷ []) (alone ∙ ap one (sym (get_or_from_slice_get order i e e there)))
    ∙ sym (ap singles (take_more order i e within) ∙ map_push one (take i order) (get_or order i e))

-- the copies of what may stand at each place
up-here : (k : Copying) (vs : List (Vec OrderEntry Global)) (i : ℕ) (v : Vec OrderEntry Global) (found : List OrderEntry) → i < length vs → v ≡ get_or vs i v → found ≡ flat_map (entry_copies k) v.items
    → places_up k (map (λ (u : Vec OrderEntry Global). u.items) (drop i vs)) ≡ place_then found (places_up k (map (λ (u : Vec OrderEntry Global). u.items) (drop (i + 1) vs)))
up-here k vs i v found within is all =
    at_drop_more (λ (us : List (Vec OrderEntry Global)). places_up k (map (λ (u : Vec OrderEntry Global). u.items) us)) vs i v within
    ∙ ap (λ cs. place_then cs (places_up k (map (λ (u : Vec OrderEntry Global). u.items) (drop (i + 1) vs)))) (sym (all ∙ ap (λ (u : Vec OrderEntry Global). flat_map (entry_copies k) u.items) is))

-- up to a place that has none
pub up-done : (k : Copying) (vs : List (Vec OrderEntry Global)) (i : ℕ) (v : Vec OrderEntry Global) (found : List OrderEntry) (before all : OrderChoices) → i < length vs → v ≡ get_or vs i v → found ≡ flat_map (entry_copies k) v.items
    → length found ≡ 0 → all ≡ before ++ places_up k (map (λ (u : Vec OrderEntry Global). u.items) (drop i vs)) → before ≡ all
up-done k vs i v found before all within is are none left =
    let rest : OrderChoices = places_up k (map (λ (u : Vec OrderEntry Global). u.items) (drop (i + 1) vs)) in
    sym (left ∙ ap (λ ps. before ++ ps) (up-here k vs i v found within is are ∙ ap (λ cs. place_then cs rest) (nil_from_length found none)) ∙ append-nil before)

pub up-more : (k : Copying) (vs : List (Vec OrderEntry Global)) (i : ℕ) (v found : Vec OrderEntry Global) (old : List (Vec OrderEntry Global)) (all : OrderChoices) → i < length vs → v ≡ get_or vs i v
    → found.items ≡ flat_map (entry_copies k) v.items → 0 < length found.items → all ≡ map (λ (u : Vec OrderEntry Global). u.items) old ++ places_up k (map (λ (u : Vec OrderEntry Global). u.items) (drop i vs))
    → all ≡ map (λ (u : Vec OrderEntry Global). u.items) (old ++ found ∷ []) ++ places_up k (map (λ (u : Vec OrderEntry Global). u.items) (drop (i + 1) vs))
up-more k vs i v found old all within is are some left =
    let items = map (λ (u : Vec OrderEntry Global). u.items) in
    let rest : OrderChoices = places_up k (items (drop (i + 1) vs)) in
    left ∙ ap (λ ps. items old ++ ps) (up-here k vs i v found.items within is are ∙ then-some found.items rest some)
    ∙ sym (ap (λ ps. ps ++ rest) (map_push (λ (u : Vec OrderEntry Global). u.items) old found) ∙ append_assoc (items old) (found.items ∷ []) rest)
