-- Columns of orders that stand at the same places: where those of one order contain a key that was found, those of the other do.
use Rattle.std.specs.Prelude.{⊤}
use Rattle.std.proofs.Common.{◌≡◌, ℕ, zero, suc, ◌+◌, ◌<◌, ◌==◌, nat_lt, nat_le, Bool, true, false, cond, not, ◌&&◌, ◌||◌, ⊎_elim, List, [], ◌∷◌, ◌++◌, map, flat_map, filter, length, Option, Some, None, slice_get, unwrap_or, option_map, refl, sym, ap, ap₂, ◌∙◌, subst, arith, eqb-true, true≢false}
use Rattle.std.specs.List.{list_any, list_all}
use Rattle.std.proofs.lemmas.Bool.Decides.{nat_tests}
use Rattle.std.proofs.lemmas.List.{map-append}
use Rattle.std.proofs.lemmas.List.Folds.{list_any-append}
use Rattle.vx_rows_values.specs.declared.value.ColType.{ColType}
use Rattle.vx_rows_values.specs.declared.order.OrderEntry.{OrderEntry}
use Rattle.vx_rows_values.specs.Order.{order_columns, entry_eq}
use Rattle.vx_rows_values.specs.Lists.{is_some_list}
use Rattle.vx_rows_values.proofs.Booleans.{and-left, and-right, and-both}
use Rattle.vx_catalog_relations.specs.Relation.{Relation}
use Rattle.vx_catalog_relations.specs.Catalog.{relation_at, all_below, are_distinct, IsCatalog}
use Rattle.vx_plan_nodes.specs.Plan.{Part, Unary, select, project, distinct, sort, group, limit, plain, partial, final, by_hashing, by_merging, left_order, Binary, union, join, semi_join, ExchangeKind, route_to, round, broadcast, gather, concat, Plan, scan, unary, binary, exchange, claim, size, is_one}
use Rattle.vx_plan_nodes.specs.Phases.{first_columns, phase_fits}
use Rattle.vx_plan_nodes.specs.Types.{types_of, unary_types, width, binary_width}
use Rattle.vx_plan_nodes.specs.Typed.{Scope, are_columns, is_unary, is_kind, typed}
use Rattle.vx_plan_nodes.specs.Describe.{Copying, whole_rows, columns_kept, entries_kept, kept_column, right_of, source, keys_kept, key_of_first, described, described_both}
use Rattle.vx_check_rules.specs.Rules.{contains, within, covers, cons_both, entry_at, shifted, numbers_below}
use Rattle.vx_check_rules.specs.Behaviour.{Keyed, sources, keyed_by, keyed_after, keyed_held, keyed_over, is_column, has_copy, has_key, keys_give}
use Rattle.vx_check_rules.proofs.Bools.{or-false, or-left, or-right, all-more, any-more}
use Rattle.vx_check_rules.proofs.ColumnFacts.{list_all-ext, list_any-ext, contains-below}
use Rattle.vx_check_rules.proofs.Exact.{sources-whole, key-first, join-keys}
use Rattle.vx_check_rules.proofs.WidthFacts.{types_of-width}
use Rattle.vx_check_options.specs.Options.{OrderChoices, copies, singles, has_entry, entry_copies, place_then, places_up, places_after, narrowed, or_nowhere, places_over_both, rising, places_sent, places_at, parts_at}
use Rattle.vx_check_options.specs.FoundKeys.{show, FoundKeys}
use Rattle.vx_check_options.specs.Laws.{AtEach}
use Rattle.vx_check_options.specs.Claimed.{IsClaimed}
use Rattle.vx_check_options.proofs.FoundFacts.{either, not-true, contains-in, any-of}
use Rattle.vx_check_options.proofs.PlacedOrders.{same-number, copies-source}
use Rattle.vx_check_options.proofs.TypedParts.{unary-types}
use Rattle.vx_check_options.proofs.TypedOrders.{declared-typed}
use Rattle.vx_check_options.proofs.KeysMonotone.{alone-shown}
use Rattle.vx_check_annotate.specs.Accepted.{HasRoom}

-- ---- places

-- one of these entries is of the column
abbrev pub has_column : List OrderEntry → ℕ → Bool
has_column s c = contains (order_columns s) c

-- the column may stand at one of the places
abbrev pub stands : OrderChoices → ℕ → Bool
stands places c = list_any (λ s. has_column s c) places

-- no column may stand at two places
abbrev pub Apart : OrderChoices → Type 0
Apart [] = ⊤
Apart (s ∷ places) = ((c : ℕ) → has_column s c ≡ true → stands places c ≡ false) × Apart places

-- each place of the first is that of the second, or narrower
abbrev pub Narrower : OrderChoices → OrderChoices → Type 0
Narrower [] more = ⊤
Narrower (s ∷ places) [] = ⊥
Narrower (s ∷ places) (t ∷ more) = ((c : ℕ) → has_column s c ≡ true → has_column t c ≡ true) × Narrower places more

narrower-self : (places : OrderChoices) → Narrower places places
narrower-self [] = tt
narrower-self (s ∷ places) = (λ c h. h, narrower-self places)

narrower-then : (a b c : OrderChoices) → Narrower a b → Narrower b c → Narrower a c
narrower-then [] b c h k = tt
narrower-then (s ∷ a) [] c h k = absurd h
narrower-then (s ∷ a) (t ∷ b) [] h k = absurd k
narrower-then (s ∷ a) (t ∷ b) (u ∷ c) h k = (λ d e. k.0 d (h.0 d e), narrower-then a b c h.1 k.1)

narrower-stands : (a b : OrderChoices) → Narrower a b → (c : ℕ) → stands a c ≡ true → stands b c ≡ true
narrower-stands [] b h c e = absurd (true≢false (sym e))
narrower-stands (s ∷ a) [] h c e = absurd h
narrower-stands (s ∷ a) (t ∷ b) h c e =
    ⊎_elim (λ f. or-left (has_column t c) (stands b c) (h.0 c f)) (λ f. or-right (has_column t c) (stands b c) (narrower-stands a b h.1 c f)) (either (has_column s c) (stands a c) e)

not-so : (b : Bool) → (b ≡ true → ⊥) → b ≡ false
not-so true f = absurd (f refl)
not-so false f = refl

narrower-apart : (a b : OrderChoices) → Narrower a b → Apart b → Apart a
narrower-apart [] b h p = tt
narrower-apart (s ∷ a) [] h p = absurd h
narrower-apart (s ∷ a) (t ∷ b) h p =
    (λ c e. not-so (stands a c) (λ f. true≢false (sym (narrower-stands a b h.1 c f) ∙ p.0 c (h.0 c e))), narrower-apart a b h.1 p.1)

lone-is : (x c : ℕ) → contains (x ∷ []) c ≡ true → c ≡ x
lone-is x c h = eqb-true c x (sym (or-false (c == x)) ∙ h)

-- an entry that may stand there is of a column that may
pub entry-column : (s : List OrderEntry) (e : OrderEntry) → has_entry s e ≡ true → has_column s e.column ≡ true
entry-column [] e h = absurd (true≢false (sym h))
entry-column (d ∷ s) e h = ⊎_elim
    (λ k. or-left (e.column == d.column) (has_column s e.column) (and-left (e.column == d.column) (cond e.falling d.falling (not d.falling)) k))
    (λ k. or-right (e.column == d.column) (has_column s e.column) (entry-column s e k)) (either (entry_eq e d) (has_entry s e) h)

-- places that begin with some entries
narrowed-narrower : (es : List OrderEntry) (places more : OrderChoices) → narrowed es places ≡ Some more → Narrower more places
narrowed-narrower [] places more e = let is : places ≡ more = cc in let P : OrderChoices → Type 0 = λ m. Narrower m places in subst P is (narrower-self places)
narrowed-narrower (d ∷ es) [] more e = cc
narrowed-narrower (d ∷ es) (s ∷ places) more e = by (has_entry s d) (narrowed es places) refl (λ m n. narrowed-narrower es places m n) e
  where
    by : (b : Bool) (o : Option OrderChoices) → has_entry s d ≡ b → ((m : OrderChoices) → o ≡ Some m → Narrower m places)
        → cond b (option_map (λ m. (d ∷ []) ∷ m) o) None ≡ Some more → Narrower more (s ∷ places)
    by true (Some m) t rest n =
        let is : (d ∷ []) ∷ m ≡ more = cc in
        let P : OrderChoices → Type 0 = λ z. Narrower z (s ∷ places) in
        let here : Narrower ((d ∷ []) ∷ m) (s ∷ places) = (λ c l. ap (has_column s) (lone-is d.column c l) ∙ entry-column s d t, rest m refl) in
        subst P is here
    by true None t rest n = cc
    by false o t rest n = cc

nowhere-narrower : (es : List OrderEntry) (places : OrderChoices) → Narrower (or_nowhere (narrowed es places)) places
nowhere-narrower es places = by (narrowed es places) refl
  where
    by : (o : Option OrderChoices) → narrowed es places ≡ o → Narrower (unwrap_or o []) places
    by None e = tt
    by (Some m) e = narrowed-narrower es places m e

then-narrower : (t s : List OrderEntry) (places : OrderChoices) → ((c : ℕ) → has_column t c ≡ true → has_column s c ≡ true) → Narrower (place_then t places) (s ∷ places)
then-narrower [] s places h = tt
then-narrower (e ∷ es) s places h = (h, narrower-self places)

kept-column : (test : OrderEntry → Bool) (s : List OrderEntry) (c : ℕ) → has_column (filter test s) c ≡ true → has_column s c ≡ true
kept-column test [] c h = h
kept-column test (e ∷ s) c h = by (test e) (kept-column test s c) h
  where
    by : (b : Bool) → (has_column (filter test s) c ≡ true → has_column s c ≡ true) → has_column (cond b (e ∷ filter test s) (filter test s)) c ≡ true → has_column (e ∷ s) c ≡ true
    by true more k = ⊎_elim (λ f. or-left (c == e.column) (has_column s c) f) (λ f. or-right (c == e.column) (has_column s c) (more f)) (either (c == e.column) (has_column (filter test s) c) k)
    by false more k = or-right (c == e.column) (has_column s c) (more k)

rising-narrower : (parts : List Part) (places : OrderChoices) → Narrower (rising parts places) places
rising-narrower parts [] = tt
rising-narrower parts (s ∷ places) = then-narrower _ s places (λ c e. kept-column _ s c e)

-- ---- columns of places

-- the columns at the places are of so many first ones, and none may stand at two places
pub record Tidy (w : ℕ) (places : OrderChoices) : Type 0 where
  pub below : (c : ℕ) → stands places c ≡ true → nat_lt c w ≡ true
  pub apart : Apart places

tidy-narrower : (w : ℕ) (a b : OrderChoices) → Narrower a b → Tidy w b → Tidy w a
tidy-narrower w a b h t = record { below = λ c e. t.below c (narrower-stands a b h c e); apart = narrower-apart a b h t.apart }

tidy-none : (w : ℕ) → Tidy w []
tidy-none w = record { below = λ c e. absurd (true≢false (sym e)); apart = tt }

tidy-more : (v u : ℕ) (places : OrderChoices) → Tidy v places → Tidy (v + u) places
tidy-more v u places t = record { below = λ c e. more c (t.below c e); apart = t.apart }
  where
    more : (c : ℕ) → nat_lt c v ≡ true → nat_lt c (v + u) ≡ true
    more c h = grind (arith, nat_tests, h)

singles-stands : (xs : List OrderEntry) (c : ℕ) → stands (singles xs) c ≡ has_column xs c
singles-stands [] c = refl
singles-stands (x ∷ xs) c = ap (λ b. b || stands (singles xs) c) (or-false (c == x.column)) ∙ ap (λ b. (c == x.column) || b) (singles-stands xs c)

singles-apart : (xs : List OrderEntry) → are_distinct (order_columns xs) ≡ true → Apart (singles xs)
singles-apart [] h = tt
singles-apart (x ∷ xs) h = (
  λ c e. ap (stands (singles xs)) (lone-is x.column c e) ∙ (singles-stands xs x.column ∙ not-true (has_column xs x.column) (and-left (not (has_column xs x.column)) (are_distinct (order_columns xs)) h)),
  singles-apart xs (and-right (not (has_column xs x.column)) (are_distinct (order_columns xs)) h),
)

below-at : (w : ℕ) (xs : List ℕ) (c : ℕ) → all_below w xs ≡ true → contains xs c ≡ true → nat_lt c w ≡ true
below-at w [] c h e = absurd (true≢false (sym e))
below-at w (x ∷ xs) c h e =
    ⊎_elim (λ f. ap (λ d. nat_lt d w) (eqb-true c x f) ∙ and-left (nat_lt x w) (all_below w xs) h) (λ f. below-at w xs c (and-right (nat_lt x w) (all_below w xs) h) f) (either (c == x) (contains xs c) e)

singles-tidy : (w : ℕ) (xs : List OrderEntry) → are_columns w (order_columns xs) ≡ true → Tidy w (singles xs)
singles-tidy w xs h = record {
  below = λ c e. below-at w (order_columns xs) c (and-left (all_below w (order_columns xs)) (are_distinct (order_columns xs)) h) (sym (singles-stands xs c) ∙ e);
  apart = singles-apart xs (and-right (all_below w (order_columns xs)) (are_distinct (order_columns xs)) h);
}

-- ---- copies of places

entries-columns : (e : OrderEntry) (cs : List ℕ) → order_columns (map (λ c. entry_at c e) cs) ≡ cs
entries-columns e [] = refl
entries-columns e (c ∷ cs) = ap (λ l. c ∷ l) (entries-columns e cs)

copies-split : (k : Copying) (e : OrderEntry) (s : List OrderEntry) (d : ℕ) → has_column (entry_copies k e ++ s) d ≡ (contains (copies k e.column) d || has_column s d)
copies-split k e s d =
    ap (λ l. contains l d) (map-append (λ (f : OrderEntry). f.column) (entry_copies k e) s)
    ∙ (list_any-append (λ y. d == y) (order_columns (entry_copies k e)) (order_columns s) ∙ ap (λ l. contains l d || has_column s d) (entries-columns e (copies k e.column)))

copies-from : (k : Copying) (s : List OrderEntry) (d : ℕ) → has_column (flat_map (entry_copies k) s) d ≡ true → (a : ℕ) × (has_column s a ≡ true) × (contains (copies k a) d ≡ true)
copies-from k [] d h = absurd (true≢false (sym h))
copies-from k (e ∷ s) d h = ⊎_elim
    (λ f. (e.column, or-left (e.column == e.column) (has_column s e.column) (same-number e.column), f))
    (λ f. let v = copies-from k s d f in (v.0, or-right (v.0 == e.column) (has_column s v.0) v.1, v.2))
    (either (contains (copies k e.column) d) (has_column (flat_map (entry_copies k) s) d) (sym (copies-split k e (flat_map (entry_copies k) s) d) ∙ h))

up-stands : (k : Copying) (places : OrderChoices) (d : ℕ) → stands (places_up k places) d ≡ true → (a : ℕ) × (stands places a ≡ true) × (contains (copies k a) d ≡ true)
up-stands k [] d h = absurd (true≢false (sym h))
up-stands k (s ∷ places) d h = by (flat_map (entry_copies k) s) refl (up-stands k places d) h
  where
    by : (t : List OrderEntry) → flat_map (entry_copies k) s ≡ t → (stands (places_up k places) d ≡ true → (a : ℕ) × (stands places a ≡ true) × (contains (copies k a) d ≡ true))
        → stands (place_then t (places_up k places)) d ≡ true → (a : ℕ) × (stands (s ∷ places) a ≡ true) × (contains (copies k a) d ≡ true)
    by [] e rest l = absurd (true≢false (sym l))
    by (c ∷ cs) e rest l = ⊎_elim
        (λ f. let v = copies-from k s d (ap (λ t. has_column t d) e ∙ f) in (v.0, or-left (has_column s v.0) (stands places v.0) v.1, v.2))
        (λ f. let v = rest f in (v.0, or-right (has_column s v.0) (stands places v.0) v.1, v.2))
        (either (has_column (c ∷ cs) d) (stands (places_up k places) d) l)

some-same : (a b : ℕ) → Some a ≡ Some b → a ≡ b
some-same a b e = cc

-- a column is a copy of one column
copied-same : (k : Copying) (a b d : ℕ) → contains (copies k a) d ≡ true → contains (copies k b) d ≡ true → a ≡ b
copied-same k a b d h l = some-same a b (sym (copies-source k a d h) ∙ copies-source k b d l)

up-apart : (k : Copying) (places : OrderChoices) → Apart places → Apart (places_up k places)
up-apart k [] p = tt
up-apart k (s ∷ places) p = by (flat_map (entry_copies k) s) refl (up-apart k places p.1)
  where
    by : (t : List OrderEntry) → flat_map (entry_copies k) s ≡ t → Apart (places_up k places) → Apart (place_then t (places_up k places))
    by [] e m = tt
    by (c ∷ cs) e m = (
      λ d h. not-so (stands (places_up k places) d) (λ f.
          let v = copies-from k s d (ap (λ t. has_column t d) e ∙ h) in
          let w = up-stands k places d f in
          true≢false (sym w.1 ∙ (ap (stands places) (sym (copied-same k v.0 w.0 d v.2 w.2)) ∙ p.0 v.0 v.1))),
      m,
    )

-- of an operator over one input with these types
after-tidy : (op : Unary) (ts : List ColType) (places : OrderChoices) → is_unary ts op ≡ true → Tidy (length ts) places → Tidy (length ts) (places_after (described op).order places)
after-tidy (select fs) ts places h t = t
after-tidy (project es) ts places h t = t
after-tidy (distinct cols) ts places h t = t
after-tidy (sort of_parts order) ts places h t = singles-tidy (length ts) order (and-right (is_some_list order) (are_columns (length ts) (order_columns order)) h)
after-tidy (group plain by aggregates) ts places h t = t
after-tidy (group partial by aggregates) ts places h t = t
after-tidy (group final by aggregates) ts places h t = t
after-tidy (limit m) ts places h t = t

up-tidy : (op : Unary) (ts : List ColType) (places : OrderChoices) → Tidy (length ts) places → Tidy (length (unary_types op ts)) (places_up (described op).copying places)
up-tidy op ts places t = record {
  below = λ d e. let v = up-stands (described op).copying places d e in (unary-types op ts v.0 d (t.below v.0 v.1) v.2).0;
  apart = up-apart (described op).copying places t.apart;
}

both-tidy : (op : Binary) (ts us : List ColType) (places : OrderChoices) → Tidy (length ts) places → Tidy (binary_width op (length ts) (length us)) (places_over_both op places)
both-tidy union ts us places t = tidy-none (length ts)
both-tidy (join (by_merging falls) on) ts us places t =
    tidy-more (length ts) (length us) _ (tidy-narrower (length ts) (or_nowhere (narrowed (left_order falls on) places)) places (nowhere-narrower (left_order falls on) places) t)
both-tidy (join by_hashing on) ts us places t = tidy-more (length ts) (length us) places t
both-tidy (semi_join matched on conditions) ts us places t = t

sent-tidy : (k : ExchangeKind) (alone : Bool) (w : ℕ) (merge : List OrderEntry) (parts : List Part) (places : OrderChoices) → are_columns w (order_columns merge) ≡ true → Tidy w places
    → Tidy w (cond alone (or_nowhere (narrowed merge places)) (places_sent k merge parts places))
sent-tidy k true w merge parts places m t = tidy-narrower w (or_nowhere (narrowed merge places)) places (nowhere-narrower merge places) t
sent-tidy concat false w merge parts places m t = tidy-narrower w (rising parts places) places (rising-narrower parts places) t
sent-tidy (route_to z r cols) false w merge parts places m t = singles-tidy w merge m
sent-tidy (round z) false w merge parts places m t = singles-tidy w merge m
sent-tidy (broadcast z) false w merge parts places m t = singles-tidy w merge m
sent-tidy gather false w merge parts places m t = singles-tidy w merge m

-- the places of a typed node
pub places-tidy : (s : Scope) (p : Plan) → IsCatalog s.catalog → typed s p ≡ true → Tidy (width (relation_at s.catalog) p) (places_at (relation_at s.catalog) p)
places-tidy s (scan n c r m z) cat h =
    tidy-narrower _ _ (singles (relation_at s.catalog r).order) (nowhere-narrower c.order (singles (relation_at s.catalog r).order))
    (singles-tidy _ (relation_at s.catalog r).order (declared-typed s r cat (and-left (nat_lt r (length s.catalog)) _ h)))
places-tidy s (unary n c op p) cat h =
    let catalog : ℕ → Relation = relation_at s.catalog in
    let ts : List ColType = types_of catalog p in
    let wide : length ts ≡ width catalog p = types_of-width catalog p in
    let P : ℕ → Type 0 = λ w. Tidy w (places_at catalog p) in
    let below : Tidy (length ts) (places_at catalog p) = subst P (sym wide) (places-tidy s p cat (and-left (typed s p) _ h)) in
    let fits : is_unary ts op ≡ true = and-left (is_unary ts op) _ (and-right (phase_fits op p) _ (and-right (typed s p) _ h)) in
    let Q : ℕ → Type 0 = λ w. Tidy w (places_up (described op).copying (places_after (described op).order (places_at catalog p))) in
    let here = subst Q (types_of-width catalog (unary n c op p)) (up-tidy op ts _ (after-tidy op ts (places_at catalog p) fits below)) in
    tidy-narrower _ _ _ (nowhere-narrower c.order (places_up (described op).copying (places_after (described op).order (places_at catalog p)))) here
places-tidy s (binary n c op p q) cat h =
    let catalog : ℕ → Relation = relation_at s.catalog in
    let ts : List ColType = types_of catalog p in
    let us : List ColType = types_of catalog q in
    let P : ℕ → Type 0 = λ w. Tidy w (places_at catalog p) in
    let below : Tidy (length ts) (places_at catalog p) = subst P (sym (types_of-width catalog p)) (places-tidy s p cat (and-left (typed s p) _ h)) in
    let Q : ℕ → Type 0 = λ w. Tidy w (places_over_both op (places_at catalog p)) in
    let wide : binary_width op (length ts) (length us) ≡ width catalog (binary n c op p q) =
    ap (λ v. binary_width op v (length us)) (types_of-width catalog p) ∙ ap (binary_width op (width catalog p)) (types_of-width catalog q) in
    tidy-narrower _ _ _ (nowhere-narrower c.order (places_over_both op (places_at catalog p))) (subst Q wide (both-tidy op ts us (places_at catalog p) below))
places-tidy s (exchange n c k m p) cat h =
    let catalog : ℕ → Relation = relation_at s.catalog in
    let ts : List ColType = types_of catalog p in
    let rest = and-right (is_kind s ts k) _ (and-right (typed s p) _ h) in
    let Q : ℕ → Type 0 = λ w. are_columns w (order_columns m) ≡ true in
    let merge : are_columns (width catalog p) (order_columns m) ≡ true = subst Q (types_of-width catalog p) (and-left (are_columns (length ts) (order_columns m)) _ rest) in
    tidy-narrower _ _ _ (nowhere-narrower c.order (cond (is_one (size p)) (or_nowhere (narrowed m (places_at catalog p))) (places_sent k m (parts_at catalog p) (places_at catalog p))))
    (sent-tidy k (is_one (size p)) (width catalog p) m (parts_at catalog p) (places_at catalog p) merge (places-tidy s p cat (and-left (typed s p) _ h)))

-- ---- orders beside one another

-- the columns of two orders that are equally long, which may stand at the same places
abbrev pub Beside : (order other : List ℕ) → OrderChoices → Type 0
Beside [] [] places = ⊤
Beside [] (d ∷ ds) places = ⊥
Beside (c ∷ cs) [] places = ⊥
Beside (c ∷ cs) (d ∷ ds) [] = ⊥
Beside (c ∷ cs) (d ∷ ds) (s ∷ places) = (has_column s c ≡ true) × (has_column s d ≡ true) × Beside cs ds places

pub beside-narrower : (o u : List ℕ) (a b : OrderChoices) → Narrower a b → Beside o u a → Beside o u b
beside-narrower [] [] a b n h = tt
beside-narrower [] (d ∷ ds) a b n h = absurd h
beside-narrower (c ∷ cs) [] a b n h = absurd h
beside-narrower (c ∷ cs) (d ∷ ds) [] b n h = absurd h
beside-narrower (c ∷ cs) (d ∷ ds) (s ∷ a) [] n h = absurd n
beside-narrower (c ∷ cs) (d ∷ ds) (s ∷ a) (t ∷ b) n h = (n.0 c h.0, n.0 d h.1, beside-narrower cs ds a b n.1 h.2)

beside-left : (o u : List ℕ) (p : OrderChoices) → Beside o u p → (c : ℕ) → contains o c ≡ true → stands p c ≡ true
beside-left [] u p h c e = absurd (true≢false (sym e))
beside-left (x ∷ xs) [] p h c e = absurd h
beside-left (x ∷ xs) (y ∷ ys) [] h c e = absurd h
beside-left (x ∷ xs) (y ∷ ys) (s ∷ p) h c e = ⊎_elim
    (λ f. or-left (has_column s c) (stands p c) (ap (has_column s) (eqb-true c x f) ∙ h.0)) (λ f. or-right (has_column s c) (stands p c) (beside-left xs ys p h.2 c f)) (either (c == x) (contains xs c) e)

beside-right : (o u : List ℕ) (p : OrderChoices) → Beside o u p → (c : ℕ) → contains u c ≡ true → stands p c ≡ true
beside-right o [] p h c e = absurd (true≢false (sym e))
beside-right [] (y ∷ ys) p h c e = absurd h
beside-right (x ∷ xs) (y ∷ ys) [] h c e = absurd h
beside-right (x ∷ xs) (y ∷ ys) (s ∷ p) h c e = ⊎_elim
    (λ f. or-left (has_column s c) (stands p c) (ap (has_column s) (eqb-true c y f) ∙ h.1)) (λ f. or-right (has_column s c) (stands p c) (beside-right xs ys p h.2 c f)) (either (c == y) (contains ys c) e)

same-singles : (o u : List ℕ) (order : List OrderEntry) → Beside o u (singles order) → o ≡ u
same-singles [] [] order b = refl
same-singles [] (d ∷ ds) order b = absurd b
same-singles (c ∷ cs) [] order b = absurd b
same-singles (c ∷ cs) (d ∷ ds) [] b = absurd b
same-singles (c ∷ cs) (d ∷ ds) (x ∷ xs) b = ap₂ (λ a l. a ∷ l) (lone-is x.column c b.0 ∙ sym (lone-is x.column d b.1)) (same-singles cs ds xs b.2)

all-below-of : (w : ℕ) (xs : List ℕ) → ((c : ℕ) → contains xs c ≡ true → nat_lt c w ≡ true) → all_below w xs ≡ true
all-below-of w [] h = refl
all-below-of w (x ∷ xs) h =
    and-both (nat_lt x w) (all_below w xs) (h x (or-left (x == x) (contains xs x) (same-number x))) (all-below-of w xs (λ c e. h c (or-right (c == x) (contains xs c) e)))

-- an order that has all columns that may stand somewhere is the only one
swap-all : (o u : List ℕ) (p : OrderChoices) → Apart p → Beside o u p → ((d : ℕ) → stands p d ≡ true → contains o d ≡ true) → (c : ℕ) → contains o c ≡ true → contains u c ≡ true
swap-all [] u p a b h c e = absurd (true≢false (sym e))
swap-all (x ∷ xs) [] p a b h c e = absurd b
swap-all (x ∷ xs) (y ∷ ys) [] a b h c e = absurd b
swap-all (x ∷ xs) (y ∷ ys) (s ∷ p) a b h c e =
    let same : y ≡ x = ⊎_elim (λ f. eqb-true y x f) (λ f. absurd (true≢false (sym (beside-left xs ys p b.2 y f) ∙ a.0 y b.1)))
    (either (y == x) (contains xs y) (h y (or-left (has_column s y) (stands p y) b.1))) in
    let rest : (d : ℕ) → stands p d ≡ true → contains xs d ≡ true = λ d f. ⊎_elim
    (λ g. absurd (true≢false (sym f ∙ a.0 d (ap (has_column s) (eqb-true d x g) ∙ b.0)))) (λ g. g) (either (d == x) (contains xs d) (h d (or-right (has_column s d) (stands p d) f))) in
    ⊎_elim (λ g. or-left (c == y) (contains ys c) (ap (λ z. c == z) same ∙ g)) (λ g. or-right (c == y) (contains ys c) (swap-all xs ys p a.1 b.2 rest c g)) (either (c == x) (contains xs c) e)

pub within-swaps : (n : ℕ) (o u : List ℕ) (p : OrderChoices) → Tidy n p → Beside o u p → within (numbers_below n) o ≡ true → within (numbers_below n) u ≡ true
within-swaps n o u p t b h =
    all-more (contains o) (contains u) (numbers_below n)
    (λ c e. swap-all o u p t.apart b (λ d f. contains-in (numbers_below n) o d h (contains-below n d ∙ t.below d f)) c e) h

-- ---- sources of orders beside one another

beside-up : (k : Copying) (o u : List ℕ) (places : OrderChoices) → Beside o u (places_up k places)
    → (i : List ℕ) × (j : List ℕ) × (sources k o ≡ Some i) × (sources k u ≡ Some j) × Beside i j places
beside-up k [] [] places h = ([], [], refl, refl, tt)
beside-up k [] (d ∷ ds) places h = absurd h
beside-up k (c ∷ cs) [] places h = absurd h
beside-up k (c ∷ cs) (d ∷ ds) [] h = absurd h
beside-up k (c ∷ cs) (d ∷ ds) (s ∷ places) h = by (flat_map (entry_copies k) s) refl (beside-up k cs ds places) h
  where
    by : (t : List OrderEntry) → flat_map (entry_copies k) s ≡ t
        → (Beside cs ds (places_up k places) → (i : List ℕ) × (j : List ℕ) × (sources k cs ≡ Some i) × (sources k ds ≡ Some j) × Beside i j places)
        → Beside (c ∷ cs) (d ∷ ds) (place_then t (places_up k places))
        → (i : List ℕ) × (j : List ℕ) × (sources k (c ∷ cs) ≡ Some i) × (sources k (d ∷ ds) ≡ Some j) × Beside i j (s ∷ places)
    by [] e rest l = absurd l
    by (x ∷ xs) e rest l =
        let v = copies-from k s c (ap (λ t. has_column t c) e ∙ l.0) in
        let u = copies-from k s d (ap (λ t. has_column t d) e ∙ l.1) in
        let w = rest l.2 in (
          v.0 ∷ w.0,
          u.0 ∷ w.1,
          ap (λ z. cons_both z (sources k cs)) (copies-source k v.0 c v.2) ∙ ap (cons_both (Some v.0)) w.2,
          ap (λ z. cons_both z (sources k ds)) (copies-source k u.0 d u.2) ∙ ap (cons_both (Some u.0)) w.3,
          (v.1, u.1, w.4),
        )

has-sources : (k : Copying) (o i : List ℕ) → sources k o ≡ Some i → (c : ℕ) → has_copy k o c ≡ contains i c
has-sources k [] i e c = let is : [] ≡ i = cc in ap (λ l. contains l c) is
has-sources k (x ∷ xs) i e c = by (source k x) (sources k xs) refl (λ j f. has-sources k xs j f c) e
  where
    by : (z : Option ℕ) (zs : Option (List ℕ)) → source k x ≡ z → ((j : List ℕ) → zs ≡ Some j → has_copy k xs c ≡ contains j c) → cons_both z zs ≡ Some i
        → has_copy k (x ∷ xs) c ≡ contains i c
    by None zs f more e = cc
    by (Some a) None f more e = cc
    by (Some a) (Some j) f more e =
        let is : a ∷ j ≡ i = cc in
        ap (λ z. is_column z c || has_copy k xs c) f ∙ ap (λ b. (c == a) || b) (more j refl) ∙ ap (λ l. contains l c) is

key-sources : (k : Copying) (keys : List (List ℕ)) (o i : List ℕ) → sources k o ≡ Some i → has_key k keys o ≡ covers keys i
key-sources k keys o i e =
    list_any-ext (λ key. list_all (has_copy k o) key) (λ key. list_all (contains i) key) keys (λ key. list_all-ext (has_copy k o) (contains i) key (has-sources k o i e))

-- ---- keys that stay covered

-- where an order contains one of the keys, one beside it does
abbrev pub Swaps : OrderChoices → List (List ℕ) → Type 0
Swaps places keys = (o u : List ℕ) → Beside o u places → covers keys o ≡ true → covers keys u ≡ true

singles-swaps : (order : List OrderEntry) (keys : List (List ℕ)) → Swaps (singles order) keys
singles-swaps order keys o u b h = ap (covers keys) (sym (same-singles o u order b)) ∙ h

-- a number that passes
any-number : (test : ℕ → Bool) (xs : List ℕ) → list_any test xs ≡ true → (x : ℕ) × (contains xs x ≡ true) × (test x ≡ true)
any-number test [] h = cc
any-number test (x ∷ xs) h = by (test x) refl (any-number test xs) h
  where
    by : (b : Bool) → test x ≡ b → (list_any test xs ≡ true → (y : ℕ) × (contains xs y ≡ true) × (test y ≡ true)) → (b || list_any test xs) ≡ true
        → (y : ℕ) × (contains (x ∷ xs) y ≡ true) × (test y ≡ true)
    by true e more l = (x, or-left (x == x) (contains xs x) (same-number x), e)
    by false e more l = let w = more l in (w.0, or-right (w.0 == x) (contains xs w.0) w.1, w.2)

copy-more : (k : Copying) (x y : List ℕ) (c : ℕ) → within x y ≡ true → has_copy k x c ≡ true → has_copy k y c ≡ true
copy-more k x y c w h =
    let v = any-number (λ z. is_column (source k z) c) x h in
    any-of (λ z. is_column (source k z) c) y v.0 (contains-in x y v.0 w v.1) v.2

key-more : (k : Copying) (keys : List (List ℕ)) (x y : List ℕ) → within x y ≡ true → has_key k keys x ≡ true → has_key k keys y ≡ true
key-more k keys x y w h =
    any-more (λ key. list_all (has_copy k x) key) (λ key. list_all (has_copy k y) key) keys (λ key e. all-more (has_copy k x) (has_copy k y) key (λ c l. copy-more k x y c w l) e) h

show-more : (keyed : List Keyed) (x y : List ℕ) → within x y ≡ true → show keyed x ≡ true → show keyed y ≡ true
show-more keyed x y w h =
    any-more (λ k. keys_give k x) (λ k. keys_give k y) keyed
    (λ k e. all-more (λ (f : Copying × List (List ℕ)). has_key f.0 f.1 x) (λ (f : Copying × List (List ℕ)). has_key f.0 f.1 y) k.from (λ f l. key-more f.0 f.1 x y w l) e) h

covered-shown : (keyed : List Keyed) (found : List (List ℕ)) (o : List ℕ) → list_all (show keyed) found ≡ true → covers found o ≡ true → show keyed o ≡ true
covered-shown keyed [] o h c = absurd (true≢false (sym c))
covered-shown keyed (key ∷ found) o h c = ⊎_elim
    (λ e. show-more keyed key o e (and-left (show keyed key) (list_all (show keyed) found) h)) (λ e. covered-shown keyed found o (and-right (show keyed key) (list_all (show keyed) found) h) e)
    (either (within key o) (covers found o) c)

found-swaps : (keyed : List Keyed) (w : ℕ) (claimed found : List (List ℕ)) (places : OrderChoices) → FoundKeys (show keyed) w claimed found → length found < 16 → Tidy w places
    → ((o u : List ℕ) → Beside o u places → show keyed o ≡ true → show keyed u ≡ true) → Swaps places found
found-swaps keyed w claimed found places f few tidy shows o u b c =
    f.all few u (all-below-of w u (λ d e. tidy.below d (beside-right o u places b d e))) (shows o u b (covered-shown keyed found o f.shown c))

-- ---- operators over one input

kept-swaps : (k : Copying) (keys : List (List ℕ)) (places : OrderChoices) → Swaps places keys → (o u : List ℕ) → Beside o u (places_up k places)
    → show (keyed_by ((k, keys) ∷ []) ∷ []) o ≡ true → show (keyed_by ((k, keys) ∷ []) ∷ []) u ≡ true
kept-swaps k keys places swaps o u b h =
    let w = beside-up k o u places b in
    alone-shown k keys u ∙ (key-sources k keys u w.1 w.3 ∙ swaps w.0 w.1 w.4 (sym (key-sources k keys o w.0 w.2) ∙ (sym (alone-shown k keys o) ∙ h)))

slice-below : (cols : List ℕ) (d a : ℕ) → slice_get cols d ≡ Some a → nat_lt d (length cols) ≡ true
slice-below [] d a e = cc
slice-below (c ∷ cols) zero a e = grind (arith, nat_tests)
slice-below (c ∷ cols) (suc d) a e = let r = slice-below cols d a e in grind (arith, nat_tests, r)

kept-tidy : (cols : List ℕ) (w : ℕ) (places : OrderChoices) → Tidy w places → Tidy (length cols) (places_up (columns_kept cols) places)
kept-tidy cols w places t = record {
  below = λ d e. let v = up-stands (columns_kept cols) places d e in slice-below cols d v.0 (copies-source (columns_kept cols) v.0 d v.2);
  apart = up-apart (columns_kept cols) places t.apart;
}

first-swaps : (n : ℕ) (o u : List ℕ) (p : OrderChoices) → Tidy n p → Beside o u p → show (keyed_by ((whole_rows, first_columns n ∷ []) ∷ []) ∷ []) o ≡ true
    → show (keyed_by ((whole_rows, first_columns n ∷ []) ∷ []) ∷ []) u ≡ true
first-swaps n o u p t b h = sym (key-first n u) ∙ within-swaps n o u p t b (key-first n o ∙ h)

unary-swaps : (op : Unary) (w : ℕ) (places : OrderChoices) (keys : List (List ℕ)) → Tidy w places → Swaps places keys → (o u : List ℕ)
    → Beside o u (places_up (described op).copying (places_after (described op).order places)) → show (keyed_after (described op).keys (described op).copying keys) o ≡ true
    → show (keyed_after (described op).keys (described op).copying keys) u ≡ true
unary-swaps (select fs) w places keys t swaps o u b h = kept-swaps whole_rows keys places swaps o u b h
unary-swaps (project es) w places keys t swaps o u b h = kept-swaps (entries_kept (map kept_column es)) keys places swaps o u b h
unary-swaps (distinct cols) w places keys t swaps o u b h = first-swaps (length cols) o u _ (kept-tidy cols w places t) b h
unary-swaps (sort false order) w places keys t swaps o u b h = kept-swaps whole_rows keys (singles order) (singles-swaps order keys) o u b h
unary-swaps (sort true order) w places keys t swaps o u b h = absurd (true≢false (sym h))
unary-swaps (group plain by aggregates) w places keys t swaps o u b h = first-swaps (length by) o u _ (kept-tidy by w places t) b h
unary-swaps (group partial by aggregates) w places keys t swaps o u b h = absurd (true≢false (sym h))
unary-swaps (group final by aggregates) w places keys t swaps o u b h = first-swaps (length by) o u _ (kept-tidy by w places t) b h
unary-swaps (limit m) w places keys t swaps o u b h = at (nat_le m 1) h
  where
    at : (few : Bool) → show (keyed_after (cond few (key_of_first 0) keys_kept) whole_rows keys) o ≡ true → show (keyed_after (cond few (key_of_first 0) keys_kept) whole_rows keys) u ≡ true
    at true l = sym (key-first 0 u)
    at false l = kept-swaps whole_rows keys places swaps o u b l

-- ---- operators over two inputs

-- columns of the left input contain no key of the right one but an empty one
shifted-same : (v : ℕ) (key o u : List ℕ) → all_below v o ≡ true → within (shifted v key) o ≡ true → within (shifted v key) u ≡ true
shifted-same v [] o u l h = refl
shifted-same v (c ∷ key) o u l h = absurd (not-there c (below-at v o (v + c) l (and-left (contains o (v + c)) (within (shifted v key) o) h)))
  where
    not-there : (x : ℕ) → nat_lt (v + x) v ≡ true → ⊥
    not-there x e = grind (arith, nat_tests, e)

shifted-swaps : (v : ℕ) (keys : List (List ℕ)) (o u : List ℕ) → all_below v o ≡ true → covers (map (shifted v) keys) o ≡ true → covers (map (shifted v) keys) u ≡ true
shifted-swaps v [] o u l h = absurd (true≢false (sym h))
shifted-swaps v (key ∷ keys) o u l h = ⊎_elim
    (λ e. or-left (within (shifted v key) u) (covers (map (shifted v) keys) u) (shifted-same v key o u l e))
    (λ e. or-right (within (shifted v key) u) (covers (map (shifted v) keys) u) (shifted-swaps v keys o u l e)) (either (within (shifted v key) o) (covers (map (shifted v) keys) o) h)

and-more : (a b c d : Bool) → (a ≡ true → c ≡ true) → (b ≡ true → d ≡ true) → (a && b) ≡ true → (c && d) ≡ true
and-more a b c d f g h = and-both c d (f (and-left a b h)) (g (and-right a b h))

or-more : (a b c d : Bool) → (a ≡ true → c ≡ true) → (b ≡ true → d ≡ true) → (a || b) ≡ true → (c || d) ≡ true
or-more true b c d f g h = or-left c d (f refl)
or-more false b c d f g h = or-right c d (g h)

join-swaps : (on : List (ℕ × ℕ)) (v : ℕ) (lefts rights : List (List ℕ)) (o u : List ℕ) → all_below v o ≡ true → (covers lefts o ≡ true → covers lefts u ≡ true)
    → show (keyed_held (covers rights (map (λ p. p.1) on)) (covers lefts (map (λ p. p.0) on)) (whole_rows, lefts) (right_of v, rights)) o ≡ true
    → show (keyed_held (covers rights (map (λ p. p.1) on)) (covers lefts (map (λ p. p.0) on)) (whole_rows, lefts) (right_of v, rights)) u ≡ true
join-swaps on v lefts rights o u l left h =
    let right : covers (map (shifted v) rights) o ≡ true → covers (map (shifted v) rights) u ≡ true = shifted-swaps v rights o u l in
    sym (join-keys on v lefts rights u)
    ∙ or-more _ _ _ _ (or-more _ _ _ _ (and-more _ _ _ _ left right) (and-more _ _ _ _ left (λ e. e))) (and-more _ _ _ _ right (λ e. e)) (join-keys on v lefts rights o ∙ h)

both-swaps : (op : Binary) (v : ℕ) (places : OrderChoices) (lefts rights : List (List ℕ)) → Tidy v places → Swaps places lefts → (o u : List ℕ) → Beside o u (places_over_both op places)
    → show (keyed_over (described_both v op).meeting (described_both v op) lefts rights) o ≡ true → show (keyed_over (described_both v op).meeting (described_both v op) lefts rights) u ≡ true
both-swaps union v places lefts rights t swaps o u b h = absurd (true≢false (sym h))
both-swaps (join (by_merging falls) on) v places lefts rights t swaps o u b h =
    let c = beside-narrower o u _ places (nowhere-narrower (left_order falls on) places) b in
    join-swaps on v lefts rights o u (all-below-of v o (λ d e. t.below d (beside-left o u places c d e))) (swaps o u c) h
both-swaps (join by_hashing on) v places lefts rights t swaps o u b h =
    join-swaps on v lefts rights o u (all-below-of v o (λ d e. t.below d (beside-left o u places b d e))) (swaps o u b) h
both-swaps (semi_join matched on conditions) v places lefts rights t swaps o u b h = alone-shown-swaps b h
  where
    whole : (x : List ℕ) → show (keyed_by ((whole_rows, lefts) ∷ []) ∷ []) x ≡ covers lefts x
    whole x = alone-shown whole_rows lefts x ∙ key-sources whole_rows lefts x x (sources-whole x)

    alone-shown-swaps : Beside o u places → show (keyed_by ((whole_rows, lefts) ∷ []) ∷ []) o ≡ true → show (keyed_by ((whole_rows, lefts) ∷ []) ∷ []) u ≡ true
    alone-shown-swaps c l = whole u ∙ swaps o u c (sym (whole o) ∙ l)

-- ---- exchanges

sent-swaps : (k : ExchangeKind) (alone : Bool) (merge : List OrderEntry) (parts : List Part) (places : OrderChoices) (keys : List (List ℕ)) → Swaps places keys → (o u : List ℕ)
    → Beside o u (cond alone (or_nowhere (narrowed merge places)) (places_sent k merge parts places)) → covers keys o ≡ true → covers keys u ≡ true
sent-swaps k true merge parts places keys swaps o u b h = swaps o u (beside-narrower o u _ places (nowhere-narrower merge places) b) h
sent-swaps concat false merge parts places keys swaps o u b h = swaps o u (beside-narrower o u _ places (rising-narrower parts places) b) h
sent-swaps (route_to z r cols) false merge parts places keys swaps o u b h = singles-swaps merge keys o u b h
sent-swaps (round z) false merge parts places keys swaps o u b h = singles-swaps merge keys o u b h
sent-swaps (broadcast z) false merge parts places keys swaps o u b h = singles-swaps merge keys o u b h
sent-swaps gather false merge parts places keys swaps o u b h = singles-swaps merge keys o u b h

-- ---- nodes

pub keys-swap : (s : Scope) (p : Plan) (q : Part) (order : List OrderEntry) (x : Plan) → IsCatalog s.catalog → typed s p ≡ true → IsClaimed (relation_at s.catalog) p q order x → AtEach HasRoom x
    → Swaps (places_at (relation_at s.catalog) p) (claim x).keys
keys-swap s (scan n c r m z) q order x cat t h few =
    λ o u b e. singles-swaps (relation_at s.catalog r).order (claim x).keys o u (beside-narrower o u _ _ (nowhere-narrower c.order (singles (relation_at s.catalog r).order)) b) e
keys-swap s (unary n c op p) q order x cat t h few =
    let catalog : ℕ → Relation = relation_at s.catalog in
    let node : Plan = unary n c op p in
    let under : typed s p ≡ true = and-left (typed s p) _ t in
    let F : Plan → Type 0 = AtEach HasRoom in
    let few_x = subst F h.2 few in
    let P : Plan → Type 0 = λ y. Swaps (places_at catalog node) (claim y).keys in
    subst P (sym h.2) (found-swaps (keyed_after (described op).keys (described op).copying (claim h.1).keys) (width catalog node) c.keys h.0 (places_at catalog node) h.4 few_x.1
    (places-tidy s node cat t)
    (λ o u b e. unary-swaps op (width catalog p) (places_at catalog p) (claim h.1).keys (places-tidy s p cat under) (keys-swap s p _ _ h.1 cat under h.3 few_x.0) o u
    (beside-narrower o u _ _ (nowhere-narrower c.order (places_up (described op).copying (places_after (described op).order (places_at catalog p)))) b) e))
keys-swap s (binary n c op p p2) q order x cat t h few =
    let catalog : ℕ → Relation = relation_at s.catalog in
    let node : Plan = binary n c op p p2 in
    let under : typed s p ≡ true = and-left (typed s p) _ t in
    let F : Plan → Type 0 = AtEach HasRoom in
    let few_x = subst F h.3 few in
    let P : Plan → Type 0 = λ y. Swaps (places_at catalog node) (claim y).keys in
    subst P (sym h.3) (found-swaps (keyed_over (described_both (width catalog p) op).meeting (described_both (width catalog p) op) (claim h.1).keys (claim h.2).keys) (width catalog node) c.keys h.0
    (places_at catalog node) h.6 few_x.2 (places-tidy s node cat t)
    (λ o u b e. both-swaps op (width catalog p) (places_at catalog p) (claim h.1).keys (claim h.2).keys (places-tidy s p cat under) (keys-swap s p _ _ h.1 cat under h.4 few_x.0) o u
    (beside-narrower o u _ _ (nowhere-narrower c.order (places_over_both op (places_at catalog p))) b) e))
keys-swap s (exchange n c k m p) q order x cat t h few =
    let catalog : ℕ → Relation = relation_at s.catalog in
    let node : Plan = exchange n c k m p in
    let under : typed s p ≡ true = and-left (typed s p) _ t in
    let F : Plan → Type 0 = AtEach HasRoom in
    let few_x = subst F h.2 few in
    let keys : List (List ℕ) = (claim h.1).keys in
    let whole : (y : List ℕ) → show (keyed_by ((whole_rows, keys) ∷ []) ∷ []) y ≡ covers keys y = λ y. alone-shown whole_rows keys y ∙ key-sources whole_rows keys y y (sources-whole y) in
    let P : Plan → Type 0 = λ y. Swaps (places_at catalog node) (claim y).keys in
    subst P (sym h.2) (found-swaps (keyed_by ((whole_rows, keys) ∷ []) ∷ []) (width catalog node) c.keys h.0 (places_at catalog node) h.4 few_x.1 (places-tidy s node cat t)
    (λ o u b e. whole u ∙ sent-swaps k (is_one (size p)) m (parts_at catalog p) (places_at catalog p) keys (keys-swap s p _ _ h.1 cat under h.3 few_x.0) o u
    (beside-narrower o u _ _ (nowhere-narrower c.order (cond (is_one (size p)) (or_nowhere (narrowed m (places_at catalog p))) (places_sent k m (parts_at catalog p) (places_at catalog p)))) b)
    (sym (whole o) ∙ e)))
