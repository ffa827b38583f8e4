-- Keys that copies of columns make, and the loops that find them.
use Rattle.std.proofs.Common.{Vec, Global, map, zero, suc, nat_lt, Option, Some, None, option_map, option_to_list, ℕ, ◌≡◌, ◌+◌, ◌<◌, ◌==◌, Bool, true, false, cond, not, ◌&&◌, ◌||◌, ◌⊎◌, inl, inr, ⊎_elim, List, [], ◌∷◌, ◌++◌, length, take, get_or, subst, refl, sym, ap, ◌∙◌, arith}
use Rattle.std.specs.List.{list_all, list_any, filter}
use Rattle.std.proofs.lemmas.Bool.{eqb-true}
use Rattle.std.proofs.lemmas.List.Folds.{list_any-append, list_all-append, list_all-map, list_all_more, list_any_more, list_any_at}
use Rattle.std.proofs.lemmas.Bool.Decides.{nat_tests}
use Rattle.std.proofs.lemmas.List.{length-map, length-take-le}
use Rattle.vx_rows_values.proofs.Booleans.{and-left, and-right, and-both}
use Rattle.vx_catalog_relations.specs.Catalog.{all_below, are_distinct}
use Rattle.vx_plan_nodes.specs.Typed.{are_columns}
use Rattle.vx_plan_nodes.specs.Describe.{Copying, source}
use Rattle.vx_plan_nodes.specs.Phases.{first_columns}
use Rattle.vx_check_rules.specs.declared.keyed.Keyed as rust_keyed
use Rattle.vx_check_rules.specs.declared.keyed.CopiedKeys as rust_copied
use Rattle.vx_plan_nodes.specs.DescribeView.{copying_of}
use Rattle.vx_check_rules.specs.KeyedView.{keys_seen, copied_keys, keyed_of, keyed_in, all_keyed_in}
use Rattle.vx_check_rules.proofs.WayFacts.{any-flat}
use Rattle.vx_check_rules.proofs.ColumnFacts.{list_all-ext, first-suc}
use Rattle.vx_check_rules.specs.Rules.{contains, within, covers}
use Rattle.vx_check_rules.specs.Behaviour.{Keyed, is_column, has_copy, has_key, keys_give}
use Rattle.vx_check_rules.proofs.Bools.{or-left, or-right, all-more}
use Rattle.vx_check_options.specs.FoundKeys.{show, FoundKeys, both_give, choices_of, meets_each, with_key, IsChoice, IsMet, IsKey, IsShown, IsPart, KeptKeys, Finds}
use Rattle.vx_check_options.proofs.FoundFacts.{either, any-of, contains-in, within-self, all-filtered, none-filtered, not-false, not-true, covers-more, key-covers, key-keeps, key-passes, key-apart, key-longer, finds-none, finds-as, finds-then}

-- ---- copies among allowed columns

-- one of the columns that passes
record Found (test : ℕ → Bool) (xs : List ℕ) : Type 0 where
  column : ℕ
  there : contains xs column ≡ true
  passes : test column ≡ true

same-column : (x : ℕ) (xs : List ℕ) → contains (x ∷ xs) x ≡ true
same-column x xs = and-left (contains (x ∷ xs) x) (within xs (x ∷ xs)) (within-self (x ∷ xs))

any-found : (test : ℕ → Bool) (xs : List ℕ) → list_any test xs ≡ true → Found test xs
any-found test [] h = cc
any-found test (x ∷ xs) h =
    ⊎_elim (λ f. record { column = x; there = same-column x xs; passes = f })
    (λ f. let w : Found test xs = any-found test xs f in record { column = w.column; there = or-right (w.column == x) (contains xs w.column) w.there; passes = w.passes })
    (either (test x) (list_any test xs) h)

filtered-in : (test : ℕ → Bool) (xs : List ℕ) (y : ℕ) → contains xs y ≡ true → test y ≡ true → contains (filter test xs) y ≡ true
filtered-in test [] y h k = cc
filtered-in test (x ∷ xs) y h k = by (test x) refl (either (y == x) (contains xs y) h) (λ f. filtered-in test xs y f k)
  where
    by : (b : Bool) → test x ≡ b → ((y == x) ≡ true) ⊎ (contains xs y ≡ true) → (contains xs y ≡ true → contains (filter test xs) y ≡ true) → contains (cond b (x ∷ filter test xs) (filter test xs)) y ≡ true
    by true e (inl f) more = or-left (y == x) (contains (filter test xs) y) f
    by true e (inr f) more = or-right (y == x) (contains (filter test xs) y) (more f)
    by false e (inl f) more = let is : y ≡ x = eqb-true y x f in let no : test y ≡ false = ap test is ∙ e in cc
    by false e (inr f) more = more f

filter-passes : (test : ℕ → Bool) (xs : List ℕ) (y : ℕ) → contains (filter test xs) y ≡ true → test y ≡ true
filter-passes test [] y h = cc
filter-passes test (x ∷ xs) y h = by (test x) refl h (λ f. filter-passes test xs y f)
  where
    by : (b : Bool) → test x ≡ b → contains (cond b (x ∷ filter test xs) (filter test xs)) y ≡ true → (contains (filter test xs) y ≡ true → test y ≡ true) → test y ≡ true
    by true e f more = ⊎_elim (λ g. let is : y ≡ x = eqb-true y x g in ap test is ∙ e) more (either (y == x) (contains (filter test xs) y) f)
    by false e f more = more f

-- columns that have copies contain one of each of their copies
pub copies-met : (k : Copying) (allowed x key : List ℕ) → within x allowed ≡ true → list_all (has_copy k x) key ≡ true → meets_each (choices_of k allowed key) x ≡ true
copies-met k allowed x [] w h = refl
copies-met k allowed x (c ∷ cs) w h =
    and-both (list_any (contains x) (filter test allowed)) (meets_each (choices_of k allowed cs) x) met (copies-met k allowed x cs w (and-right (has_copy k x c) (list_all (has_copy k x) cs) h))
  where
    test : ℕ → Bool
    test = λ d. is_column (source k d) c

    found : Found test x
    found = any-found test x (and-left (has_copy k x c) (list_all (has_copy k x) cs) h)

    met : list_any (contains x) (filter test allowed) ≡ true
    met = any-of (contains x) (filter test allowed) found.column (filtered-in test allowed found.column (contains-in x allowed found.column w found.there) found.passes) found.there

-- and the other way round
pub met-copies : (k : Copying) (allowed x key : List ℕ) → meets_each (choices_of k allowed key) x ≡ true → list_all (has_copy k x) key ≡ true
met-copies k allowed x [] h = refl
met-copies k allowed x (c ∷ cs) h =
    and-both (has_copy k x c) (list_all (has_copy k x) cs) (any-of test x found.column found.passes (filter-passes test allowed found.column found.there))
    (met-copies k allowed x cs (and-right (list_any (contains x) (filter test allowed)) (meets_each (choices_of k allowed cs) x) h))
  where
    test : ℕ → Bool
    test = λ d. is_column (source k d) c

    found : Found (contains x) (filter test allowed)
    found = any-found (contains x) (filter test allowed) (and-left (list_any (contains x) (filter test allowed)) (meets_each (choices_of k allowed cs) x) h)

pub choices-allowed : (k : Copying) (allowed key : List ℕ) → list_all (λ ds. within ds allowed) (choices_of k allowed key) ≡ true
choices-allowed k allowed [] = refl
choices-allowed k allowed (c ∷ cs) =
    and-both (within (filter (λ d. is_column (source k d) c) allowed) allowed) (list_all (λ ds. within ds allowed) (choices_of k allowed cs))
    (all-filtered (contains allowed) (λ d. is_column (source k d) c) allowed (within-self allowed)) (choices-allowed k allowed cs)

-- nothing contains one of no columns
pub none-met : (choices : List (List ℕ)) (x : List ℕ) → covers choices [] ≡ true → meets_each choices x ≡ true → ⊥
none-met [] x h k = cc
none-met ([] ∷ choices) x h k = cc
none-met ((d ∷ ds) ∷ choices) x h k = none-met choices x h (and-right (list_any (contains x) (d ∷ ds)) (meets_each choices x) k)

-- ---- a key of each input together

both-met : (k j : Copying) (allowed key other x : List ℕ) → IsShown (both_give k j (key ∷ []) (other ∷ [])) allowed x → meets_each (choices_of k allowed key ++ choices_of j allowed other) x ≡ true
both-met k j allowed key other x w =
    list_all-append (λ ds. list_any (contains x) ds) (choices_of k allowed key) (choices_of j allowed other)
    ∙ and-both (meets_each (choices_of k allowed key) x) (meets_each (choices_of j allowed other) x)
    (copies-met k allowed x key w.among (alone (list_all (has_copy k x) key) (and-left (has_key k (key ∷ []) x) (has_key j (other ∷ []) x) w.shown)))
    (copies-met j allowed x other w.among (alone (list_all (has_copy j x) other) (and-right (has_key k (key ∷ []) x) (has_key j (other ∷ []) x) w.shown)))
  where
    alone : (b : Bool) → (b || false) ≡ true → b ≡ true
    alone true h = refl
    alone false h = cc

-- where a column has no copy there is no key
pub finds-no-copy : (k j : Copying) (allowed key other : List ℕ) (choices keys : List (List ℕ)) → choices ≡ choices_of k allowed key ++ choices_of j allowed other
    → covers choices [] ≡ true
    → Finds (IsKey (both_give k j (key ∷ []) (other ∷ [])) allowed) (IsShown (both_give k j (key ∷ []) (other ∷ [])) allowed) keys keys
finds-no-copy k j allowed key other choices keys e h =
    finds-none (IsKey (both_give k j (key ∷ []) (other ∷ [])) allowed) (IsShown (both_give k j (key ∷ []) (other ∷ [])) allowed) keys
    (λ l x w. absurd (none-met choices x h (ap (λ cs. meets_each cs x) e ∙ both-met k j allowed key other x w)))

-- where each has one, the choices are the keys
pub finds-both : (k j : Copying) (allowed key other : List ℕ) (choices old found : List (List ℕ)) → choices ≡ choices_of k allowed key ++ choices_of j allowed other
    → Finds (IsChoice [] choices) (IsMet [] choices) old found
    → Finds (IsKey (both_give k j (key ∷ []) (other ∷ [])) allowed) (IsShown (both_give k j (key ∷ []) (other ∷ [])) allowed) old found
finds-both k j allowed key other choices old found e f =
    finds-as (IsKey both allowed) (IsChoice [] choices) (IsShown both allowed) (IsMet [] choices) old found f new (λ x w. record { begins = refl; meets = ap (λ cs. meets_each cs x) e ∙ both-met k j allowed key other x w })
  where
    firsts : List (List ℕ)
    firsts = choices_of k allowed key

    seconds : List (List ℕ)
    seconds = choices_of j allowed other

    both : List ℕ → Bool
    both = both_give k j (key ∷ []) (other ∷ [])

    new : (x : List ℕ) → IsChoice [] choices x → IsKey both allowed x
    new x c =
        let met : (meets_each firsts x && meets_each seconds x) ≡ true = sym (list_all-append (λ ds. list_any (contains x) ds) firsts seconds) ∙ ap (λ cs. meets_each cs x) (sym e) ∙ c.meets in
        record {
          shown = and-both (has_key k (key ∷ []) x) (has_key j (other ∷ []) x)
              (or-left (list_all (has_copy k x) key) false (met-copies k allowed x key (and-left (meets_each firsts x) (meets_each seconds x) met)))
              (or-left (list_all (has_copy j x) other) false (met-copies j allowed x other (and-right (meets_each firsts x) (meets_each seconds x) met)));
          among = c.only allowed refl (ap (λ cs. list_all (λ ds. within ds allowed) cs) e ∙ list_all-append (λ ds. within ds allowed) firsts seconds ∙ and-both _ _ (choices-allowed k allowed key) (choices-allowed j allowed other));
          distinct = c.distinct;
        }

-- ---- loops

-- a test of some things passes where it passes one of them
pub record IsAny {X : Type 0} (shows : List X → List ℕ → Bool) (one : X → List ℕ → Bool) : Type 0 where
  pub parts : (vs : List X) (x : List ℕ) → shows vs x ≡ list_any (λ v. one v x) vs

-- one thing further
pub finds-next : {X : Type 0} (shows : List X → List ℕ → Bool) (one : X → List ℕ → Bool) (allowed : List ℕ) (vs : List X) (i : ℕ) (v : X) (old mid found : List (List ℕ))
    → IsAny shows one → i < length vs → v ≡ get_or vs i v
    → Finds (IsKey (shows vs) allowed) (IsShown (shows (take i vs)) allowed) old mid → Finds (IsKey (one v) allowed) (IsShown (one v) allowed) mid found
    → Finds (IsKey (shows vs) allowed) (IsShown (shows (take (i + 1) vs)) allowed) old found
finds-next shows one allowed vs i v old mid found a h e f g =
    finds-then (IsKey (shows vs) allowed) (IsKey (one v) allowed) (IsShown (shows (take (i + 1) vs)) allowed) (IsShown (shows (take i vs)) allowed) (IsShown (one v) allowed) old mid found f g new wanted
  where
    new : (x : List ℕ) → IsKey (one v) allowed x → IsKey (shows vs) allowed x
    new x w = record { shown = a.parts vs x ∙ list_any_at (λ u. one u x) vs i v h (ap (λ u. one u x) (sym e) ∙ w.shown); among = w.among; distinct = w.distinct }

    wanted : (x : List ℕ) → IsShown (shows (take (i + 1) vs)) allowed x → IsShown (shows (take i vs)) allowed x ⊎ IsShown (one v) allowed x
    wanted x w =
        ⊎_elim (λ b. inl (record { shown = a.parts (take i vs) x ∙ b; among = w.among })) (λ b. inr (record { shown = ap (λ u. one u x) e ∙ b; among = w.among }))
        (either (list_any (λ u. one u x) (take i vs)) (one (get_or vs i v) x) (sym (list_any_more (λ u. one u x) vs i v h) ∙ sym (a.parts (take (i + 1) vs) x) ∙ w.shown))

-- the same test
pub finds-alike : (p q : List ℕ → Bool) (allowed : List ℕ) (old found : List (List ℕ)) → ((x : List ℕ) → p x ≡ q x) → Finds (IsKey q allowed) (IsShown q allowed) old found → Finds (IsKey p allowed) (IsShown p allowed) old found
finds-alike p q allowed old found e f =
    finds-as (IsKey p allowed) (IsKey q allowed) (IsShown p allowed) (IsShown q allowed) old found f (λ x w. record { shown = e x ∙ w.shown; among = w.among; distinct = w.distinct })
    (λ x w. record { shown = sym (e x) ∙ w.shown; among = w.among })

or-false : (b : Bool) → (b || false) ≡ b
or-false true = refl
or-false false = refl

-- keys of the second list
pub beside-any : (k j : Copying) (key : List ℕ) → IsAny (λ vs. both_give k j (key ∷ []) vs) (λ v. both_give k j (key ∷ []) (v ∷ []))
beside-any k j key = record { parts = λ vs x. by x (has_key k (key ∷ []) x) vs }
  where
    none : (x : List ℕ) (vs : List (List ℕ)) → false ≡ list_any (λ v. false && has_key j (v ∷ []) x) vs
    none x [] = refl
    none x (v ∷ vs) = none x vs

    all : (x : List ℕ) (vs : List (List ℕ)) → has_key j vs x ≡ list_any (λ v. true && has_key j (v ∷ []) x) vs
    all x [] = refl
    all x (v ∷ vs) = rw (or-false (list_all (has_copy j x) v), all x vs) refl

    by : (x : List ℕ) (b : Bool) (vs : List (List ℕ)) → (b && has_key j vs x) ≡ list_any (λ v. b && has_key j (v ∷ []) x) vs
    by x true vs = all x vs
    by x false vs = none x vs

-- keys of the first list
pub among-any : (k j : Copying) (others : List (List ℕ)) → IsAny (λ vs. both_give k j vs others) (λ v. both_give k j (v ∷ []) others)
among-any k j others = record { parts = λ vs x. by x (has_key j others x) vs }
  where
    either-way : (a c b d : Bool) → (c && b) ≡ d → ((a || c) && b) ≡ (((a || false) && b) || d)
    either-way true c true d e = refl
    either-way true true false d e = e
    either-way true false false d e = e
    either-way false c b d e = e

    by : (x : List ℕ) (b : Bool) (vs : List (List ℕ)) → (has_key k vs x && b) ≡ list_any (λ v. has_key k (v ∷ []) x && b) vs
    by x b [] = refl
    by x b (v ∷ vs) = either-way (list_all (has_copy k x) v) (has_key k vs x) b _ (by x b vs)

-- keys that may be there
pub keyed-any : IsAny (λ (os : List (Option rust_keyed.Keyed)). show (all_keyed_in os)) (λ (o : Option rust_keyed.Keyed). show (keyed_in o))
keyed-any = record { parts = λ os x. any-flat (λ k. keys_give k x) keyed_in os }

-- ---- claimed keys

-- fewer columns
pub columns-filtered : (test : ℕ → Bool) (w : ℕ) (cols : List ℕ) → are_columns w cols ≡ true → are_columns w (filter test cols) ≡ true
columns-filtered test w cols h =
    and-both (all_below w (filter test cols)) (are_distinct (filter test cols)) (all-filtered (λ c. nat_lt c w) test cols (and-left (all_below w cols) (are_distinct cols) h))
    (apart cols (and-right (all_below w cols) (are_distinct cols) h))
  where
    apart : (xs : List ℕ) → are_distinct xs ≡ true → are_distinct (filter test xs) ≡ true
    apart [] d = refl
    apart (x ∷ xs) d = by (test x) (apart xs (and-right (not (contains xs x)) (are_distinct xs) d))
      where
        by : (b : Bool) → are_distinct (filter test xs) ≡ true → are_distinct (cond b (x ∷ filter test xs) (filter test xs)) ≡ true
        by true more =
            and-both (not (contains (filter test xs) x)) (are_distinct (filter test xs))
            (not-false (contains (filter test xs) x) (none-filtered (λ y. x == y) test xs (not-true (contains xs x) (and-left (not (contains xs x)) (are_distinct xs) d)))) more
        by false more = more

pub part-whole : (shows : List ℕ → Bool) (key part : List ℕ) → part ≡ key → IsPart shows key part
part-whole shows key part e = subst (λ p. IsPart shows key p) (sym e) (record { among = within-self key; columns = λ w h. h; shown = λ h. h })

pub part-less : (shows : List ℕ → Bool) (key part less : List ℕ) (test : ℕ → Bool) → IsPart shows key part → less ≡ filter test part → shows less ≡ true → IsPart shows key less
part-less shows key part less test p e h = record {
  among = ap (λ xs. within xs key) e ∙ all-filtered (contains key) test part p.among;
  columns = λ w k. ap (are_columns w) e ∙ columns-filtered test w part (p.columns w k);
  shown = λ k. h;
}

taken : (vs : List (Vec ℕ Global)) (i : ℕ) (v : Vec ℕ Global) (test : List ℕ → Bool) → i < length vs → v ≡ get_or vs i v
    → list_all test (map (λ (u : Vec ℕ Global). u.items) (take (i + 1) vs)) ≡ (list_all test (map (λ (u : Vec ℕ Global). u.items) (take i vs)) && test v.items)
taken vs i v test h e =
    list_all-map test (λ (u : Vec ℕ Global). u.items) (take (i + 1) vs) ∙ list_all_more (λ (u : Vec ℕ Global). test u.items) vs i v h
    ∙ ap (λ b. b && test (get_or vs i v).items) (sym (list_all-map test (λ (u : Vec ℕ Global). u.items) (take i vs)))
    ∙ ap (λ (u : Vec ℕ Global). list_all test (map (λ (u : Vec ℕ Global). u.items) (take i vs)) && test u.items) (sym e)

taken-length : (vs : List (Vec ℕ Global)) (i : ℕ) → i < length vs → length (map (λ (u : Vec ℕ Global). u.items) (take (i + 1) vs)) ≡ suc (length (map (λ (u : Vec ℕ Global). u.items) (take i vs)))
taken-length vs i h =
    let here : length (map (λ (u : Vec ℕ Global). u.items) (take i vs)) ≡ i = length-map (take i vs) (λ (u : Vec ℕ Global). u.items) ∙ length-take-le i vs (omega (arith, h)) in
    let next : length (map (λ (u : Vec ℕ Global). u.items) (take (i + 1) vs)) ≡ i + 1 = length-map (take (i + 1) vs) (λ (u : Vec ℕ Global). u.items) ∙ length-take-le (i + 1) vs (omega (arith, h)) in
    omega (arith, here, next)

-- a claimed key more: one that is not shown
pub kept-without : (shows : List ℕ → Bool) (vs : List (Vec ℕ Global)) (i : ℕ) (v : Vec ℕ Global) (kept : List (List ℕ)) → i < length vs → v ≡ get_or vs i v → shows v.items ≡ false
    → KeptKeys shows (map (λ (u : Vec ℕ Global). u.items) (take i vs)) kept → KeptKeys shows (map (λ (u : Vec ℕ Global). u.items) (take (i + 1) vs)) kept
kept-without shows vs i v kept h e fails k = record {
  shown = k.shown;
  columns = λ w c. k.columns w (and-left _ _ (sym (taken vs i v (are_columns w) h e) ∙ c));
  apart = k.apart;
  covered = taken vs i v (λ key. not (shows key) || covers kept key) h e ∙ and-both _ _ k.covered (or-left (not (shows v.items)) (covers kept v.items) (not-false (shows v.items) fails));
  few = let one = taken-length vs i h in let less = k.few in omega (arith, one, less);
}

-- and one that is
pub kept-with : (shows : List ℕ → Bool) (vs : List (Vec ℕ Global)) (i : ℕ) (v : Vec ℕ Global) (part : List ℕ) (kept more : List (List ℕ)) → i < length vs → v ≡ get_or vs i v → shows v.items ≡ true
    → IsPart shows v.items part → more ≡ with_key kept part
    → KeptKeys shows (map (λ (u : Vec ℕ Global). u.items) (take i vs)) kept → KeptKeys shows (map (λ (u : Vec ℕ Global). u.items) (take (i + 1) vs)) more
kept-with shows vs i v part kept more h e passes p is k = subst (λ m. KeptKeys shows (map (λ (u : Vec ℕ Global). u.items) (take (i + 1) vs)) m) (sym is) (record {
  shown = key-passes shows kept part (p.shown passes) k.shown;
  columns = λ w c. let both = sym (taken vs i v (are_columns w) h e) ∙ c in key-passes (are_columns w) kept part (p.columns w (and-right _ _ both)) (k.columns w (and-left _ _ both));
  apart = key-apart kept part k.apart;
  covered = taken vs i v (λ key. not (shows key) || covers (with_key kept part) key) h e ∙ and-both _ _ (all-more (λ key. not (shows key) || covers kept key) (λ key. not (shows key) || covers (with_key kept part) key) _ still k.covered)
      (or-right (not (shows v.items)) (covers (with_key kept part) v.items) (covers-more (with_key kept part) part v.items (key-covers kept part) p.among));
  few = let one = taken-length vs i h in let less = k.few in let more = key-longer kept part in omega (arith, one, less, more);
})
  where
    still : (key : List ℕ) → (not (shows key) || covers kept key) ≡ true → (not (shows key) || covers (with_key kept part) key) ≡ true
    still key f = ⊎_elim (or-left (not (shows key)) (covers (with_key kept part) key)) (λ g. or-right (not (shows key)) (covers (with_key kept part) key) (key-keeps kept part key g)) (either (not (shows key)) (covers kept key) f)

-- ---- all of it

first-below : (w c : ℕ) → contains (first_columns w) c ≡ nat_lt c w
first-below zero c = grind (arith, nat_tests)
first-below (suc w) c = ap (λ cs. contains cs c) (first-suc w) ∙ list_any-append (λ y. c == y) (first_columns w) (w ∷ []) ∙ ap (λ b. b || ((c == w) || false)) (first-below w c) ∙ last c w
  where
    last : (c w : ℕ) → (nat_lt c w || ((c == w) || false)) ≡ nat_lt c (suc w)
    last c w = grind (arith, nat_tests)

pub found-all : (shows : List ℕ → Bool) (w : ℕ) (claimed kept found : List (List ℕ)) → list_all (are_columns w) claimed ≡ true → KeptKeys shows claimed kept
    → Finds (IsKey shows (first_columns w)) (IsShown shows (first_columns w)) kept found → FoundKeys shows w claimed found
found-all shows w claimed kept found h k f = record {
  shown = f.only shows (λ x c. c.shown) k.shown;
  columns = f.only (are_columns w) (λ x c. and-both (all_below w x) (are_distinct x) (below x ∙ c.among) c.distinct) (k.columns w h);
  apart = f.apart k.apart;
  kept = all-more (λ key. not (shows key) || covers kept key) (λ key. not (shows key) || covers found key) claimed
      (λ key g. ⊎_elim (or-left (not (shows key)) (covers found key)) (λ c. or-right (not (shows key)) (covers found key) (f.kept key c)) (either (not (shows key)) (covers kept key) g)) k.covered;
  all = λ l x b s. f.all l x (record { shown = s; among = sym (below x) ∙ b });
  few = λ l. let less = k.few in f.few (omega (arith, l, less));
}
  where
    below : (x : List ℕ) → all_below w x ≡ within x (first_columns w)
    below x = list_all-ext (λ c. nat_lt c w) (contains (first_columns w)) x (λ c. sym (first-below w c))

-- by the program's words for the keys and the columns
pub found-from : (js ks : List Keyed) (w : ℕ) (cols : List ℕ) (claimed kept found : List (List ℕ)) → js ≡ ks → cols ≡ first_columns w → list_all (are_columns w) claimed ≡ true → KeptKeys (show js) claimed kept
    → Finds (IsKey (show js) cols) (IsShown (show js) cols) kept found → FoundKeys (show ks) w claimed found
found-from js ks w cols claimed kept found e f h k g =
    subst (λ l. FoundKeys (show l) w claimed found) e (found-all (show js) w claimed kept found h k (subst (λ d. Finds (IsKey (show js) d) (IsShown (show js) d) kept found) f g))

-- keys of one or two inputs, as the program takes them apart
pub finds-keyed : (keyed : rust_keyed.Keyed) (second : rust_copied.CopiedKeys) (allowed : List ℕ) (old found : List (List ℕ))
    → ((x : List ℕ) → has_key (copied_keys second).0 (copied_keys second).1 x ≡ list_all (λ f. has_key f.0 f.1 x) (option_to_list (option_map copied_keys keyed.second)))
    → Finds (IsKey (both_give (copying_of keyed.first.copying) (copying_of second.copying) (keys_seen keyed.first.keys) (keys_seen second.keys)) allowed)
    (IsShown (both_give (copying_of keyed.first.copying) (copying_of second.copying) (keys_seen keyed.first.keys) (keys_seen second.keys)) allowed) old found
    → Finds (IsKey (keys_give (keyed_of keyed)) allowed) (IsShown (keys_give (keyed_of keyed)) allowed) old found
finds-keyed keyed second allowed old found h g =
    finds-alike (keys_give (keyed_of keyed)) (both_give (copying_of keyed.first.copying) (copying_of second.copying) (keys_seen keyed.first.keys) (keys_seen second.keys)) allowed old found
    (λ x. ap (λ b. has_key (copying_of keyed.first.copying) (keys_seen keyed.first.keys) x && b) (sym (h x))) g

-- keys that may be there
pub finds-some : (o : Option rust_keyed.Keyed) (keyed : rust_keyed.Keyed) (allowed : List ℕ) (old found : List (List ℕ)) → o ≡ Some keyed
    → Finds (IsKey (keys_give (keyed_of keyed)) allowed) (IsShown (keys_give (keyed_of keyed)) allowed) old found → Finds (IsKey (show (keyed_in o)) allowed) (IsShown (show (keyed_in o)) allowed) old found
finds-some o keyed allowed old found e f =
    subst (λ p. Finds (IsKey (show (keyed_in p)) allowed) (IsShown (show (keyed_in p)) allowed) old found) (sym e)
    (finds-alike (show (keyed_in (Some keyed))) (keys_give (keyed_of keyed)) allowed old found (λ x. or-false (keys_give (keyed_of keyed) x)) f)

pub finds-absent : (o : Option rust_keyed.Keyed) (allowed : List ℕ) (keys : List (List ℕ)) → o ≡ None → Finds (IsKey (show (keyed_in o)) allowed) (IsShown (show (keyed_in o)) allowed) keys keys
finds-absent o allowed keys e =
    subst (λ p. Finds (IsKey (show (keyed_in p)) allowed) (IsShown (show (keyed_in p)) allowed) keys keys) (sym e)
    (finds-none (IsKey (show []) allowed) (IsShown (show []) allowed) keys (λ l x w. let never : false ≡ true = w.shown in cc))
