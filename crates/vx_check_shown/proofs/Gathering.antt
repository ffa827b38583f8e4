-- Copies of keys that are gathered, one more at a time.
use Rattle.std.proofs.Common.{slice_get, Vec, Global, ◌≡◌, ◌∙◌, ℕ, ◌+◌, ◌<◌, ◌==◌, Bool, true, false, cond, ◌&&◌, ◌||◌, ◌⊎◌, inl, inr, ⊎_elim, List, [], ◌∷◌, ◌++◌, length, take, get_or, nat_lt, filter_map, Option, Some, None, option_map, option_to_list, map, refl, ap, sym, subst, arith, true≢false, zero, suc}
use Rattle.std.specs.List.{list_any, list_all, filter}
use Rattle.std.proofs.lemmas.Bool.{eqb-true, eq-eqb}
use Rattle.std.proofs.lemmas.List.{take_more, append-nil, map-append}
use Rattle.std.proofs.lemmas.List.Elements.{filter_map-append}
use Rattle.std.proofs.lemmas.List.Folds.{list_any-append, list_all-append, list_any_more, list_any_at}
use Rattle.vx_rows_values.proofs.Booleans.{and-left, and-right, and-both}
use Rattle.vx_catalog_relations.specs.Catalog.{all_below}
use Rattle.vx_plan_nodes.specs.Describe.{Copying, source}
use Rattle.vx_plan_nodes.specs.Phases.{first_columns}
use Rattle.vx_plan_facts.specs.Equal.{Equality, each_itself, both_equal}
use Rattle.vx_check_rules.specs.Rules.{contains, within, covers}
use Rattle.vx_check_rules.specs.Behaviour.{Keyed, keyed_by, is_column, has_copy, has_key, keys_give}
use Rattle.vx_check_rules.specs.Derived.{within_equally, first_of}
use Rattle.std.proofs.lemmas.Bool.Decides.{nat_tests}
use Rattle.vx_plan_nodes.specs.DescribeView.{copying_of}
use Rattle.vx_check_rules.specs.declared.keyed.Keyed as rust_keyed
use Rattle.vx_check_rules.specs.declared.keyed.CopiedKeys as rust_copied
use Rattle.vx_check_rules.specs.KeyedView.{keys_seen, copied_keys, keyed_of, keyed_in, all_keyed_in}
use Rattle.vx_check_rules.proofs.ColumnFacts.{list_all-ext, first-suc}
use Rattle.vx_check_rules.proofs.WayFacts.{any-flat}
use Rattle.vx_check_rules.proofs.Bools.{or-left, or-right, all-more, any-more}
use Rattle.vx_check_options.specs.FoundKeys.{show, both_give, choices_of, meets_each}
use Rattle.vx_check_options.proofs.FoundFacts.{either, within-self}
use Rattle.vx_check_options.proofs.KeyChoices.{IsAny, copies-met, met-copies, choices-allowed, none-met}
use Rattle.vx_check_shown.specs.ShownKeys.{firsts_of, copies_by, Gathers}

-- ---- one after the other

pub gathers-none : (news wanted : List ℕ → Bool) (e : Equality) (w : ℕ) (keys : List (List ℕ)) → ((x : List ℕ) → all_below w x ≡ true → wanted x ≡ true → ⊥) → Gathers news wanted e w keys keys
gathers-none news wanted e w keys none = record { only = λ test h k. k; kept = λ test k. k; every = λ x b m. absurd (none x b m) }

-- the relation says no less
abbrev pub SaysMore : Equality → Equality → Type 0
SaysMore e f = (d x : ℕ) → e d x ≡ true → f d x ≡ true

equally-more : (e f : Equality) → SaysMore e f → (y x : List ℕ) → within_equally e y x ≡ true → within_equally f y x ≡ true
equally-more e f more y x h = all-more (λ d. list_any (e d) x) (λ d. list_any (f d) x) y (λ d k. any-more (e d) (f d) x (λ z. more d z) k) h

pub gathers-then : (news others wanted first second : List ℕ → Bool) (e f : Equality) (w : ℕ) (old mid found : List (List ℕ)) → Gathers news first e w old mid → Gathers others second f w mid found → SaysMore f e
    → ((x : List ℕ) → others x ≡ true → news x ≡ true) → ((x : List ℕ) → wanted x ≡ true → (first x ≡ true) ⊎ (second x ≡ true)) → Gathers news wanted e w old found
gathers-then news others wanted first second e f w old mid found g h more new either_way = record {
  only = λ test t k. h.only test (λ x b o. t x b (new x o)) (g.only test t k);
  kept = λ test k. h.kept test (g.kept test k);
  every = λ x b m.
      ⊎_elim (λ a. h.kept (λ y. within_equally e y x) (g.every x b a))
      (λ a. any-more (λ y. within_equally f y x) (λ y. within_equally e y x) found (λ y k. equally-more f e more y x k) (h.every x b a)) (either_way x m);
}

pub gathers-as : (news others wanted first : List ℕ → Bool) (e f : Equality) (w : ℕ) (old found : List (List ℕ)) → Gathers others first f w old found → SaysMore f e
    → ((x : List ℕ) → others x ≡ true → news x ≡ true) → ((x : List ℕ) → wanted x ≡ true → first x ≡ true) → Gathers news wanted e w old found
gathers-as news others wanted first e f w old found g more new want = record {
  only = λ test t k. g.only test (λ x b o. t x b (new x o)) k;
  kept = g.kept;
  every = λ x b m. any-more (λ y. within_equally f y x) (λ y. within_equally e y x) found (λ y k. equally-more f e more y x k) (g.every x b (want x m));
}

-- one thing further
pub gathers-next : {X : Type 0} (shows : List X → List ℕ → Bool) (one : X → List ℕ → Bool) (e f : Equality) (w : ℕ) (vs : List X) (i : ℕ) (v : X) (old mid found : List (List ℕ))
    → IsAny shows one → i < length vs → v ≡ get_or vs i v → SaysMore f e
    → Gathers (shows vs) (shows (take i vs)) e w old mid → Gathers (one v) (one v) f w mid found → Gathers (shows vs) (shows (take (i + 1) vs)) e w old found
gathers-next shows one e f w vs i v old mid found a h is more g k =
    gathers-then (shows vs) (one v) (shows (take (i + 1) vs)) (shows (take i vs)) (one v) e f w old mid found g k more
    (λ x t. a.parts vs x ∙ list_any_at (λ u. one u x) vs i v h (ap (λ u. one u x) (sym is) ∙ t))
    (λ x t.
    ⊎_elim (λ b. inl (a.parts (take i vs) x ∙ b)) (λ b. inr (ap (λ u. one u x) is ∙ b))
    (either (list_any (λ u. one u x) (take i vs)) (one (get_or vs i v) x) (sym (list_any_more (λ u. one u x) vs i v h) ∙ sym (a.parts (take (i + 1) vs) x) ∙ t)))

-- ---- the first of each of the choices

pub firsts-meet : (choices : List (List ℕ)) (cols : List ℕ) → covers choices [] ≡ false → within (firsts_of choices) cols ≡ true → meets_each choices cols ≡ true
firsts-meet [] cols h k = refl
firsts-meet ([] ∷ choices) cols h k = absurd (true≢false h)
firsts-meet ((d ∷ ds) ∷ choices) cols h k =
    and-both (list_any (contains cols) (d ∷ ds)) (meets_each choices cols) (or-left (contains cols d) (list_any (contains cols) ds) (and-left (contains cols d) (within (firsts_of choices) cols) k))
    (firsts-meet choices cols h (and-right (contains cols d) (within (firsts_of choices) cols) k))

pub firsts-pass : (test : ℕ → Bool) (choices : List (List ℕ)) → list_all (λ ds. list_all test ds) choices ≡ true → list_all test (firsts_of choices) ≡ true
firsts-pass test [] h = refl
firsts-pass test ([] ∷ choices) h = firsts-pass test choices h
firsts-pass test ((d ∷ ds) ∷ choices) h =
    and-both (test d) (list_all test (firsts_of choices)) (and-left (test d) (list_all test ds) (and-left (list_all test (d ∷ ds)) (list_all (λ cs. list_all test cs) choices) h))
    (firsts-pass test choices (and-right (list_all test (d ∷ ds)) (list_all (λ cs. list_all test cs) choices) h))

-- copies of the same columns are equal to one another
abbrev pub SaysCopies : Copying → Equality → Type 0
SaysCopies k e = (c d x : ℕ) → is_column (source k d) c ≡ true → is_column (source k x) c ≡ true → e d x ≡ true

first-passes : (test : ℕ → Bool) (xs : List ℕ) (d : ℕ) → first_of (filter test xs) ≡ Some d → test d ≡ true
first-passes test [] d h = cc
first-passes test (x ∷ xs) d h = go (test x) refl h (λ k. first-passes test xs d k)
  where
    go : (b : Bool) → test x ≡ b → first_of (cond b (x ∷ filter test xs) (filter test xs)) ≡ Some d → (first_of (filter test xs) ≡ Some d → test d ≡ true) → test d ≡ true
    go true is k later = let same : x ≡ d = cc in ap test (sym same) ∙ is
    go false is k later = later k

pub firsts-near : (k : Copying) (e : Equality) → SaysCopies k e → (allowed key x : List ℕ) → list_all (has_copy k x) key ≡ true → within_equally e (firsts_of (choices_of k allowed key)) x ≡ true
firsts-near k e says allowed [] x h = refl
firsts-near k e says allowed (c ∷ cs) x h =
    go (first_of (filter (λ d. is_column (source k d) c) allowed)) refl (firsts-near k e says allowed cs x (and-right (has_copy k x c) (list_all (has_copy k x) cs) h))
  where
    choices : List (List ℕ)
    choices = choices_of k allowed cs

    go : (o : Option ℕ) → first_of (filter (λ d. is_column (source k d) c) allowed) ≡ o → within_equally e (firsts_of choices) x ≡ true
        → within_equally e (firsts_of (filter (λ d. is_column (source k d) c) allowed ∷ choices)) x ≡ true
    go None is rest = ap (λ xs. within_equally e xs x) (skip (filter (λ d. is_column (source k d) c) allowed) is) ∙ rest
      where
        skip : (ds : List ℕ) → first_of ds ≡ None → firsts_of (ds ∷ choices) ≡ firsts_of choices
        skip [] n = refl
        skip (d ∷ ds) n = cc
    go (Some d) is rest =
        ap (λ xs. within_equally e xs x) (put (filter (λ d. is_column (source k d) c) allowed) is)
        ∙ and-both (list_any (e d) x) (within_equally e (firsts_of choices) x)
        (any-more (λ y. is_column (source k y) c) (e d) x (λ y m. says c d y (first-passes (λ f. is_column (source k f) c) allowed d is) m) (and-left (has_copy k x c) (list_all (has_copy k x) cs) h)) rest
      where
        put : (ds : List ℕ) → first_of ds ≡ Some d → firsts_of (ds ∷ choices) ≡ d ∷ firsts_of choices
        put [] n = cc
        put (f ∷ ds) n = let same : f ≡ d = cc in ap (λ y. y ∷ firsts_of choices) same

-- ---- a key of each input together

column-is : (o : Option ℕ) (c : ℕ) → is_column o c ≡ true → o ≡ Some c
column-is None c h = absurd (true≢false (sym h))
column-is (Some d) c h = ap (λ x. Some x) (sym (eqb-true c d h))

same-source : (k : Copying) (c d x : ℕ) → is_column (source k d) c ≡ true → is_column (source k x) c ≡ true → both_equal each_itself (source k d) (source k x) ≡ true
same-source k c d x h m =
    ap (λ o. both_equal each_itself o (source k x)) (column-is (source k d) c h) ∙ ap (both_equal each_itself (Some c)) (column-is (source k x) c m) ∙ eq-eqb c c refl

abbrev pub copies_of_both : (k j : Copying) → (ks js : List (List ℕ)) → Equality
copies_of_both k j ks js = copies_by (keyed_by ((k, ks) ∷ (j, js) ∷ []) ∷ [])

left-says : (k j : Copying) (ks js : List (List ℕ)) → SaysCopies k (copies_of_both k j ks js)
left-says k j ks js c d x h m =
    let one = both_equal each_itself (source k d) (source k x) in
    let two = both_equal each_itself (source j d) (source j x) in
    or-right (d == x) ((one || (two || false)) || false) (or-left (one || (two || false)) false (or-left one (two || false) (same-source k c d x h m)))

right-says : (k j : Copying) (ks js : List (List ℕ)) → SaysCopies j (copies_of_both k j ks js)
right-says k j ks js c d x h m =
    let one = both_equal each_itself (source k d) (source k x) in
    let two = both_equal each_itself (source j d) (source j x) in
    or-right (d == x) ((one || (two || false)) || false) (or-left (one || (two || false)) false (or-right one (two || false) (or-left two false (same-source j c d x h m))))

alone : (b : Bool) → (b || false) ≡ true → b ≡ true
alone true h = refl
alone false h = cc

module _ (k j : Copying) (ks js : List (List ℕ)) (w : ℕ) (key other : List ℕ) (choices : List (List ℕ))
    (are : choices ≡ choices_of k (first_columns w) key ++ choices_of j (first_columns w) other) (within-first : (x : List ℕ) → all_below w x ≡ within x (first_columns w)) where
  abbrev pub both : List ℕ → Bool
  both = both_give k j (key ∷ []) (other ∷ [])

  abbrev pub allowed : List ℕ
  allowed = first_columns w

  abbrev pub firsts : List (List ℕ)
  firsts = choices_of k allowed key

  abbrev pub seconds : List (List ℕ)
  seconds = choices_of j allowed other

  lefts-of : (x : List ℕ) → both x ≡ true → list_all (has_copy k x) key ≡ true
  lefts-of x h = alone (list_all (has_copy k x) key) (and-left (has_key k (key ∷ []) x) (has_key j (other ∷ []) x) h)

  rights-of : (x : List ℕ) → both x ≡ true → list_all (has_copy j x) other ≡ true
  rights-of x h = alone (list_all (has_copy j x) other) (and-right (has_key k (key ∷ []) x) (has_key j (other ∷ []) x) h)

  met : (x : List ℕ) → all_below w x ≡ true → both x ≡ true → meets_each choices x ≡ true
  met x b h =
      let among : within x allowed ≡ true = sym (within-first x) ∙ b in
      ap (λ cs. meets_each cs x) are ∙ list_all-append (λ ds. list_any (contains x) ds) firsts seconds
      ∙ and-both (meets_each firsts x) (meets_each seconds x) (copies-met k allowed x key among (lefts-of x h)) (copies-met j allowed x other among (rights-of x h))

  -- where a column has no copy
  pub gathers-no-copy : (found : List (List ℕ)) → covers choices [] ≡ true → Gathers both both (copies_of_both k j ks js) w found found
  gathers-no-copy found none = gathers-none both both (copies_of_both k j ks js) w found (λ x b h. none-met choices x none (met x b h))

  given : covers choices [] ≡ false → both (firsts_of choices) ≡ true
  given some =
      let x : List ℕ = firsts_of choices in
      let all : (meets_each firsts x && meets_each seconds x) ≡ true =
      sym (list_all-append (λ ds. list_any (contains x) ds) firsts seconds) ∙ ap (λ cs. meets_each cs x) (sym are) ∙ firsts-meet choices x some (within-self x) in
      and-both (has_key k (key ∷ []) x) (has_key j (other ∷ []) x)
      (or-left (list_all (has_copy k x) key) false (met-copies k allowed x key (and-left (meets_each firsts x) (meets_each seconds x) all)))
      (or-left (list_all (has_copy j x) other) false (met-copies j allowed x other (and-right (meets_each firsts x) (meets_each seconds x) all)))

  below : all_below w (firsts_of choices) ≡ true
  below =
      within-first (firsts_of choices)
      ∙ firsts-pass (contains allowed) choices (ap (λ cs. list_all (λ ds. within ds allowed) cs) are ∙ list_all-append (λ ds. within ds allowed) firsts seconds
      ∙ and-both (list_all (λ ds. within ds allowed) firsts) (list_all (λ ds. within ds allowed) seconds) (choices-allowed k allowed key) (choices-allowed j allowed other))

  near : (x : List ℕ) → both x ≡ true → within_equally (copies_of_both k j ks js) (firsts_of choices) x ≡ true
  near x h =
      let e : Equality = copies_of_both k j ks js in
      ap (λ xs. within_equally e xs x) (ap firsts_of are ∙ filter_map-append first_of firsts seconds) ∙ list_all-append (λ d. list_any (e d) x) (firsts_of firsts) (firsts_of seconds)
      ∙ and-both (within_equally e (firsts_of firsts) x) (within_equally e (firsts_of seconds) x) (firsts-near k e (left-says k j ks js) allowed key x (lefts-of x h))
      (firsts-near j e (right-says k j ks js) allowed other x (rights-of x h))

  -- and where each has one
  pub gathers-both : (old found : List (List ℕ)) → covers choices [] ≡ false → found ≡ old ++ firsts_of choices ∷ [] → Gathers both both (copies_of_both k j ks js) w old found
  gathers-both old found some is = subst (λ fs. Gathers both both (copies_of_both k j ks js) w old fs) (sym is) (record {
    only = λ test h l.
        list_all-append test old (firsts_of choices ∷ []) ∙ and-both (list_all test old) (list_all test (firsts_of choices ∷ [])) l
        (and-both (test (firsts_of choices)) true (h (firsts_of choices) below (given some)) refl);
    kept = λ test l. list_any-append test old (firsts_of choices ∷ []) ∙ or-left (list_any test old) (list_any test (firsts_of choices ∷ [])) l;
    every = λ x b h.
        list_any-append (λ y. within_equally (copies_of_both k j ks js) y x) old (firsts_of choices ∷ [])
        ∙ or-right (list_any (λ y. within_equally (copies_of_both k j ks js) y x) old) _ (or-left (within_equally (copies_of_both k j ks js) (firsts_of choices) x) false (near x h));
  })

-- ---- as the program takes the choices apart

firsts-taken : (vs : List (Vec ℕ Global)) (i : ℕ) (v : Vec ℕ Global) → i < length vs → v ≡ get_or vs i v
    → firsts_of (map (λ (u : Vec ℕ Global). u.items) (take (i + 1) vs)) ≡ firsts_of (map (λ (u : Vec ℕ Global). u.items) (take i vs)) ++ firsts_of (v.items ∷ [])
firsts-taken vs i v h e =
    ap (λ us. firsts_of (map (λ (u : Vec ℕ Global). u.items) us)) (take_more vs i v h) ∙ ap firsts_of (map-append (λ (u : Vec ℕ Global). u.items) (take i vs) (get_or vs i v ∷ []))
    ∙ filter_map-append first_of (map (λ (u : Vec ℕ Global). u.items) (take i vs)) ((get_or vs i v).items ∷ [])
    ∙ ap (λ (u : Vec ℕ Global). firsts_of (map (λ (y : Vec ℕ Global). y.items) (take i vs)) ++ firsts_of (u.items ∷ [])) (sym e)

-- one choice further
pub firsts-next : (vs : List (Vec ℕ Global)) (i : ℕ) (v : Vec ℕ Global) (d : ℕ) (old : List ℕ) → i < length vs → v ≡ get_or vs i v → first_of v.items ≡ Some d
    → old ≡ firsts_of (map (λ (u : Vec ℕ Global). u.items) (take i vs)) → old ++ d ∷ [] ≡ firsts_of (map (λ (u : Vec ℕ Global). u.items) (take (i + 1) vs))
firsts-next vs i v d old h e is before =
    ap (λ xs. xs ++ d ∷ []) before ∙ ap (λ o. firsts_of (items (take i vs)) ++ filter_map (λ (p : Option ℕ). p) (o ∷ [])) (sym is) ∙ sym (firsts-taken vs i v h e ∙ ap (λ xs. firsts_of (items (take i vs)) ++ xs) (last v.items))
  where
    items : List (Vec ℕ Global) → List (List ℕ)
    items = map (λ (u : Vec ℕ Global). u.items)

    last : (ds : List ℕ) → firsts_of (ds ∷ []) ≡ filter_map (λ (p : Option ℕ). p) (first_of ds ∷ [])
    last [] = refl
    last (x ∷ ds) = refl

pub firsts-skip : (vs : List (Vec ℕ Global)) (i : ℕ) (v : Vec ℕ Global) (old : List ℕ) → i < length vs → v ≡ get_or vs i v → first_of v.items ≡ None
    → old ≡ firsts_of (map (λ (u : Vec ℕ Global). u.items) (take i vs)) → old ≡ firsts_of (map (λ (u : Vec ℕ Global). u.items) (take (i + 1) vs))
firsts-skip vs i v old h e is before =
    before ∙ sym (firsts-taken vs i v h e ∙ ap (λ xs. firsts_of (items (take i vs)) ++ xs) (none v.items is) ∙ append-nil (firsts_of (items (take i vs))))
  where
    items : List (Vec ℕ Global) → List (List ℕ)
    items = map (λ (u : Vec ℕ Global). u.items)

    none : (ds : List ℕ) → first_of ds ≡ None → firsts_of (ds ∷ []) ≡ []
    none [] n = refl
    none (x ∷ ds) n = cc

-- of w columns, those that are there
first-below : (w c : ℕ) → contains (first_columns w) c ≡ nat_lt c w
first-below zero c = grind (arith, nat_tests)
first-below (suc w) c = ap (λ cs. contains cs c) (first-suc w) ∙ list_any-append (λ y. c == y) (first_columns w) (w ∷ []) ∙ ap (λ b. b || ((c == w) || false)) (first-below w c) ∙ last c w
  where
    last : (c w : ℕ) → (nat_lt c w || ((c == w) || false)) ≡ nat_lt c (suc w)
    last c w = grind (arith, nat_tests)

pub within-columns : (w : ℕ) (x : List ℕ) → all_below w x ≡ within x (first_columns w)
within-columns w x = list_all-ext (λ c. nat_lt c w) (contains (first_columns w)) x (λ c. sym (first-below w c))

-- keys of one or two inputs, as the program takes them apart
pub gathers-keyed : (keyed : rust_keyed.Keyed) (second : rust_copied.CopiedKeys) (w : ℕ) (old found : List (List ℕ))
    → ((x : List ℕ) → has_key (copied_keys second).0 (copied_keys second).1 x ≡ list_all (λ f. has_key f.0 f.1 x) (option_to_list (option_map copied_keys keyed.second)))
    → ((d x : ℕ) → copies_by (keyed_by (copied_keys keyed.first ∷ copied_keys second ∷ []) ∷ []) d x ≡ copies_by (keyed_of keyed ∷ []) d x)
    → Gathers (both_give (copying_of keyed.first.copying) (copying_of second.copying) (keys_seen keyed.first.keys) (keys_seen second.keys))
    (both_give (copying_of keyed.first.copying) (copying_of second.copying) (keys_seen keyed.first.keys) (keys_seen second.keys))
    (copies_by (keyed_by (copied_keys keyed.first ∷ copied_keys second ∷ []) ∷ [])) w old found
    → Gathers (keys_give (keyed_of keyed)) (keys_give (keyed_of keyed)) (copies_by (keyed_of keyed ∷ [])) w old found
gathers-keyed keyed second w old found h says g =
    let both : List ℕ → Bool = both_give (copying_of keyed.first.copying) (copying_of second.copying) (keys_seen keyed.first.keys) (keys_seen second.keys) in
    let same : (x : List ℕ) → keys_give (keyed_of keyed) x ≡ both x = λ x. ap (λ b. has_key (copying_of keyed.first.copying) (keys_seen keyed.first.keys) x && b) (sym (h x)) in
    gathers-as (keys_give (keyed_of keyed)) both (keys_give (keyed_of keyed)) both (copies_by (keyed_of keyed ∷ [])) (copies_by (keyed_by (copied_keys keyed.first ∷ copied_keys second ∷ []) ∷ [])) w old found g
    (λ d x e. sym (says d x) ∙ e) (λ x e. same x ∙ e) (λ x e. sym (same x) ∙ e)

-- keys that may be there
pub gathers-some : (o : Option rust_keyed.Keyed) (keyed : rust_keyed.Keyed) (w : ℕ) (old found : List (List ℕ)) → o ≡ Some keyed
    → Gathers (keys_give (keyed_of keyed)) (keys_give (keyed_of keyed)) (copies_by (keyed_of keyed ∷ [])) w old found
    → Gathers (show (keyed_in o)) (show (keyed_in o)) (copies_by (keyed_in o)) w old found
gathers-some o keyed w old found e g =
    subst (λ p. Gathers (show (keyed_in p)) (show (keyed_in p)) (copies_by (keyed_in p)) w old found) (sym e)
    (gathers-as (show (keyed_in (Some keyed))) (keys_give (keyed_of keyed)) (show (keyed_in (Some keyed))) (keys_give (keyed_of keyed)) (copies_by (keyed_in (Some keyed))) (copies_by (keyed_of keyed ∷ [])) w old found g
    (λ d x h. h) (λ x h. or-left (keys_give (keyed_of keyed) x) false h) (λ x h. alone (keys_give (keyed_of keyed) x) h))

pub gathers-absent : (o : Option rust_keyed.Keyed) (w : ℕ) (keys : List (List ℕ)) → o ≡ None → Gathers (show (keyed_in o)) (show (keyed_in o)) (copies_by (keyed_in o)) w keys keys
gathers-absent o w keys e =
    subst (λ p. Gathers (show (keyed_in p)) (show (keyed_in p)) (copies_by (keyed_in p)) w keys keys) (sym e)
    (gathers-none (show []) (show []) (copies_by []) w keys (λ x b h. true≢false (sym h)))

-- copies by one of these are copies by all
pub copies-among : (all : List (Option rust_keyed.Keyed)) (i : ℕ) (one : Option rust_keyed.Keyed) → i < length all → one ≡ get_or all i one → SaysMore (copies_by (keyed_in one)) (copies_by (all_keyed_in all))
copies-among all i one h e d x t =
    let test : Keyed → Bool = λ k. list_any (λ f. both_equal each_itself (source f.0 d) (source f.0 x)) k.from in
    ⊎_elim (λ a. or-left (d == x) (list_any test (all_keyed_in all)) a)
    (λ a. or-right (d == x) (list_any test (all_keyed_in all))
    (any-flat test keyed_in all ∙ list_any_at (λ o. list_any test (keyed_in o)) all i one h (ap (λ o. list_any test (keyed_in o)) (sym e) ∙ a)))
    (either (d == x) (list_any test (keyed_in one)) t)

pub first-slice : (xs : List ℕ) → first_of xs ≡ slice_get xs 0
first-slice [] = refl
first-slice (x ∷ xs) = refl
