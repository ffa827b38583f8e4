-- A key that is derived is derived by the first of equal columns.
use Rattle.std.proofs.Common.{◌≡◌, ◌∙◌, ℕ, zero, suc, ◌+◌, ◌<◌, ◌≤◌, ◌==◌, nat_lt, Bool, true, false, cond, ◌&&◌, ◌||◌, ◌⊎◌, inl, inr, ⊎_elim, List, [], ◌∷◌, map, Option, Some, None, refl, ap, sym, subst, arith, true≢false, ltb-true}
use Rattle.std.specs.List.{list_any, list_all, filter}
use Rattle.std.proofs.lemmas.Bool.{eqb-true, eq-eqb}
use Rattle.std.proofs.lemmas.Bool.Decides.{nat_tests}
use Rattle.vx_rows_values.specs.Lists.{is_some_list}
use Rattle.vx_rows_values.proofs.Booleans.{and-left, and-right, and-both}
use Rattle.vx_catalog_relations.specs.Relation.{Relation}
use Rattle.vx_catalog_relations.specs.Catalog.{all_below, are_distinct}
use Rattle.vx_plan_nodes.specs.Plan.{Claim, claim, Entry, select, project, distinct, sort, group, limit, Plan, scan, unary, binary, exchange}
use Rattle.vx_plan_nodes.specs.Phases.{columns_from, first_columns}
use Rattle.vx_plan_nodes.specs.Types.{width}
use Rattle.vx_plan_nodes.specs.Describe.{Copying, source, entries_kept, kept_column}
use Rattle.vx_plan_facts.specs.Equal.{Equality, both_equal, lifted, equal_at}
use Rattle.vx_plan_facts.specs.Fixed.{fixed_at}
use Rattle.vx_plan_facts.specs.Facts.{Facts}
use Rattle.vx_plan_facts.specs.Determined.{Columns, is_copy_of, sources_in, by_inputs, determined, determined_aside}
use Rattle.vx_plan_facts.specs.DeterminedFacts.{WithinFirst, one_step}
use Rattle.vx_plan_facts.specs.Asking.{IsKnown, Reaches, with_keys}
use Rattle.vx_plan_facts.specs.FactsView.{facts_of}
use Rattle.vx_plan_facts.specs.Following.{set_of}
use Rattle.vx_plan_facts.specs.KnownView.{IsKnownOf}
use Rattle.vx_plan_facts.specs.declared.known.KnownColumns as rust_known
use Rattle.vx_plan_facts.proofs.ColumnSets.{any-at}
use Rattle.vx_plan_facts.proofs.KnownFacts.{known-under}
use Rattle.vx_plan_facts.proofs.Least.{least-sets}
use Rattle.vx_plan_facts.proofs.Searching.{top-stands, known-aside, known-left, aside-same, width-same}
use Rattle.vx_plan_facts.proofs.Tests.{any-first}
use Rattle.vx_check_options.specs.FoundKeys.{IsPart}
use Rattle.vx_check_rules.specs.Rules.{contains, within}
use Rattle.vx_check_rules.specs.Behaviour.{Keyed, has_copy, has_key, keys_give}
use Rattle.vx_check_rules.specs.Derived.{members, key_below, key_derived_by}
use Rattle.vx_check_rules.proofs.Bools.{or-left, or-right, all-more, any-more}
use Rattle.vx_check_rules.proofs.KnownClosing.{known-closes}
use Rattle.vx_check_rules.proofs.NamedNodes.{keys-below}
use Rattle.vx_check_rules.proofs.Shortening.{Closes}
use Rattle.vx_check_options.proofs.FoundFacts.{all-filtered, either, contains-in, within-self, within-trans}
use Rattle.vx_check_shown.specs.Standing.{first_equal, named_first}
use Rattle.vx_check_shown.specs.ShownKeys.{are_first, IsNamed, IsNeeded}
use Rattle.vx_check_shown.proofs.KeyColumns.{IsSameness, told-same, known-same, first-below, first-equals, first-again}

pub is-below : (c w : ℕ) → c < w → nat_lt c w ≡ true
is-below c w l = grind (arith, nat_tests)

columns-in : (w i n : ℕ) → i + n ≤ w → all_below w (columns_from i n) ≡ true
columns-in w i zero h = refl
columns-in w i (suc n) h = and-both (nat_lt i w) (all_below w (columns_from (suc i) n)) (is-below i w (omega (arith, h))) (columns-in w (suc i) n (omega (arith, h)))

pub columns-below : (w : ℕ) → all_below w (first_columns w) ≡ true
columns-below w = columns-in w 0 w (omega arith)

-- ---- what columns determine, the node's own keys left aside

equal-aside : (catalog : ℕ → Relation) (p : Plan) → equal_at catalog (with_keys [] p) ≡ equal_at catalog p
equal-aside catalog (scan n c r m z) = refl
equal-aside catalog (unary n c op p) = refl
equal-aside catalog (binary n c op p q) = refl
equal-aside catalog (exchange n c k m p) = refl

-- with a column those that are equal to it
equal-reached : (catalog : ℕ → Relation) (p : Plan) (s : Columns) (c d : ℕ) → c < width catalog p → equal_at catalog p c d ≡ true → s c ≡ true → one_step catalog p s d ≡ true
equal-reached catalog p s c d l same has =
    let w : ℕ = width catalog p in
    let equal : Bool = list_any (λ x. s x && equal_at catalog p x d) (first_columns w) in
    let keyed : Bool = list_any (list_all s) (claim p).keys in
    let fixed : Bool = is_some_list (fixed_at catalog p d) in
    let there : equal ≡ true = any-at (λ x. s x && equal_at catalog p x d) w c l (and-both (s c) (equal_at catalog p c d) has same) in
    or-left (s d || (fixed || (equal || keyed))) (by_inputs catalog p s d)
    (or-right (s d) (fixed || (equal || keyed)) (or-right fixed (equal || keyed) (or-left equal keyed there)))

closes-known : (catalog : ℕ → Relation) (facts : List Facts) (p : Plan) → IsKnown catalog facts p → Closes (width catalog p) (equal_at catalog p) (determined catalog p)
closes-known catalog facts p known =
    let top = top-stands catalog facts p known.numbered in
    let same = told-same (width catalog p) (equal_at catalog p) top.0.firsts top.2.wide top.2.equal in
    record {
      holds = λ s c l h. (least-sets catalog p known.formed s).holds c h;
      again = λ s t h. (least-sets catalog p known.formed s).least (determined catalog p t) h (least-sets catalog p known.formed t).closed;
      equal = λ s c d l m k has. (least-sets catalog p known.formed s).closed d m (equal-reached catalog p (determined catalog p s) c d l k has);
      swap = λ c d l m k. same.like c d d l m m k ∙ same.itself d m;
    }

closes-as : (w v : ℕ) (e f : Equality) (det other : Columns → Columns) → v ≡ w → f ≡ e → ((s : Columns) (c : ℕ) → det s c ≡ other s c) → Closes v f det → Closes w e other
closes-as w v e f det other wide equal same h =
    let g : Closes w e det = subst (λ n. Closes n e det) wide (subst (λ q. Closes v q det) equal h) in
    record {
      holds = λ s c l k. sym (same s c) ∙ g.holds s c l k;
      again = λ s t k c l m. sym (same t c) ∙ g.again s t (λ d n x. same t d ∙ k d n x) c l (same s c ∙ m);
      equal = λ s c d l m k x. sym (same s d) ∙ g.equal s c d l m k (same s c ∙ x);
      swap = g.swap;
    }

pub closes-aside : (catalog : ℕ → Relation) (k : rust_known.KnownColumns) (p : Plan) → IsKnownOf catalog k p → Closes (width catalog p) (equal_at catalog p) (determined_aside catalog p)
closes-aside catalog k p h =
    let q : Plan = with_keys [] p in
    let facts = map facts_of k.facts.items in
    closes-as (width catalog p) (width catalog q) (equal_at catalog p) (equal_at catalog q) (determined catalog q) (determined_aside catalog p) (width-same catalog [] p) (equal-aside catalog p)
    (aside-same catalog p) (closes-known catalog facts q (known-aside catalog facts p h.known))

-- ---- more columns

any-in : (test : ℕ → Bool) (xs ys : List ℕ) → within xs ys ≡ true → list_any test xs ≡ true → list_any test ys ≡ true
any-in test xs ys h k = go xs h k
  where
    there : (zs : List ℕ) (c : ℕ) → contains zs c ≡ true → test c ≡ true → list_any test zs ≡ true
    there [] c m t = absurd (true≢false (sym m))
    there (z ∷ zs) c m t =
        ⊎_elim (λ f. or-left (test z) (list_any test zs) (ap test (sym (eqb-true c z f)) ∙ t)) (λ f. or-right (test z) (list_any test zs) (there zs c f t)) (either (c == z) (contains zs c) m)

    go : (zs : List ℕ) → within zs ys ≡ true → list_any test zs ≡ true → list_any test ys ≡ true
    go [] m t = absurd (true≢false (sym t))
    go (z ∷ zs) m t =
        ⊎_elim (λ f. there ys z (and-left (contains ys z) (within zs ys) m) f) (λ f. go zs (and-right (contains ys z) (within zs ys) m) f) (either (test z) (list_any test zs) t)

gives-more : (k : Keyed) (xs ys : List ℕ) → within xs ys ≡ true → keys_give k xs ≡ true → keys_give k ys ≡ true
gives-more k xs ys h =
    all-more (λ f. has_key f.0 f.1 xs) (λ f. has_key f.0 f.1 ys) k.from
    (λ f. any-more (list_all (has_copy f.0 xs)) (list_all (has_copy f.0 ys)) f.1 (λ key. all-more (has_copy f.0 xs) (has_copy f.0 ys) key (λ c. any-in _ xs ys h)))

pub given-more : (keyed : List Keyed) (xs ys : List ℕ) → within xs ys ≡ true → list_any (λ k. keys_give k xs) keyed ≡ true → list_any (λ k. keys_give k ys) keyed ≡ true
given-more keyed xs ys h = any-more (λ k. keys_give k xs) (λ k. keys_give k ys) keyed (λ k. gives-more k xs ys h)

-- the members of a set
member-in : (s : Columns) (xs : List ℕ) (c : ℕ) → contains xs c ≡ true → s c ≡ true → contains (filter s xs) c ≡ true
member-in s [] c m t = absurd (true≢false (sym m))
member-in s (x ∷ xs) c m t = go (s x) refl (either (c == x) (contains xs c) m) (λ k. member-in s xs c k t)
  where
    go : (b : Bool) → s x ≡ b → ((c == x) ≡ true) ⊎ (contains xs c ≡ true) → (contains xs c ≡ true → contains (filter s xs) c ≡ true) → contains (cond b (x ∷ filter s xs) (filter s xs)) c ≡ true
    go true is (inl f) later = or-left (c == x) (contains (filter s xs) c) f
    go true is (inr f) later = or-right (c == x) (contains (filter s xs) c) (later f)
    go false is (inl f) later = absurd (true≢false (sym t ∙ (ap s (eqb-true c x f) ∙ is)))
    go false is (inr f) later = later f

pub first-has : (w c : ℕ) → c < w → contains (first_columns w) c ≡ true
first-has w c l = any-at (λ y. c == y) w c l (eq-eqb c c refl)

pub members-have : (w : ℕ) (s : Columns) (xs : List ℕ) → all_below w xs ≡ true → list_all s xs ≡ true → within xs (members w s) ≡ true
members-have w s [] b h = refl
members-have w s (x ∷ xs) b h =
    and-both (contains (members w s) x) (within xs (members w s)) (member-in s (first_columns w) x (first-has w x (ltb-true x w (and-left (nat_lt x w) (all_below w xs) b))) (and-left (s x) (list_all s xs) h))
    (members-have w s xs (and-right (nat_lt x w) (all_below w xs) b) (and-right (s x) (list_all s xs) h))

-- the members of less
filter-first : (s t : Columns) (w : ℕ) → WithinFirst w s t → (xs : List ℕ) → all_below w xs ≡ true → (ys : List ℕ) → within xs ys ≡ true → within (filter s xs) (filter t ys) ≡ true
filter-first s t w h [] b ys k = refl
filter-first s t w h (x ∷ xs) b ys k =
    go (s x) refl (filter-first s t w h xs (and-right (nat_lt x w) (all_below w xs) b) ys (and-right (contains ys x) (within xs ys) k))
  where
    go : (a : Bool) → s x ≡ a → within (filter s xs) (filter t ys) ≡ true → within (cond a (x ∷ filter s xs) (filter s xs)) (filter t ys) ≡ true
    go true is rest =
        and-both (contains (filter t ys) x) (within (filter s xs) (filter t ys))
        (member-in t ys x (and-left (contains ys x) (within xs ys) k) (h x (ltb-true x w (and-left (nat_lt x w) (all_below w xs) b)) is)) rest
    go false is rest = rest

-- ---- the first of equal columns

-- each column of a list is one that a set determines
all-in : (s : Columns) (xs : List ℕ) → ((c : ℕ) → contains xs c ≡ true → s c ≡ true) → list_all s xs ≡ true
all-in s [] h = refl
all-in s (x ∷ xs) h =
    and-both (s x) (list_all s xs) (h x (or-left (x == x) (contains xs x) (eq-eqb x x refl))) (all-in s xs (λ c m. h c (or-right (c == x) (contains xs c) m)))

pub below-at : (w : ℕ) (xs : List ℕ) (c : ℕ) → all_below w xs ≡ true → contains xs c ≡ true → c < w
below-at w [] c b m = absurd (true≢false (sym m))
below-at w (x ∷ xs) c b m =
    ⊎_elim (λ f. let P : ℕ → Type 0 = λ v. v < w in subst P (sym (eqb-true c x f)) (ltb-true x w (and-left (nat_lt x w) (all_below w xs) b)))
    (λ f. below-at w xs c (and-right (nat_lt x w) (all_below w xs) b) f) (either (c == x) (contains xs c) m)

first-in : (w : ℕ) (e : Equality) (xs : List ℕ) (c : ℕ) → contains xs c ≡ true → contains (named_first w e xs) (first_equal w e c) ≡ true
first-in w e [] c m = absurd (true≢false (sym m))
first-in w e (x ∷ xs) c m =
    ⊎_elim (λ f. or-left (first_equal w e c == first_equal w e x) (contains (named_first w e xs) (first_equal w e c)) (eq-eqb (first_equal w e c) (first_equal w e x) (ap (first_equal w e) (eqb-true c x f))))
    (λ f. or-right (first_equal w e c == first_equal w e x) (contains (named_first w e xs) (first_equal w e c)) (first-in w e xs c f)) (either (c == x) (contains xs c) m)

module _ (w : ℕ) (e : Equality) (same : IsSameness w e) (x named : List ℕ) (below : all_below w x ≡ true) (is : IsNamed w e x named) where
  first-there : (c : ℕ) → contains x c ≡ true → contains named (first_equal w e c) ≡ true
  first-there c m = contains-in (named_first w e x) named (first_equal w e c) is.all (first-in w e x c m)

  -- they determine the columns
  pub named-determine : (det : Columns → Columns) → Closes w e det → WithinFirst w (set_of x) (det (set_of named))
  named-determine det closes c l m =
      let f : ℕ = first_equal w e c in
      closes.equal (set_of named) f c (first-below w e same c l) l (first-equals w e same c l) (closes.holds (set_of named) f (first-below w e same c l) (first-there c m))

  -- and so do the columns that they are copies of, as far as those of an input are equal
  sources-determine : (v : ℕ) (k : Copying) (under : Equality) (det : Columns → Columns) → Closes v under det → Reaches w k v → ((a b : ℕ) → e a b ≡ lifted k under a b)
      → WithinFirst v (sources_in w k (set_of x)) (det (sources_in w k (set_of named)))
  sources-determine v k under det closes reaches equal y l m =
      let r = any-first (λ c. set_of x c && is_copy_of y (source k c)) w m in
      let c : ℕ = r.0 in
      let in_x : contains x c ≡ true = and-left (set_of x c) (is_copy_of y (source k c)) r.2 in
      let copy : is_copy_of y (source k c) ≡ true = and-right (set_of x c) (is_copy_of y (source k c)) r.2 in
      let f : ℕ = first_equal w e c in
      let f-below : f < w = first-below w e same c r.1 in
      let alike : lifted k under f c ≡ true = sym (equal f c) ∙ first-equals w e same c r.1 in
      by f c (first-there c in_x) f-below y copy (either (f == c) (both_equal under (source k f) (source k c)) alike) l
    where
      put : (f y : ℕ) → contains named f ≡ true → f < w → is_copy_of y (source k f) ≡ true → sources_in w k (set_of named) y ≡ true
      put f y there small copy = any-at (λ d. set_of named d && is_copy_of y (source k d)) w f small (and-both (set_of named f) (is_copy_of y (source k f)) there copy)

      copied : (o : Option ℕ) (y : ℕ) → is_copy_of y o ≡ true → o ≡ Some y
      copied None y h = absurd (true≢false (sym h))
      copied (Some d) y h = ap (λ z. Some z) (eqb-true d y h)

      from : (f y : ℕ) (o : Option ℕ) → source k f ≡ o → both_equal under o (Some y) ≡ true → contains named f ≡ true → f < w → y < v → det (sources_in w k (set_of named)) y ≡ true
      from f y None at h there small l = absurd (true≢false (sym h))
      from f y (Some z) at h there small l =
          let z-below : z < v = reaches f z small at in
          closes.equal (sources_in w k (set_of named)) z y z-below l h
          (closes.holds (sources_in w k (set_of named)) z z-below (put f z there small (ap (is_copy_of z) at ∙ eq-eqb z z refl)))

      by : (f c : ℕ) → contains named f ≡ true → f < w → (y : ℕ) → is_copy_of y (source k c) ≡ true → ((f == c) ≡ true) ⊎ (both_equal under (source k f) (source k c) ≡ true) → y < v → det (sources_in w k (set_of named)) y ≡ true
      by f c there small y copy (inl t) l = closes.holds (sources_in w k (set_of named)) y l (put f y there small (ap (λ d. is_copy_of y (source k d)) (eqb-true f c t) ∙ copy))
      by f c there small y copy (inr t) l = from f y (source k f) refl (ap (both_equal under (source k f)) (sym (copied (source k c) y copy)) ∙ t) there small l

-- ---- what is derived

-- a key of columns of the node within less is within more
keys-in : (v : ℕ) (s t : Columns) → WithinFirst v s t → (keys : List (List ℕ)) → list_all (all_below v) keys ≡ true → list_any (list_all s) keys ≡ true → list_any (list_all t) keys ≡ true
keys-in v s t h [] b k = k
keys-in v s t h (key ∷ keys) b k =
    ⊎_elim (λ f. or-left (list_all t key) (list_any (list_all t) keys) (all key (and-left (all_below v key) (list_all (all_below v) keys) b) f))
    (λ f. or-right (list_all t key) (list_any (list_all t) keys) (keys-in v s t h keys (and-right (all_below v key) (list_all (all_below v) keys) b) f))
    (either (list_all s key) (list_any (list_all s) keys) k)
  where
    all : (cs : List ℕ) → all_below v cs ≡ true → list_all s cs ≡ true → list_all t cs ≡ true
    all [] l m = refl
    all (c ∷ cs) l m =
        and-both (t c) (list_all t cs) (h c (ltb-true c v (and-left (nat_lt c v) (all_below v cs) l)) (and-left (s c) (list_all s cs) m)) (all cs (and-right (nat_lt c v) (all_below v cs) l) (and-right (s c) (list_all s cs) m))

projected-named : (catalog : ℕ → Relation) (k : rust_known.KnownColumns) (n : ℕ) (c : Claim) (es : List Entry) (p : Plan) → IsKnownOf catalog k (unary n c (project es) p) → (x named : List ℕ)
    → all_below (width catalog (unary n c (project es) p)) x ≡ true → IsNamed (width catalog (unary n c (project es) p)) (equal_at catalog (unary n c (project es) p)) x named
    → key_below catalog (unary n c (project es) p) x ≡ true → key_below catalog (unary n c (project es) p) named ≡ true
projected-named catalog k n c es p h x named below is t =
    let top : Plan = unary n c (project es) p in
    let w : ℕ = width catalog top in
    let v : ℕ = width catalog p in
    let under = known-under catalog k n c (project es) p h in
    let copying : Copying = entries_kept (map kept_column es) in
    let det = determined catalog p in
    let closes = known-closes catalog k p under in
    let s = sources_in w copying (set_of x) in
    let u = sources_in w copying (set_of named) in
    let sources = sources-determine w (equal_at catalog top) (known-same catalog k top h) x named below is v copying (equal_at catalog p) det closes
    (known-left catalog (map facts_of k.facts.items) top h.known).reaches (λ a b. refl) in
    keys-in v (det s) (det u) (closes.again s u sources) (claim p).keys (keys-below catalog k p under) t

below-named : (catalog : ℕ → Relation) (k : rust_known.KnownColumns) (p : Plan) → IsKnownOf catalog k p → (x named : List ℕ) → all_below (width catalog p) x ≡ true
    → IsNamed (width catalog p) (equal_at catalog p) x named → key_below catalog p x ≡ true → key_below catalog p named ≡ true
below-named catalog k (scan n c r m z) h x named below is t = t
below-named catalog k (unary n c (select fs) p) h x named below is t = t
below-named catalog k (unary n c (project es) p) h x named below is t = projected-named catalog k n c es p h x named below is t
below-named catalog k (unary n c (distinct cols) p) h x named below is t = t
below-named catalog k (unary n c (sort of_parts cols) p) h x named below is t = t
below-named catalog k (unary n c (group phase by aggregates) p) h x named below is t = t
below-named catalog k (unary n c (limit m) p) h x named below is t = t
below-named catalog k (binary n c op p q) h x named below is t = t
below-named catalog k (exchange n c kind m p) h x named below is t = t

pub named-derived : (catalog : ℕ → Relation) (k : rust_known.KnownColumns) (p : Plan) → IsKnownOf catalog k p → (keyed : List Keyed) (x named : List ℕ) → all_below (width catalog p) x ≡ true
    → IsNamed (width catalog p) (equal_at catalog p) x named → key_derived_by catalog p keyed x ≡ true → key_derived_by catalog p keyed named ≡ true
named-derived catalog k p h keyed x named below is t =
    let w : ℕ = width catalog p in
    let e = equal_at catalog p in
    let det = determined_aside catalog p in
    let closes = closes-aside catalog k p h in
    let sub = named-determine w e (known-same catalog k p h) x named below is det closes in
    let give : List ℕ → Bool = λ cols. list_any (λ j. keys_give j cols) keyed in
    let reached : List ℕ → Bool = λ cols. give (members w (det (set_of cols))) in
    or-right (give named) (reached named || key_below catalog p named)
    (⊎_elim
    (λ a. or-left (reached named) (key_below catalog p named)
    (given-more keyed x (members w (det (set_of named))) (members-have w (det (set_of named)) x below (all-in (det (set_of named)) x (λ c m. sub c (below-at w x c below m) m))) a))
    (λ b.
    ⊎_elim
    (λ r. or-left (reached named) (key_below catalog p named)
    (given-more keyed (members w (det (set_of x))) (members w (det (set_of named)))
    (filter-first (det (set_of x)) (det (set_of named)) w (closes.again (set_of x) (set_of named) sub) (first_columns w) (columns-below w) (first_columns w) (within-self (first_columns w))) r))
    (λ r. or-right (reached named) (key_below catalog p named) (below-named catalog k p h x named below is r))
    (either (reached x) (key_below catalog p x) b))
    (either (give x) (reached x || key_below catalog p x) t))

-- ---- the columns that are needed

named-below : (w : ℕ) (e : Equality) → IsSameness w e → (x : List ℕ) → all_below w x ≡ true → all_below w (named_first w e x) ≡ true
named-below w e same [] h = refl
named-below w e same (c ∷ cs) h =
    let l : c < w = ltb-true c w (and-left (nat_lt c w) (all_below w cs) h) in
    and-both (nat_lt (first_equal w e c) w) (all_below w (named_first w e cs)) (is-below (first_equal w e c) w (first-below w e same c l)) (named-below w e same cs (and-right (nat_lt c w) (all_below w cs) h))

named-own : (w : ℕ) (e : Equality) → IsSameness w e → (x : List ℕ) → all_below w x ≡ true → are_first w e (named_first w e x) ≡ true
named-own w e same [] h = refl
named-own w e same (c ∷ cs) h =
    let l : c < w = ltb-true c w (and-left (nat_lt c w) (all_below w cs) h) in
    and-both (first_equal w e (first_equal w e c) == first_equal w e c) (are_first w e (named_first w e cs)) (eq-eqb (first_equal w e (first_equal w e c)) (first_equal w e c) (first-again w e same c l))
    (named-own w e same cs (and-right (nat_lt c w) (all_below w cs) h))

-- what all columns of a list pass, those within it do
all-within : (test : ℕ → Bool) (xs ys : List ℕ) → within xs ys ≡ true → list_all test ys ≡ true → list_all test xs ≡ true
all-within test xs ys h k = all-in test xs (λ c m. at ys c (contains-in xs ys c h m) k)
  where
    at : (zs : List ℕ) (c : ℕ) → contains zs c ≡ true → list_all test zs ≡ true → test c ≡ true
    at [] c m t = absurd (true≢false (sym m))
    at (z ∷ zs) c m t =
        ⊎_elim (λ f. ap test (eqb-true c z f) ∙ and-left (test z) (list_all test zs) t) (λ f. at zs c f (and-right (test z) (list_all test zs) t)) (either (c == z) (contains zs c) m)

pub named-key : (catalog : ℕ → Relation) (k : rust_known.KnownColumns) (p : Plan) → IsKnownOf catalog k p → (x named : List ℕ) → all_below (width catalog p) x ≡ true
    → IsNamed (width catalog p) (equal_at catalog p) x named → all_below (width catalog p) named ≡ true
named-key catalog k p h x named below is =
    all-within (λ c. nat_lt c (width catalog p)) named (named_first (width catalog p) (equal_at catalog p) x) is.among (named-below (width catalog p) (equal_at catalog p) (known-same catalog k p h) x below)

pub needed-firsts : (catalog : ℕ → Relation) (k : rust_known.KnownColumns) (p : Plan) → IsKnownOf catalog k p → (keyed : List Keyed) (x named part : List ℕ) → all_below (width catalog p) x ≡ true
    → IsNamed (width catalog p) (equal_at catalog p) x named → IsPart (key_derived_by catalog p keyed) named part → IsNeeded catalog p keyed x part
needed-firsts catalog k p h keyed x named part below is q =
    let w : ℕ = width catalog p in
    let e = equal_at catalog p in
    let same = known-same catalog k p h in
    let among : within part (named_first w e x) ≡ true = within-trans part named (named_first w e x) q.among is.among in
    record {
      among = among;
      columns = q.columns w (and-both (all_below w named) (are_distinct named) (named-key catalog k p h x named below is) is.distinct);
      named = all-within (λ c. first_equal w e c == c) part (named_first w e x) among (named-own w e same x below);
      shown = λ t. q.shown (named-derived catalog k p h keyed x named below is t);
    }

-- fewer columns of a key are columns of the node
pub less-below : (catalog : ℕ → Relation) (p : Plan) (keyed : List Keyed) (key part less : List ℕ) (test : ℕ → Bool) → all_below (width catalog p) key ≡ true → IsPart (key_derived_by catalog p keyed) key part
    → less ≡ filter test part → all_below (width catalog p) less ≡ true
less-below catalog p keyed key part less test below q is =
    ap (all_below (width catalog p)) is ∙ all-filtered (λ c. nat_lt c (width catalog p)) test part (all-within (λ c. nat_lt c (width catalog p)) part key q.among below)
