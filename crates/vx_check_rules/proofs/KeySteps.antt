-- Keys within what columns determine, as the program finds them.
use Rattle.std.proofs.Common.{◌≡◌, ℕ, zero, suc, ◌+◌, ◌<◌, ◌≤◌, ◌==◌, nat_lt, Bool, true, false, cond, ◌&&◌, ◌||◌, List, [], ◌∷◌, Vec, Global, map, length, get_or, refl, sym, ap, ap₂, ◌∙◌, subst, arith, true≢false, ltb-true, eqb-true, ⊎_elim}
use Rattle.std.specs.List.{list_all, list_any, filter}
use Rattle.std.proofs.lemmas.Bool.{cases_lt}
use Rattle.std.proofs.lemmas.Bool.Decides.{nat_tests}
use Rattle.vx_rows_values.specs.Limits.{max_columns}
use Rattle.vx_rows_values.proofs.Booleans.{and-left, and-right, and-both}
use Rattle.vx_catalog_relations.specs.Relation.{Relation}
use Rattle.vx_catalog_relations.specs.Catalog.{all_below}
use Rattle.vx_plan_nodes.specs.Plan.{Claim, Unary, select, project, distinct, sort, group, limit, Plan, unary, claim}
use Rattle.vx_plan_nodes.specs.Phases.{columns_from, first_columns}
use Rattle.vx_plan_nodes.specs.Types.{width}
use Rattle.vx_plan_nodes.specs.Describe.{Copying, source}
use Rattle.vx_plan_facts.specs.Determined.{Columns, is_copy_of, sources_in, determined, determined_aside}
use Rattle.vx_plan_facts.specs.FactsView.{facts_of}
use Rattle.vx_plan_facts.specs.Following.{set_of}
use Rattle.vx_plan_facts.specs.Asking.{with_keys}
use Rattle.vx_plan_facts.specs.KnownView.{IsKnownOf}
use Rattle.vx_plan_facts.specs.declared.known.KnownColumns as rust_known
use Rattle.vx_plan_facts.proofs.AskingFacts.{same-asked}
use Rattle.vx_plan_facts.proofs.ClosingFacts.{is-below}
use Rattle.vx_plan_facts.proofs.ColumnSets.{any-at}
use Rattle.vx_plan_facts.proofs.Searching.{wide-enough, known-aside, aside-same, width-same}
use Rattle.vx_plan_facts.proofs.Tests.{or-left, or-right, any-first}
use Rattle.vx_plan_facts.proofs.KnownFacts.{known-under}
use Rattle.vx_check_rules.specs.Derived.{first_rows_known_derived, members, key_below, key_derived, key_derived_by}
use Rattle.vx_check_rules.specs.KnownNode.{IsKeyOf, IsKeyOver, projected_below, first_known_below}
use Rattle.vx_check_rules.specs.Rules.{keys_of}
use Rattle.vx_check_rules.specs.Behaviour.{behaviour, shown_key}
use Rattle.vx_check_rules.proofs.ColumnFacts.{within-below}
use Rattle.vx_check_rules.proofs.Exact.{keys-exactly}
use Rattle.vx_check_rules.proofs.NamedNodes.{keys-below}
use Rattle.vx_check_rules.proofs.OrderSteps.{IsFound}

-- ---- what was found

-- only those of a set count that a node may have
pub found-of : (catalog : ℕ → Relation) (k : rust_known.KnownColumns) (p : Plan) → IsKnownOf catalog k p → (s t found : Columns) → ((c : ℕ) → c < max_columns → s c ≡ t c)
    → IsFound catalog p s found → IsFound catalog p t found
found-of catalog k p h s t found same answer = λ c. answer c ∙ same-asked catalog p h.known.formed (wide-enough catalog p h.known.within) s t same c

pub aside-of : (catalog : ℕ → Relation) (k : rust_known.KnownColumns) (p : Plan) → IsKnownOf catalog k p → (s t found : Columns) → ((c : ℕ) → c < max_columns → s c ≡ t c)
    → ((c : ℕ) → found c ≡ (nat_lt c (width catalog p) && determined_aside catalog p s c)) → (c : ℕ) → found c ≡ (nat_lt c (width catalog p) && determined_aside catalog p t c)
aside-of catalog k p h s t found same answer c =
    let q : Plan = with_keys [] p in
    let known = known-aside catalog (map facts_of k.facts.items) p h.known in
    let asked = same-asked catalog q known.formed (wide-enough catalog q known.within) s t same c in
    let w : ℕ = width catalog p in
    let b : Bool = nat_lt c w in
    let P : ℕ → Type 0 = λ v. (nat_lt c v && determined catalog q s c) ≡ (nat_lt c v && determined catalog q t c) in
    answer c ∙ ap (λ x. b && x) (sym (aside-same catalog p s c)) ∙ subst P (width-same catalog [] p) asked ∙ ap (λ x. b && x) (aside-same catalog p t c)

module _ (w : ℕ) (found det : Columns) (is : (c : ℕ) → found c ≡ (nat_lt c w && det c)) where
  at-column : (c : ℕ) → nat_lt c w ≡ true → found c ≡ det c
  at-column c l = is c ∙ ap (λ b. b && det c) l

  pub all-found : (cols : List ℕ) → all_below w cols ≡ true → list_all found cols ≡ list_all det cols
  all-found [] l = refl
  all-found (c ∷ cols) l =
      ap (λ b. b && list_all found cols) (at-column c (and-left (nat_lt c w) (all_below w cols) l))
      ∙ ap (λ b. det c && b) (all-found cols (and-right (nat_lt c w) (all_below w cols) l))

  pub any-found : (keys : List (List ℕ)) → list_all (all_below w) keys ≡ true → list_any (list_all found) keys ≡ list_any (list_all det) keys
  any-found [] l = refl
  any-found (k ∷ keys) l =
      ap (λ b. b || list_any (list_all found) keys) (all-found k (and-left (all_below w k) (list_all (all_below w) keys) l))
      ∙ ap (λ b. list_all det k || b) (any-found keys (and-right (all_below w k) (list_all (all_below w) keys) l))

  members-from : (i n : ℕ) → i + n ≤ w → filter found (columns_from i n) ≡ filter det (columns_from i n)
  members-from i zero h = refl
  members-from i (suc n) h =
      let l : i < w = omega (arith, h) in
      ap (λ b. cond b (i ∷ filter found (columns_from (suc i) n)) (filter found (columns_from (suc i) n))) (at-column i (is-below i w l))
      ∙ ap (λ xs. cond (det i) (i ∷ xs) xs) (members-from (suc i) n (omega (arith, h)))

  pub members-found : members w found ≡ members w det
  members-found = members-from 0 w (omega arith)

-- the keys of the program, as lists
pub any-items : (f : Columns) (ks : List (Vec ℕ Global)) → list_any (λ k. list_all f k.items) ks ≡ list_any (list_all f) (map (λ k. k.items) ks)
any-items f [] = refl
any-items f (k ∷ ks) = ap (λ b. list_all f k.items || b) (any-items f ks)

-- a key that the node claims within what was found
pub key-found : (catalog : ℕ → Relation) (k : rust_known.KnownColumns) (p : Plan) → IsKnownOf catalog k p → (s t found : Columns) → ((c : ℕ) → c < max_columns → s c ≡ t c)
    → IsFound catalog p s found → (ks : List (Vec ℕ Global)) → map (λ k. k.items) ks ≡ (claim p).keys
    → list_any (λ k. list_all found k.items) ks ≡ list_any (list_all (determined catalog p t)) (claim p).keys
key-found catalog k p h s t found same answer ks are =
    any-items found ks ∙ ap (list_any (list_all found)) are
    ∙ any-found (width catalog p) found (determined catalog p t) (found-of catalog k p h s t found same answer) (claim p).keys (keys-below catalog k p h)

-- ---- all columns

all-from : (p : ℕ → Bool) (i n : ℕ) → ((c : ℕ) → c < i + n → p c ≡ true) → list_all p (columns_from i n) ≡ true
all-from p i zero h = refl
all-from p i (suc n) h = and-both (p i) (list_all p (columns_from (suc i) n)) (h i (omega arith)) (all-from p (suc i) n (λ c l. h c (omega (arith, l))))

not-all : (p : ℕ → Bool) (i n c : ℕ) → i ≤ c → c < i + n → p c ≡ false → list_all p (columns_from i n) ≡ false
not-all p i zero c l m e = absurd (omega (arith, l, m))
not-all p i (suc n) c l m e = ⊎_elim
    (λ less. and-last (p i) (list_all p (columns_from (suc i) n)) (not-all p (suc i) n c (omega (arith, less)) (omega (arith, m)) e))
    (λ more. let same : c ≡ i = omega (arith, more, l) in ap (λ b. b && list_all p (columns_from (suc i) n)) (ap p (sym same) ∙ e))
    (cases_lt i c)
  where
    and-last : (a b : Bool) → b ≡ false → (a && b) ≡ false
    and-last true b h = h
    and-last false b h = refl

pub all-within : (catalog : ℕ → Relation) (k : rust_known.KnownColumns) (p : Plan) → IsKnownOf catalog k p → (s t found first : Columns) → ((c : ℕ) → c < max_columns → s c ≡ t c)
    → IsFound catalog p s found → (w : ℕ) → w ≡ width catalog p → ((c : ℕ) → c < max_columns → first c ≡ nat_lt c w)
    → (r : Bool) → (r ≡ true → (c : ℕ) → first c ≡ true → found c ≡ true)
    → (r ≡ false → (c : ℕ) × (c < max_columns) × (first c ≡ true) × (found c ≡ false)) → r ≡ list_all (determined catalog p t) (first_columns (width catalog p))
all-within catalog k p h s t found first same answer w wide are true yes-all no-one =
    let few : width catalog p ≤ max_columns = wide-enough catalog p h.known.within in
    let is = found-of catalog k p h s t found same answer in
    sym (all-from (determined catalog p t) 0 (width catalog p) (λ c l.
    let l' : c < width catalog p = omega (arith, l) in
    let inside : nat_lt c (width catalog p) ≡ true = is-below c (width catalog p) l' in
    and-right (nat_lt c (width catalog p)) (determined catalog p t c)
    (sym (is c) ∙ yes-all refl c (are c (omega (arith, l', few)) ∙ ap (nat_lt c) wide ∙ inside))))
all-within catalog k p h s t found first same answer w wide are false yes-all no-one =
    let is = found-of catalog k p h s t found same answer in
    let one = no-one refl in
    let c : ℕ = one.0 in
    let inside : nat_lt c (width catalog p) ≡ true = sym (ap (nat_lt c) wide) ∙ sym (are c one.1) ∙ one.2 in
    let l : c < width catalog p = ltb-true c (width catalog p) inside in
    sym (not-all (determined catalog p t) 0 (width catalog p) c (omega arith) (omega (arith, l)) (sym (ap (λ b. b && determined catalog p t c) inside) ∙ sym (is c) ∙ one.3))

-- ---- sources of a key

any-of : (f g : ℕ → Bool) (xs : List ℕ) → ((c : ℕ) → set_of xs c ≡ true → f c ≡ true → g c ≡ true) → list_any f xs ≡ true → (c : ℕ) × (set_of xs c ≡ true) × (f c ≡ true)
any-of f g [] h e = absurd (true≢false (sym e))
any-of f g (x ∷ xs) h e = go (f x) refl e (any-of f g xs (λ c m. h c (or-right (c == x) (set_of xs c) m)))
  where
    self : (n : ℕ) → (n == n) ≡ true
    self n = grind (arith, nat_tests)

    go : (b : Bool) → f x ≡ b → (b || list_any f xs) ≡ true → (list_any f xs ≡ true → (c : ℕ) × (set_of xs c ≡ true) × (f c ≡ true))
        → (c : ℕ) × (set_of (x ∷ xs) c ≡ true) × (f c ≡ true)
    go true is k later = (x, or-left (x == x) (set_of xs x) (self x), is)
    go false is k later = let r = later k in (r.0, or-right (r.0 == x) (set_of xs r.0) r.1, r.2)

any-in : (f : ℕ → Bool) (xs : List ℕ) (c : ℕ) → set_of xs c ≡ true → f c ≡ true → list_any f xs ≡ true
any-in f [] c m e = absurd (true≢false (sym m))
any-in f (x ∷ xs) c m e = go (c == x) refl m (λ k. any-in f xs c k e)
  where
    go : (b : Bool) → (c == x) ≡ b → (b || set_of xs c) ≡ true → (set_of xs c ≡ true → list_any f xs ≡ true) → (f x || list_any f xs) ≡ true
    go true is k later = or-left (f x) (list_any f xs) (ap f (sym (eqb-true c x is)) ∙ e)
    go false is k later = or-right (f x) (list_any f xs) (later k)

member-below : (w : ℕ) (xs : List ℕ) (c : ℕ) → all_below w xs ≡ true → set_of xs c ≡ true → c < w
member-below w [] c l m = absurd (true≢false (sym m))
member-below w (x ∷ xs) c l m = go (c == x) refl m (member-below w xs c (and-right (nat_lt x w) (all_below w xs) l))
  where
    go : (b : Bool) → (c == x) ≡ b → (b || set_of xs c) ≡ true → (set_of xs c ≡ true → c < w) → c < w
    go true is k later = let P : ℕ → Type 0 = λ v. v < w in subst P (sym (eqb-true c x is)) (ltb-true x w (and-left (nat_lt x w) (all_below w xs) l))
    go false is k later = later k

both-ways : (a b : Bool) → (a ≡ true → b ≡ true) → (b ≡ true → a ≡ true) → a ≡ b
both-ways true b f g = sym (f refl)
both-ways false true f g = g refl
both-ways false false f g = refl

-- those of the columns of a key are those of its columns among the first ones
pub sources-same : (w : ℕ) (k : Copying) (key : List ℕ) → all_below w key ≡ true → (x : ℕ) → list_any (λ c. is_copy_of x (source k c)) key ≡ sources_in w k (set_of key) x
sources-same w k key l x =
    let copies : ℕ → Bool = λ c. is_copy_of x (source k c) in
    both-ways (list_any copies key) (sources_in w k (set_of key) x)
    (λ e. let r = any-of copies copies key (λ c m i. i) e in
    any-at (λ c. set_of key c && copies c) w r.0 (member-below w key r.0 l r.1) (and-both (set_of key r.0) (copies r.0) r.1 r.2))
    (λ e. let r = any-first (λ c. set_of key c && copies c) w e in
    any-in copies key r.0 (and-left (set_of key r.0) (copies r.0) r.2) (and-right (set_of key r.0) (copies r.0) r.2))

-- ---- keys that a node shows

filter-below : (w : ℕ) (s : Columns) (xs : List ℕ) → all_below w xs ≡ true → all_below w (filter s xs) ≡ true
filter-below w s [] l = refl
filter-below w s (x ∷ xs) l = go (s x) (and-left (nat_lt x w) (all_below w xs) l) (filter-below w s xs (and-right (nat_lt x w) (all_below w xs) l))
  where
    go : (b : Bool) → nat_lt x w ≡ true → all_below w (filter s xs) ≡ true → all_below w (cond b (x ∷ filter s xs) (filter s xs)) ≡ true
    go true a r = and-both (nat_lt x w) (all_below w (filter s xs)) a r
    go false a r = r

first-below : (w : ℕ) → all_below w (first_columns w) ≡ true
first-below w = all-from (λ c. nat_lt c w) 0 w (λ c l. is-below c w (omega (arith, l)))

pub shown-is : (catalog : ℕ → Relation) (p : Plan) (key : List ℕ) → all_below (width catalog p) key ≡ true → keys_of catalog p key ≡ shown_key (behaviour catalog p) key
shown-is catalog p key l = keys-exactly catalog p key (sym (within-below (width catalog p) key) ∙ l)

pub shown-members : (catalog : ℕ → Relation) (p : Plan) (s : Columns) → keys_of catalog p (members (width catalog p) s) ≡ shown_key (behaviour catalog p) (members (width catalog p) s)
shown-members catalog p s = shown-is catalog p (members (width catalog p) s) (filter-below (width catalog p) s (first_columns (width catalog p)) (first-below (width catalog p)))

-- where the keys that are there are those of the behaviour
pub derived-by : (catalog : ℕ → Relation) (p : Plan) (key : List ℕ) → all_below (width catalog p) key ≡ true
    → key_derived_by catalog p (behaviour catalog p).keyed key ≡ key_derived catalog p key
derived-by catalog p key l =
    sym (ap₂ (λ a b. a || (b || key_below catalog p key)) (shown-is catalog p key l) (shown-members catalog p (determined_aside catalog p (set_of key))))

-- a key of a list of keys of these columns
pub key-at : (w : ℕ) (ks : List (Vec ℕ Global)) (keys : List (List ℕ)) (i : ℕ) (k : Vec ℕ Global) → map (λ v. v.items) ks ≡ keys → list_all (all_below w) keys ≡ true → i < length ks
    → k ≡ get_or ks i k → all_below w k.items ≡ true
key-at w ks keys i k same l h e = go ks i (ap (list_all (all_below w)) same ∙ l) h k e
  where
    go : (vs : List (Vec ℕ Global)) (j : ℕ) → list_all (all_below w) (map (λ v. v.items) vs) ≡ true → j < length vs → (k : Vec ℕ Global) → k ≡ get_or vs j k → all_below w k.items ≡ true
    go [] j m n k e = absurd (omega (arith, n))
    go (v ∷ vs) zero m n k e = ap (λ u. all_below w u.items) e ∙ and-left (all_below w v.items) (list_all (all_below w) (map (λ u. u.items) vs)) m
    go (v ∷ vs) (suc j) m n k e = go vs j (and-right (all_below w v.items) (list_all (all_below w) (map (λ u. u.items) vs)) m) (omega (arith, n)) k e

-- of a projection, by its operator
pub projected-is : (catalog : ℕ → Relation) (n : ℕ) (c : Claim) (op : Unary) (p : Plan) (key : List ℕ) → key_below catalog (unary n c op p) key ≡ projected_below catalog op p key
projected-is catalog n c (select fs) p key = refl
projected-is catalog n c (project es) p key = refl
projected-is catalog n c (distinct cols) p key = refl
projected-is catalog n c (sort of_parts cols) p key = refl
projected-is catalog n c (group phase by aggregates) p key = refl
projected-is catalog n c (limit m) p key = refl

-- of a limit, by its operator
pub first-is : (catalog : ℕ → Relation) (n : ℕ) (c : Claim) (op : Unary) (p : Plan) → first_rows_known_derived catalog (unary n c op p) ≡ first_known_below catalog op p
first-is catalog n c (select fs) p = refl
first-is catalog n c (project es) p = refl
first-is catalog n c (distinct cols) p = refl
first-is catalog n c (sort of_parts cols) p = refl
first-is catalog n c (group phase by aggregates) p = refl
first-is catalog n c (limit m) p = refl

pub known-in : (catalog : ℕ → Relation) (k : rust_known.KnownColumns) (x : Plan) (n : ℕ) (c : Claim) (op : Unary) (p : Plan) → x ≡ unary n c op p → IsKnownOf catalog k x
    → IsKnownOf catalog k p
known-in catalog k x n c op p is h = let P : Plan → Type 0 = λ y. IsKnownOf catalog k y in known-under catalog k n c op p (subst P is h)

pub key-over : (catalog : ℕ → Relation) (k : rust_known.KnownColumns) (x : Plan) (n : ℕ) (c : Claim) (op : Unary) (p : Plan) (key : List ℕ) → x ≡ unary n c op p
    → IsKeyOf catalog k x key → IsKeyOver catalog k op p key
key-over catalog k x n c op p key is h =
    let Q : Plan → Type 0 = λ y. all_below (width catalog y) key ≡ true in
    record { known = known-in catalog k x n c op p is h.known; key_below = subst Q is h.key_below }
