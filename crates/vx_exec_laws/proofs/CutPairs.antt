-- Two rows of a node agree in what columns determine and on claimed keys, where those of its inputs that they come from do.
use Rattle.std.proofs.Common.{◌≡◌, ℕ, ◌+◌, ◌<◌, ◌≤◌, ◌==◌, Bool, true, not, ◌&&◌, ◌||◌, ⊎_elim, List, [], ◌∷◌, ◌++◌, map, length, refl, sym, ap, ◌∙◌, subst, arith, true≢false, eqb-true, eq-eqb, nat_le}
use Rattle.std.specs.List.{list_all, list_any}
use Rattle.std.proofs.lemmas.Bool.{cases_lt}
use Rattle.vx_rows_values.specs.declared.order.OrderEntry.{OrderEntry}
use Rattle.vx_rows_values.specs.Values.{Row, value_at, pick}
use Rattle.vx_rows_values.proofs.Compare.{row_eq-same}
use Rattle.vx_catalog_relations.specs.Relation.{Relation, KeysHold}
use Rattle.vx_plan_nodes.specs.Plan.{JoinMethod, Size, Claim, ExchangeKind, Entry, Unary, select, project, distinct, sort, group, plain, partial, final, union, join, Plan, scan, unary, binary, exchange, claim, limit, semi_join, Condition}
use Rattle.vx_plan_nodes.specs.Types.{width}
use Rattle.vx_plan_nodes.specs.Phases.{first_columns}
use Rattle.vx_plan_nodes.specs.Describe.{Copying, whole_rows, columns_kept, kept_column, left_of, right_of, described}
use Rattle.vx_plan_nodes.specs.Serial.{entries_row, matches}
use Rattle.vx_plan_facts.specs.Equal.{equal_at}
use Rattle.vx_plan_facts.specs.Fixed.{fixed_at}
use Rattle.vx_plan_facts.specs.Determined.{Columns, by_input, by_inputs, sources_in, closure, determined, determined_aside}
use Rattle.vx_plan_facts.specs.DeterminedFacts.{occurs, AgreeOn}
use Rattle.vx_plan_facts.specs.Following.{set_of}
use Rattle.vx_plan_facts.specs.RowFacts.{MeetsAt}
use Rattle.vx_plan_facts.proofs.Columns.{HasCopies, whole-copies, kept-copies, kept-alone, entry-copies, left-copies, right-copies, value-left, value-right}
use Rattle.vx_plan_facts.proofs.FollowFacts.{agree-each}
use Rattle.vx_plan_facts.proofs.Meaning.{past-end, pick-agrees, agree-of, keys-same}
use Rattle.vx_check_rules.specs.Rules.{copied_among, covers, within, contains, numbers_below, shifted, keys_of}
use Rattle.vx_check_rules.specs.Derived.{members, key_below, key_derived, keys_shown_derived}
use Rattle.vx_exec_laws.proofs.Bags.{and-left, and-right, and-both}
use Rattle.vx_exec_laws.proofs.Parts.{or-cases, list_all-weaken}
use Rattle.vx_exec_laws.proofs.Entries.{kept_of, picks-among}
use Rattle.vx_exec_laws.proofs.Exchange.{filter-all}
use Rattle.vx_exec_laws.proofs.Apart.{agree-all}
use Rattle.vx_exec_laws.proofs.DerivedPairs.{input-pair, sources-pair, closure-pair}
use Rattle.vx_check_rules.proofs.Bools.{or-left, or-right}

-- ---- lists of columns as sets

-- what holds of each of these columns holds of each that is among them
pub all-member : (s : Columns) (xs : List ℕ) → list_all s xs ≡ true → (c : ℕ) → set_of xs c ≡ true → s c ≡ true
all-member s [] h c e = absurd (true≢false (sym e))
all-member s (x ∷ xs) h c e = ⊎_elim
    (λ (same : (c == x) ≡ true). let P : ℕ → Type 0 = λ d. s d ≡ true in subst P (sym (eqb-true c x same)) (and-left (s x) (list_all s xs) h))
    (λ later. all-member s xs (and-right (s x) (list_all s xs) h) c later)
    (or-cases (c == x) (set_of xs c) e)

pub all-among : (xs : List ℕ) → list_all (set_of xs) xs ≡ true
all-among [] = refl
all-among (x ∷ xs) =
    and-both (set_of (x ∷ xs) x) (list_all (set_of (x ∷ xs)) xs) (or-left (x == x) (set_of xs x) (eq-eqb x x refl))
    (list_all-weaken (set_of xs) (set_of (x ∷ xs)) (λ c e. or-right (c == x) (set_of xs c) e) xs (all-among xs))

pub on-pick : (x : List ℕ) (a b : Row) → AgreeOn (set_of x) a b → pick x a ≡ pick x b
on-pick x a b h = pick-agrees (set_of x) x a b (all-among x) h

pub pick-on : (x : List ℕ) (a b : Row) → pick x a ≡ pick x b → AgreeOn (set_of x) a b
pick-on x a b e = agree-each x a b (agree-of x a b e)

-- ---- where a row of an operator comes from

-- a row of an operator over one input and the row of the input that it comes from
abbrev pub StemOf : Unary → Row → Row → Type 0
StemOf (select fs) a x = a ≡ x
StemOf (project es) a x = a ≡ entries_row es x
StemOf (distinct cols) a x = a ≡ pick cols x
StemOf (sort of_parts order) a x = a ≡ x
StemOf (group phase by aggregates) a x = (tail : Row) × (a ≡ pick by x ++ tail)
StemOf (limit m) a x = a ≡ x

copies-of : (k : Copying) (x a b : Row) → a ≡ b → HasCopies k x b → HasCopies k x a
copies-of k x a b e h = let P : Row → Type 0 = λ r. HasCopies k x r in subst P (sym e) h

pub stem-copies : (op : Unary) (a x : Row) → StemOf op a x → HasCopies (described op).copying x a
stem-copies (select fs) a x e = copies-of whole_rows x a x e (whole-copies x)
stem-copies (project es) a x e = copies-of (kept_of es) x a (entries_row es x) e (entry-copies es x)
stem-copies (distinct cols) a x e = copies-of (columns_kept cols) x a (pick cols x) e (kept-alone cols x)
stem-copies (sort of_parts order) a x e = copies-of whole_rows x a x e (whole-copies x)
stem-copies (group plain by aggregates) a x e = copies-of (columns_kept by) x a (pick by x ++ e.0) e.1 (kept-copies by x e.0)
stem-copies (group partial by aggregates) a x e = copies-of (columns_kept by) x a (pick by x ++ e.0) e.1 (kept-copies by x e.0)
stem-copies (group final by aggregates) a x e = copies-of (columns_kept by) x a (pick by x ++ e.0) e.1 (kept-copies by x e.0)
stem-copies (limit m) a x e = copies-of whole_rows x a x e (whole-copies x)

-- ---- two rows of a node

-- rows of one node that agree in some columns agree in what these determine, and if they agree on a claimed key they are one row
pub record Agreed (catalog : ℕ → Relation) (p : Plan) (a b : Row) : Type 0 where
  pub determined_in : (s : Columns) → AgreeOn s a b → AgreeOn (determined catalog p s) a b
  pub keyed : (s : Columns) → AgreeOn s a b → list_any (list_all s) (claim p).keys ≡ true → a ≡ b

-- rows that agree on columns that pass a test are one row
abbrev pub Tells : (List ℕ → Bool) → Row → Row → Type 0
Tells test a b = (x : List ℕ) → test x ≡ true → AgreeOn (set_of x) a b → a ≡ b

some-key : (test : List ℕ → Bool) (a b : Row) → Tells test a b → (s : Columns) → AgreeOn s a b → (keys : List (List ℕ)) → list_all test keys ≡ true
    → list_any (list_all s) keys ≡ true → a ≡ b
some-key test a b tells s g [] t e = absurd (true≢false (sym e))
some-key test a b tells s g (k ∷ keys) t e = ⊎_elim
    (λ here. tells k (and-left (test k) (list_all test keys) t) (λ c m. g c (all-member s k here c m)))
    (λ later. some-key test a b tells s g keys (and-right (test k) (list_all test keys) t) later)
    (or-cases (list_all s k) (list_any (list_all s) keys) e)

-- rows that are those of the input
whole-on : (x y a b : Row) → a ≡ x → b ≡ y → (s : Columns) → AgreeOn s a b → AgreeOn s x y
whole-on x y a b ea eb s g c e = ap (λ r. value_at r c) (sym ea) ∙ (g c e ∙ ap (λ r. value_at r c) eb)

whole-same : (a b x y : Row) → a ≡ x → b ≡ y → x ≡ y → a ≡ b
whole-same a b x y ea eb e = ea ∙ (e ∙ sym eb)

module _ (catalog : ℕ → Relation) where
  determined-is : (p : Plan) (s : Columns) → determined catalog p s ≡ closure (width catalog p) (equal_at catalog p) (fixed_at catalog p) (claim p).keys (by_inputs catalog p) s
  determined-is (scan n c r m z) s = refl
  determined-is (unary n c op p) s = refl
  determined-is (binary n c op p q) s = refl
  determined-is (exchange n c k m p) s = refl

  -- rows agree in what the inputs say
  abbrev pub ByInputs : Plan → Row → Row → Type 0
  ByInputs p a b = (t : Columns) → AgreeOn t a b → AgreeOn (by_inputs catalog p t) a b

  -- a key that is shown, also by what it determines, tells rows
  derived-tells : (p : Plan) (a b : Row) → MeetsAt catalog p a → MeetsAt catalog p b → ByInputs p a b → Tells (keys_of catalog p) a b → Tells (key_below catalog p) a b
      → Tells (key_derived catalog p) a b
  derived-tells p a b ma mb by shown below x t g =
      let s : Columns = determined_aside catalog p (set_of x) in
      let all_of : List ℕ = members (width catalog p) s in
      ⊎_elim
      (λ h. shown x h g)
      (λ h. ⊎_elim
      (λ k. shown all_of k (λ c m. closure-pair (width catalog p) (equal_at catalog p) (fixed_at catalog p) [] (by_inputs catalog p) a b ma.alike mb.alike ma.fixed mb.fixed
      (λ u v e. absurd (true≢false (sym e))) by (set_of x) g c (all-member s all_of (filter-all s (first_columns (width catalog p))) c m)))
      (λ k. below x k g)
      (or-cases (keys_of catalog p all_of) (key_below catalog p x) h))
      (or-cases (keys_of catalog p x) (keys_of catalog p all_of || key_below catalog p x) t)

  agreed-from : (p : Plan) (a b : Row) → MeetsAt catalog p a → MeetsAt catalog p b → ByInputs p a b → Tells (keys_of catalog p) a b → Tells (key_below catalog p) a b
      → keys_shown_derived catalog p ≡ true → Agreed catalog p a b
  agreed-from p a b ma mb by shown below t =
      let keyed : (s : Columns) → AgreeOn s a b → list_any (list_all s) (claim p).keys ≡ true → a ≡ b
      = λ s g e. some-key (key_derived catalog p) a b (derived-tells p a b ma mb by shown below) s g (claim p).keys t e in
      record {
        determined_in = λ s g.
            let P : Columns → Type 0 = λ u. AgreeOn u a b in
            subst P (sym (determined-is p s))
            (closure-pair (width catalog p) (equal_at catalog p) (fixed_at catalog p) (claim p).keys (by_inputs catalog p) a b ma.alike mb.alike ma.fixed mb.fixed keyed by s g);
        keyed = keyed;
      }

  -- ---- scans

  pub scan-agreed : (n : ℕ) (c : Claim) (r : ℕ) (m : Bool) (z : Size) (xs : List Row) (a b : Row) → KeysHold (catalog r).keys xs → occurs a xs ≡ true → occurs b xs ≡ true
      → MeetsAt catalog (scan n c r m z) a → MeetsAt catalog (scan n c r m z) b → keys_shown_derived catalog (scan n c r m z) ≡ true → Agreed catalog (scan n c r m z) a b
  scan-agreed n c r m z xs a b keys oa ob ma mb t =
      agreed-from (scan n c r m z) a b ma mb (λ s g d e. absurd (true≢false (sym e))) (λ x h g. keys-same (set_of x) (catalog r).keys xs a b keys oa ob g h)
      (λ x h g. absurd (true≢false (sym h))) t

  -- ---- one input

  -- rows of a group that is whole are one row where they agree on its key, and so are any two of a limit that takes one row
  abbrev pub AreGiven : Unary → Row → Row → Type 0
  AreGiven (group plain by aggregates) a b = Tells (λ x. within (numbers_below (length by)) x) a b
  AreGiven (group final by aggregates) a b = Tells (λ x. within (numbers_below (length by)) x) a b
  AreGiven (limit m) a b = nat_le m 1 ≡ true → a ≡ b
  AreGiven op a b = Unit {0}

  -- columns that are copied tell rows if those that they are copies of do
  project-tells : (es : List Entry) (p : Plan) (a b x y : Row) → Agreed catalog p x y → a ≡ entries_row es x → b ≡ entries_row es y
      → Tells (λ k. covers (claim p).keys (copied_among (map kept_column es) k)) a b
  project-tells es p a b x y h ea eb k t g =
      let cs : List ℕ = copied_among (map kept_column es) k in
      let picks : pick k (entries_row es x) ≡ pick k (entries_row es y) = ap (pick k) (sym ea) ∙ (on-pick k a b g ∙ ap (pick k) eb) in
      let same : x ≡ y = h.keyed (set_of cs) (pick-on cs x y (picks-among es k x y picks)) t in
      ea ∙ (ap (entries_row es) same ∙ sym eb)

  -- and so do columns that determine a key of the input
  below-tells : (n : ℕ) (c : Claim) (es : List Entry) (p : Plan) (a b x y : Row) → Agreed catalog p x y → a ≡ entries_row es x → b ≡ entries_row es y
      → Tells (key_below catalog (unary n c (project es) p)) a b
  below-tells n c es p a b x y h ea eb k t g =
      let w : ℕ = width catalog (unary n c (project es) p) in
      let s : Columns = sources_in w (kept_of es) (set_of k) in
      let P : Row → Type 0 = λ i. AgreeOn (set_of k) i b in
      let Q : Row → Type 0 = λ j. AgreeOn (set_of k) (entries_row es x) j in
      let on : AgreeOn s x y = sources-pair w (kept_of es) (entries_row es x) (entries_row es y) x y (entry-copies es x) (entry-copies es y) (set_of k) (subst Q eb (subst P ea g)) in
      let same : x ≡ y = h.keyed (determined catalog p s) (h.determined_in s on) t in
      ea ∙ (ap (entries_row es) same ∙ sym eb)

  unary-shown : (op : Unary) (n : ℕ) (c : Claim) (p : Plan) (a b x y : Row) → MeetsAt catalog (unary n c op p) a → MeetsAt catalog (unary n c op p) b
      → Agreed catalog p x y → StemOf op a x → StemOf op b y → AreGiven op a b → Tells (keys_of catalog (unary n c op p)) a b
  unary-shown (select fs) n c p a b x y ma mb h sa sb given k e g = whole-same a b x y sa sb (h.keyed (set_of k) (whole-on x y a b sa sb (set_of k) g) e)
  unary-shown (project es) n c p a b x y ma mb h sa sb given k e g = project-tells es p a b x y h sa sb k e g
  unary-shown (distinct cols) n c p a b x y ma mb h sa sb given k e g =
      agree-all (length cols) k a b (and-left (within (numbers_below (length cols)) k) (within k (numbers_below (length cols))) e) ma.wide mb.wide (agree-of k a b (on-pick k a b g))
  unary-shown (sort of_parts order) n c p a b x y ma mb h sa sb given k e g =
      whole-same a b x y sa sb (h.keyed (set_of k) (whole-on x y a b sa sb (set_of k) g) (and-right (not of_parts) (covers (claim p).keys k) e))
  unary-shown (group plain by aggregates) n c p a b x y ma mb h sa sb given k e g = given k e g
  unary-shown (group partial by aggregates) n c p a b x y ma mb h sa sb given k e g = absurd (true≢false (sym e))
  unary-shown (group final by aggregates) n c p a b x y ma mb h sa sb given k e g = given k e g
  unary-shown (limit m) n c p a b x y ma mb h sa sb given k e g = ⊎_elim
      (λ few. given few)
      (λ kept. whole-same a b x y sa sb (h.keyed (set_of k) (whole-on x y a b sa sb (set_of k) g) kept))
      (or-cases (nat_le m 1) (covers (claim p).keys k) e)

  unary-below : (op : Unary) (n : ℕ) (c : Claim) (p : Plan) (a b x y : Row) → Agreed catalog p x y → StemOf op a x → StemOf op b y → Tells (key_below catalog (unary n c op p)) a b
  unary-below (select fs) n c p a b x y h sa sb k e g = absurd (true≢false (sym e))
  unary-below (project es) n c p a b x y h sa sb k e g = below-tells n c es p a b x y h sa sb k e g
  unary-below (distinct cols) n c p a b x y h sa sb k e g = absurd (true≢false (sym e))
  unary-below (sort of_parts order) n c p a b x y h sa sb k e g = absurd (true≢false (sym e))
  unary-below (group phase by aggregates) n c p a b x y h sa sb k e g = absurd (true≢false (sym e))
  unary-below (limit m) n c p a b x y h sa sb k e g = absurd (true≢false (sym e))

  pub unary-agreed : (n : ℕ) (c : Claim) (op : Unary) (p : Plan) (a b x y : Row) → MeetsAt catalog (unary n c op p) a → MeetsAt catalog (unary n c op p) b
      → keys_shown_derived catalog (unary n c op p) ≡ true → Agreed catalog p x y → StemOf op a x → StemOf op b y → AreGiven op a b → Agreed catalog (unary n c op p) a b
  unary-agreed n c op p a b x y ma mb t h sa sb given =
      agreed-from (unary n c op p) a b ma mb
      (λ s g. input-pair (width catalog (unary n c op p)) (described op).copying (determined catalog p) a b x y (stem-copies op a x sa) (stem-copies op b y sb) h.determined_in s g)
      (unary-shown op n c p a b x y ma mb h sa sb given) (unary-below op n c p a b x y h sa sb) t

  -- ---- two inputs

  pub union-agreed : (n : ℕ) (c : Claim) (p q : Plan) (a b : Row) → MeetsAt catalog (binary n c union p q) a → MeetsAt catalog (binary n c union p q) b
      → keys_shown_derived catalog (binary n c union p q) ≡ true → Agreed catalog (binary n c union p q) a b
  union-agreed n c p q a b ma mb t =
      agreed-from (binary n c union p q) a b ma mb (λ s g d e. absurd (true≢false (sym e))) (λ x e g. absurd (true≢false (sym e))) (λ x e g. absurd (true≢false (sym e))) t

  -- a row of a join, and the rows of both inputs that it has
  pub record Paired (on : List (ℕ × ℕ)) (v : ℕ) (a l r : Row) : Type 0 where
    pub is : a ≡ l ++ r
    pub met : matches on l r ≡ true
    pub wide : length l ≡ v

  -- columns on which joined rows agree: of the left rows, past whose end nothing counts, and of the right ones
  left-on : (v : ℕ) (l r j k : Row) → length l ≡ v → length j ≡ v → (s : Columns) → AgreeOn s (l ++ r) (j ++ k) → AgreeOn s l j
  left-on v l r j k wl wj s g c e = ⊎_elim
      (λ (near : c < v). sym (value-left l r c (omega (arith, near, wl))) ∙ (g c e ∙ value-left j k c (omega (arith, near, wj))))
      (λ (far : v ≤ c). past-end l c (omega (arith, far, wl)) ∙ sym (past-end j c (omega (arith, far, wj))))
      (cases_lt c v)

  right-on : (v : ℕ) (l r j k : Row) → length l ≡ v → length j ≡ v → (s : Columns) → AgreeOn s (l ++ r) (j ++ k) → AgreeOn (λ c. s (v + c)) r k
  right-on v l r j k wl wj s g c e =
      sym (value-right l r (v + c) c (omega (arith, wl))) ∙ (g (v + c) e ∙ value-right j k (v + c) c (omega (arith, wj)))

  -- a key of the right input, where it stands in the output
  shifted-keys : (v : ℕ) (x : List ℕ) (keys : List (List ℕ)) → covers (map (shifted v) keys) x ≡ true → list_any (list_all (λ c. set_of x (v + c))) keys ≡ true
  shifted-keys v x [] h = absurd (true≢false (sym h))
  shifted-keys v x (k ∷ keys) h = ⊎_elim
      (λ here. or-left (list_all (λ c. set_of x (v + c)) k) (list_any (list_all (λ c. set_of x (v + c))) keys) (all k here))
      (λ later. or-right (list_all (λ c. set_of x (v + c)) k) (list_any (list_all (λ c. set_of x (v + c))) keys) (shifted-keys v x keys later))
      (or-cases (within (shifted v k) x) (covers (map (shifted v) keys) x) h)
    where
      all : (k : List ℕ) → within (shifted v k) x ≡ true → list_all (λ c. set_of x (v + c)) k ≡ true
      all [] h = refl
      all (c ∷ k) h =
          and-both (set_of x (v + c)) (list_all (λ c. set_of x (v + c)) k) (and-left (contains x (v + c)) (within (shifted v k) x) h)
          (all k (and-right (contains x (v + c)) (within (shifted v k) x) h))

  join-tells : (on : List (ℕ × ℕ)) (n : ℕ) (c : Claim) (m : JoinMethod) (p q : Plan) (a b l r j k : Row) → Agreed catalog p l j → Agreed catalog q r k
      → Paired on (width catalog p) a l r → Paired on (width catalog p) b j k → Tells (keys_of catalog (binary n c (join m on) p q)) a b
  join-tells on n c m p q a b l r j k hl hr pa pb x t g =
      let v : ℕ = width catalog p in
      let A : Bool = covers (claim p).keys x in
      let B : Bool = covers (map (shifted v) (claim q).keys) x in
      let C : Bool = covers (claim q).keys (map (λ p. p.1) on) in
      let D : Bool = covers (claim p).keys (map (λ p. p.0) on) in
      let P : Row → Type 0 = λ i. AgreeOn (set_of x) i b in
      let Q : Row → Type 0 = λ i. AgreeOn (set_of x) (l ++ r) i in
      let on_both : AgreeOn (set_of x) (l ++ r) (j ++ k) = subst Q pb.is (subst P pa.is g) in
      let left_pairs : pick (map (λ p. p.0) on) l ≡ pick (map (λ p. p.1) on) r = row_eq-same (pick (map (λ p. p.0) on) l) (pick (map (λ p. p.1) on) r) pa.met in
      let right_pairs : pick (map (λ p. p.0) on) j ≡ pick (map (λ p. p.1) on) k = row_eq-same (pick (map (λ p. p.0) on) j) (pick (map (λ p. p.1) on) k) pb.met in
      let by_left : A ≡ true → l ≡ j = λ e. hl.keyed (set_of x) (left-on v l r j k pa.wide pb.wide (set_of x) on_both) e in
      let by_right : B ≡ true → r ≡ k = λ e. hr.keyed (λ c. set_of x (v + c)) (right-on v l r j k pa.wide pb.wide (set_of x) on_both) (shifted-keys v x (claim q).keys e) in
      let both : l ≡ j → r ≡ k → a ≡ b = λ e f. pa.is ∙ (ap (λ i. i ++ r) e ∙ (ap (λ i. j ++ i) f ∙ sym pb.is)) in
      ⊎_elim
      (λ h. ⊎_elim
      (λ i. both (by_left (and-left A B i)) (by_right (and-right A B i)))
      (λ i.
      let e : l ≡ j = by_left (and-left A C i) in
      both e (hr.keyed (set_of (map (λ p. p.1) on)) (pick-on (map (λ p. p.1) on) r k (sym left_pairs ∙ (ap (pick (map (λ p. p.0) on)) e ∙ right_pairs))) (and-right A C i)))
      (or-cases (A && B) (A && C) h))
      (λ h.
      let f : r ≡ k = by_right (and-left B D h) in
      both (hl.keyed (set_of (map (λ p. p.0) on)) (pick-on (map (λ p. p.0) on) l j (left_pairs ∙ (ap (pick (map (λ p. p.1) on)) f ∙ sym right_pairs))) (and-right B D h)) f)
      (or-cases ((A && B) || (A && C)) (B && D) t)

  pub join-agreed : (on : List (ℕ × ℕ)) (n : ℕ) (c : Claim) (m : JoinMethod) (p q : Plan) (a b l r j k : Row) → MeetsAt catalog (binary n c (join m on) p q) a → MeetsAt catalog (binary n c (join m on) p q) b
      → keys_shown_derived catalog (binary n c (join m on) p q) ≡ true → Agreed catalog p l j → Agreed catalog q r k
      → Paired on (width catalog p) a l r → Paired on (width catalog p) b j k → Agreed catalog (binary n c (join m on) p q) a b
  join-agreed on n c m p q a b l r j k ma mb t hl hr pa pb =
      let node : Plan = binary n c (join m on) p q in
      let v : ℕ = width catalog p in
      let w : ℕ = width catalog node in
      let by : ByInputs node (l ++ r) (j ++ k) = λ s g d e. ⊎_elim
      (λ i. input-pair w (left_of v) (determined catalog p) (l ++ r) (j ++ k) l j (left-copies v l r pa.wide) (left-copies v j k pb.wide) hl.determined_in s g d i)
      (λ i. input-pair w (right_of v) (determined catalog q) (l ++ r) (j ++ k) r k (right-copies v l r pa.wide) (right-copies v j k pb.wide) hr.determined_in s g d i)
      (or-cases (by_input w (left_of v) (determined catalog p) s d) (by_input w (right_of v) (determined catalog q) s d) e) in
      let P : Row → Type 0 = λ i. ByInputs node i b in
      let Q : Row → Type 0 = λ i. ByInputs node (l ++ r) i in
      agreed-from node a b ma mb (subst P (sym pa.is) (subst Q (sym pb.is) by)) (join-tells on n c m p q a b l r j k hl hr pa pb) (λ x e g. absurd (true≢false (sym e))) t

  -- rows of a semi or an anti join are rows of its left input
  pub semi-join-agreed : (n : ℕ) (c : Claim) (matched : Bool) (on : List (ℕ × ℕ)) (conditions : List Condition) (p q : Plan) (a b : Row)
      → MeetsAt catalog (binary n c (semi_join matched on conditions) p q) a → MeetsAt catalog (binary n c (semi_join matched on conditions) p q) b
      → keys_shown_derived catalog (binary n c (semi_join matched on conditions) p q) ≡ true → Agreed catalog p a b → Agreed catalog (binary n c (semi_join matched on conditions) p q) a b
  semi-join-agreed n c matched on conditions p q a b ma mb t h =
      agreed-from (binary n c (semi_join matched on conditions) p q) a b ma mb
      (λ s g. input-pair (width catalog p) whole_rows (determined catalog p) a b a b (whole-copies a) (whole-copies b) h.determined_in s g) (λ x e g. h.keyed (set_of x) g e)
      (λ x e g. absurd (true≢false (sym e))) t

  -- ---- exchanges

  pub exchange-agreed : (n : ℕ) (c : Claim) (kind : ExchangeKind) (merge : List OrderEntry) (p : Plan) (a b : Row) → MeetsAt catalog (exchange n c kind merge p) a → MeetsAt catalog (exchange n c kind merge p) b
      → keys_shown_derived catalog (exchange n c kind merge p) ≡ true → Agreed catalog p a b → Agreed catalog (exchange n c kind merge p) a b
  exchange-agreed n c kind merge p a b ma mb t h =
      agreed-from (exchange n c kind merge p) a b ma mb (λ s g. input-pair (width catalog p) whole_rows (determined catalog p) a b a b (whole-copies a) (whole-copies b) h.determined_in s g) (λ x e g. h.keyed (set_of x) g e) (λ x e g. absurd (true≢false (sym e))) t
