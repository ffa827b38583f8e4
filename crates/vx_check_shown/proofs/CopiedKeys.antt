-- Copies of one input column are equal, and so the keys that are found are all that the inputs' keys give.
use Rattle.std.proofs.Common.{◌≡◌, ◌∙◌, ℕ, ◌-◌, ◌<◌, ◌≤◌, ◌==◌, nat_lt, nat_le, Bool, true, false, cond, not, ◌&&◌, ◌||◌, ◌⊎◌, inl, inr, ⊎_elim, List, [], ◌∷◌, length, map, Option, Some, None, refl, ap, sym, subst, arith, true≢false, ltb-true, leb-true}
use Rattle.std.specs.List.{list_any, list_all}
use Rattle.std.proofs.lemmas.Bool.{eqb-true, eq-eqb}
use Rattle.vx_rows_values.proofs.Booleans.{and-left, and-right, and-both}
use Rattle.vx_catalog_relations.specs.Relation.{Relation}
use Rattle.vx_catalog_relations.specs.Catalog.{all_below, are_distinct}
use Rattle.vx_plan_nodes.specs.Typed.{are_columns}
use Rattle.vx_plan_nodes.specs.Plan.{select, project, distinct, sort, group, limit, plain, partial, final, union, join, semi_join, Plan, scan, unary, binary, exchange}
use Rattle.vx_plan_nodes.specs.Phases.{first_columns}
use Rattle.vx_plan_nodes.specs.Types.{width}
use Rattle.vx_plan_nodes.specs.Describe.{Copying, whole_rows, entries_kept, kept_column, right_of, source, key_of_first, keys_kept}
use Rattle.vx_plan_facts.specs.Asking.{Reaches}
use Rattle.vx_plan_facts.specs.Equal.{Equality, each_itself, both_equal, equal_at}
use Rattle.vx_plan_facts.specs.FactsView.{facts_of}
use Rattle.vx_plan_facts.specs.KnownView.{IsKnownOf}
use Rattle.vx_plan_facts.specs.declared.known.KnownColumns as rust_known
use Rattle.vx_plan_facts.proofs.KnownFacts.{known-under}
use Rattle.vx_plan_facts.proofs.Searching.{known-left}
use Rattle.vx_check_rules.specs.Rules.{contains, within, covers}
use Rattle.vx_check_rules.specs.Behaviour.{Keyed, keyed_by, keyed_after, keyed_held, keyed_from}
use Rattle.vx_check_rules.specs.Derived.{within_equally, key_derived_by}
use Rattle.vx_check_rules.proofs.Bools.{or-left, or-right, all-more}
use Rattle.vx_check_options.specs.FoundKeys.{show}
use Rattle.vx_check_options.proofs.FoundFacts.{either, covers-more}
use Rattle.vx_check_shown.specs.Standing.{first_equal, named_first}
use Rattle.vx_check_shown.specs.ShownKeys.{copies_by, Gathers, AreShown, AddsKeys, ShownKeys}
use Rattle.vx_check_shown.proofs.KeyColumns.{IsSameness, known-same, first-same}

-- ---- copies of one column

-- two output columns are copies of one
abbrev are_copies : ℕ → ℕ → Copying → Bool
are_copies d x k = both_equal each_itself (source k d) (source k x)

abbrev by_keyed : ℕ → ℕ → List Keyed → Bool
by_keyed d x keyed = list_any (λ k. list_any (λ f. are_copies d x f.0) k.from) keyed

alone : (b : Bool) → (b || false) ≡ true → b ≡ true
alone true h = refl
alone false h = cc

one-keyed : (d x : ℕ) (k : Copying) (keys : List (List ℕ)) → by_keyed d x (keyed_by ((k, keys) ∷ []) ∷ []) ≡ true → are_copies d x k ≡ true
one-keyed d x k keys h = alone (are_copies d x k) (alone (are_copies d x k || false) h)

held-keyed : (d x : ℕ) (right_held left_held : Bool) (k j : Copying) (ks js : List (List ℕ)) → by_keyed d x (keyed_held right_held left_held (k, ks) (j, js)) ≡ true
    → (are_copies d x k ≡ true) ⊎ (are_copies d x j ≡ true)
held-keyed d x true true k j ks js h =
    ⊎_elim (λ a. inl (alone (are_copies d x k) a)) (λ b. inr (alone (are_copies d x j) (alone (are_copies d x j || false) b))) (either (are_copies d x k || false) ((are_copies d x j || false) || false) h)
held-keyed d x true false k j ks js h = inl (one-keyed d x k ks h)
held-keyed d x false true k j ks js h = inr (one-keyed d x j js h)
held-keyed d x false false k j ks js h =
    ⊎_elim (λ a. inl a) (λ b. inr (alone (are_copies d x j) b)) (either (are_copies d x k) (are_copies d x j || false) (alone (are_copies d x k || (are_copies d x j || false)) h))

right-one : (v d x : ℕ) → are_copies d x (right_of v) ≡ true → d ≡ x
right-one v d x h = go (nat_le v d) (nat_le v x) refl refl h
  where
    go : (a b : Bool) → nat_le v d ≡ a → nat_le v x ≡ b → both_equal each_itself (cond a (Some (d - v)) None) (cond b (Some (x - v)) None) ≡ true → d ≡ x
    go true true l m e =
        let same : d - v ≡ x - v = eqb-true (d - v) (x - v) e in
        let low : v ≤ d = leb-true v d l in
        let high : v ≤ x = leb-true v x m in
        omega (arith, same, low, high)
    go true false l m e = absurd (true≢false (sym e))
    go false b l m e = absurd (true≢false (sym e))

kept-equal : (w v : ℕ) (k : Copying) (under : Equality) → IsSameness v under → Reaches w k v → (d x : ℕ) → d < w → are_copies d x k ≡ true → both_equal under (source k d) (source k x) ≡ true
kept-equal w v k under same reaches d x l h = go (source k d) (source k x) refl h
  where
    go : (o u : Option ℕ) → source k d ≡ o → both_equal each_itself o u ≡ true → both_equal under o u ≡ true
    go (Some a) (Some b) at e = ap (under a) (sym (eqb-true a b e)) ∙ same.itself a (reaches d a l at)
    go (Some a) None at e = absurd (true≢false (sym e))
    go None u at e = absurd (true≢false (sym e))

module _ (catalog : ℕ → Relation) (k : rust_known.KnownColumns) where
  is-equal : (p : Plan) → IsKnownOf catalog k p → (d x : ℕ) → d < width catalog p → d ≡ x → equal_at catalog p d x ≡ true
  is-equal p h d x l same = ap (equal_at catalog p d) (sym same) ∙ (known-same catalog k p h).itself d l

  whole-equal : (p : Plan) → IsKnownOf catalog k p → (d x : ℕ) → d < width catalog p → are_copies d x whole_rows ≡ true → equal_at catalog p d x ≡ true
  whole-equal p h d x l e = is-equal p h d x l (eqb-true d x e)

  keyed-equal : (p : Plan) → IsKnownOf catalog k p → (lefts rights : List (List ℕ)) (d x : ℕ) → d < width catalog p → by_keyed d x (keyed_from catalog p lefts rights) ≡ true
      → equal_at catalog p d x ≡ true
  keyed-equal (scan n c r m z) h lefts rights d x l e = whole-equal (scan n c r m z) h d x l (one-keyed d x whole_rows (catalog r).keys e)
  keyed-equal (unary n c (select fs) p) h lefts rights d x l e = whole-equal (unary n c (select fs) p) h d x l (one-keyed d x whole_rows lefts e)
  keyed-equal (unary n c (project es) p) h lefts rights d x l e =
      let top : Plan = unary n c (project es) p in
      let copying : Copying = entries_kept (map kept_column es) in
      let under = equal_at catalog p in
      or-right (d == x) (both_equal under (source copying d) (source copying x))
      (kept-equal (width catalog top) (width catalog p) copying under (known-same catalog k p (known-under catalog k n c (project es) p h))
      (known-left catalog (map facts_of k.facts.items) top h.known).reaches d x l (one-keyed d x copying lefts e))
  keyed-equal (unary n c (distinct cols) p) h lefts rights d x l e = whole-equal (unary n c (distinct cols) p) h d x l (one-keyed d x whole_rows (first_columns (length cols) ∷ []) e)
  keyed-equal (unary n c (sort true cols) p) h lefts rights d x l e = absurd (true≢false (sym e))
  keyed-equal (unary n c (sort false cols) p) h lefts rights d x l e = whole-equal (unary n c (sort false cols) p) h d x l (one-keyed d x whole_rows lefts e)
  keyed-equal (unary n c (group plain by aggregates) p) h lefts rights d x l e = whole-equal (unary n c (group plain by aggregates) p) h d x l (one-keyed d x whole_rows (first_columns (length by) ∷ []) e)
  keyed-equal (unary n c (group partial by aggregates) p) h lefts rights d x l e = absurd (true≢false (sym e))
  keyed-equal (unary n c (group final by aggregates) p) h lefts rights d x l e = whole-equal (unary n c (group final by aggregates) p) h d x l (one-keyed d x whole_rows (first_columns (length by) ∷ []) e)
  keyed-equal (unary n c (limit m) p) h lefts rights d x l e = limited (nat_le m 1) e
    where
      limited : (b : Bool) → by_keyed d x (keyed_after (cond b (key_of_first 0) keys_kept) whole_rows lefts) ≡ true → equal_at catalog (unary n c (limit m) p) d x ≡ true
      limited true t = whole-equal (unary n c (limit m) p) h d x l (one-keyed d x whole_rows (first_columns 0 ∷ []) t)
      limited false t = whole-equal (unary n c (limit m) p) h d x l (one-keyed d x whole_rows lefts t)
  keyed-equal (binary n c union p q) h lefts rights d x l e = absurd (true≢false (sym e))
  keyed-equal (binary n c (join m on) p q) h lefts rights d x l e =
      let top : Plan = binary n c (join m on) p q in
      ⊎_elim (λ a. whole-equal top h d x l a) (λ b. is-equal top h d x l (right-one (width catalog p) d x b))
      (held-keyed d x (covers rights (map (λ y. y.1) on)) (covers lefts (map (λ y. y.0) on)) whole_rows (right_of (width catalog p)) lefts rights e)
  keyed-equal (binary n c (semi_join matched on conditions) p q) h lefts rights d x l e =
      whole-equal (binary n c (semi_join matched on conditions) p q) h d x l (one-keyed d x whole_rows lefts e)
  keyed-equal (exchange n c kind m p) h lefts rights d x l e = whole-equal (exchange n c kind m p) h d x l (one-keyed d x whole_rows lefts e)

  pub copies-equal : (p : Plan) → IsKnownOf catalog k p → (lefts rights : List (List ℕ)) (d x : ℕ) → d < width catalog p → copies_by (keyed_from catalog p lefts rights) d x ≡ true
      → equal_at catalog p d x ≡ true
  copies-equal p h lefts rights d x l e =
      ⊎_elim (λ a. is-equal p h d x l (eqb-true d x a)) (λ b. keyed-equal p h lefts rights d x l b) (either (d == x) (by_keyed d x (keyed_from catalog p lefts rights)) e)

-- ---- by the first of equal columns

first-among : (w : ℕ) (e r : Equality) → IsSameness w e → (d : ℕ) → d < w → ((x : ℕ) → r d x ≡ true → e d x ≡ true) → (x : List ℕ) → all_below w x ≡ true → list_any (r d) x ≡ true
    → contains (named_first w e x) (first_equal w e d) ≡ true
first-among w e r same d l more [] b h = absurd (true≢false (sym h))
first-among w e r same d l more (z ∷ zs) b h =
    let z-below : z < w = ltb-true z w (and-left (nat_lt z w) (all_below w zs) b) in
    ⊎_elim
    (λ f. or-left (first_equal w e d == first_equal w e z) (contains (named_first w e zs) (first_equal w e d))
    (eq-eqb (first_equal w e d) (first_equal w e z) (first-same w e same d z l z-below (more z f))))
    (λ f. or-right (first_equal w e d == first_equal w e z) (contains (named_first w e zs) (first_equal w e d)) (first-among w e r same d l more zs (and-right (nat_lt z w) (all_below w zs) b) f))
    (either (r d z) (list_any (r d) zs) h)

firsts-within : (w : ℕ) (e r : Equality) → IsSameness w e → ((d x : ℕ) → d < w → r d x ≡ true → e d x ≡ true) → (y x : List ℕ) → all_below w y ≡ true → all_below w x ≡ true
    → within_equally r y x ≡ true → within (named_first w e y) (named_first w e x) ≡ true
firsts-within w e r same more [] x b c h = refl
firsts-within w e r same more (d ∷ ds) x b c h =
    let d-below : d < w = ltb-true d w (and-left (nat_lt d w) (all_below w ds) b) in
    and-both (contains (named_first w e x) (first_equal w e d)) (within (named_first w e ds) (named_first w e x))
    (first-among w e r same d d-below (λ z. more d z d-below) x c (and-left (list_any (r d) x) (within_equally r ds x) h))
    (firsts-within w e r same more ds x (and-right (nat_lt d w) (all_below w ds) b) c (and-right (list_any (r d) x) (within_equally r ds x) h))

-- ---- all of it

-- one that passes the first test passes the others too
one-of : (p q r : List ℕ → Bool) (goal : Type 0) → ((y : List ℕ) → p y ≡ true → q y ≡ true → r y ≡ true → goal) → (ys : List (List ℕ)) → list_any p ys ≡ true → list_all q ys ≡ true → list_all r ys ≡ true
    → goal
one-of p q r goal f [] h k m = absurd (true≢false (sym h))
one-of p q r goal f (y ∷ ys) h k m =
    ⊎_elim (λ a. f y a (and-left (q y) (list_all q ys) k) (and-left (r y) (list_all r ys) m))
    (λ b. one-of p q r goal f ys b (and-right (q y) (list_all q ys) k) (and-right (r y) (list_all r ys) m)) (either (p y) (list_any p ys) h)

pub shown-from : (catalog : ℕ → Relation) (k : rust_known.KnownColumns) (p : Plan) → IsKnownOf catalog k p → (keyed : List Keyed) (lefts rights claimed kept copies found : List (List ℕ)) (w : ℕ)
    → keyed ≡ keyed_from catalog p lefts rights → w ≡ width catalog p → AddsKeys catalog p keyed claimed [] kept → Gathers (show keyed) (show keyed) (copies_by keyed) w [] copies
    → AddsKeys catalog p keyed copies kept found → ShownKeys catalog p (keyed_from catalog p lefts rights) claimed found
shown-from catalog k p h keyed lefts rights claimed kept copies found v is wide a g b =
    subst (λ ks. ShownKeys catalog p ks claimed found) is (record {
      shown = are.shown;
      columns = are.columns;
      few = λ l. b.limit (a.limit (omega arith));
      apart = are.apart;
      named = are.named;
      kept = λ l.
          all-more (covered kept) (covered found) claimed
          (λ key f. ⊎_elim (λ n. or-left (not (derived key)) (covers found (firsts key)) n) (λ n. or-right (not (derived key)) (covers found (firsts key)) (b.kept (firsts key) n))
          (either (not (derived key)) (covers kept (firsts key)) f)) (a.fit (omega (arith, l)));
      all = λ l x below gives.
          one-of (λ y. within_equally (copies_by keyed) y x) (covered found) (λ y. all_below w y && show keyed y) (covers found (firsts x) ≡ true)
          (λ y near cover sound.
          covers-more found (firsts y) (firsts x)
          (covers-of y cover (and-right (all_below w y) (show keyed y) sound))
          (firsts-within w (equal_at catalog p) (copies_by keyed) (known-same catalog k p h) (λ d z m e. copies-equal catalog k p h lefts rights d z m (ap (λ ks. copies_by ks d z) (sym is) ∙ e)) y x
          (and-left (all_below w y) (show keyed y) sound) below near))
          copies (gathered.every x below gives) (b.fewer l)
          (gathered.only (λ y. all_below w y && show keyed y) (λ y m s. and-both (all_below w y) (show keyed y) m s) refl);
    })
  where
    w : ℕ
    w = width catalog p

    derived : List ℕ → Bool
    derived = key_derived_by catalog p keyed

    firsts : List ℕ → List ℕ
    firsts = named_first w (equal_at catalog p)

    covered : List (List ℕ) → List ℕ → Bool
    covered f key = not (derived key) || covers f (firsts key)

    gathered : Gathers (show keyed) (show keyed) (copies_by keyed) w [] copies
    gathered = subst (λ n. Gathers (show keyed) (show keyed) (copies_by keyed) n [] copies) wide g

    are : AreShown catalog p keyed found
    are = b.are (a.are (record { shown = refl; columns = refl; named = refl; apart = refl }))

    covers-of : (y : List ℕ) → covered found y ≡ true → show keyed y ≡ true → covers found (firsts y) ≡ true
    covers-of y c s = by (derived y) (or-left (show keyed y) _ s) c
      where
        by : (t : Bool) → t ≡ true → (not t || covers found (firsts y)) ≡ true → covers found (firsts y) ≡ true
        by true e f = f
        by false e f = absurd (true≢false (sym e))

-- ---- of columns of the node

pub columns-named : (w : ℕ) (keys : List (List ℕ)) → list_all (are_columns w) keys ≡ true → list_all (all_below w) keys ≡ true
columns-named w keys h = all-more (are_columns w) (all_below w) keys (λ key e. and-left (all_below w key) (are_distinct key) e) h

pub copies-below : (w v : ℕ) (may_be_new is_wanted : List ℕ → Bool) (e : Equality) (copies : List (List ℕ)) → v ≡ w → Gathers may_be_new is_wanted e v [] copies → list_all (all_below w) copies ≡ true
copies-below w v may_be_new is_wanted e copies wide g = ap (λ n. list_all (all_below n) copies) (sym wide) ∙ g.only (all_below v) (λ x b h. b) refl

-- ---- and more

pub shown-more : (catalog : ℕ → Relation) (p : Plan) (keyed : List Keyed) (claimed keys old found : List (List ℕ)) (other : List Keyed) → other ≡ keyed → ShownKeys catalog p keyed claimed old
    → AddsKeys catalog p other keys old found → ShownKeys catalog p keyed claimed found
shown-more catalog p keyed claimed keys old found other is s more =
    let b : AddsKeys catalog p keyed keys old found = subst (λ ks. AddsKeys catalog p ks keys old found) is more in
    let are = b.are (record { shown = s.shown; columns = s.columns; named = s.named; apart = s.apart }) in
    let derived : List ℕ → Bool = key_derived_by catalog p keyed in
    let firsts : List ℕ → List ℕ = named_first (width catalog p) (equal_at catalog p) in
    record {
      shown = are.shown;
      columns = are.columns;
      few = λ l. b.limit (s.few l);
      apart = are.apart;
      named = are.named;
      kept = λ l.
          all-more (λ key. not (derived key) || covers old (firsts key)) (λ key. not (derived key) || covers found (firsts key)) claimed
          (λ key f. ⊎_elim (λ n. or-left (not (derived key)) (covers found (firsts key)) n) (λ n. or-right (not (derived key)) (covers found (firsts key)) (b.kept (firsts key) n))
          (either (not (derived key)) (covers old (firsts key)) f)) (s.kept l);
      all = λ l x below gives. b.kept (firsts x) (s.all (b.room l) x below gives);
    }
