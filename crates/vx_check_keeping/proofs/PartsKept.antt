-- What a node shows over inputs that claim some parts it shows over inputs whose parts tell those.
use Rattle.std.proofs.Common.{◌≡◌, ℕ, ◌-◌, ◌≤◌, nat_lt, nat_le, Bool, true, false, cond, ◌&&◌, ◌||◌, ⊎_elim, List, [], ◌∷◌, map, refl, sym, ap, ◌∙◌, subst, true≢false, ltb-true, Option, Some, None, arith}
use Rattle.std.specs.List.{list_all}
use Rattle.vx_rows_values.proofs.Booleans.{and-left, and-right, and-both}
use Rattle.vx_catalog_relations.specs.Catalog.{all_below}
use Rattle.vx_plan_nodes.specs.Plan.{Route, Part, one, any, all, routed, Unary, select, project, distinct, sort, group, limit, Phase, plain, partial, final, Aggregate, JoinMethod, union, join, Plan, claim, size, is_one}
use Rattle.vx_plan_nodes.specs.Types.{part_columns}
use Rattle.vx_plan_nodes.specs.Describe.{Copying, whole_rows, columns_kept, entries_kept, kept_column, source, left_of, right_of, described}
use Rattle.vx_plan_facts.specs.Equal.{Equality}
use Rattle.vx_plan_facts.proofs.Tests.{or-cases, or-left, or-right, or-more}
use Rattle.vx_check_rules.specs.Rules.{numbers_eq, route_eq, part_gives, has, routed_alike, cons_both, copied, copied_from, if_some, left_columns, right_columns, keeps_apart, binary_inputs_match, through, unary_shows, alike_shows, join_shows, both_have, unless_one}
use Rattle.vx_check_rules.specs.Behaviour.{sources}
use Rattle.vx_check_rules.proofs.Exact.{sources-kept, sources-entries}
use Rattle.vx_check_rules.specs.Derived.{part_matches, routed_alike_equally, unary_meets_equally, stands_for, stand_for, routed_as, join_routed, is_any}
use Rattle.vx_check_shown.specs.PartLaws.{told}
use Rattle.vx_check_keeping.specs.Laws.{IsEquivalence}
use Rattle.vx_check_keeping.proofs.PartsTold.{numbers-is, gives-matches, told-any, told-all, told-matches, apart_test, apart-told, copy-stands, as-told, given-as, alike-equally, alike-told}

-- an input of a node, and the one in its place, whose part tells its part
pub record InPlace (e : Equality) (p s : Plan) : Type 0 where
  pub alone : is_one (size s) ≡ is_one (size p)
  pub part : is_one (size p) ≡ false → told e (claim s).part (claim p).part ≡ true

split : (a b c : Bool) → ((a || b) || c) ≡ true → (a || (b || c)) ≡ true
split true b c h = refl
split false b c h = h

joint : (a b c : Bool) → (a || (b || c)) ≡ true → ((a || b) || c) ≡ true
joint true b c h = refl
joint false b c h = h

-- ---- parts that an input has

module _ (e : Equality) (is : IsEquivalence e) where
  any-by : (a b : Bool) (x y : Part) → b ≡ a → (a ≡ false → told e y x ≡ true) → (a || part_gives x any) ≡ true → (b || part_gives y any) ≡ true
  any-by true b x y i t h = or-left b (part_gives y any) i
  any-by false b x y i t h = or-right b (part_gives y any) (told-any e is y x (t refl) h)

  all-by : (a b : Bool) (x y : Part) → b ≡ a → (a ≡ false → told e y x ≡ true) → (a || part_gives x all) ≡ true → (b || part_gives y all) ≡ true
  all-by true b x y i t h = or-left b (part_gives y all) i
  all-by false b x y i t h = or-right b (part_gives y all) (told-all e is y x (t refl) h)

  pub has-any : (p s : Plan) → InPlace e p s → has p any ≡ true → has s any ≡ true
  has-any p s i h = any-by (is_one (size p)) (is_one (size s)) (claim p).part (claim s).part i.alone i.part h

  pub has-all : (p s : Plan) → InPlace e p s → has p all ≡ true → has s all ≡ true
  has-all p s i h = all-by (is_one (size p)) (is_one (size s)) (claim p).part (claim s).part i.alone i.part h

  gives-by : (a : Bool) (x y : Part) → a ≡ false → (a || part_gives x y) ≡ true → part_gives x y ≡ true
  gives-by true x y i h = absurd (true≢false i)
  gives-by false x y i h = h

  pub has-gives : (p : Plan) (y : Part) → is_one (size p) ≡ false → has p y ≡ true → part_gives (claim p).part y ≡ true
  has-gives p y i h = gives-by (is_one (size p)) (claim p).part y i h

  -- ---- what an operator asks of its inputs' parts

  free : (b : Bool) → ((b || true) || false) ≡ true
  free true = refl
  free false = refl

  apart-kept : (p s : Plan) → InPlace e p s → (cols : List ℕ) → apart_test e is (is_one (size p)) (claim p).part cols ≡ true → apart_test e is (is_one (size s)) (claim s).part cols ≡ true
  apart-kept p s i cols h =
      subst (λ (a : Bool). apart_test e is a (claim s).part cols ≡ true) (sym i.alone) (apart-told e is (is_one (size p)) (claim s).part (claim p).part cols i.part h)

  pub unary-matches : (op : Unary) (p s : Plan) → InPlace e p s → ((is_one (size p) || keeps_apart op p) || unary_meets_equally e op (claim p).part) ≡ true
      → ((is_one (size s) || keeps_apart op s) || unary_meets_equally e op (claim s).part) ≡ true
  unary-matches (select fs) p s i h = free (is_one (size s))
  unary-matches (project es) p s i h = free (is_one (size s))
  unary-matches (sort of_parts order) p s i h = free (is_one (size s))
  unary-matches (distinct cols) p s i h = apart-kept p s i cols h
  unary-matches (group plain by aggregates) p s i h = apart-kept p s i by h
  unary-matches (group partial by aggregates) p s i h = free (is_one (size s))
  unary-matches (group final by aggregates) p s i h = apart-kept p s i by h
  unary-matches (limit m) p s i h = free (is_one (size s))

  -- ---- what an operator over one input shows

  as-one : (w : ℕ) (k : Copying) (g : Equality) (q : Part) → routed_as w k e g q one ≡ false
  as-one w k g one = refl
  as-one w k g any = refl
  as-one w k g all = refl
  as-one w k g (routed r xs) = refl

  as-any : (w : ℕ) (k : Copying) (g : Equality) (q : Part) → routed_as w k e g q any ≡ false
  as-any w k g one = refl
  as-any w k g any = refl
  as-any w k g all = refl
  as-any w k g (routed r xs) = refl

  as-all : (w : ℕ) (k : Copying) (g : Equality) (q : Part) → routed_as w k e g q all ≡ false
  as-all w k g one = refl
  as-all w k g any = refl
  as-all w k g all = refl
  as-all w k g (routed r xs) = refl

  some-is : (o : Option (List ℕ)) (test : List ℕ → Bool) → if_some o test ≡ true → (cs : List ℕ) × (o ≡ Some cs) × (test cs ≡ true)
  some-is None test h = absurd (true≢false (sym h))
  some-is (Some cs) test h = (cs, refl, h)

  cons-is : (o : Option ℕ) (os : Option (List ℕ)) (ds : List ℕ) → cons_both o os ≡ Some ds → (d : ℕ) × (es : List ℕ) × (o ≡ Some d) × (os ≡ Some es) × (ds ≡ d ∷ es)
  cons-is None os ds h = absurd cc
  cons-is (Some d) None ds h = absurd cc
  cons-is (Some d) (Some es) ds h = (d, es, refl, refl, cc)

  sources-stand : (w : ℕ) (k : Copying) (g : Equality) → IsEquivalence g → (cs ds : List ℕ) → all_below w cs ≡ true → sources k cs ≡ Some ds → stand_for w k e g cs ds ≡ true
  sources-stand w k g also [] [] l h = refl
  sources-stand w k g also [] (d ∷ ds) l h = absurd cc
  sources-stand w k g also (c ∷ cs) ds l h =
      let t = cons-is (source k c) (sources k cs) ds h in
      subst (λ (xs : List ℕ). stand_for w k e g (c ∷ cs) xs ≡ true) (sym t.4)
      (and-both (stands_for w k e g c t.0) (stand_for w k e g cs t.1)
      (copy-stands e is w k g also c t.0 (ltb-true c w (and-left (nat_lt c w) (all_below w cs) l)) t.2)
      (sources-stand w k g also cs t.1 (and-right (nat_lt c w) (all_below w cs) l) t.3))

  pub whole-stand : (w : ℕ) (g : Equality) → IsEquivalence g → (cs : List ℕ) → all_below w cs ≡ true → stand_for w whole_rows e g cs cs ≡ true
  whole-stand w g also [] l = refl
  whole-stand w g also (c ∷ cs) l =
      and-both (stands_for w whole_rows e g c c) (stand_for w whole_rows e g cs cs)
      (copy-stands e is w whole_rows g also c c (ltb-true c w (and-left (nat_lt c w) (all_below w cs) l)) refl)
      (whole-stand w g also cs (and-right (nat_lt c w) (all_below w cs) l))

  source-as : (w : ℕ) (k : Copying) (g : Equality) → IsEquivalence g → (p : Plan) → is_one (size p) ≡ false → (r : Route) (cs : List ℕ) → all_below w cs ≡ true
      → if_some (sources k cs) (λ ds. has p (routed r ds)) ≡ true → routed_as w k e g (claim p).part (routed r cs) ≡ true
  source-as w k g also p n r cs l h =
      let t = some-is (sources k cs) (λ ds. has p (routed r ds)) h in
      given-as e is w k g (claim p).part r t.0 cs (sources-stand w k g also cs t.0 l t.1) (has-gives p (routed r t.0) n t.2)

  kept-as : (w : ℕ) (kept : List ℕ) (g : Equality) → IsEquivalence g → (p : Plan) → is_one (size p) ≡ false → (r : Route) (cs : List ℕ) → all_below w cs ≡ true
      → if_some (copied kept cs) (λ ds. has p (routed r ds)) ≡ true → routed_as w (columns_kept kept) e g (claim p).part (routed r cs) ≡ true
  kept-as w kept g also p n r cs l h = source-as w (columns_kept kept) g also p n r cs l (ap (λ o. if_some o (λ ds. has p (routed r ds))) (sources-kept kept cs) ∙ h)

  entries-as : (w : ℕ) (ks : List (Option ℕ)) (g : Equality) → IsEquivalence g → (p : Plan) → is_one (size p) ≡ false → (r : Route) (cs : List ℕ) → all_below w cs ≡ true
      → if_some (copied_from ks cs) (λ ds. has p (routed r ds)) ≡ true → routed_as w (entries_kept ks) e g (claim p).part (routed r cs) ≡ true
  entries-as w ks g also p n r cs l h = source-as w (entries_kept ks) g also p n r cs l (ap (λ o. if_some o (λ ds. has p (routed r ds))) (sources-entries ks cs) ∙ h)

  group-as : (w : ℕ) (phase : Phase) (by : List ℕ) (aggregates : List Aggregate) (g : Equality) (q z : Part) → routed_as w (columns_kept by) e g q z ≡ true
      → routed_as w (described (group phase by aggregates)).copying e g q z ≡ true
  group-as w plain by aggregates g q z h = h
  group-as w partial by aggregates g q z h = h
  group-as w final by aggregates g q z h = h

  first-as : (w : ℕ) (op : Unary) (g : Equality) → IsEquivalence g → (p : Plan) → is_one (size p) ≡ false → (r : Route) (cs : List ℕ) → all_below w cs ≡ true
      → unary_shows op p (routed r cs) ≡ true → routed_as w (described op).copying e g (claim p).part (routed r cs) ≡ true
  first-as w (select fs) g also p n r cs l h = given-as e is w whole_rows g (claim p).part r cs cs (whole-stand w g also cs l) (has-gives p (routed r cs) n h)
  first-as w (project es) g also p n r cs l h = entries-as w (map kept_column es) g also p n r cs l h
  first-as w (distinct cols) g also p n r cs l h = kept-as w cols g also p n r cs l h
  first-as w (sort of_parts order) g also p n r cs l h = given-as e is w whole_rows g (claim p).part r cs cs (whole-stand w g also cs l) (has-gives p (routed r cs) n h)
  first-as w (group phase by aggregates) g also p n r cs l h = group-as w phase by aggregates g (claim p).part (routed r cs) (kept-as w by g also p n r cs l h)
  first-as w (limit m) g also p n r cs l h = given-as e is w whole_rows g (claim p).part r cs cs (whole-stand w g also cs l) (has-gives p (routed r cs) n h)

  unary-any : (op : Unary) (p s : Plan) → InPlace e p s → unary_shows op p any ≡ true → unary_shows op s any ≡ true
  unary-any (select fs) p s i h = has-any p s i h
  unary-any (project es) p s i h = has-any p s i h
  unary-any (distinct cols) p s i h = has-any p s i h
  unary-any (sort of_parts order) p s i h = has-any p s i h
  unary-any (group phase by aggregates) p s i h = has-any p s i h
  unary-any (limit m) p s i h = has-any p s i h

  unary-all : (op : Unary) (p s : Plan) → InPlace e p s → unary_shows op p all ≡ true → unary_shows op s all ≡ true
  unary-all (select fs) p s i h = has-all p s i h
  unary-all (project es) p s i h = has-all p s i h
  unary-all (distinct cols) p s i h = has-all p s i h
  unary-all (sort of_parts order) p s i h = has-all p s i h
  unary-all (group phase by aggregates) p s i h = has-all p s i h
  unary-all (limit m) p s i h = has-all p s i h

  not-so : {A : Type 0} (b : Bool) → b ≡ false → b ≡ true → A
  not-so b i h = absurd (true≢false (sym h ∙ i))

  pub unary-shown : (w : ℕ) (op : Unary) (g : Equality) → IsEquivalence g → (p s : Plan) → InPlace e p s → is_one (size p) ≡ false → (q : Part) → all_below w (part_columns q) ≡ true
      → (unless_one (unary_shows op p) q || routed_as w (described op).copying e g (claim p).part q) ≡ true
      → (unless_one (unary_shows op s) q || routed_as w (described op).copying e g (claim s).part q) ≡ true
  unary-shown w op g also p s i n one l h = not-so (routed_as w (described op).copying e g (claim p).part one) (as-one w (described op).copying g (claim p).part) h
  unary-shown w op g also p s i n any l h =
      or-left (unary_shows op s any) (routed_as w (described op).copying e g (claim s).part any)
      (unary-any op p s i
      (⊎_elim (λ j. j) (λ j. not-so (routed_as w (described op).copying e g (claim p).part any) (as-any w (described op).copying g (claim p).part) j)
      (or-cases (unary_shows op p any) (routed_as w (described op).copying e g (claim p).part any) h)))
  unary-shown w op g also p s i n all l h =
      or-left (unary_shows op s all) (routed_as w (described op).copying e g (claim s).part all)
      (unary-all op p s i
      (⊎_elim (λ j. j) (λ j. not-so (routed_as w (described op).copying e g (claim p).part all) (as-all w (described op).copying g (claim p).part) j)
      (or-cases (unary_shows op p all) (routed_as w (described op).copying e g (claim p).part all) h)))
  unary-shown w op g also p s i n (routed r cs) l h =
      let k : Copying = (described op).copying in
      or-right (unary_shows op s (routed r cs)) (routed_as w k e g (claim s).part (routed r cs))
      (as-told e is w k g (claim s).part (claim p).part (routed r cs) (i.part n)
      (⊎_elim (λ j. first-as w op g also p n r cs l j) (λ j. j) (or-cases (unary_shows op p (routed r cs)) (routed_as w k e g (claim p).part (routed r cs)) h)))

-- ---- two inputs

module _ (e f : Equality) (is : IsEquivalence e) (also : IsEquivalence f) (p q s t : Plan) (left : InPlace e p s) (right : InPlace f q t) where
  pub union-inputs : (((is_one (size p) || binary_inputs_match union p q)) || false) ≡ true → ((is_one (size s) || binary_inputs_match union s t) || false) ≡ true
  union-inputs h =
      or-more (is_one (size p) || binary_inputs_match union p q) false (is_one (size s) || binary_inputs_match union s t) false
      (or-more (is_one (size p)) (binary_inputs_match union p q) (is_one (size s)) (binary_inputs_match union s t) (λ j. left.alone ∙ j)
      (or-more (has p any && has q any) (has p all && has q all) (has s any && has t any) (has s all && has t all)
      (λ j. and-both (has s any) (has t any) (has-any e is p s left (and-left (has p any) (has q any) j)) (has-any f also q t right (and-right (has p any) (has q any) j)))
      (λ j. and-both (has s all) (has t all) (has-all e is p s left (and-left (has p all) (has q all) j)) (has-all f also q t right (and-right (has p all) (has q all) j)))))
      (λ j. j) h

  module _ (on : List (ℕ × ℕ)) (same : is_one (size q) ≡ is_one (size p)) where
    abbrev before : Bool
    before = routed_alike_equally e f on (claim p).part (claim q).part

    abbrev after : Bool
    after = routed_alike_equally e f on (claim s).part (claim t).part

    alike-kept : is_one (size p) ≡ false → before ≡ true → after ≡ true
    alike-kept n h = alike-told e f is also on (claim s).part (claim p).part (claim t).part (claim q).part (left.part n) (right.part (same ∙ n)) h

    pub join-inputs : (m : JoinMethod) → ((is_one (size p) || binary_inputs_match (join m on) p q) || before) ≡ true → ((is_one (size s) || binary_inputs_match (join m on) s t) || after) ≡ true
    join-inputs m h = by (is_one (size p)) refl
      where
        by : (a : Bool) → is_one (size p) ≡ a → ((is_one (size s) || binary_inputs_match (join m on) s t) || after) ≡ true
        by true i = or-left (is_one (size s) || binary_inputs_match (join m on) s t) after (or-left (is_one (size s)) (binary_inputs_match (join m on) s t) (left.alone ∙ i))
        by false i =
            let x : Part = (claim p).part in
            let y : Part = (claim q).part in
            ⊎_elim
            (λ j. ⊎_elim
            (λ k. absurd (true≢false (sym k ∙ i)))
            (λ k. ⊎_elim
            (λ l. or-right (is_one (size s) || binary_inputs_match (join m on) s t) after (alike-kept i (alike-equally e f is also on x y l)))
            (λ l. or-left (is_one (size s) || binary_inputs_match (join m on) s t) after (or-right (is_one (size s)) (binary_inputs_match (join m on) s t)
            (joint (routed_alike on (claim s).part (claim t).part) (has t all) (has s all)
            (or-right (routed_alike on (claim s).part (claim t).part) (has t all || has s all)
            (or-more (has q all) (has p all) (has t all) (has s all) (has-all f also q t right) (has-all e is p s left) l)))))
            (or-cases (routed_alike on x y) (has q all || has p all) (split (routed_alike on x y) (has q all) (has p all) k)))
            (or-cases (is_one (size p)) (binary_inputs_match (join m on) p q) j))
            (λ j. or-right (is_one (size s) || binary_inputs_match (join m on) s t) after (alike-kept i j))
            (or-cases (is_one (size p) || binary_inputs_match (join m on) p q) before h)

    -- ---- what a join shows

    -- by columns of the output: at the left input, and at the right one
    module _ (v w : ℕ) (g : Equality) (these : IsEquivalence g) (longer : v ≤ w) where
      left-stand : (cs : List ℕ) → all_below v cs ≡ true → stand_for w (left_of v) e g cs cs ≡ true
      left-stand [] l = refl
      left-stand (c ∷ cs) l =
          let lc = ltb-true c v (and-left (nat_lt c v) (all_below v cs) l) in
          and-both (stands_for w (left_of v) e g c c) (stand_for w (left_of v) e g cs cs)
          (copy-stands e is w (left_of v) g these c c (omega (arith, lc, longer)) (ap (λ b. cond b (Some c) None) (and-left (nat_lt c v) (all_below v cs) l)))
          (left-stand cs (and-right (nat_lt c v) (all_below v cs) l))

      right-stand : (cs : List ℕ) → all_below w cs ≡ true → list_all (λ c. nat_le v c) cs ≡ true → stand_for w (right_of v) f g cs (map (λ c. c - v) cs) ≡ true
      right-stand [] l m = refl
      right-stand (c ∷ cs) l m =
          and-both (stands_for w (right_of v) f g c (c - v)) (stand_for w (right_of v) f g cs (map (λ x. x - v) cs))
          (copy-stands f also w (right_of v) g these c (c - v) (ltb-true c w (and-left (nat_lt c w) (all_below w cs) l))
          (ap (λ b. cond b (Some (c - v)) None) (and-left (nat_le v c) (list_all (λ x. nat_le v x) cs) m)))
          (right-stand cs (and-right (nat_lt c w) (all_below w cs) l) (and-right (nat_le v c) (list_all (λ x. nat_le v x) cs) m))

      cond-is : (b : Bool) (xs : List ℕ) (test : List ℕ → Bool) → if_some (cond b (Some xs) None) test ≡ true → (b ≡ true) × (test xs ≡ true)
      cond-is true xs test h = (refl, h)
      cond-is false xs test h = absurd (true≢false (sym h))

      gives-below : (x : Part) (r : Route) (cs : List ℕ) → part_gives x (routed r cs) ≡ true → all_below v (part_columns x) ≡ true → all_below v cs ≡ true
      gives-below one r cs h l = absurd (true≢false (sym h))
      gives-below any r cs h l = absurd (true≢false (sym h))
      gives-below all r cs h l = absurd (true≢false (sym h))
      gives-below (routed s es) r cs h l = subst (λ (xs : List ℕ). all_below v xs ≡ true) (numbers-is es cs (and-right (route_eq s r) (numbers_eq es cs) h)) l

      abbrev routed_before : Part → Bool
      routed_before x = join_routed v w e f g on p q x

      abbrev routed_after : Part → Bool
      routed_after x = join_routed v w e f g on s t x

      by-left : (x : Part) → (has q all || before) ≡ true → routed_as w (left_of v) e g (claim p).part x ≡ true → routed_before x ≡ true
      by-left x h k =
          or-left ((has q all || before) && routed_as w (left_of v) e g (claim p).part x) ((has p all || before) && routed_as w (right_of v) f g (claim q).part x)
          (and-both (has q all || before) (routed_as w (left_of v) e g (claim p).part x) h k)

      by-right : (x : Part) → (has p all || before) ≡ true → routed_as w (right_of v) f g (claim q).part x ≡ true → routed_before x ≡ true
      by-right x h k =
          or-right ((has q all || before) && routed_as w (left_of v) e g (claim p).part x) ((has p all || before) && routed_as w (right_of v) f g (claim q).part x)
          (and-both (has p all || before) (routed_as w (right_of v) f g (claim q).part x) h k)

      module _ (named : all_below v (part_columns (claim p).part) ≡ true) (several : is_one (size p) ≡ false) where
        left-as : (r : Route) (cs : List ℕ) → part_gives (claim p).part (routed r cs) ≡ true → routed_as w (left_of v) e g (claim p).part (routed r cs) ≡ true
        left-as r cs h = given-as e is w (left_of v) g (claim p).part r cs cs (left-stand cs (gives-below (claim p).part r cs h named)) h

        right-as : (r : Route) (cs : List ℕ) → all_below w cs ≡ true → (test : Part → Bool) → ((x : Part) → test x ≡ true → part_gives (claim q).part x ≡ true)
            → if_some (right_columns v cs) (λ ds. test (routed r ds)) ≡ true → routed_as w (right_of v) f g (claim q).part (routed r cs) ≡ true
        right-as r cs l test has_part h =
            let c = cond-is (list_all (λ x. nat_le v x) cs) (map (λ x. x - v) cs) (λ ds. test (routed r ds)) h in
            given-as f also w (right_of v) g (claim q).part r (map (λ x. x - v) cs) cs (right-stand cs l c.0) (has_part (routed r (map (λ x. x - v) cs)) c.1)

        -- what the first table shows of a route the second one shows
        first-routed : (r : Route) (cs : List ℕ) → all_below w cs ≡ true → join_shows on v p q (routed r cs) ≡ true → routed_before (routed r cs) ≡ true
        first-routed r cs l h =
            let x : Part = routed r cs in
            let one_way : Bool = routed_alike on (claim p).part (claim q).part && alike_shows v (claim p).part (claim q).part x in
            let two_way : Bool = has q all && through (has p) (left_columns v) x in
            let other_way : Bool = has p all && through (has q) (right_columns v) x in
            ⊎_elim
            (λ i.
            let alike : before ≡ true = alike-equally e f is also on (claim p).part (claim q).part
            (and-left (routed_alike on (claim p).part (claim q).part) (alike_shows v (claim p).part (claim q).part x) i) in
            ⊎_elim
            (λ j. by-left x (or-right (has q all) before alike) (left-as r cs j))
            (λ j. by-right x (or-right (has p all) before alike) (right-as r cs l (part_gives (claim q).part) (λ y m. m) j))
            (or-cases (part_gives (claim p).part x) (if_some (right_columns v cs) (λ ds. part_gives (claim q).part (routed r ds)))
            (and-right (routed_alike on (claim p).part (claim q).part) (alike_shows v (claim p).part (claim q).part x) i)))
            (λ i. ⊎_elim
            (λ j.
            let c = cond-is (list_all (λ y. nat_lt y v) cs) cs (λ ds. has p (routed r ds)) (and-right (has q all) (through (has p) (left_columns v) x) j) in
            by-left x (or-left (has q all) before (and-left (has q all) (through (has p) (left_columns v) x) j)) (left-as r cs (has-gives e is p x several c.1)))
            (λ j. by-right x (or-left (has p all) before (and-left (has p all) (through (has q) (right_columns v) x) j))
            (right-as r cs l (has q) (λ y m. has-gives f also q y (same ∙ several) m) (and-right (has p all) (through (has q) (right_columns v) x) j)))
            (or-cases two_way other_way i))
            (or-cases one_way (two_way || other_way) (split one_way two_way other_way h))

        routed-told : (x : Part) → routed_before x ≡ true → routed_after x ≡ true
        routed-told x h =
            let ls : Bool = routed_as w (left_of v) e g (claim p).part x in
            let rs : Bool = routed_as w (right_of v) f g (claim q).part x in
            let mt : Bool = routed_as w (left_of v) e g (claim s).part x in
            let nt : Bool = routed_as w (right_of v) f g (claim t).part x in
            or-more ((has q all || before) && ls) ((has p all || before) && rs) ((has t all || after) && mt) ((has s all || after) && nt)
            (λ i. and-both (has t all || after) mt (or-more (has q all) before (has t all) after (has-all f also q t right) (alike-kept several) (and-left (has q all || before) ls i))
            (as-told e is w (left_of v) g (claim s).part (claim p).part x (left.part several) (and-right (has q all || before) ls i)))
            (λ i. and-both (has s all || after) nt (or-more (has p all) before (has s all) after (has-all e is p s left) (alike-kept several) (and-left (has p all || before) rs i))
            (as-told f also w (right_of v) g (claim t).part (claim q).part x (right.part (same ∙ several)) (and-right (has p all || before) rs i)))
            h

        -- any, or all, where one input has all of its rows at each worker
        abbrev plain_ways : (Plan → Plan → Part → Bool)
        plain_ways x y z = (has y all && has x z) || (has x all && has y z)

        any-ways : plain_ways p q any ≡ true → plain_ways s t any ≡ true
        any-ways h =
            or-more (has q all && has p any) (has p all && has q any) (has t all && has s any) (has s all && has t any)
            (λ i. and-both (has t all) (has s any) (has-all f also q t right (and-left (has q all) (has p any) i)) (has-any e is p s left (and-right (has q all) (has p any) i)))
            (λ i. and-both (has s all) (has t any) (has-all e is p s left (and-left (has p all) (has q any) i)) (has-any f also q t right (and-right (has p all) (has q any) i))) h

        all-ways : plain_ways p q all ≡ true → plain_ways s t all ≡ true
        all-ways h =
            or-more (has q all && has p all) (has p all && has q all) (has t all && has s all) (has s all && has t all)
            (λ i. and-both (has t all) (has s all) (has-all f also q t right (and-left (has q all) (has p all) i)) (has-all e is p s left (and-right (has q all) (has p all) i)))
            (λ i. and-both (has s all) (has t all) (has-all e is p s left (and-left (has p all) (has q all) i)) (has-all f also q t right (and-right (has p all) (has q all) i))) h

        pub join-shown : (x : Part) → all_below w (part_columns x) ≡ true → (unless_one (join_shows on v p q) x || ((is_any x && before) || routed_before x)) ≡ true
            → (unless_one (join_shows on v s t) x || ((is_any x && after) || routed_after x)) ≡ true
        join-shown one l h = routed-told one h
        join-shown any l h =
            let alike : before ≡ true → (join_shows on v s t any || (after || routed_after any)) ≡ true =
            λ i. or-right (join_shows on v s t any) (after || routed_after any) (or-left after (routed_after any) (alike-kept several i)) in
            ⊎_elim
            (λ i. ⊎_elim
            (λ j. alike (alike-equally e f is also on (claim p).part (claim q).part (and-left (routed_alike on (claim p).part (claim q).part) true j)))
            (λ j. or-left (join_shows on v s t any) (after || routed_after any)
            (joint (routed_alike on (claim s).part (claim t).part && true) (has t all && has s any) (has s all && has t any)
            (or-right (routed_alike on (claim s).part (claim t).part && true) (plain_ways s t any) (any-ways j))))
            (or-cases (routed_alike on (claim p).part (claim q).part && true) (plain_ways p q any)
            (split (routed_alike on (claim p).part (claim q).part && true) (has q all && has p any) (has p all && has q any) i)))
            (λ i. ⊎_elim alike
            (λ j. or-right (join_shows on v s t any) (after || routed_after any) (or-right after (routed_after any) (routed-told any j)))
            (or-cases before (routed_before any) i))
            (or-cases (join_shows on v p q any) (before || routed_before any) h)
        join-shown all l h =
            ⊎_elim
            (λ i. ⊎_elim
            (λ j. absurd (true≢false (sym (and-right (routed_alike on (claim p).part (claim q).part) false j))))
            (λ j. or-left (join_shows on v s t all) (routed_after all)
            (joint (routed_alike on (claim s).part (claim t).part && false) (has t all && has s all) (has s all && has t all)
            (or-right (routed_alike on (claim s).part (claim t).part && false) (plain_ways s t all) (all-ways j))))
            (or-cases (routed_alike on (claim p).part (claim q).part && false) (plain_ways p q all)
            (split (routed_alike on (claim p).part (claim q).part && false) (has q all && has p all) (has p all && has q all) i)))
            (λ i. or-right (join_shows on v s t all) (routed_after all) (routed-told all i))
            (or-cases (join_shows on v p q all) (routed_before all) h)
        join-shown (routed r cs) l h =
            or-right (join_shows on v s t (routed r cs)) (routed_after (routed r cs))
            (routed-told (routed r cs)
            (⊎_elim (λ i. first-routed r cs l i) (λ i. i) (or-cases (join_shows on v p q (routed r cs)) (routed_before (routed r cs)) h)))

    -- ---- what a union shows

    abbrev both_before : Part → Bool
    both_before x = part_matches e (claim p).part x && part_matches f (claim q).part x

    abbrev both_after : Part → Bool
    both_after x = part_matches e (claim s).part x && part_matches f (claim t).part x

    both-told : is_one (size p) ≡ false → (x : Part) → both_before x ≡ true → both_after x ≡ true
    both-told n x h =
        and-both (part_matches e (claim s).part x) (part_matches f (claim t).part x)
        (told-matches e is (claim s).part (claim p).part x (left.part n) (and-left (part_matches e (claim p).part x) (part_matches f (claim q).part x) h))
        (told-matches f also (claim t).part (claim q).part x (right.part (same ∙ n)) (and-right (part_matches e (claim p).part x) (part_matches f (claim q).part x) h))

    pub union-shown : is_one (size p) ≡ false → (x : Part) → (unless_one (both_have p q) x || both_before x) ≡ true → (unless_one (both_have s t) x || both_after x) ≡ true
    union-shown n one h = both-told n one h
    union-shown n any h =
        or-more (has p any && has q any) (both_before any) (has s any && has t any) (both_after any)
        (λ i. and-both (has s any) (has t any) (has-any e is p s left (and-left (has p any) (has q any) i)) (has-any f also q t right (and-right (has p any) (has q any) i)))
        (both-told n any) h
    union-shown n all h =
        or-more (has p all && has q all) (both_before all) (has s all && has t all) (both_after all)
        (λ i. and-both (has s all) (has t all) (has-all e is p s left (and-left (has p all) (has q all) i)) (has-all f also q t right (and-right (has p all) (has q all) i)))
        (both-told n all) h
    union-shown n (routed r cs) h =
        let x : Part = routed r cs in
        or-right (has s x && has t x) (both_after x)
        (both-told n x
        (⊎_elim
        (λ i. and-both (part_matches e (claim p).part x) (part_matches f (claim q).part x)
        (gives-matches e is (claim p).part r cs (has-gives e is p x n (and-left (has p x) (has q x) i)))
        (gives-matches f also (claim q).part r cs (has-gives f also q x (same ∙ n) (and-right (has p x) (has q x) i))))
        (λ i. i)
        (or-cases (has p x && has q x) (both_before x) h)))
