-- The columns that stand for those of an input: where they are, and that they are found where some stand so.
use Rattle.std.proofs.Common.{◌≡◌, ◌∙◌, ℕ, ◌<◌, nat_lt, Bool, true, false, cond, ◌&&◌, List, [], ◌∷◌, Option, Some, None, refl, ap, ap₂, sym, subst, arith}
use Rattle.std.proofs.lemmas.Bool.Decides.{nat_tests}
use Rattle.vx_rows_values.proofs.Booleans.{and-left, and-right, and-both}
use Rattle.vx_catalog_relations.specs.Catalog.{all_below}
use Rattle.vx_plan_nodes.specs.Describe.{Copying, source, place}
use Rattle.vx_plan_facts.specs.Equal.{Equality}
use Rattle.vx_plan_facts.specs.Determined.{column_in}
use Rattle.vx_plan_facts.specs.Following.{equal_lists}
use Rattle.vx_plan_facts.proofs.Tests.{any-first}
use Rattle.vx_plan_facts.proofs.ColumnSets.{any-at}
use Rattle.vx_check_rules.specs.Refusal.{or_else}
use Rattle.vx_check_rules.specs.Rules.{cons_both}
use Rattle.vx_check_rules.specs.Behaviour.{sources}
use Rattle.vx_check_rules.specs.Derived.{copy_of, stands_for, stand_for}
use Rattle.vx_check_rules.proofs.Carrying.{copies-back}
use Rattle.vx_check_shown.specs.ShownPart.{if_within, stand_in, stand_ins, common_column, common_columns}
use Rattle.vx_check_shown.proofs.Equivalent.{IsEquivalence}
use Rattle.vx_check_shown.proofs.Finding.{Found, first-in, first-some, consed}

pub is-below : (c w : ℕ) → nat_lt c w ≡ true → c < w
is-below c w h = grind (arith, nat_tests)

-- copies of equal columns of the input are equal
abbrev pub Lifts : Copying → Equality → Equality → Type 0
Lifts k e g = (a b y z : ℕ) → source k a ≡ Some y → source k b ≡ Some z → e y z ≡ true → g a b ≡ true

-- the column is a copy of one that is equal to x
abbrev pub copied : Copying → Equality → ℕ → ℕ → Bool
copied k e x c = column_in (λ y. e y x) (source k c)

module _ (w : ℕ) (k : Copying) (e : Equality) (is : IsEquivalence e) where
  -- where a column stands
  stand-by : (x c : ℕ) (o : Option ℕ) → place k x ≡ o → or_else (if_within w o) (copy_of w k e x) ≡ Some c → Found (copied k e x) w c
  stand-by x c None at h = first-in (copied k e x) w c h
  stand-by x c (Some d) at h = go (nat_lt d w) refl h
    where
      go : (b : Bool) → nat_lt d w ≡ b → or_else (cond b (Some d) None) (copy_of w k e x) ≡ Some c → Found (copied k e x) w c
      go true l h =
          let s : d ≡ c = cc in
          subst (λ v. Found (copied k e x) w v) s (record { within = is-below d w l; passes = ap (column_in (λ y. e y x)) (copies-back k x d at) ∙ is.itself x })
      go false l h = first-in (copied k e x) w c h

  pub stand-is : (x c : ℕ) → stand_in w k e x ≡ Some c → Found (copied k e x) w c
  stand-is x c h = stand-by x c (place k x) refl h

  -- it stands somewhere, where it is copied
  some-of : (o p : Option ℕ) → ((c : ℕ) × (p ≡ Some c)) → (c : ℕ) × (or_else o p ≡ Some c)
  some-of None p h = h
  some-of (Some d) p h = (d, refl)

  pub stands-somewhere : (x d : ℕ) → d < w → copied k e x d ≡ true → (c : ℕ) × (stand_in w k e x ≡ Some c)
  stands-somewhere x d l h = some-of (if_within w (place k x)) (copy_of w k e x) (first-some (copied k e x) w d l h)

  pub ins-below : (xs cs : List ℕ) → stand_ins w k e xs ≡ Some cs → all_below w cs ≡ true
  ins-below [] cs h = let s : [] ≡ cs = cc in subst (λ v. all_below w v ≡ true) s refl
  ins-below (x ∷ xs) cs h =
      let u = consed (stand_in w k e x) (stand_ins w k e xs) cs h in
      subst (λ v. all_below w v ≡ true) (sym u.is) (and-both (nat_lt u.first w) (all_below w u.rest) (below u.first w (stand-is x u.first u.first_is).within) (ins-below xs u.rest u.rest_is))
    where
      below : (c v : ℕ) → c < v → nat_lt c v ≡ true
      below c v l = grind (arith, nat_tests)

  module _ (g : Equality) (out : IsEquivalence g) where
    -- those that are found stand for theirs
    pub stands-own : (c x : ℕ) → c < w → copied k e x c ≡ true → stands_for w k e g c x ≡ true
    stands-own c x l h = any-at (λ d. g d c && copied k e x d) w c l (and-both (g c c) (copied k e x c) (out.itself c) h)

    pub ins-stand : (xs cs : List ℕ) → stand_ins w k e xs ≡ Some cs → stand_for w k e g cs xs ≡ true
    ins-stand [] cs h = let s : [] ≡ cs = cc in subst (λ v. stand_for w k e g v [] ≡ true) s refl
    ins-stand (x ∷ xs) cs h =
        let u = consed (stand_in w k e x) (stand_ins w k e xs) cs h in
        let f = stand-is x u.first u.first_is in
        subst (λ v. stand_for w k e g v (x ∷ xs) ≡ true) (sym u.is)
        (and-both (stands_for w k e g u.first x) (stand_for w k e g u.rest xs) (stands-own u.first x f.within f.passes) (ins-stand xs u.rest u.rest_is))

    -- columns that are copies stand for those of which they are
    pub sources-stand : (ds xs : List ℕ) → sources k ds ≡ Some xs → all_below w ds ≡ true → stand_for w k e g ds xs ≡ true
    sources-stand [] xs h l = let s : [] ≡ xs = cc in subst (λ v. stand_for w k e g [] v ≡ true) s refl
    sources-stand (d ∷ ds) xs h l =
        let u = consed (source k d) (sources k ds) xs h in
        let m : d < w = is-below d w (and-left (nat_lt d w) (all_below w ds) l) in
        subst (λ v. stand_for w k e g (d ∷ ds) v ≡ true) (sym u.is)
        (and-both (stands_for w k e g d u.first) (stand_for w k e g ds u.rest)
        (stands-own d u.first m (ap (column_in (λ y. e y u.first)) u.first_is ∙ is.itself u.first))
        (sources-stand ds u.rest u.rest_is (and-right (nat_lt d w) (all_below w ds) l)))

    -- equal columns stand for the same
    pub stands-equally : (c d x : ℕ) → stands_for w k e g c x ≡ true → g c d ≡ true → stands_for w k e g d x ≡ true
    stands-equally c d x h s =
        let u = any-first (λ b. g b c && copied k e x b) w h in
        let near = and-left (g u.0 c) (copied k e x u.0) u.2 in
        any-at (λ b. g b d && copied k e x b) w u.0 u.1 (and-both (g u.0 d) (copied k e x u.0) (out.chain u.0 c d near s) (and-right (g u.0 c) (copied k e x u.0) u.2))

    pub stand-equally : (cs ds xs : List ℕ) → stand_for w k e g cs xs ≡ true → equal_lists g cs ds ≡ true → stand_for w k e g ds xs ≡ true
    stand-equally [] [] xs h s = h
    stand-equally [] (d ∷ ds) xs h s = cc
    stand-equally (c ∷ cs) [] xs h s = cc
    stand-equally (c ∷ cs) (d ∷ ds) [] h s = cc
    stand-equally (c ∷ cs) (d ∷ ds) (x ∷ xs) h s =
        and-both (stands_for w k e g d x) (stand_for w k e g ds xs)
        (stands-equally c d x (and-left (stands_for w k e g c x) (stand_for w k e g cs xs) h) (and-left (g c d) (equal_lists g cs ds) s))
        (stand-equally cs ds xs (and-right (stands_for w k e g c x) (stand_for w k e g cs xs) h) (and-right (g c d) (equal_lists g cs ds) s))

    -- those that stand for columns are equal to those that are found
    source-of : (o : Option ℕ) (x : ℕ) → column_in (λ y. e y x) o ≡ true → (y : ℕ) × (o ≡ Some y) × (e y x ≡ true)
    source-of None x h = cc
    source-of (Some y) x h = (y, refl, h)

    one-found : Lifts k e g → (d x : ℕ) → stands_for w k e g d x ≡ true → (c : ℕ) × (stand_in w k e x ≡ Some c) × (g c d ≡ true)
    one-found lifts d x h =
        let u = any-first (λ b. g b d && copied k e x b) w h in
        let there = and-right (g u.0 d) (copied k e x u.0) u.2 in
        let r = stands-somewhere x u.0 u.1 there in
        let s = source-of (source k r.0) x (stand-is x r.0 r.1).passes in
        let t = source-of (source k u.0) x there in
        (r.0, r.1, out.chain r.0 u.0 d (lifts r.0 u.0 s.0 t.0 s.1 t.1 (is.chain s.0 x t.0 s.2 (is.swap t.0 x t.2))) (and-left (g u.0 d) (copied k e x u.0) u.2))

    pub ins-found : Lifts k e g → (ds xs : List ℕ) → stand_for w k e g ds xs ≡ true → (cs : List ℕ) × (stand_ins w k e xs ≡ Some cs) × (equal_lists g cs ds ≡ true)
    ins-found lifts [] [] h = ([], refl, refl)
    ins-found lifts [] (x ∷ xs) h = cc
    ins-found lifts (d ∷ ds) [] h = cc
    ins-found lifts (d ∷ ds) (x ∷ xs) h =
        let r = one-found lifts d x (and-left (stands_for w k e g d x) (stand_for w k e g ds xs) h) in
        let s = ins-found lifts ds xs (and-right (stands_for w k e g d x) (stand_for w k e g ds xs) h) in
        (r.0 ∷ s.0, ap₂ cons_both r.1 s.1, and-both (g r.0 d) (equal_lists g s.0 ds) r.2 s.2)

-- ---- rows side by side

module _ (w : ℕ) (e f : Equality) (left : IsEquivalence e) (right : IsEquivalence f) where
  abbrev both : Equality
  both a b = e a b && f a b

  pub commons-below : (as' bs cs : List ℕ) → common_columns w e f as' bs ≡ Some cs → all_below w cs ≡ true
  commons-below [] [] cs h = let s : [] ≡ cs = cc in subst (λ v. all_below w v ≡ true) s refl
  commons-below [] (b ∷ bs) cs h = cc
  commons-below (a ∷ as') [] cs h = cc
  commons-below (a ∷ as') (b ∷ bs) cs h =
      let u = consed (common_column w e f a b) (common_columns w e f as' bs) cs h in
      subst (λ v. all_below w v ≡ true) (sym u.is)
      (and-both (nat_lt u.first w) (all_below w u.rest) (below u.first w (first-in (λ c. e a c && f b c) w u.first u.first_is).within) (commons-below as' bs u.rest u.rest_is))
    where
      below : (c v : ℕ) → c < v → nat_lt c v ≡ true
      below c v l = grind (arith, nat_tests)

  -- they are equal to the columns of either input
  pub commons-equal : (as' bs cs : List ℕ) → common_columns w e f as' bs ≡ Some cs → (equal_lists e as' cs ≡ true) × (equal_lists f bs cs ≡ true)
  commons-equal [] [] cs h = let s : [] ≡ cs = cc in subst (λ v. (equal_lists e [] v ≡ true) × (equal_lists f [] v ≡ true)) s (refl, refl)
  commons-equal [] (b ∷ bs) cs h = cc
  commons-equal (a ∷ as') [] cs h = cc
  commons-equal (a ∷ as') (b ∷ bs) cs h =
      let u = consed (common_column w e f a b) (common_columns w e f as' bs) cs h in
      let t = (first-in (λ c. e a c && f b c) w u.first u.first_is).passes in
      let more = commons-equal as' bs u.rest u.rest_is in
      subst (λ v. (equal_lists e (a ∷ as') v ≡ true) × (equal_lists f (b ∷ bs) v ≡ true)) (sym u.is)
      (and-both (e a u.first) (equal_lists e as' u.rest) (and-left (e a u.first) (f b u.first) t) more.0, and-both (f b u.first) (equal_lists f bs u.rest) (and-right (e a u.first) (f b u.first) t) more.1)

  pub commons-found : (as' bs ds : List ℕ) → all_below w ds ≡ true → equal_lists e as' ds ≡ true → equal_lists f bs ds ≡ true
      → (cs : List ℕ) × (common_columns w e f as' bs ≡ Some cs) × (equal_lists both cs ds ≡ true)
  commons-found [] [] [] l h k = ([], refl, refl)
  commons-found [] (b ∷ bs) [] l h k = cc
  commons-found (a ∷ as') bs [] l h k = cc
  commons-found [] bs (d ∷ ds) l h k = cc
  commons-found (a ∷ as') [] (d ∷ ds) l h k = cc
  commons-found (a ∷ as') (b ∷ bs) (d ∷ ds) l h k =
      let test : ℕ → Bool = λ c. e a c && f b c in
      let ed = and-left (e a d) (equal_lists e as' ds) h in
      let fd = and-left (f b d) (equal_lists f bs ds) k in
      let r = first-some test w d (is-below d w (and-left (nat_lt d w) (all_below w ds) l)) (and-both (e a d) (f b d) ed fd) in
      let t = (first-in test w r.0 r.1).passes in
      let s = commons-found as' bs ds (and-right (nat_lt d w) (all_below w ds) l) (and-right (e a d) (equal_lists e as' ds) h) (and-right (f b d) (equal_lists f bs ds) k) in (
        r.0 ∷ s.0,
        ap₂ cons_both r.1 s.1,
        and-both (both r.0 d) (equal_lists both s.0 ds)
            (and-both (e r.0 d) (f r.0 d) (left.chain r.0 a d (left.swap a r.0 (and-left (e a r.0) (f b r.0) t)) ed) (right.chain r.0 b d (right.swap b r.0 (and-right (e a r.0) (f b r.0) t)) fd))
            s.2,
      )
