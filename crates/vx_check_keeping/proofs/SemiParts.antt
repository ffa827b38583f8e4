-- What a semi and an anti join ask and show over inputs that claim some parts they ask and show over inputs whose parts tell those.
use Rattle.std.proofs.Common.{◌≡◌, ℕ, Bool, true, false, ◌&&◌, ◌||◌, ⊎_elim, List, refl, sym, ◌∙◌, true≢false}
use Rattle.vx_rows_values.proofs.Booleans.{and-left, and-right, and-both}
use Rattle.vx_catalog_relations.specs.Catalog.{all_below}
use Rattle.vx_plan_nodes.specs.Plan.{Route, Part, one, any, all, routed, Plan, claim, size, is_one}
use Rattle.vx_plan_nodes.specs.Types.{part_columns}
use Rattle.vx_plan_nodes.specs.Describe.{whole_rows}
use Rattle.vx_plan_facts.specs.Equal.{Equality}
use Rattle.vx_plan_facts.proofs.Tests.{or-cases, or-left, or-right, or-more}
use Rattle.vx_check_rules.specs.Rules.{part_gives, has, routed_alike, semi_join_shows, unless_one}
use Rattle.vx_check_rules.specs.Derived.{routed_alike_equally, routed_as, semi_join_routed, is_any}
use Rattle.vx_check_keeping.specs.Laws.{IsEquivalence}
use Rattle.vx_check_keeping.proofs.PartsTold.{as-told, given-as, alike-equally, alike-told}
use Rattle.vx_check_keeping.proofs.PartsKept.{InPlace, has-any, has-all, has-gives, whole-stand}

-- a routed part does not give all
alike-not-all : (on : List (ℕ × ℕ)) (x y : Part) → (routed_alike on x y && part_gives x all) ≡ true → ⊥
alike-not-all on one y h = absurd (true≢false (sym h))
alike-not-all on any y h = absurd (true≢false (sym h))
alike-not-all on all y h = absurd (true≢false (sym h))
alike-not-all on (routed r cs) y h = absurd (true≢false (sym (and-right (routed_alike on (routed r cs) y) false h)))

module _ (e f : Equality) (is : IsEquivalence e) (also : IsEquivalence f) (p q s t : Plan) (left : InPlace e p s) (right : InPlace f q t)
    (on : List (ℕ × ℕ)) (same : is_one (size q) ≡ is_one (size p)) where
  -- by the first table, and by equal columns
  abbrev meets : Plan → Plan → Bool
  meets x y = routed_alike on (claim x).part (claim y).part

  abbrev before : Bool
  before = routed_alike_equally e f on (claim p).part (claim q).part

  abbrev after : Bool
  after = routed_alike_equally e f on (claim s).part (claim t).part

  alike-kept : is_one (size p) ≡ false → before ≡ true → after ≡ true
  alike-kept n h = alike-told e f is also on (claim s).part (claim p).part (claim t).part (claim q).part (left.part n) (right.part (same ∙ n)) h

  meets-kept : is_one (size p) ≡ false → meets p q ≡ true → after ≡ true
  meets-kept n h = alike-kept n (alike-equally e f is also on (claim p).part (claim q).part h)

  pub semi-inputs : ((is_one (size p) || (meets p q || has q all)) || before) ≡ true → ((is_one (size s) || (meets s t || has t all)) || after) ≡ true
  semi-inputs h = by (is_one (size p)) refl
    where
      by : (a : Bool) → is_one (size p) ≡ a → ((is_one (size s) || (meets s t || has t all)) || after) ≡ true
      by true i = or-left (is_one (size s) || (meets s t || has t all)) after (or-left (is_one (size s)) (meets s t || has t all) (left.alone ∙ i))
      by false i =
          ⊎_elim
          (λ j. ⊎_elim
          (λ k. absurd (true≢false (sym k ∙ i)))
          (λ k. ⊎_elim
          (λ l. or-right (is_one (size s) || (meets s t || has t all)) after (meets-kept i l))
          (λ l. or-left (is_one (size s) || (meets s t || has t all)) after (or-right (is_one (size s)) (meets s t || has t all)
          (or-right (meets s t) (has t all) (has-all f also q t right l))))
          (or-cases (meets p q) (has q all) k))
          (or-cases (is_one (size p)) (meets p q || has q all) j))
          (λ j. or-right (is_one (size s) || (meets s t || has t all)) after (alike-kept i j))
          (or-cases (is_one (size p) || (meets p q || has q all)) before h)

  -- ---- what they show, of columns of the output

  module _ (w : ℕ) (g : Equality) (these : IsEquivalence g) (several : is_one (size p) ≡ false) where
    abbrev routed_before : Part → Bool
    routed_before x = semi_join_routed w e f g on p q x

    abbrev routed_after : Part → Bool
    routed_after x = semi_join_routed w e f g on s t x

    routed-told : (x : Part) → routed_before x ≡ true → routed_after x ≡ true
    routed-told x h =
        let ls : Bool = routed_as w whole_rows e g (claim p).part x in
        and-both (has t all || after) (routed_as w whole_rows e g (claim s).part x)
        (or-more (has q all) before (has t all) after (has-all f also q t right) (alike-kept several) (and-left (has q all || before) ls h))
        (as-told e is w whole_rows g (claim s).part (claim p).part x (left.part several) (and-right (has q all || before) ls h))

    -- what the first table shows of a route the second one shows
    gives-routed : (r : Route) (cs : List ℕ) → all_below w cs ≡ true → (has q all || before) ≡ true → part_gives (claim p).part (routed r cs) ≡ true
        → routed_before (routed r cs) ≡ true
    gives-routed r cs l h k =
        and-both (has q all || before) (routed_as w whole_rows e g (claim p).part (routed r cs)) h
        (given-as e is w whole_rows g (claim p).part r cs cs (whole-stand e is w g these cs l) k)

    first-routed : (r : Route) (cs : List ℕ) → all_below w cs ≡ true → semi_join_shows on p q (routed r cs) ≡ true → routed_before (routed r cs) ≡ true
    first-routed r cs l h =
        let x : Part = routed r cs in
        ⊎_elim
        (λ i. gives-routed r cs l (or-right (has q all) before (alike-equally e f is also on (claim p).part (claim q).part (and-left (meets p q) (part_gives (claim p).part x) i)))
        (and-right (meets p q) (part_gives (claim p).part x) i))
        (λ i. gives-routed r cs l (or-left (has q all) before (and-left (has q all) (has p x) i)) (has-gives e is p x several (and-right (has q all) (has p x) i)))
        (or-cases (meets p q && part_gives (claim p).part x) (has q all && has p x) h)

    -- over a whole right input
    whole-way : (x : Part) → (has p x ≡ true → has s x ≡ true) → (has q all && has p x) ≡ true → semi_join_shows on s t x ≡ true
    whole-way x kept h =
        or-right (meets s t && part_gives (claim s).part x) (has t all && has s x)
        (and-both (has t all) (has s x) (has-all f also q t right (and-left (has q all) (has p x) h)) (kept (and-right (has q all) (has p x) h)))

    pub semi-shown : (x : Part) → all_below w (part_columns x) ≡ true → (unless_one (semi_join_shows on p q) x || ((is_any x && before) || routed_before x)) ≡ true
        → (unless_one (semi_join_shows on s t) x || ((is_any x && after) || routed_after x)) ≡ true
    semi-shown one l h = routed-told one h
    semi-shown any l h =
        let alike : after ≡ true → (semi_join_shows on s t any || (after || routed_after any)) ≡ true =
        λ i. or-right (semi_join_shows on s t any) (after || routed_after any) (or-left after (routed_after any) i) in
        ⊎_elim
        (λ i. ⊎_elim
        (λ j. alike (meets-kept several (and-left (meets p q) (part_gives (claim p).part any) j)))
        (λ j. or-left (semi_join_shows on s t any) (after || routed_after any) (whole-way any (has-any e is p s left) j))
        (or-cases (meets p q && part_gives (claim p).part any) (has q all && has p any) i))
        (λ i. ⊎_elim
        (λ j. alike (alike-kept several j))
        (λ j. or-right (semi_join_shows on s t any) (after || routed_after any) (or-right after (routed_after any) (routed-told any j)))
        (or-cases before (routed_before any) i))
        (or-cases (semi_join_shows on p q any) (before || routed_before any) h)
    semi-shown all l h =
        ⊎_elim
        (λ i. ⊎_elim
        (λ j. absurd (alike-not-all on (claim p).part (claim q).part j))
        (λ j. or-left (semi_join_shows on s t all) (routed_after all) (whole-way all (has-all e is p s left) j))
        (or-cases (meets p q && part_gives (claim p).part all) (has q all && has p all) i))
        (λ i. or-right (semi_join_shows on s t all) (routed_after all) (routed-told all i))
        (or-cases (semi_join_shows on p q all) (routed_before all) h)
    semi-shown (routed r cs) l h =
        or-right (semi_join_shows on s t (routed r cs)) (routed_after (routed r cs))
        (routed-told (routed r cs)
        (⊎_elim (λ i. first-routed r cs l i) (λ i. i) (or-cases (semi_join_shows on p q (routed r cs)) (routed_before (routed r cs)) h)))
