-- The parts of nodes, as the program finds them by what is known of columns, are those of the table.
use Rattle.std.proofs.Common.{◌≡◌, ◌∙◌, ℕ, zero, suc, ◌+◌, ◌<◌, ◌≤◌, nat_lt, Bool, true, cond, not, ◌&&◌, List, [], ◌∷◌, ◌++◌, length, Option, Some, None, refl, ap, ap₂, sym, subst, arith}
use Rattle.std.specs.List.{filter}
use Rattle.std.specs.Option.{option_and_then}
use Rattle.std.proofs.lemmas.Bool.Decides.{nat_tests}
use Rattle.vx_rows_values.proofs.Booleans.{and-left, and-right}
use Rattle.vx_catalog_relations.specs.Catalog.{all_below}
use Rattle.vx_plan_nodes.specs.Plan.{Part, one, any, all, routed}
use Rattle.vx_plan_nodes.specs.Types.{part_columns}
use Rattle.vx_plan_nodes.specs.Phases.{columns_from, first_columns}
use Rattle.vx_plan_facts.specs.Equal.{Equality}
use Rattle.vx_check_rules.specs.Rules.{route_eq, contains, cons_both}
use Rattle.vx_check_rules.specs.Behaviour.{routed_at}
use Rattle.vx_check_rules.specs.Derived.{first_of}
use Rattle.vx_check_rules.proofs.EqualBelow.{SameBelow}
use Rattle.std.proofs.lemmas.Bool.{eqb-true}
use Rattle.vx_catalog_relations.specs.Relation.{Relation}
use Rattle.vx_catalog_relations.specs.Catalog.{relation_at}
use Rattle.vx_plan_nodes.specs.Plan.{Claim, Unary, Binary, union, join, semi_join, Plan, unary, binary}
use Rattle.vx_plan_nodes.specs.Types.{width}
use Rattle.vx_plan_nodes.specs.Describe.{Copying, described, DescribedBoth, described_both}
use Rattle.vx_plan_facts.specs.declared.facts.ColumnFacts.{ColumnFacts}
use Rattle.vx_plan_facts.specs.declared.known.KnownColumns.{KnownColumns}
use Rattle.vx_plan_facts.specs.FactsView.{facts_of, width_of}
use Rattle.vx_plan_facts.specs.Facts.{AreFactsOf}
use Rattle.vx_plan_facts.specs.Equal.{equal_at}
use Rattle.vx_plan_facts.proofs.KnownFacts.{known-under, known-both}
use Rattle.vx_plan_facts.proofs.NamedColumns.{typed-both}
use Rattle.vx_plan_facts.proofs.Searching.{known-left, known-right}
use Rattle.vx_check_rules.specs.DerivedView.{equality_of}
use Rattle.vx_check_rules.specs.KnownNode.{IsKnownTyped}
use Rattle.vx_check_shown.specs.PartView.{IsCopied, AreBothCopied}
use Rattle.vx_check_shown.specs.ShownPart.{common_column, common_columns, is_all, routed_in_common, part_of_union, free_equal, apart, part_apart}

is-below : (c w : ℕ) → nat_lt c w ≡ true → c < w
is-below c w h = grind (arith, nat_tests)

both-none : (o : Option ℕ) → cons_both o None ≡ None
both-none None = refl
both-none (Some c) = refl

-- lists of unequal lengths have no common columns
pub common-length : (w : ℕ) (e f : Equality) (as' bs : List ℕ) → (length as' ≡ length bs → ⊥) → common_columns w e f as' bs ≡ None
common-length w e f [] [] other = absurd (other refl)
common-length w e f [] (b ∷ bs) other = refl
common-length w e f (a ∷ as') [] other = refl
common-length w e f (a ∷ as') (b ∷ bs) other =
    ap (cons_both (common_column w e f a b)) (common-length w e f as' bs (λ l. other (ap suc l))) ∙ both-none (common_column w e f a b)

-- ---- tests that agree on the columns that there are

from-same : (p q : ℕ → Bool) (i n : ℕ) → ((d : ℕ) → d < i + n → p d ≡ q d) → filter p (columns_from i n) ≡ filter q (columns_from i n)
from-same p q i zero h = refl
from-same p q i (suc n) h =
    ap₂ (λ b ys. cond b (i ∷ ys) ys) (h i (omega arith)) (from-same p q (suc i) n (λ d l. h d (omega (arith, l))))

pub first-same : (p q : ℕ → Bool) (w : ℕ) → ((d : ℕ) → d < w → p d ≡ q d) → first_of (filter p (first_columns w)) ≡ first_of (filter q (first_columns w))
first-same p q w h = ap first_of (from-same p q 0 w (λ d l. h d (omega (arith, l))))

module _ (u v w : ℕ) (left : w ≤ u) (right : w ≤ v) (e e' f f' : Equality) (lefts : SameBelow u e e') (rights : SameBelow v f f') where
  column-same : (a b : ℕ) → a < u → b < v → common_column w e f a b ≡ common_column w e' f' a b
  column-same a b l m =
      first-same (λ c. e a c && f b c) (λ c. e' a c && f' b c) w (λ c n. ap₂ (λ x y. x && y) (lefts a c l (omega (arith, n, left))) (rights b c m (omega (arith, n, right))))

  columns-same : (as' bs : List ℕ) → all_below u as' ≡ true → all_below v bs ≡ true → common_columns w e f as' bs ≡ common_columns w e' f' as' bs
  columns-same [] [] l m = refl
  columns-same [] (b ∷ bs) l m = refl
  columns-same (a ∷ as') [] l m = refl
  columns-same (a ∷ as') (b ∷ bs) l m =
      ap₂ cons_both (column-same a b (is-below a u (and-left (nat_lt a u) (all_below u as') l)) (is-below b v (and-left (nat_lt b v) (all_below v bs) m)))
      (columns-same as' bs (and-right (nat_lt a u) (all_below u as') l) (and-right (nat_lt b v) (all_below v bs) m))

  pub in-common-same : (x y : Part) → all_below u (part_columns x) ≡ true → all_below v (part_columns y) ≡ true → routed_in_common w e f x y ≡ routed_in_common w e' f' x y
  in-common-same one y l m = refl
  in-common-same any y l m = refl
  in-common-same all y l m = refl
  in-common-same (routed r as') one l m = refl
  in-common-same (routed r as') any l m = refl
  in-common-same (routed r as') all l m = refl
  in-common-same (routed r as') (routed s bs) l m = ap (λ o. cond (route_eq r s) (routed_at r o) any) (columns-same as' bs l m)

  pub union-same : (x y : Part) → all_below u (part_columns x) ≡ true → all_below v (part_columns y) ≡ true
      → cond (is_all x && is_all y) all (routed_in_common w e f x y) ≡ part_of_union w e' f' x y
  union-same x y l m = ap (cond (is_all x && is_all y) all) (in-common-same x y l m)

-- ---- no column twice

module _ (w : ℕ) (e f : Equality) (same : SameBelow w e f) where
  free-same : (taken : List ℕ) (c : ℕ) → c < w → free_equal w e taken c ≡ free_equal w f taken c
  free-same taken c h =
      ap (λ o. cond (contains taken c) o (Some c))
      (first-same (λ d. e c d && not (contains taken d)) (λ d. f c d && not (contains taken d)) w (λ d l. ap (λ b. b && not (contains taken d)) (same c d h l)))

  same-then : (cols taken : List ℕ) → ((more : List ℕ) → apart w e more cols ≡ apart w f more cols) → (o : Option ℕ)
      → option_and_then (λ d. apart w e (taken ++ d ∷ []) cols) o ≡ option_and_then (λ d. apart w f (taken ++ d ∷ []) cols) o
  same-then cols taken h None = refl
  same-then cols taken h (Some d) = h (taken ++ d ∷ [])

  apart-same : (cols taken : List ℕ) → all_below w cols ≡ true → apart w e taken cols ≡ apart w f taken cols
  apart-same [] taken h = refl
  apart-same (c ∷ cols) taken h =
      ap (option_and_then (λ d. apart w e (taken ++ d ∷ []) cols)) (free-same taken c (is-below c w (and-left (nat_lt c w) (all_below w cols) h)))
      ∙ same-then cols taken (λ more. apart-same cols more (and-right (nat_lt c w) (all_below w cols) h)) (free_equal w f taken c)

  pub part-apart-same : (x : Part) → all_below w (part_columns x) ≡ true → part_apart w e x ≡ part_apart w f x
  part-apart-same one h = refl
  part-apart-same any h = refl
  part-apart-same all h = refl
  part-apart-same (routed r cols) h = ap (routed_at r) (apart-same cols [] h)

-- ---- what is known of columns

both-in : (a b x y : Bool) → a ≡ true → b ≡ true → x ≡ y → (a && (b && x)) ≡ y
both-in a b x y h k e = ap₂ (λ p q. p && (q && x)) h k ∙ e

below-true : (a w v : ℕ) → a < w → v ≡ w → nat_lt a v ≡ true
below-true a w v l e = grind (arith, nat_tests)

below-wide : (a w v : ℕ) → a < w → v ≡ w → a < v
below-wide a w v l e = omega arith

-- equal columns are those of the node
pub equal-same : (catalog : ℕ → Relation) (p : Plan) (k : ColumnFacts) → AreFactsOf catalog p (facts_of k) → SameBelow (width catalog p) (equality_of k) (equal_at catalog p)
equal-same catalog p k are a b l m =
    both-in (nat_lt a (width_of k)) (nat_lt b (width_of k)) _ (equal_at catalog p a b) (below-true a (width catalog p) (width_of k) l are.wide) (below-true b (width catalog p) (width_of k) m are.wide)
    (are.equal a b (below-wide a (width catalog p) (width_of k) l are.wide) (below-wide b (width catalog p) (width_of k) m are.wide))

-- ---- inputs

whole-reaches : (w : ℕ) (c x : ℕ) → c < w → Some c ≡ Some x → x < w
whole-reaches w c x l e = let s : c ≡ x = cc in omega (arith, l, s)

pub unary-copied : (catalog : List Relation) (known : KnownColumns) (n : ℕ) (c : Claim) (op : Unary) (p : Plan) (x : Part) (w : ℕ) (k : Copying) → IsKnownTyped catalog known (unary n c op p)
    → all_below (width (relation_at catalog) p) (part_columns x) ≡ true → w ≡ width (relation_at catalog) (unary n c op p) → k ≡ (described op).copying → IsCopied (relation_at catalog) known p w k x
unary-copied catalog known n c op p x w k h named wide is =
    let at = relation_at catalog in
    let top : Plan = unary n c op p in
    let P : ℕ → Type 0 = λ v. IsCopied at known p v k x in
    let Q : Copying → Type 0 = λ l. IsCopied at known p (width at top) l x in
    subst P (sym wide) (subst Q (sym is) (record {
      copies = record { known = known-under at known n c op p h.known; reaches = (known-left at _ top h.known.known).reaches };
      named = named;
    }))

module _ (catalog : List Relation) (known : KnownColumns) (n : ℕ) (c : Claim) (p q : Plan) (x y : Part) where
  abbrev pub BothOf : Binary → ℕ → DescribedBoth → Type 0
  BothOf op w d = AreBothCopied (relation_at catalog) known p q w d x y

  both-of : (op : Binary) → IsKnownTyped catalog known (binary n c op p q) → all_below (width (relation_at catalog) p) (part_columns x) ≡ true → all_below (width (relation_at catalog) q) (part_columns y) ≡ true
      → BothOf op (width (relation_at catalog) (binary n c op p q)) (described_both (width (relation_at catalog) p) op)
  both-of union h l m =
      let at = relation_at catalog in
      let both = known-both at known n c union p q h.known in
      let as_wide : width at q ≡ width at p = eqb-true (width at q) (width at p) (typed-both catalog (binary n c union p q) n c union p q refl h.typed).2 in
      record {
        left = record { copies = record { known = both.0; reaches = whole-reaches (width at p) }; named = l };
        right = record { copies = record { known = both.1; reaches = λ a b h e. omega (arith, as_wide, whole-reaches (width at p) a b h e) }; named = m };
        beside = λ none. record { left = both.0; right = both.1; left_wide = omega arith; right_wide = omega (arith, as_wide); left_named = l; right_named = m };
      }
  both-of (join o on) h l m =
      let at = relation_at catalog in
      let top : Plan = binary n c (join o on) p q in
      let both = known-both at known n c (join o on) p q h.known in
      record {
        left = record { copies = record { known = both.0; reaches = (known-left at _ top h.known.known).reaches }; named = l };
        right = record { copies = record { known = both.1; reaches = (known-right at _ top h.known.known).reaches }; named = m };
        beside = λ none. cc;
      }
  both-of (semi_join matched on conditions) h l m =
      let at = relation_at catalog in
      let top : Plan = binary n c (semi_join matched on conditions) p q in
      let both = known-both at known n c (semi_join matched on conditions) p q h.known in
      record {
        left = record { copies = record { known = both.0; reaches = whole-reaches (width at p) }; named = l };
        right = record { copies = record { known = both.1; reaches = λ a b h e. cc }; named = m };
        beside = λ none. cc;
      }

  pub both-copied : (op : Binary) (w : ℕ) (d : DescribedBoth) → IsKnownTyped catalog known (binary n c op p q) → all_below (width (relation_at catalog) p) (part_columns x) ≡ true
      → all_below (width (relation_at catalog) q) (part_columns y) ≡ true → w ≡ width (relation_at catalog) (binary n c op p q) → d ≡ described_both (width (relation_at catalog) p) op
      → BothOf op w d
  both-copied op w d h l m wide is =
      let at = relation_at catalog in
      let P : ℕ → Type 0 = λ v. BothOf op v d in
      let Q : DescribedBoth → Type 0 = λ e. BothOf op (width at (binary n c op p q)) e in
      subst P (sym wide) (subst Q (sym is) (both-of op h l m))
