-- Plans beside known ones, node by node.
use Rattle.std.proofs.Common.{◌≡◌, ◌∙◌, ℕ, Bool, true, false, ◌&&◌, List, refl, ap, sym, subst}
use Rattle.std.specs.List.{list_all}
use Rattle.vx_rows_values.specs.declared.order.OrderEntry.{OrderEntry}
use Rattle.vx_rows_values.specs.Order.{order_columns}
use Rattle.vx_rows_values.proofs.Booleans.{and-left, and-right}
use Rattle.vx_catalog_relations.specs.Relation.{Relation}
use Rattle.vx_catalog_relations.specs.Catalog.{all_below}
use Rattle.vx_plan_nodes.specs.Plan.{Plan, scan, unary, binary, exchange, claim, Claim, Unary, Binary, union, join, semi_join, ExchangeKind}
use Rattle.vx_plan_nodes.specs.Phases.{phase_fits, both_closed}
use Rattle.vx_plan_nodes.specs.Types.{width, part_columns, names_columns, well_formed}
use Rattle.vx_plan_facts.specs.declared.known.KnownColumns as rust_known
use Rattle.vx_plan_facts.specs.KnownView.{IsKnownOf}
use Rattle.vx_plan_facts.proofs.KnownFacts.{known-under, known-passed, known-both}
use Rattle.vx_check_rules.specs.KnownNode.{StaysKnown}
use Rattle.vx_check_keeping.specs.Telling.{tells_here, tells_derived, IsBesideKnown}
use Rattle.vx_check_shown.proofs.SameNodes.{width-same}

-- ---- what is still known

-- where the second node is known, so is the first, which is one of its inputs
abbrev pub IsUnder : Plan → Plan → Type 0
IsUnder p x = (catalog : ℕ → Relation) (k : rust_known.KnownColumns) → IsKnownOf catalog k x → IsKnownOf catalog k p

pub under-unary : (n : ℕ) (c : Claim) (op : Unary) (p x : Plan) → x ≡ unary n c op p → IsUnder p x
under-unary n c op p x is = λ catalog k h. known-under catalog k n c op p (rw is at h)

pub under-sent : (n : ℕ) (c : Claim) (kind : ExchangeKind) (m : List OrderEntry) (p x : Plan) → x ≡ exchange n c kind m p → IsUnder p x
under-sent n c kind m p x is = λ catalog k h. known-passed catalog k n c kind m p (rw is at h)

pub under-left : (n : ℕ) (c : Claim) (op : Binary) (p q x : Plan) → x ≡ binary n c op p q → IsUnder p x
under-left n c op p q x is = λ catalog k h. (known-both catalog k n c op p q (rw is at h)).0

pub under-right : (n : ℕ) (c : Claim) (op : Binary) (p q x : Plan) → x ≡ binary n c op p q → IsUnder q x
under-right n c op p q x is = λ catalog k h. (known-both catalog k n c op p q (rw is at h)).1

pub stays-over : (k l : rust_known.KnownColumns) (p x : Plan) → IsUnder p x → StaysKnown k l p → StaysKnown k l x
stays-over k l p x under kept = λ catalog here q h. kept catalog (under catalog k here) q h

pub stays-then : (k l m : rust_known.KnownColumns) (p : Plan) → StaysKnown k l p → StaysKnown l m p → StaysKnown k m p
stays-then k l m p first second = λ catalog here q h. second catalog (first catalog here p here) q (first catalog here q h)

-- ---- plans beside known ones

pub still-beside : (catalog : ℕ → Relation) (k l : rust_known.KnownColumns) (f e : Plan) → StaysKnown k l f → IsBesideKnown catalog k f e → IsBesideKnown catalog l f e
still-beside catalog k l f e kept h = record { known = kept catalog h.known f h.known; formed = h.formed; same = h.same }

abbrev left-of : Plan → Plan
left-of (scan n c r m z) = scan n c r m z
left-of (unary n c op p) = p
left-of (binary n c op p q) = p
left-of (exchange n c k m p) = p

abbrev right-of : Plan → Plan
right-of (scan n c r m z) = scan n c r m z
right-of (unary n c op p) = p
right-of (binary n c op p q) = q
right-of (exchange n c k m p) = p

both-formed : (catalog : ℕ → Relation) (i : ℕ) (d : Claim) (o : Binary) (p q : Plan) → well_formed catalog (binary i d o p q) ≡ true
    → (well_formed catalog p ≡ true) × (well_formed catalog q ≡ true)
both-formed catalog i d union p q h =
    (and-left (well_formed catalog p) _ h, and-left (well_formed catalog q) _ (and-right (well_formed catalog p) _ h))
both-formed catalog i d (join m on) p q h =
    (and-left (well_formed catalog p) _ h, and-left (well_formed catalog q) _ (and-right (well_formed catalog p) _ h))
both-formed catalog i d (semi_join matched on conditions) p q h =
    (and-left (well_formed catalog p) _ h, and-left (well_formed catalog q) _ (and-right (well_formed catalog p) _ h))

module _ (catalog : ℕ → Relation) (k : rust_known.KnownColumns) (f e : Plan) (h : IsBesideKnown catalog k f e) where
  pub beside-unary : (n i : ℕ) (c d : Claim) (op o : Unary) (p q : Plan) → f ≡ unary n c op p → e ≡ unary i d o q → IsBesideKnown catalog k p q
  beside-unary n i c d op o p q is are =
      let formed = rw are at h.formed in
      record {
        known = under-unary n c op p f is catalog k h.known;
        formed = and-left (well_formed catalog q) _ formed;
        same = ap left-of (rw (is, are) at h.same);
      }

  pub beside-sent : (n i : ℕ) (c d : Claim) (kind l : ExchangeKind) (m o : List OrderEntry) (p q : Plan) → f ≡ exchange n c kind m p → e ≡ exchange i d l o q → IsBesideKnown catalog k p q
  beside-sent n i c d kind l m o p q is are =
      let formed = rw are at h.formed in
      record {
        known = under-sent n c kind m p f is catalog k h.known;
        formed = and-left (well_formed catalog q) _ formed;
        same = ap left-of (rw (is, are) at h.same);
      }

  pub beside-left : (n i : ℕ) (c d : Claim) (op o : Binary) (p p2 q q2 : Plan) → f ≡ binary n c op p p2 → e ≡ binary i d o q q2 → IsBesideKnown catalog k p q
  beside-left n i c d op o p p2 q q2 is are =
      let formed = rw are at h.formed in
      record {
        known = under-left n c op p p2 f is catalog k h.known;
        formed = (both-formed catalog i d o q q2 formed).0;
        same = ap left-of (rw (is, are) at h.same);
      }

  pub beside-right : (n i : ℕ) (c d : Claim) (op o : Binary) (p p2 q q2 : Plan) → f ≡ binary n c op p p2 → e ≡ binary i d o q q2 → IsBesideKnown catalog k p2 q2
  beside-right n i c d op o p p2 q q2 is are =
      let formed = rw are at h.formed in
      record {
        known = under-right n c op p p2 f is catalog k h.known;
        formed = (both-formed catalog i d o q q2 formed).1;
        same = ap right-of (rw (is, are) at h.same);
      }

-- ---- what the other plan claims of a node

claim-named : (catalog : ℕ → Relation) (p : Plan) → well_formed catalog p ≡ true → names_columns (width catalog p) (claim p) ≡ true
claim-named catalog (scan n c r m z) h = h
claim-named catalog (unary n c op p) h =
    let named = names_columns (width catalog (unary n c op p)) c in
    and-right (phase_fits op p) named (and-right (well_formed catalog p) (phase_fits op p && named) h)
claim-named catalog (binary n c union p q) h =
    and-right _ (names_columns (width catalog p) c) (and-right (both_closed p q) _ (and-right (well_formed catalog q) _ (and-right (well_formed catalog p) _ h)))
claim-named catalog (binary n c (join m on) p q) h =
    and-right (both_closed p q) (names_columns (width catalog (binary n c (join m on) p q)) c) (and-right (well_formed catalog q) _ (and-right (well_formed catalog p) _ h))
claim-named catalog (binary n c (semi_join matched on conditions) p q) h =
    and-right (both_closed p q) (names_columns (width catalog p) c) (and-right (well_formed catalog q) _ (and-right (well_formed catalog p) _ h))
claim-named catalog (exchange n c k m p) h = and-right (well_formed catalog p) (names_columns (width catalog p) c) h

module _ (catalog : ℕ → Relation) (k : rust_known.KnownColumns) (f e : Plan) (h : IsBesideKnown catalog k f e) where
  other-named : names_columns (width catalog f) (claim e) ≡ true
  other-named =
      let P : ℕ → Type 0 = λ w. names_columns w (claim e) ≡ true in
      subst P (width-same catalog e f h.same) (claim-named catalog e h.formed)

  pub part-beside : all_below (width catalog f) (part_columns (claim e).part) ≡ true
  part-beside = and-left (all_below (width catalog f) (part_columns (claim e).part)) _ other-named

  pub order-beside : all_below (width catalog f) (order_columns (claim e).order) ≡ true
  order-beside =
      and-left (all_below (width catalog f) (order_columns (claim e).order)) (list_all (all_below (width catalog f)) (claim e).keys)
      (and-right (all_below (width catalog f) (part_columns (claim e).part)) _ other-named)

-- ---- answers, put together

pub unary-tells : (catalog : ℕ → Relation) (f e : Plan) (n i : ℕ) (c d : Claim) (op o : Unary) (p q : Plan) → f ≡ unary n c op p → e ≡ unary i d o q
    → tells_derived catalog f e ≡ (tells_derived catalog p q && tells_here catalog f e)
unary-tells catalog f e n i c d op o p q is are = rw (is, are) refl

pub sent-tells : (catalog : ℕ → Relation) (f e : Plan) (n i : ℕ) (c d : Claim) (kind l : ExchangeKind) (m o : List OrderEntry) (p q : Plan) → f ≡ exchange n c kind m p → e ≡ exchange i d l o q
    → tells_derived catalog f e ≡ (tells_derived catalog p q && tells_here catalog f e)
sent-tells catalog f e n i c d kind l m o p q is are = rw (is, are) refl

and-three : (a b c : Bool) → (a && (b && c)) ≡ ((a && b) && c)
and-three true b c = refl
and-three false b c = refl

pub both-tell : (catalog : ℕ → Relation) (f e : Plan) (n i : ℕ) (c d : Claim) (op o : Binary) (p p2 q q2 : Plan) → f ≡ binary n c op p p2 → e ≡ binary i d o q q2
    → tells_derived catalog f e ≡ ((tells_derived catalog p q && tells_derived catalog p2 q2) && tells_here catalog f e)
both-tell catalog f e n i c d op o p p2 q q2 is are = rw (is, are) (and-three (tells_derived catalog p q) (tells_derived catalog p2 q2) _)

-- the first answer was yes, and the second one is that of both; or it was no
pub both-yes : (a b s t all : Bool) → b ≡ a → b ≡ true → s ≡ t → all ≡ (a && t) → s ≡ all
both-yes a b s t all same holds is whole = is ∙ sym (whole ∙ ap (λ x. x && t) (sym same ∙ holds))

pub first-no : (a b t all : Bool) → b ≡ a → b ≡ false → all ≡ (a && t) → b ≡ all
first-no a b t all same fails whole = fails ∙ sym (whole ∙ ap (λ x. x && t) (sym same ∙ fails))
