-- Claims that are placed, with the keys that are found, tell the most at every node.
use Rattle.std.proofs.Common.{◌≡◌, ◌≤◌, ℕ, Bool, ◌||◌, List, [], ◌∷◌, ◌++◌, length, refl, sym, ap, ◌∙◌, subst}
use Rattle.std.specs.List.{list_any}
use Rattle.vx_rows_values.specs.declared.order.OrderEntry.{OrderEntry}
use Rattle.vx_catalog_relations.specs.Relation.{Relation}
use Rattle.vx_catalog_relations.specs.Catalog.{relation_at, all_below}
use Rattle.vx_plan_nodes.specs.Plan.{Part, routed, Claim, union, join, semi_join, ExchangeKind, route_to, round, broadcast, gather, concat, Plan, scan, unary, binary, exchange, claim, size, is_one}
use Rattle.vx_plan_nodes.specs.Types.{width, unary_width, binary_width}
use Rattle.vx_plan_nodes.specs.Describe.{whole_rows, described, described_both}
use Rattle.vx_check_rules.specs.Rules.{goes_on}
use Rattle.vx_check_rules.specs.Behaviour.{own, if_so, sorted_by, order_after, ways_along, ways_over, keyed_over, behaviour, gives, sorts}
use Rattle.vx_check_options.specs.Placed.{keyless, placed}
use Rattle.vx_check_options.specs.Laws.{IsStrongest, AtEach}
use Rattle.vx_check_options.specs.FoundKeys.{show}
use Rattle.vx_check_options.specs.Claimed.{IsClaimed, HasAllKeys, ClaimedIsStrongest}
use Rattle.vx_check_options.proofs.PlacedIsFit.{width-placed}
use Rattle.vx_check_options.proofs.Strongest.{placed-is-strongest}

-- ---- without keys

-- the same plan, which claims no key
abbrev pub unkeyed : Plan → Plan
unkeyed (scan n c r m z) = scan n (keyless c.part c.order) r m z
unkeyed (unary n c op p) = unary n (keyless c.part c.order) op (unkeyed p)
unkeyed (binary n c op p q) = binary n (keyless c.part c.order) op (unkeyed p) (unkeyed q)
unkeyed (exchange n c k m p) = exchange n (keyless c.part c.order) k m (unkeyed p)

-- claims with the keys that are found are what is placed, but for the keys
unkeyed-claimed : (catalog : ℕ → Relation) (p : Plan) (q : Part) (order : List OrderEntry) (x : Plan) → IsClaimed catalog p q order x → unkeyed x ≡ placed catalog p q order
unkeyed-claimed catalog (scan n c r m z) q order x f = ap unkeyed f.1
unkeyed-claimed catalog (unary n c op p) q order x f = ap unkeyed f.2 ∙ ap (λ y. unary n (keyless q order) op y) (unkeyed-claimed catalog p _ _ f.1 f.3)
unkeyed-claimed catalog (binary n c op p p2) q order x f =
    ap unkeyed f.3 ∙ both (unkeyed-claimed catalog p _ _ f.1 f.4) (unkeyed-claimed catalog p2 _ _ f.2 f.5)
  where
    both : {y y' z z' : Plan} → y ≡ y' → z ≡ z' → binary n (keyless q order) op y z ≡ binary n (keyless q order) op y' z'
    both e g = cc
unkeyed-claimed catalog (exchange n c k m p) q order x f = ap unkeyed f.2 ∙ ap (λ y. exchange n (keyless q order) k m y) (unkeyed-claimed catalog p _ _ f.1 f.3)

-- the size is the same, and the width, and the claim but for its keys
size-unkeyed : (p : Plan) → size (unkeyed p) ≡ size p
size-unkeyed (scan n c r m z) = refl
size-unkeyed (unary n c op p) = size-unkeyed p
size-unkeyed (binary n c op p q) = size-unkeyed p
size-unkeyed (exchange n c k m p) = refl

width-unkeyed : (catalog : ℕ → Relation) (p : Plan) → width catalog (unkeyed p) ≡ width catalog p
width-unkeyed catalog (scan n c r m z) = refl
width-unkeyed catalog (unary n c op p) = ap (unary_width op) (width-unkeyed catalog p)
width-unkeyed catalog (binary n c op p q) =
    wide (width-unkeyed catalog p) (width-unkeyed catalog q)
  where
    wide : {a b c d : ℕ} → a ≡ b → c ≡ d → binary_width op a c ≡ binary_width op b d
    wide e f = cc
width-unkeyed catalog (exchange n c k m p) = width-unkeyed catalog p

claim-unkeyed : (p : Plan) → claim (unkeyed p) ≡ keyless (claim p).part (claim p).order
claim-unkeyed (scan n c r m z) = refl
claim-unkeyed (unary n c op p) = refl
claim-unkeyed (binary n c op p q) = refl
claim-unkeyed (exchange n c k m p) = refl

-- and what an input has
own-unkeyed : (p : Plan) → own (unkeyed p) ≡ own p
own-unkeyed p = ap (λ z. (is_one z, (claim (unkeyed p)).part)) (size-unkeyed p) ∙ ap (λ (c : Claim). (is_one (size p), c.part)) (claim-unkeyed p)

-- they have as many columns as the plan
width-claimed : (catalog : ℕ → Relation) (p : Plan) (q : Part) (order : List OrderEntry) (x : Plan) → IsClaimed catalog p q order x → width catalog x ≡ width catalog p
width-claimed catalog p q order x f = sym (width-unkeyed catalog x) ∙ (ap (width catalog) (unkeyed-claimed catalog p q order x f) ∙ width-placed catalog p q order)

-- ---- the parts and the orders that are shown

-- no way looks at keys
ways-unkeyed : (catalog : ℕ → Relation) (p : Plan) → (behaviour catalog (unkeyed p)).ways ≡ (behaviour catalog p).ways
ways-unkeyed catalog (scan n c r m z) = refl
ways-unkeyed catalog (unary n c op p) = ap (ways_along (described op)) (own-unkeyed p)
ways-unkeyed catalog (binary n c op p q) =
    over (width-unkeyed catalog p) (own-unkeyed p) (own-unkeyed q)
  where
    over : {v w : ℕ} {a b c d : Bool × Part} → v ≡ w → a ≡ b → c ≡ d
        → ways_over (described_both v op).meeting (described_both v op) a c ≡ ways_over (described_both w op).meeting (described_both w op) b d
    over e f g = rw (e, f, g) refl
ways-unkeyed catalog (exchange n c k m p) = refl

-- whether the order of a concat goes on does not hang on keys
goes-unkeyed : (k : ExchangeKind) (c : Claim) → goes_on k (keyless c.part c.order) ≡ goes_on k c
goes-unkeyed concat c = refl
goes-unkeyed (route_to z r cols) c = refl
goes-unkeyed (round z) c = refl
goes-unkeyed (broadcast z) c = refl
goes-unkeyed gather c = refl

-- nor does an order
sortings-unkeyed : (catalog : ℕ → Relation) (p : Plan) → (behaviour catalog (unkeyed p)).sortings ≡ (behaviour catalog p).sortings
sortings-unkeyed catalog (scan n c r m z) = refl
sortings-unkeyed catalog (unary n c op p) = ap (λ (d : Claim). sorted_by (described op).copying (order_after (described op).order d.order) ∷ []) (claim-unkeyed p)
sortings-unkeyed catalog (binary n c union p q) = refl
sortings-unkeyed catalog (binary n c (join m on) p q) = ap (λ (d : Claim). sorted_by whole_rows d.order ∷ []) (claim-unkeyed p)
sortings-unkeyed catalog (binary n c (semi_join matched on conditions) p q) = ap (λ (d : Claim). sorted_by whole_rows d.order ∷ []) (claim-unkeyed p)
sortings-unkeyed catalog (exchange n c k merge p) =
    ap (λ z. if_so (is_one z || goes_on k (claim (unkeyed p))) (sorted_by whole_rows (claim (unkeyed p)).order ∷ []) ++ sorted_by whole_rows merge ∷ []) (size-unkeyed p)
    ∙ (ap (λ (d : Claim). if_so (is_one (size p) || goes_on k d) (sorted_by whole_rows d.order ∷ []) ++ sorted_by whole_rows merge ∷ []) (claim-unkeyed p)
    ∙ ap (λ b. if_so (is_one (size p) || b) (sorted_by whole_rows (claim p).order ∷ []) ++ sorted_by whole_rows merge ∷ []) (goes-unkeyed k (claim p)))

-- so a node tells as much without keys as with them
strongest-keyed : (catalog : ℕ → Relation) (p : Plan) → IsStrongest catalog (unkeyed p) → IsStrongest catalog p
strongest-keyed catalog p h =
    let part : (claim (unkeyed p)).part ≡ (claim p).part = ap (λ (c : Claim). c.part) (claim-unkeyed p) in
    let order : (claim (unkeyed p)).order ≡ (claim p).order = ap (λ (c : Claim). c.order) (claim-unkeyed p) in
    let alone : is_one (size (unkeyed p)) ≡ is_one (size p) = ap is_one (size-unkeyed p) in record {
      alone = λ s. sym part ∙ h.alone (alone ∙ s);
      routed_first = λ s a r cols small.
          sym (ap (list_any (λ w. gives w (routed r cols))) (ways-unkeyed catalog p)) ∙ h.routed_first (alone ∙ s) (part ∙ a) r cols small;
      longest = λ o e. subst (λ k. length o ≤ length k) order (h.longest o (ap (list_any (λ s. sorts s o)) (sortings-unkeyed catalog p) ∙ e));
    }

each-keyed : (catalog : ℕ → Relation) (p : Plan) → AtEach (IsStrongest catalog) (unkeyed p) → AtEach (IsStrongest catalog) p
each-keyed catalog (scan n c r m z) h = strongest-keyed catalog (scan n c r m z) h
each-keyed catalog (unary n c op p) h = (each-keyed catalog p h.0, strongest-keyed catalog (unary n c op p) h.1)
each-keyed catalog (binary n c op p q) h = (each-keyed catalog p h.0, each-keyed catalog q h.1, strongest-keyed catalog (binary n c op p q) h.2)
each-keyed catalog (exchange n c k m p) h = (each-keyed catalog p h.0, strongest-keyed catalog (exchange n c k m p) h.1)

-- ---- keys

-- the keys that are found at each node are all that there are
each-found : (catalog : ℕ → Relation) (p : Plan) (q : Part) (order : List OrderEntry) (x : Plan) → IsClaimed catalog p q order x → AtEach (HasAllKeys catalog) x
each-found catalog (scan n c r m z) q order x f = subst (λ y. AtEach (HasAllKeys catalog) y) (sym f.1) (record { apart = f.2.apart; all = f.2.all })
each-found catalog (unary n c op p) q order x f =
    let wide : width catalog f.1 ≡ width catalog p = width-claimed catalog p _ _ f.1 f.3 in
    subst (λ y. AtEach (HasAllKeys catalog) y) (sym f.2) (
      each-found catalog p _ _ f.1 f.3,
      record { apart = f.4.apart; all = λ few cols below shown. f.4.all few cols (sym (ap (λ w. all_below (unary_width op w) cols) wide) ∙ below) shown },
    )
each-found catalog (binary n c op p p2) q order x f =
    let left : width catalog f.1 ≡ width catalog p = width-claimed catalog p _ _ f.1 f.4 in
    let right : width catalog f.2 ≡ width catalog p2 = width-claimed catalog p2 _ _ f.2 f.5 in
    subst (λ y. AtEach (HasAllKeys catalog) y) (sym f.3) (
      each-found catalog p _ _ f.1 f.4,
      each-found catalog p2 _ _ f.2 f.5,
      record {
        apart = f.6.apart;
        all = λ few cols below shown.
            f.6.all few cols
            (sym (ap (λ w. all_below (binary_width op w (width catalog f.2)) cols) left ∙ ap (λ w. all_below (binary_width op (width catalog p) w) cols) right) ∙ below)
            (sym (ap (λ w. show (keyed_over (described_both w op).meeting (described_both w op) (claim f.1).keys (claim f.2).keys) cols) left) ∙ shown);
      },
    )
each-found catalog (exchange n c k m p) q order x f =
    let wide : width catalog f.1 ≡ width catalog p = width-claimed catalog p _ _ f.1 f.3 in
    subst (λ y. AtEach (HasAllKeys catalog) y) (sym f.2) (
      each-found catalog p _ _ f.1 f.3,
      record { apart = f.4.apart; all = λ few cols below shown. f.4.all few cols (sym (ap (λ w. all_below w cols) wide) ∙ below) shown },
    )

pub claimed-is-strongest : ClaimedIsStrongest
claimed-is-strongest s p q order x ready fit f =
    let catalog : ℕ → Relation = relation_at s.catalog in
    let strongest : AtEach (IsStrongest catalog) (placed catalog p q order) = placed-is-strongest s p q order ready.1 fit ready.2 ready.3 in
    (each-keyed catalog x (subst (λ y. AtEach (IsStrongest catalog) y) (sym (unkeyed-claimed catalog p q order x f)) strongest), each-found catalog p q order x f)
