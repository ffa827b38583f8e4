-- Parts and orders that are found are typed, and tell the most, by what is known of one node.
use Rattle.std.proofs.Common.{◌≡◌, ℕ, nat_lt, Bool, true, cond, ◌&&◌, ◌||◌, List, [], ◌∷◌, length, refl, sym, ap, ◌∙◌, subst}
use Rattle.std.specs.List.{list_all}
use Rattle.vx_rows_values.specs.declared.value.ColType.{ColType}
use Rattle.vx_rows_values.specs.declared.order.OrderEntry.{OrderEntry}
use Rattle.vx_rows_values.specs.Order.{order_columns}
use Rattle.vx_rows_values.specs.Lists.{is_some_list}
use Rattle.vx_rows_values.proofs.Booleans.{and-left, and-right, and-both}
use Rattle.vx_catalog_relations.specs.Relation.{Relation}
use Rattle.vx_catalog_relations.specs.Catalog.{relation_at, all_below, are_distinct, IsCatalog}
use Rattle.vx_plan_nodes.specs.Plan.{by_hash, by_range, Part, one, any, all, routed, Claim, Unary, Binary, ExchangeKind, Plan, scan, unary, binary, exchange, claim, size, is_one}
use Rattle.vx_plan_nodes.specs.Types.{types_of, width, part_columns}
use Rattle.vx_plan_nodes.specs.Typed.{Scope, are_columns, is_part, is_claim, typed}
use Rattle.vx_plan_facts.specs.Equal.{equal_at}
use Rattle.vx_plan_facts.specs.Determined.{determined}
use Rattle.vx_plan_facts.specs.Naming.{IsTypedOver}
use Rattle.vx_plan_facts.specs.DeterminedFacts.{MoreFromMore}
use Rattle.vx_plan_facts.proofs.NamedColumns.{types-width}
use Rattle.vx_plan_facts.proofs.Least.{more-from-more}
use Rattle.vx_plan_facts.specs.Following.{total_follows}
use Rattle.vx_plan_facts.specs.declared.known.KnownColumns as rust_known
use Rattle.vx_plan_facts.specs.KnownView.{IsKnownOf}
use Rattle.vx_check_rules.specs.Rules.{covers, within, numbers_below}
use Rattle.vx_check_rules.specs.Derived.{is_total_derived}
use Rattle.vx_check_options.specs.Placed.{keyless, bare}
use Rattle.vx_check_options.specs.Laws.{AtEach}
use Rattle.vx_check_shown.specs.ShownPart.{shown_part, are_named}
use Rattle.vx_check_shown.specs.ShownOrder.{shown_order, are_of_input}
use Rattle.vx_check_shown.specs.PartLaws.{PartTellsTheMost, PartIsClaimless, PartIsTyped, are_parts, left_part, right_part, told}
use Rattle.vx_check_shown.specs.OrderLaws.{ShownOrderTellsTheMost, IsLongestOrder, part_below, order_below, order_over_claims}
use Rattle.vx_check_shown.specs.Found.{no_claim, found_claim, found, AreTold, IsClaimOf}
use Rattle.vx_check_shown.specs.Strongest.{HasAllKeysDerived, IsStrongestDerived}
use Rattle.vx_check_shown.specs.FoundLaws.{FoundLaw, FoundIsGood}
use Rattle.vx_check_shown.proofs.SameNodes.{IsClaimTyped, claims-typed, typed-with}
use Rattle.vx_check_shown.proofs.FoundPlans.{found-bare, types-found, width-found, size-found, keys-found, determined-found, order-found, all-found}
use Rattle.vx_check_shown.proofs.FoundOrders.{order-below, short-distinct}

-- ---- claims of inputs

-- a typed part names columns that are there
part-below : (s : Scope) (types : List ColType) (q : Part) → is_part s types q ≡ true → all_below (length types) (part_columns q) ≡ true
part-below s types one h = refl
part-below s types any h = refl
part-below s types all h = refl
part-below s types (routed (by_hash name) cols) h =
    and-left (all_below (length types) cols) (are_distinct cols) (and-right (is_some_list cols) _ (and-right (is_some_list name) _ h))
part-below s types (routed (by_range k) []) h = cc
part-below s types (routed (by_range k) (c ∷ [])) h =
    and-both (nat_lt c (length types)) true (and-left (nat_lt c (length types)) _ (and-right (nat_lt k (length s.ranges)) _ h)) refl
part-below s types (routed (by_range k) (c ∷ d ∷ cs)) h = cc

-- of a typed claim the columns are those of the node
named-columns : (s : Scope) (p : Plan) → IsClaimTyped s p → all_below (width (relation_at s.catalog) p) (part_columns (claim p).part) ≡ true
named-columns s p h =
    let types = types_of (relation_at s.catalog) p in
    let P : ℕ → Type 0 = λ w. all_below w (part_columns (claim p).part) ≡ true in
    subst P (types-width (relation_at s.catalog) p) (part-below s types (claim p).part (and-left (is_part s types (claim p).part) _ h))

order-columns : (s : Scope) (p : Plan) → IsClaimTyped s p → all_below (width (relation_at s.catalog) p) (order_columns (claim p).order) ≡ true
order-columns s p h =
    let types = types_of (relation_at s.catalog) p in
    let c : Claim = claim p in
    let P : ℕ → Type 0 = λ w. all_below w (order_columns c.order) ≡ true in
    subst P (types-width (relation_at s.catalog) p)
    (and-left (all_below (length types) (order_columns c.order)) (are_distinct (order_columns c.order))
    (and-left (are_columns (length types) (order_columns c.order)) (list_all (are_columns (length types)) c.keys) (and-right (is_part s types c.part) _ h)))

keys-columns : (s : Scope) (p : Plan) → IsClaimTyped s p → list_all (are_columns (length (types_of (relation_at s.catalog) p))) (claim p).keys ≡ true
keys-columns s p h =
    let types = types_of (relation_at s.catalog) p in
    let c : Claim = claim p in
    and-right (are_columns (length types) (order_columns c.order)) (list_all (are_columns (length types)) c.keys) (and-right (is_part s types c.part) _ h)

claim-part : (s : Scope) (p : Plan) → IsClaimTyped s p → is_part s (types_of (relation_at s.catalog) p) (claim p).part ≡ true
claim-part s p h = let types = types_of (relation_at s.catalog) p in and-left (is_part s types (claim p).part) _ h

-- a claim that names columns of a plan names those of it with other claims
of-found : (catalog : ℕ → Relation) (p : Plan) (cols : List ℕ) → all_below (width catalog (found catalog p)) cols ≡ true → all_below (width catalog p) cols ≡ true
of-found catalog p cols h = let P : ℕ → Type 0 = λ w. all_below w cols ≡ true in subst P (width-found catalog p) h

-- of a node over inputs that are typed as they are found: what the claims of these name
told-unary : (s : Scope) (p : Plan) → IsClaimTyped s (found (relation_at s.catalog) p) → all_below (width (relation_at s.catalog) p) (part_columns (claim (found (relation_at s.catalog) p)).part) ≡ true
told-unary s p h = of-found (relation_at s.catalog) p _ (named-columns s (found (relation_at s.catalog) p) h)

told-order : (s : Scope) (p : Plan) → IsClaimTyped s (found (relation_at s.catalog) p) → all_below (width (relation_at s.catalog) p) (order_columns (claim (found (relation_at s.catalog) p)).order) ≡ true
told-order s p h = of-found (relation_at s.catalog) p _ (order-columns s (found (relation_at s.catalog) p) h)

told-part : (s : Scope) (p : Plan) → IsClaimTyped s (found (relation_at s.catalog) p) → is_part s (types_of (relation_at s.catalog) p) (claim (found (relation_at s.catalog) p)).part ≡ true
told-part s p h =
    let C : ℕ → Relation = relation_at s.catalog in
    let P : List ColType → Type 0 = λ types. is_part s types (claim (found C p)).part ≡ true in subst P (types-found C p) (claim-part s (found C p) h)

-- the claim at the top is one of all
top-typed : (s : Scope) (p : Plan) → AtEach (IsClaimTyped s) p → IsClaimTyped s p
top-typed s (scan n c r m z) h = h
top-typed s (unary n c op p) h = h.1
top-typed s (binary n c op p q) h = h.2
top-typed s (exchange n c k m p) h = h.1

-- what a node is told of inputs with typed claims
pub told-under : (s : Scope) (p : Plan) → IsClaimTyped s (found (relation_at s.catalog) p) → (n : ℕ) (c : Claim) (op : Unary) → AreTold (relation_at s.catalog) (unary n c op p) (claim (found (relation_at s.catalog) p)) no_claim
told-under s p h n c op = record { parts = told-unary s p h; order = and-both _ _ (told-unary s p h) (told-order s p h) }

pub told-sent : (s : Scope) (p : Plan) → IsClaimTyped s (found (relation_at s.catalog) p) → (n : ℕ) (c : Claim) (k : ExchangeKind) (m : List OrderEntry)
    → AreTold (relation_at s.catalog) (exchange n c k m p) (claim (found (relation_at s.catalog) p)) no_claim
told-sent s p h n c k m = record { parts = refl; order = and-both _ _ (told-unary s p h) (told-order s p h) }

pub told-both : (s : Scope) (p q : Plan) → IsClaimTyped s (found (relation_at s.catalog) p) → IsClaimTyped s (found (relation_at s.catalog) q) → (n : ℕ) (c : Claim) (op : Binary)
    → AreTold (relation_at s.catalog) (binary n c op p q) (claim (found (relation_at s.catalog) p)) (claim (found (relation_at s.catalog) q))
told-both s p q h k n c op = record {
  parts = and-both _ _ (told-unary s p h) (told-unary s q k);
  order = and-both _ _ (told-unary s p h) (told-order s p h);
}

-- ---- typed claims

module _ (s : Scope) (cat : IsCatalog s.catalog) (part-typed : PartIsTyped) (longest : ShownOrderTellsTheMost) where
  -- of a typed node p with inputs as they are found, y, the claim that is found
  claim-typed : (p y : Plan) (l r : Claim) → typed s p ≡ true → typed s y ≡ true → are_parts s p l.part r.part ≡ true → are_of_input (relation_at s.catalog) p l.part l.order ≡ true
      → width (relation_at s.catalog) y ≡ width (relation_at s.catalog) p → order_over_claims (relation_at s.catalog) y ≡ shown_order (relation_at s.catalog) p l.part l.order
      → is_claim s (types_of (relation_at s.catalog) p) (found_claim (relation_at s.catalog) p l r) ≡ true
  claim-typed p y l r ok oky parts input wide is =
      let C : ℕ → Relation = relation_at s.catalog in
      let types = types_of C p in
      let order : List OrderEntry = shown_order C p l.part l.order in
      let long = longest s y cat oky in
      let det = determined C y in
      let distinct : are_distinct (order_columns order) ≡ true = subst (λ (o : List OrderEntry). are_distinct (order_columns o) ≡ true) is (short-distinct det (more-from-more.itself C y) (order_over_claims C y) long.shortened) in
      let P : ℕ → Type 0 = λ w. all_below w (order_columns order) ≡ true in
      let below : all_below (length types) (order_columns order) ≡ true = subst P (sym (types-width C p)) (order-below s cat p ok l.part l.order input) in
      and-both (is_part s types (shown_part C p l.part r.part)) (are_columns (length types) (order_columns order) && list_all (are_columns (length types)) (claim p).keys)
      (part-typed s p ok l.part r.part parts)
      (and-both (are_columns (length types) (order_columns order)) (list_all (are_columns (length types)) (claim p).keys)
      (and-both (all_below (length types) (order_columns order)) (are_distinct (order_columns order)) below distinct)
      (keys-columns s p (top-typed s p (claims-typed s p ok))))

  pub found-claims : (p : Plan) → typed s p ≡ true → AtEach (IsClaimTyped s) (found (relation_at s.catalog) p)
  found-claims (scan n c r m z) ok = claim-typed (scan n c r m z) (scan n c r m z) no_claim no_claim ok ok refl refl refl refl
  found-claims (unary n c op p) ok =
      let C : ℕ → Relation = relation_at s.catalog in
      let P : Plan = unary n c op p in
      let F : Plan = found C p in
      let below = found-claims p (and-left (typed s p) _ ok) in
      let top = top-typed s F below in
      let Y : Plan = unary n c op F in
      let oky : typed s Y ≡ true =
      typed-with s P Y (ap (unary n (keyless any []) op) (found-bare C p)) ok (below, subst (λ types. is_claim s types c ≡ true) (sym (types-found C P)) (claims-typed s P ok).1) in
      let told = told-under s p top n c op in (
        below,
        subst (λ types. is_claim s types (found_claim C P (claim F) no_claim) ≡ true) (sym (types-found C P))
            (claim-typed P Y (claim F) no_claim ok oky (told-part s p top) told.order (width-found C P) (order-found C P (claim F).part (claim F).order)),
      )
  found-claims (binary n c op p q) ok =
      let C : ℕ → Relation = relation_at s.catalog in
      let P : Plan = binary n c op p q in
      let F : Plan = found C p in
      let G : Plan = found C q in
      let left = found-claims p (and-left (typed s p) _ ok) in
      let right = found-claims q (and-left (typed s q) _ (and-right (typed s p) _ ok)) in
      let top = top-typed s F left in
      let second = top-typed s G right in
      let Y : Plan = binary n c op F G in
      let oky : typed s Y ≡ true =
      typed-with s P Y (λ i. binary n (keyless any []) op (found-bare C p i) (found-bare C q i)) ok
      (left, right, subst (λ types. is_claim s types c ≡ true) (sym (types-found C P)) (claims-typed s P ok).2) in
      let told = told-both s p q top second n c op in (
        left,
        right,
        subst (λ types. is_claim s types (found_claim C P (claim F) (claim G)) ≡ true) (sym (types-found C P))
            (claim-typed P Y (claim F) (claim G) ok oky (and-both _ _ (told-part s p top) (told-part s q second)) told.order (width-found C P) (order-found C P (claim F).part (claim F).order)),
      )
  found-claims (exchange n c k m p) ok =
      let C : ℕ → Relation = relation_at s.catalog in
      let P : Plan = exchange n c k m p in
      let F : Plan = found C p in
      let below = found-claims p (and-left (typed s p) _ ok) in
      let top = top-typed s F below in
      let Y : Plan = exchange n c k m F in
      let oky : typed s Y ≡ true =
      typed-with s P Y (ap (exchange n (keyless any []) k m) (found-bare C p)) ok (below, subst (λ types. is_claim s types c ≡ true) (sym (types-found C P)) (claims-typed s P ok).1) in
      let told = told-sent s p top n c k m in (
        below,
        subst (λ types. is_claim s types (found_claim C P (claim F) no_claim) ≡ true) (sym (types-found C P))
            (claim-typed P Y (claim F) no_claim ok oky refl told.order (width-found C P) (order-found C P (claim F).part (claim F).order)),
      )

  pub found-typed : (p : Plan) → typed s p ≡ true → typed s (found (relation_at s.catalog) p) ≡ true
  found-typed p ok = typed-with s p (found (relation_at s.catalog) p) (found-bare (relation_at s.catalog) p) ok (found-claims p ok)

  pub found-top : (p : Plan) → typed s p ≡ true → IsClaimTyped s (found (relation_at s.catalog) p)
  found-top p ok = top-typed s (found (relation_at s.catalog) p) (found-claims p ok)

-- ---- what tells the most

-- of one worker
shown-one : (catalog : ℕ → Relation) (p : Plan) (x y : Part) → is_one (size p) ≡ true → shown_part catalog p x y ≡ one
shown-one catalog p x y e = rw e refl

module _ (part-typed : PartIsTyped) (most : PartTellsTheMost) (claimless : PartIsClaimless) (longest : ShownOrderTellsTheMost) (s : Scope) (cat : IsCatalog s.catalog) where
  -- a node whose claim is the one that is found over what its inputs claim
  strongest-here : (p x : Plan) (order : List OrderEntry) → typed s x ≡ true → bare x ≡ bare p → size x ≡ size p
      → (claim x).part ≡ shown_part (relation_at s.catalog) p (left_part x) (right_part x) → (claim x).order ≡ order → order_over_claims (relation_at s.catalog) x ≡ order
      → HasAllKeysDerived (relation_at s.catalog) x → IsStrongestDerived (relation_at s.catalog) x
  strongest-here p x order ok same sized part is over keys =
      let C : ℕ → Relation = relation_at s.catalog in
      let own : shown_part C x (left_part x) (right_part x) ≡ (claim x).part = claimless C x p same (left_part x) (right_part x) ∙ sym part in
      let long = longest s x cat ok in
      record {
        alone = λ e. part ∙ shown-one C p (left_part x) (right_part x) (ap is_one (sym sized) ∙ e);
        part = λ several sizes fit q cols shown.
            subst (λ y. told (equal_at C x) y q ≡ true) own (most s.catalog x (s, refl, ok) several sizes q cols shown);
        order = λ given o below shown. rw (is ∙ sym over) (long.most given o below shown);
        keys = keys;
      }

  pub found-strongest : (p : Plan) → typed s p ≡ true → AtEach (HasAllKeysDerived (relation_at s.catalog)) p → AtEach (IsStrongestDerived (relation_at s.catalog)) (found (relation_at s.catalog) p)
  found-strongest (scan n c r m z) ok h =
      let C : ℕ → Relation = relation_at s.catalog in
      let P : Plan = scan n c r m z in
      strongest-here P (found C P) _ (found-typed s cat part-typed longest P ok) (found-bare C P) (size-found C P) refl refl (order-found C P any []) (all-found C P h)
  found-strongest (unary n c op p) ok h =
      let C : ℕ → Relation = relation_at s.catalog in
      let P : Plan = unary n c op p in (
        found-strongest p (and-left (typed s p) _ ok) h.0,
        strongest-here P (found C P) _ (found-typed s cat part-typed longest P ok) (found-bare C P) (size-found C P) refl refl (order-found C P (claim (found C p)).part (claim (found C p)).order) (all-found C P h.1),
      )
  found-strongest (binary n c op p q) ok h =
      let C : ℕ → Relation = relation_at s.catalog in
      let P : Plan = binary n c op p q in (
        found-strongest p (and-left (typed s p) _ ok) h.0,
        found-strongest q (and-left (typed s q) _ (and-right (typed s p) _ ok)) h.1,
        strongest-here P (found C P) _ (found-typed s cat part-typed longest P ok) (found-bare C P) (size-found C P) refl refl (order-found C P (claim (found C p)).part (claim (found C p)).order) (all-found C P h.2),
      )
  found-strongest (exchange n c k m p) ok h =
      let C : ℕ → Relation = relation_at s.catalog in
      let P : Plan = exchange n c k m p in (
        found-strongest p (and-left (typed s p) _ ok) h.0,
        strongest-here P (found C P) _ (found-typed s cat part-typed longest P ok) (found-bare C P) (size-found C P) refl refl (order-found C P (claim (found C p)).part (claim (found C p)).order) (all-found C P h.1),
      )

pub found-is-good : PartIsTyped → PartTellsTheMost → PartIsClaimless → ShownOrderTellsTheMost → FoundIsGood
found-is-good part-typed most claimless longest s p cat ok = record {
  typed = found-typed s cat part-typed longest p ok;
  same = found-bare (relation_at s.catalog) p;
  strongest = found-strongest part-typed most claimless longest s cat p ok;
}

-- ---- claimed keys of typed plans over a catalog

pub typed-keys : (catalog : List Relation) (p : Plan) → IsTypedOver catalog p → list_all (are_columns (width (relation_at catalog) p)) (claim p).keys ≡ true
typed-keys catalog p (s, same, ok) =
    let P : ℕ → Type 0 = λ w. list_all (are_columns w) (claim p).keys ≡ true in
    let Q : List Relation → Type 0 = λ c. list_all (are_columns (width (relation_at c) p)) (claim p).keys ≡ true in
    subst Q same (subst P (types-width (relation_at s.catalog) p) (keys-columns s p (top-typed s p (claims-typed s p ok))))

-- ---- whether the order is total

pub total-found : (catalog : ℕ → Relation) (p : Plan) (c : Claim) → c ≡ claim (found catalog p)
    → ((covers c.keys (order_columns c.order) || within (numbers_below (width catalog p)) (order_columns c.order))
    || total_follows (width catalog p) (determined catalog p) c.keys (order_columns c.order)) ≡ is_total_derived catalog (found catalog p)
total-found catalog p c e =
    let d : Claim = claim (found catalog p) in
    let cols : List ℕ = order_columns d.order in
    ap (λ (c : Claim). (covers c.keys (order_columns c.order) || within (numbers_below (width catalog p)) (order_columns c.order))
    || total_follows (width catalog p) (determined catalog p) c.keys (order_columns c.order)) e
    ∙ sym (λ i. (covers d.keys cols || within (numbers_below (width-found catalog p i)) cols) || total_follows (width-found catalog p i) (determined-found catalog p i) d.keys cols)

pub known-claim : (catalog : ℕ → Relation) (k : rust_known.KnownColumns) (p : Plan) (c : Claim) → IsKnownOf catalog k p → c ≡ claim (found catalog p) → IsClaimOf catalog k p c
known-claim catalog k p c known e = record { known = known; keys = ap (λ (d : Claim). d.keys) e ∙ keys-found catalog p }
