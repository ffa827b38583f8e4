-- At the nodes of two plans of the same operators: what is asked of the inputs' parts, and the parts that are shown, over inputs whose claims tell the other ones'.
use Rattle.std.proofs.Common.{◌≡◌, ℕ, nat_lt, Bool, true, false, ◌&&◌, ◌||◌, List, [], ◌∷◌, length, refl, sym, ap, ◌∙◌, subst, true≢false, arith}
use Rattle.std.proofs.lemmas.Bool.{and_parts}
use Rattle.vx_rows_values.specs.Order.{order_columns}
use Rattle.vx_rows_values.specs.Lists.{is_some_list}
use Rattle.vx_rows_values.specs.declared.value.ColType.{ColType}
use Rattle.vx_rows_values.specs.Types.{type_at}
use Rattle.vx_rows_values.proofs.Booleans.{and-left, and-right, and-both}
use Rattle.vx_rows_values.specs.declared.order.OrderEntry.{OrderEntry}
use Rattle.vx_catalog_relations.specs.Relation.{Relation}
use Rattle.vx_catalog_relations.specs.Catalog.{relation_at, all_below}
use Rattle.vx_plan_nodes.specs.Plan.{by_hash, by_range, Part, one, any, all, routed, Claim, claim, Size, one_worker, group_of, size, size_eq, is_one, Unary, Binary, union, join, semi_join, ExchangeKind, Plan, scan, unary, binary, exchange}
use Rattle.vx_plan_nodes.specs.Parts.{kind_part}
use Rattle.vx_plan_nodes.specs.Phases.{phase_fits, both_closed}
use Rattle.vx_plan_nodes.specs.Types.{types_of, width, part_columns}
use Rattle.vx_plan_nodes.specs.Typed.{Scope, type_eq, range_type, bounds_at, are_columns, is_part, is_claim, is_output, is_unary, is_binary, is_kind, is_size, may_merge, typed}
use Rattle.vx_plan_nodes.specs.Describe.{described}
use Rattle.vx_plan_facts.specs.Equal.{Equality, equal_at}
use Rattle.vx_plan_facts.specs.Naming.{IsTypedOver}
use Rattle.vx_plan_facts.proofs.NamedColumns.{types-width}
use Rattle.vx_check_rules.specs.Rules.{sizes_match, has, keeps_apart, binary_inputs_match, unless_one, unary_shows, both_have, join_shows, semi_join_shows, kind_shows, shows}
use Rattle.vx_check_rules.specs.Derived.{unary_meets_equally, routed_alike_equally, inputs_match_derived, part_matches, routed_as, is_any, join_routed, semi_join_routed, part_derived}
use Rattle.vx_check_keeping.proofs.EqualLaws.{equal-is}
use Rattle.vx_check_keeping.proofs.SameFacts.{under, beside, with_claims, width-same, equal-same, size-same}
use Rattle.vx_check_keeping.proofs.PartsKept.{InPlace, has-any, unary-matches, unary-shown, union-inputs, join-inputs, union-shown, join-shown}
use Rattle.vx_check_keeping.proofs.SemiParts.{semi-inputs, semi-shown}
use Rattle.vx_check_keeping.proofs.OrdersKept.{Under, part-below}

-- ---- a claimed part is of distinct columns

part-distinct : (s : Scope) (types : List ColType) (q : Part) → is_part s types q ≡ true → are_columns (length types) (part_columns q) ≡ true
part-distinct s types one h = refl
part-distinct s types any h = refl
part-distinct s types all h = refl
part-distinct s types (routed (by_hash name) cols) h =
    and-right (is_some_list cols) (are_columns (length types) cols) (and-right (is_some_list name) (is_some_list cols && are_columns (length types) cols) h)
part-distinct s types (routed (by_range k) []) h = absurd (true≢false (sym h))
part-distinct s types (routed (by_range k) (c ∷ [])) h =
    let last : Bool = type_eq (type_at types c) (range_type (bounds_at s.ranges k)) in
    and-both (nat_lt c (length types) && true) true
    (and-both (nat_lt c (length types)) true (and-left (nat_lt c (length types)) last (and-right (nat_lt k (length s.ranges)) (nat_lt c (length types) && last) h)) refl) refl
part-distinct s types (routed (by_range k) (c ∷ d ∷ cs)) h = absurd (true≢false (sym h))

claimed-output : (s : Scope) (p : Plan) → typed s p ≡ true → is_output s (types_of (relation_at s.catalog) p) (claim p) ≡ true
claimed-output s (scan n c r m z) h =
    let out : Bool = is_output s (types_of (relation_at s.catalog) (scan n c r m z)) c in
    and-right (is_size s.sizes z) out (and-right (nat_lt r (length s.catalog)) (is_size s.sizes z && out) h)
claimed-output s (unary n c op p) h =
    let out : Bool = is_output s (types_of (relation_at s.catalog) (unary n c op p)) c in
    let fits : Bool = is_unary (types_of (relation_at s.catalog) p) op in
    and-right fits out (and-right (phase_fits op p) (fits && out) (and-right (typed s p) (phase_fits op p && (fits && out)) h))
claimed-output s (binary n c op p q) h =
    let out : Bool = is_output s (types_of (relation_at s.catalog) (binary n c op p q)) c in
    let fits : Bool = is_binary (types_of (relation_at s.catalog) p) (types_of (relation_at s.catalog) q) op in
    and-right fits out (and-right (both_closed p q) (fits && out) (and-right (typed s q) (both_closed p q && (fits && out)) (and-right (typed s p) (typed s q && (both_closed p q && (fits && out))) h)))
claimed-output s (exchange n c k m p) h =
    let types : List ColType = types_of (relation_at s.catalog) p in
    let out : Bool = is_output s types c in
    and-right (may_merge k m) out (and-right (are_columns (length types) (order_columns m)) (may_merge k m && out)
    (and-right (is_kind s types k) (are_columns (length types) (order_columns m) && (may_merge k m && out)) (and-right (typed s p) (is_kind s types k && (are_columns (length types) (order_columns m) && (may_merge k m && out))) h)))

pub claimed-distinct : (catalog : List Relation) (p : Plan) → IsTypedOver catalog p → are_columns (width (relation_at catalog) p) (part_columns (claim p).part) ≡ true
claimed-distinct catalog p (s, same, h) =
    let types : List ColType = types_of (relation_at s.catalog) p in
    let t = and_parts _ (is_claim s types (claim p)) (claimed-output s p h) in
    let u = and_parts (is_part s types (claim p).part) _ t.1 in
    let wide : length types ≡ width (relation_at catalog) p = types-width (relation_at s.catalog) p ∙ ap (λ l. width (relation_at l) p) same in
    let P : ℕ → Type 0 = λ w. are_columns w (part_columns (claim p).part) ≡ true in
    subst P wide (part-distinct s types (claim p).part u.0)

-- ---- workers

sizes-alike : (y z : Size) → size_eq y z ≡ true → is_one z ≡ is_one y
sizes-alike one_worker one_worker h = refl
sizes-alike one_worker (group_of k) h = absurd (true≢false (sym h))
sizes-alike (group_of j) one_worker h = absurd (true≢false (sym h))
sizes-alike (group_of j) (group_of k) h = refl

module _ (catalog : List Relation) where
  abbrev C : ℕ → Relation
  C = relation_at catalog

  in-place : (p g : Plan) → Under catalog p g → InPlace (equal_at C (with_claims p g)) p (with_claims p g)
  in-place p g u = record { alone = ap is_one (size-same p g); part = λ n. u.tells.part (ap is_one (size-same p g) ∙ n) }

  pub sizes-kept : (n i : ℕ) (c d : Claim) (op : Binary) (p q g h : Plan) → sizes_match (binary n c op p q) ≡ true
      → sizes_match (binary i d op (with_claims p g) (with_claims q h)) ≡ true
  sizes-kept n i c d op p q g h k =
      subst (λ (y : Size). size_eq y (size (with_claims q h)) ≡ true) (sym (size-same p g)) (subst (λ (z : Size). size_eq (size p) z ≡ true) (sym (size-same q h)) k)

  pub sent-kept : (p g : Plan) → Under catalog p g → has p any ≡ true → has (with_claims p g) any ≡ true
  sent-kept p g u h = has-any (equal_at C (with_claims p g)) (equal-is C (with_claims p g)) p (with_claims p g) (in-place p g u) h

  -- ---- what operators ask of their inputs' parts

  pub unary-inputs : (n i : ℕ) (c d : Claim) (op : Unary) (p g : Plan) → Under catalog p g → inputs_match_derived C (unary n c op p) ≡ true
      → inputs_match_derived C (unary i d op (with_claims p g)) ≡ true
  unary-inputs n i c d op p g u h =
      unary-matches (equal_at C (with_claims p g)) (equal-is C (with_claims p g)) op p (with_claims p g) (in-place p g u)
      (subst (λ (e : Equality). ((is_one (size p) || keeps_apart op p) || unary_meets_equally e op (claim p).part) ≡ true) (sym (equal-same C p g)) h)

  pub binary-inputs : (n i : ℕ) (c d : Claim) (op : Binary) (p q g h : Plan) → sizes_match (binary n c op p q) ≡ true → Under catalog p g → Under catalog q h
      → inputs_match_derived C (binary n c op p q) ≡ true → inputs_match_derived C (binary i d op (with_claims p g) (with_claims q h)) ≡ true
  binary-inputs n i c d union p q g h sizes u v k =
      union-inputs (equal_at C (with_claims p g)) (equal_at C (with_claims q h)) (equal-is C (with_claims p g)) (equal-is C (with_claims q h)) p q (with_claims p g) (with_claims q h)
      (in-place p g u) (in-place q h v) k
  binary-inputs n i c d (join m on) p q g h sizes u v k =
      join-inputs (equal_at C (with_claims p g)) (equal_at C (with_claims q h)) (equal-is C (with_claims p g)) (equal-is C (with_claims q h)) p q (with_claims p g) (with_claims q h)
      (in-place p g u) (in-place q h v) on (sizes-alike (size p) (size q) sizes) m
      (subst (λ (e : Equality). ((is_one (size p) || binary_inputs_match (join m on) p q) || routed_alike_equally e (equal_at C (with_claims q h)) on (claim p).part (claim q).part) ≡ true)
      (sym (equal-same C p g))
      (subst (λ (f : Equality). ((is_one (size p) || binary_inputs_match (join m on) p q) || routed_alike_equally (equal_at C p) f on (claim p).part (claim q).part) ≡ true)
      (sym (equal-same C q h)) k))
  binary-inputs n i c d (semi_join matched on conditions) p q g h sizes u v k =
      let op : Binary = semi_join matched on conditions in
      semi-inputs (equal_at C (with_claims p g)) (equal_at C (with_claims q h)) (equal-is C (with_claims p g)) (equal-is C (with_claims q h)) p q (with_claims p g) (with_claims q h)
      (in-place p g u) (in-place q h v) on (sizes-alike (size p) (size q) sizes)
      (subst (λ (e : Equality). ((is_one (size p) || binary_inputs_match op p q) || routed_alike_equally e (equal_at C (with_claims q h)) on (claim p).part (claim q).part) ≡ true)
      (sym (equal-same C p g))
      (subst (λ (f : Equality). ((is_one (size p) || binary_inputs_match op p q) || routed_alike_equally (equal_at C p) f on (claim p).part (claim q).part) ≡ true)
      (sym (equal-same C q h)) k))

  -- ---- parts

  -- a node shows the part, by either table
  abbrev pub Shown : Plan → Part → Type 0
  Shown p q = (unless_one (shows C p) q || part_derived C p q) ≡ true

  pub scan-parts : (n i : ℕ) (c d : Claim) (r : ℕ) (m : Bool) (z : Size) (q : Part) → Shown (scan n c r m z) q → Shown (scan i d r m z) q
  scan-parts n i c d r true z one h = h
  scan-parts n i c d r true z any h = h
  scan-parts n i c d r true z all h = h
  scan-parts n i c d r true z (routed s cols) h = h
  scan-parts n i c d r false z one h = h
  scan-parts n i c d r false z any h = h
  scan-parts n i c d r false z all h = h
  scan-parts n i c d r false z (routed s cols) h = h

  pub unary-parts : (n : ℕ) (c : Claim) (op : Unary) (p g : Plan) → Under catalog p (under g) → is_one (size p) ≡ false → (q : Part) → all_below (width C (unary n c op p)) (part_columns q) ≡ true
      → Shown (unary n c op p) q → Shown (with_claims (unary n c op p) g) q
  unary-parts n c op p g u several q l h =
      let e : Plan = unary n c op p in
      let f : Plan = with_claims e g in
      let s : Plan = with_claims p (under g) in
      unary-shown (equal_at C s) (equal-is C s) (width C f) op (equal_at C f) (equal-is C f) p s (in-place p (under g) u) several q
      (subst (λ (w : ℕ). all_below w (part_columns q) ≡ true) (sym (width-same C e g)) l)
      (subst (λ (w : ℕ). (unless_one (unary_shows op p) q || routed_as w (described op).copying (equal_at C s) (equal_at C f) (claim p).part q) ≡ true) (sym (width-same C e g))
      (subst (λ (x : Equality). (unless_one (unary_shows op p) q || routed_as (width C e) (described op).copying x (equal_at C f) (claim p).part q) ≡ true) (sym (equal-same C p (under g)))
      (subst (λ (x : Equality). (unless_one (unary_shows op p) q || routed_as (width C e) (described op).copying (equal_at C p) x (claim p).part q) ≡ true) (sym (equal-same C e g)) h)))

  -- by numbers of columns and equal ones
  abbrev union_test : Equality → Equality → Plan → Plan → Part → Bool
  union_test e f p q x = unless_one (both_have p q) x || (part_matches e (claim p).part x && part_matches f (claim q).part x)

  abbrev join_test : (v w : ℕ) → Equality → Equality → Equality → List (ℕ × ℕ) → Plan → Plan → Part → Bool
  join_test v w e f g on p q x =
      unless_one (join_shows on v p q) x || ((is_any x && routed_alike_equally e f on (claim p).part (claim q).part) || join_routed v w e f g on p q x)

  abbrev semi_join_test : ℕ → Equality → Equality → Equality → List (ℕ × ℕ) → Plan → Plan → Part → Bool
  semi_join_test w e f g on p q x =
      unless_one (semi_join_shows on p q) x || ((is_any x && routed_alike_equally e f on (claim p).part (claim q).part) || semi_join_routed w e f g on p q x)

  pub binary-parts : (n : ℕ) (c : Claim) (op : Binary) (p q g : Plan) → sizes_match (binary n c op p q) ≡ true → Under catalog p (under g) → Under catalog q (beside g) → is_one (size p) ≡ false
      → (x : Part) → all_below (width C (binary n c op p q)) (part_columns x) ≡ true → Shown (binary n c op p q) x → Shown (with_claims (binary n c op p q) g) x
  binary-parts n c union p q g sizes u v several x l h =
      let s : Plan = with_claims p (under g) in
      let t : Plan = with_claims q (beside g) in
      union-shown (equal_at C s) (equal_at C t) (equal-is C s) (equal-is C t) p q s t (in-place p (under g) u) (in-place q (beside g) v) [] (sizes-alike (size p) (size q) sizes) several x
      (subst (λ (y : Equality). union_test y (equal_at C t) p q x ≡ true) (sym (equal-same C p (under g)))
      (subst (λ (y : Equality). union_test (equal_at C p) y p q x ≡ true) (sym (equal-same C q (beside g))) h))
  binary-parts n c (join m on) p q g sizes u v several x l h =
      let e : Plan = binary n c (join m on) p q in
      let f : Plan = with_claims e g in
      let s : Plan = with_claims p (under g) in
      let t : Plan = with_claims q (beside g) in
      join-shown (equal_at C s) (equal_at C t) (equal-is C s) (equal-is C t) p q s t (in-place p (under g) u) (in-place q (beside g) v) on (sizes-alike (size p) (size q) sizes)
      (width C s) (width C f) (equal_at C f) (equal-is C f) (omega arith)
      (subst (λ (w : ℕ). all_below w (part_columns (claim p).part) ≡ true) (sym (width-same C p (under g))) (part-below catalog p u.both.typed)) several x
      (subst (λ (w : ℕ). all_below w (part_columns x) ≡ true) (sym (width-same C e g)) l)
      (subst (λ (y : ℕ). join_test y (width C f) (equal_at C s) (equal_at C t) (equal_at C f) on p q x ≡ true) (sym (width-same C p (under g)))
      (subst (λ (y : ℕ). join_test (width C p) y (equal_at C s) (equal_at C t) (equal_at C f) on p q x ≡ true) (sym (width-same C e g))
      (subst (λ (y : Equality). join_test (width C p) (width C e) y (equal_at C t) (equal_at C f) on p q x ≡ true) (sym (equal-same C p (under g)))
      (subst (λ (y : Equality). join_test (width C p) (width C e) (equal_at C p) y (equal_at C f) on p q x ≡ true) (sym (equal-same C q (beside g)))
      (subst (λ (y : Equality). join_test (width C p) (width C e) (equal_at C p) (equal_at C q) y on p q x ≡ true) (sym (equal-same C e g)) h)))))
  binary-parts n c (semi_join matched on conditions) p q g sizes u v several x l h =
      let e : Plan = binary n c (semi_join matched on conditions) p q in
      let f : Plan = with_claims e g in
      let s : Plan = with_claims p (under g) in
      let t : Plan = with_claims q (beside g) in
      semi-shown (equal_at C s) (equal_at C t) (equal-is C s) (equal-is C t) p q s t (in-place p (under g) u) (in-place q (beside g) v) on (sizes-alike (size p) (size q) sizes)
      (width C s) (equal_at C f) (equal-is C f) several x (subst (λ (w : ℕ). all_below w (part_columns x) ≡ true) (sym (width-same C p (under g))) l)
      (subst (λ (y : ℕ). semi_join_test y (equal_at C s) (equal_at C t) (equal_at C f) on p q x ≡ true) (sym (width-same C p (under g)))
      (subst (λ (y : Equality). semi_join_test (width C p) y (equal_at C t) (equal_at C f) on p q x ≡ true) (sym (equal-same C p (under g)))
      (subst (λ (y : Equality). semi_join_test (width C p) (equal_at C p) y (equal_at C f) on p q x ≡ true) (sym (equal-same C q (beside g)))
      (subst (λ (y : Equality). semi_join_test (width C p) (equal_at C p) (equal_at C q) y on p q x ≡ true) (sym (equal-same C e g)) h))))

  pub sent-parts : (n i : ℕ) (c d : Claim) (k : ExchangeKind) (m : List OrderEntry) (p g : Plan) (x : Part) → Shown (exchange n c k m p) x → Shown (exchange i d k m (with_claims p g)) x
  sent-parts n i c d k m p g x h =
      subst (λ (e : Equality). (unless_one (kind_shows k) x || part_matches e (kind_part k) x) ≡ true) (sym (equal-same C p g)) h
