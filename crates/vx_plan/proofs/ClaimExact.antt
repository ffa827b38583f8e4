-- A claim is found exactly where it is typed, and says the names that were asked for.
use Rattle.std.proofs.Common.{◌≡◌, ℕ, nat_lt, List, [], ◌∷◌, Bool, true, false, ◌&&◌, Ok, map, length, bytes_eq, refl, sym, ap, ◌∙◌, subst}
use Rattle.std.specs.Prelude.{⊤}
use Rattle.std.specs.List.{list_all}
use Rattle.vx_rows_values.specs.declared.value.ColType.{ColType}
use Rattle.vx_rows_values.specs.Order.{order_columns}
use Rattle.vx_rows_values.specs.Types.{type_at}
use Rattle.vx_rows_values.specs.Values.{Name}
use Rattle.vx_rows_values.specs.Lists.{is_some_list}
use Rattle.vx_rows_values.specs.Ranges.{RangeForm}
use Rattle.vx_rows_values.proofs.Booleans.{and-left, and-right}
use Rattle.vx_catalog_relations.specs.Catalog.{all_below, are_distinct}
use Rattle.vx_plan_nodes.specs.Plan.{by_hash, by_range, Part, routed, Claim}
use Rattle.vx_plan_nodes.specs.Plan as plan
use Rattle.vx_plan_nodes.specs.Typed.{are_columns, is_routed, is_part, is_claim, range_type, bounds_at, type_eq}
use Rattle.vx_plan_nodes.specs.Outline.{Columns, Top}
use Rattle.vx_plan_nodes.specs.Names.{Names, scope_of}
use Rattle.vx_plan_json.specs.Document.{PartForm, hash_part, range_part, ClaimForm}
use Rattle.vx_plan_json.specs.Document as form
use Rattle.vx_plan.specs.Lookup.{tested_onto, find_column, find_columns, find_order, find_keys, test_distinct, test_match, find_range}
use Rattle.vx_plan.specs.Resolve.{find_part, part_names, part_fits, route_fits, claim_columns, test_claim, find_claim, with_claim}
use Rattle.vx_plan.specs.ByName.{first_name, part_by_name, claim_by_name, top_by_name}
use Rattle.vx_plan.proofs.Apart.{apart}
use Rattle.vx_plan.proofs.Each.{ok_then, ok_last}
use Rattle.vx_plan.proofs.Looked.{AreDeclared, column-said, columns-said, keys-said, range-said, column-again, columns-again, keys-again, range-again, columns_once-again, test_distinct_keys-again}
use Rattle.vx_plan.proofs.OrderFacts.{order-said, order-again, order_once-again}

-- ---- what was found

pub part-said : (s : Names) (node : ℕ) (names : List Name) (f : PartForm) (p : Part) → find_part s node names f ≡ Ok p → part_by_name s names p ≡ f
unfolding find_part
part-said s node names form.one p h = let e : plan.one ≡ p = cc in rw (← e) refl
part-said s node names form.any p h = let e : plan.any ≡ p = cc in rw (← e) refl
part-said s node names form.all p h = let e : plan.all ≡ p = cc in rw (← e) refl
part-said s node names (hash_part route cols) p h =
    let t = ok_last (λ (ps : List ℕ). routed (by_hash route) ps) (find_columns node names cols) p h in
    rw (← t.2) (ap (λ ns. hash_part route ns) (columns-said node names cols t.0 t.1))
part-said s node names (range_part range col) p h =
    let t = ok_then _ (find_range s node range) p h in
    let u = ok_last (λ (c : ℕ). routed (by_range t.0) (c ∷ [])) (find_column node names col) p t.2 in
    rw (← u.2) (ap (λ n. range_part n (name_of u.0)) (range-said s node range t.0 t.1) ∙ ap (λ n. range_part range n) (column-said node names col u.0 u.1).named)
  where
    name_of : ℕ → Name
    name_of c = first_name names (c ∷ [])

claim_columns-said : (s : Names) (node : ℕ) (names : List Name) (c : ClaimForm) (k : Claim) → claim_columns s node names c ≡ Ok k → claim_by_name s names k ≡ c
unfolding claim_columns
claim_columns-said s node names c k h =
    let t = ok_then _ (find_part s node names c.part) k h in
    let u = ok_then _ (find_order node names c.order) k t.2 in
    let v = ok_last (λ (ks : List (List ℕ)). record { part = t.0; order = u.0; keys = ks }) (find_keys node names c.keys) k u.2 in
    rw (← v.2) (rw (part-said s node names c.part t.0 t.1, order-said node names c.order u.0 u.1, keys-said node names c.keys v.0 v.1) refl)

claim-said : (s : Names) (node : ℕ) (cols : Columns) (c : ClaimForm) (k : Claim) → find_claim s node cols c ≡ Ok k → claim_by_name s cols.names k ≡ c
unfolding find_claim
claim-said s node cols c k h =
    let t = ok_then _ (claim_columns s node cols.names c) k h in
    let u = ok_then _ (test_claim node c) k t.2 in
    let v = ok_last (λ (w : ⊤). t.0) (test_match node (part_fits s cols.types t.0.part)) k u.2 in
    rw (← v.2) (claim_columns-said s node cols.names c t.0 t.1)

-- what a top that was found says
pub record IsTopSaid (s : Names) (node : ℕ) (cols : Columns) (c : ClaimForm) (h : Top) : Type 0 where
  pub claim : top_by_name s h ≡ c
  pub columns : h.columns ≡ cols

pub top-said : (s : Names) (node : ℕ) (cols : Columns) (c : ClaimForm) (h : Top) → with_claim s node cols c ≡ Ok h → IsTopSaid s node cols c h
unfolding with_claim
top-said s node cols c h e =
    let t = ok_last (λ (k : Claim). record { number = node; claim = k; columns = cols }) (find_claim s node cols c) h e in
    let P : Top → Type 0 = λ h. IsTopSaid s node cols c h in
    subst P t.2 (record { claim = claim-said s node cols c t.0 t.1; columns = refl })

-- ---- what is found again

pub test_match-again : (node : ℕ) (b : Bool) → b ≡ true → test_match node b ≡ Ok tt
unfolding test_match
test_match-again node true h = refl
test_match-again node false h = cc

record PartFound (s : Names) (node : ℕ) (cols : Columns) (p : Part) : Type 0 where
  found : find_part s node cols.names (part_by_name s cols.names p) ≡ Ok p
  alone : test_distinct node (part_names (part_by_name s cols.names p)) ≡ Ok tt
  fits : part_fits s cols.types p ≡ true

-- columns of so many types are columns of so many names
pub along : (names : List Name) (types : List ColType) (cols : List ℕ) → length names ≡ length types → are_columns (length types) cols ≡ true → are_columns (length names) cols ≡ true
along names types cols e h = let P : ℕ → Type 0 = λ n. are_columns n cols ≡ true in subst P (sym e) h

pub none-once : (node : ℕ) → test_distinct node [] ≡ Ok tt
unfolding test_distinct tested_onto
none-once node = refl

pub range-fits : (s : Names) (types : List ColType) (k : ℕ) (cols : List ℕ) → is_routed (scope_of s) types (by_range k) cols ≡ true
    → (c : ℕ) × (cols ≡ c ∷ []) × (nat_lt k (length (map (λ (r : RangeForm). r.bounds) s.ranges)) ≡ true) × (nat_lt c (length types) ≡ true) × (route_fits s types (by_range k) cols ≡ true)
range-fits s types k [] h = cc
range-fits s types k (c ∷ []) h =
    let last : Bool = type_eq (type_at types c) (range_type (bounds_at (map (λ (r : RangeForm). r.bounds) s.ranges) k)) in
    let first : Bool = nat_lt k (length (map (λ (r : RangeForm). r.bounds) s.ranges)) in
    let rest = and-right first (nat_lt c (length types) && last) h in
    (c, refl, and-left first (nat_lt c (length types) && last) h, and-left (nat_lt c (length types)) last rest, and-right (nat_lt c (length types)) last rest)
range-fits s types k (c ∷ d ∷ cols) h = cc

part-again : (s : Names) (node : ℕ) (cols : Columns) (p : Part) → AreDeclared s → apart bytes_eq cols.names ≡ true → length cols.names ≡ length cols.types → is_part (scope_of s) cols.types p ≡ true → PartFound s node cols p
unfolding find_part
part-again s node cols plan.one d a e h = record { found = refl; alone = none-once node; fits = refl }
part-again s node cols plan.any d a e h = record { found = refl; alone = none-once node; fits = refl }
part-again s node cols plan.all d a e h = record { found = refl; alone = none-once node; fits = refl }
part-again s node cols (routed (by_hash route) ps) d a e h =
    let w : ℕ = length cols.types in
    let are = along cols.names cols.types ps e (and-right (is_some_list ps) (are_columns w ps) (and-right (is_some_list route) (is_some_list ps && are_columns w ps) h)) in
    record {
      found = rw (columns-again node cols.names ps a (and-left (all_below (length cols.names) ps) (are_distinct ps) are)) refl;
      alone = columns_once-again node cols.names ps a are;
      fits = refl;
    }
part-again s node cols (routed (by_range k) ps) d a e h =
    let t = range-fits s cols.types k ps h in
    let P : ℕ → Type 0 = λ n. nat_lt t.0 n ≡ true in
    record {
      found = rw (t.1, range-again s node k d t.2, column-again node cols.names t.0 a (subst P (sym e) t.3)) refl;
      alone = none-once node;
      fits = t.4;
    }

pub top-again : (s : Names) (node : ℕ) (h : Top) → AreDeclared s → apart bytes_eq h.columns.names ≡ true → length h.columns.names ≡ length h.columns.types → is_claim (scope_of s) h.columns.types h.claim ≡ true → h.number ≡ node
    → with_claim s node h.columns (top_by_name s h) ≡ Ok h
unfolding with_claim find_claim claim_columns test_claim
top-again s node h d a e k n =
    let w : ℕ = length h.columns.types in
    let rest = and-right (is_part (scope_of s) h.columns.types h.claim.part) (are_columns w (order_columns h.claim.order) && list_all (are_columns w) h.claim.keys) k in
    let p = part-again s node h.columns h.claim.part d a e (and-left (is_part (scope_of s) h.columns.types h.claim.part) (are_columns w (order_columns h.claim.order) && list_all (are_columns w) h.claim.keys) k) in
    let o = along h.columns.names h.columns.types (order_columns h.claim.order) e (and-left (are_columns w (order_columns h.claim.order)) (list_all (are_columns w) h.claim.keys) rest) in
    let P : ℕ → Type 0 = λ n. list_all (are_columns n) h.claim.keys ≡ true in
    let ks = subst P (sym e) (and-right (are_columns w (order_columns h.claim.order)) (list_all (are_columns w) h.claim.keys) rest) in
    let order = order-again node h.columns.names h.claim.order a o in
    let keys = keys-again node h.columns.names h.claim.keys a ks in
    let distinct_order = order_once-again node h.columns.names h.claim.order a o in
    let distinct_keys = test_distinct_keys-again node h.columns.names h.claim.keys a ks in
    rw (p.found, order, keys, p.alone, distinct_order, distinct_keys, test_match-again node (part_fits s h.columns.types h.claim.part) p.fits, ← n) refl
