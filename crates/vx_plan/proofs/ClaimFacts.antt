-- A claim that was found is typed.
use Rattle.std.proofs.Common.{◌≡◌, ℕ, nat_lt, nat_le, List, [], ◌∷◌, Bool, true, false, cond, ◌&&◌, Option, Some, None, Result, Ok, Err, map, length, position, bytes_eq, codes, refl, sym, subst, lt-ltb}
use Rattle.std.specs.Prelude.{⊤}
use Rattle.std.specs.List.{list_all}
use Rattle.std.proofs.lemmas.List.{length-map}
use Rattle.std.proofs.lemmas.List.Quantifiers.{position-Some}
use Rattle.vx_rows_values.specs.declared.value.ColType.{ColType}
use Rattle.vx_rows_values.specs.Order.{order_columns}
use Rattle.vx_rows_values.specs.Types.{type_at}
use Rattle.vx_plan_nodes.specs.Plan.{one_worker, by_hash, by_range, Part, routed, Claim}
use Rattle.vx_plan_nodes.specs.Typed.{are_columns, is_size, is_routed, is_part, is_claim, range_type, bounds_at, type_eq}
use Rattle.vx_rows_values.specs.Lists.{is_some_list}
use Rattle.vx_rows_values.specs.Values.{Name}
use Rattle.vx_plan_json.specs.Document.{PartForm, hash_part, range_part, ClaimForm}
use Rattle.vx_rows_values.specs.Ranges.{RangeForm}
use Rattle.vx_plan_json.specs.Document as form
use Rattle.vx_plan_nodes.specs.Outline.{Columns, Top}
use Rattle.vx_plan_json.specs.Fault.{Refusal, too_wide, ◌>>=◌}
use Rattle.vx_plan.specs.Lookup.{find_column, find_columns, order_names, find_order, find_keys, test_distinct, test_distinct_keys, test_match, test_width, size_or, find_size, range_or, find_range}
use Rattle.vx_plan_nodes.specs.Names.{Names, scope_of}
use Rattle.vx_plan.specs.Resolve.{find_part, part_names, part_fits, claim_columns, test_claim, find_claim, with_claim}
use Rattle.vx_plan_json.specs.Formed.{are_names, are_some_names, is_order, is_part_form, is_claim_form}
use Rattle.vx_plan_json.proofs.Holds.{Holds, holds_then}
use Rattle.vx_rows_values.proofs.Booleans.{and-left, and-right, and-both}
use Rattle.vx_plan.proofs.Apart.{apart, test_distinct-apart}
use Rattle.vx_plan.proofs.FoundFacts.{AreColumns, IsColumn, AreKeys, column-found, columns-found, keys-found, test_distinct_keys-apart, test_distinct-columns, test_distinct-keys, some-columns}
use Rattle.vx_plan.proofs.OrderFacts.{IsOrder, order-found}

pub test_match-holds : (node : ℕ) (b : Bool) → Holds (λ (u : ⊤). b ≡ true) (test_match node b)
unfolding test_match
test_match-holds node true = refl
test_match-holds node false = tt

pub test_width-holds : (node w : ℕ) → Holds (λ (u : ⊤). nat_le w 64 ≡ true) (test_width node w)
unfolding test_width
test_width-holds node w = go (nat_le w 64)
  where
    go : (b : Bool) → Holds (λ (u : ⊤). b ≡ true) (cond b (Ok tt) (Err (too_wide node)))
    go true = refl
    go false = tt

size_or-holds : (names : List Name) (name : Name) (o : Option ℕ) → position (bytes_eq name) names ≡ o → Holds (λ z. is_size (length names) z ≡ true) (size_or name o)
size_or-holds names name None h = tt
size_or-holds names name (Some k) h = lt-ltb k (length names) (position-Some (bytes_eq name) names k [] h).0

pub size-holds : (s : Names) (name : Name) → Holds (λ z. is_size (length s.sizes) z ≡ true) (find_size s name)
unfolding find_size
size-holds s name = go (bytes_eq name (codes "one"))
  where
    go : (b : Bool) → Holds (λ z. is_size (length s.sizes) z ≡ true) (cond b (Ok one_worker) (size_or name (position (bytes_eq name) s.sizes)))
    go true = refl
    go false = size_or-holds s.sizes name (position (bytes_eq name) s.sizes) refl

range_or-holds : (ranges : List RangeForm) (node : ℕ) (name : Name) (o : Option ℕ) → position (λ (r : RangeForm). bytes_eq name r.name) ranges ≡ o → Holds (λ k. nat_lt k (length ranges) ≡ true) (range_or node name o)
range_or-holds ranges node name None h = tt
range_or-holds ranges node name (Some k) h = lt-ltb k (length ranges) (position-Some (λ (r : RangeForm). bytes_eq name r.name) ranges k (record { name = []; bounds = [] }) h).0

pub range-holds : (s : Names) (node : ℕ) (name : Name) → Holds (λ k. nat_lt k (length s.ranges) ≡ true) (find_range s node name)
unfolding find_range
range-holds s node name = range_or-holds s.ranges node name (position (λ (r : RangeForm). bytes_eq name r.name) s.ranges) refl

-- hashed columns of names that stand once make a route
pub hash-routed : (s : Names) (names : List Name) (types : List ColType) (route : Name) (cols : List Name) (ps : List ℕ) → length names ≡ length types → is_some_list route ≡ true → are_some_names cols ≡ true
    → AreColumns names cols ps → apart bytes_eq cols ≡ true → is_routed (scope_of s) types (by_hash route) ps ≡ true
hash-routed s names types route cols ps e r c h a =
    and-both (is_some_list route) (is_some_list ps && are_columns (length types) ps) r
    (and-both (is_some_list ps) (are_columns (length types) ps) (some-columns names cols ps h (and-left (is_some_list cols) (are_names cols) c)) (test_distinct-columns names cols ps (length types) e h a))

-- a column of its type makes a route by a range
pub range-routed : (s : Names) (names : List Name) (types : List ColType) (k p : ℕ) → length names ≡ length types → nat_lt k (length s.ranges) ≡ true → nat_lt p (length names) ≡ true
    → type_eq (type_at types p) (range_type (bounds_at (map (λ (r : RangeForm). r.bounds) s.ranges) k)) ≡ true → is_routed (scope_of s) types (by_range k) (p ∷ []) ≡ true
range-routed s names types k p e h b f =
    let P : ℕ → Type 0 = λ n. nat_lt k n ≡ true in
    let Q : ℕ → Type 0 = λ n. nat_lt p n ≡ true in
    let last : Bool = type_eq (type_at types p) (range_type (bounds_at (map (λ (r : RangeForm). r.bounds) s.ranges) k)) in
    and-both (nat_lt k (length (map (λ (r : RangeForm). r.bounds) s.ranges))) (nat_lt p (length types) && last) (subst P (sym (length-map s.ranges (λ (r : RangeForm). r.bounds))) h)
    (and-both (nat_lt p (length types)) last (subst Q e b) f)

-- a found part is typed, where its columns stand once and have its type
abbrev pub IsPart : Names → List ColType → PartForm → Part → Type 0
IsPart s types form p = apart bytes_eq (part_names form) ≡ true → part_fits s types p ≡ true → is_part (scope_of s) types p ≡ true

pub part-holds : (s : Names) (node : ℕ) (names : List Name) (types : List ColType) (form : PartForm) → length names ≡ length types → is_part_form form ≡ true → Holds (IsPart s types form) (find_part s node names form)
unfolding find_part
part-holds s node names types form.one e h = λ a f. refl
part-holds s node names types form.any e h = λ a f. refl
part-holds s node names types form.all e h = λ a f. refl
part-holds s node names types (hash_part route cols) e h =
    holds_then (AreColumns names cols) (IsPart s types (hash_part route cols)) (λ ps. Ok (routed (by_hash route) ps)) (find_columns node names cols) (columns-found node names cols)
    (λ ps c a f. hash-routed s names types route cols ps e (and-left (is_some_list route) (are_some_names cols) h) (and-right (is_some_list route) (are_some_names cols) h) c a)
part-holds s node names types (range_part range col) e h =
    holds_then (λ k. nat_lt k (length s.ranges) ≡ true) (IsPart s types (range_part range col)) (λ k. find_column node names col >>= λ p. Ok (routed (by_range k) (p ∷ []))) (find_range s node range) (range-holds s node range)
    (λ k r. holds_then (IsColumn names col) (IsPart s types (range_part range col)) (λ p. Ok (routed (by_range k) (p ∷ []))) (find_column node names col) (column-found node names col)
    (λ p c a f. range-routed s names types k p e r c.below f))

record IsClaimFound (s : Names) (cols : Columns) (form : ClaimForm) (k : Claim) : Type 0 where
  part : IsPart s cols.types form.part k.part
  order : IsOrder cols.names form.order k.order
  keys : AreKeys cols.names form.keys k.keys

claim_columns-holds : (s : Names) (node : ℕ) (cols : Columns) (c : ClaimForm) → length cols.names ≡ length cols.types → is_claim_form c ≡ true → Holds (IsClaimFound s cols c) (claim_columns s node cols.names c)
unfolding claim_columns
claim_columns-holds s node cols c e h =
    holds_then (IsPart s cols.types c.part) (IsClaimFound s cols c) (λ p. find_order node cols.names c.order >>= λ o. find_keys node cols.names c.keys >>= λ ks. Ok (record { part = p; order = o; keys = ks }))
    (find_part s node cols.names c.part) (part-holds s node cols.names cols.types c.part e (and-left (is_part_form c.part) (is_order c.order && list_all are_names c.keys) h))
    (λ p hp. holds_then (IsOrder cols.names c.order) (IsClaimFound s cols c) (λ o. find_keys node cols.names c.keys >>= λ ks. Ok (record { part = p; order = o; keys = ks })) (find_order node cols.names c.order) (order-found node cols.names c.order)
    (λ o ho. holds_then (AreKeys cols.names c.keys) (IsClaimFound s cols c) (λ ks. Ok (record { part = p; order = o; keys = ks })) (find_keys node cols.names c.keys) (keys-found node cols.names c.keys)
    (λ ks hk. record { part = hp; order = ho; keys = hk })))

record StandsOnce (c : ClaimForm) : Type 0 where
  part : apart bytes_eq (part_names c.part) ≡ true
  order : apart bytes_eq (order_names c.order) ≡ true
  keys : list_all (apart bytes_eq) c.keys ≡ true

test_claim-holds : (node : ℕ) (c : ClaimForm) → Holds (λ (u : ⊤). StandsOnce c) (test_claim node c)
unfolding test_claim
test_claim-holds node c =
    holds_then (λ (u : ⊤). apart bytes_eq (part_names c.part) ≡ true) (λ (u : ⊤). StandsOnce c) (λ u. test_distinct node (order_names c.order) >>= λ v. test_distinct_keys node c.keys) (test_distinct node (part_names c.part)) (test_distinct-apart node (part_names c.part))
    (λ u p. holds_then (λ (u : ⊤). apart bytes_eq (order_names c.order) ≡ true) (λ (u : ⊤). StandsOnce c) (λ v. test_distinct_keys node c.keys) (test_distinct node (order_names c.order)) (test_distinct-apart node (order_names c.order))
    (λ v o. go p o (test_distinct_keys node c.keys) (test_distinct_keys-apart node c.keys)))
  where
    go : apart bytes_eq (part_names c.part) ≡ true → apart bytes_eq (order_names c.order) ≡ true → (r : Result ⊤ Refusal) → Holds (λ (u : ⊤). list_all (apart bytes_eq) c.keys ≡ true) r → Holds (λ (u : ⊤). StandsOnce c) r
    go p o (Ok u) k = record { part = p; order = o; keys = k }
    go p o (Err e) k = tt

pub claim-holds : (s : Names) (node : ℕ) (cols : Columns) (c : ClaimForm) → length cols.names ≡ length cols.types → is_claim_form c ≡ true → Holds (λ k. is_claim (scope_of s) cols.types k ≡ true) (find_claim s node cols c)
unfolding find_claim
claim-holds s node cols c e h =
    holds_then (IsClaimFound s cols c) (λ k. is_claim (scope_of s) cols.types k ≡ true) (λ k. test_claim node c >>= λ u. test_match node (part_fits s cols.types k.part) >>= λ v. Ok k) (claim_columns s node cols.names c) (claim_columns-holds s node cols c e h)
    (λ k f. holds_then (λ (u : ⊤). StandsOnce c) (λ k. is_claim (scope_of s) cols.types k ≡ true) (λ u. test_match node (part_fits s cols.types k.part) >>= λ v. Ok k) (test_claim node c) (test_claim-holds node c)
    (λ u o. holds_then (λ (v : ⊤). part_fits s cols.types k.part ≡ true) (λ k. is_claim (scope_of s) cols.types k ≡ true) (λ v. Ok k) (test_match node (part_fits s cols.types k.part)) (test_match-holds node (part_fits s cols.types k.part))
    (λ v m. let w : ℕ = length cols.types in
    and-both (is_part (scope_of s) cols.types k.part) (are_columns w (order_columns k.order) && list_all (are_columns w) k.keys) (f.part o.part m)
    (and-both (are_columns w (order_columns k.order)) (list_all (are_columns w) k.keys) (test_distinct-columns cols.names (order_names c.order) (order_columns k.order) w e f.order.columns o.order) (test_distinct-keys cols.names c.keys k.keys w e f.keys o.keys)))))

-- a top has its number, its columns and a typed claim
pub record IsTop (s : Names) (node : ℕ) (cols : Columns) (h : Top) : Type 0 where
  pub number : h.number ≡ node
  pub columns : h.columns ≡ cols
  pub claim : is_claim (scope_of s) cols.types h.claim ≡ true

pub top-holds : (s : Names) (node : ℕ) (cols : Columns) (c : ClaimForm) → length cols.names ≡ length cols.types → is_claim_form c ≡ true → Holds (IsTop s node cols) (with_claim s node cols c)
unfolding with_claim
top-holds s node cols c e h =
    holds_then (λ k. is_claim (scope_of s) cols.types k ≡ true) (IsTop s node cols) (λ k. Ok (record { number = node; claim = k; columns = cols })) (find_claim s node cols c) (claim-holds s node cols c e h)
    (λ k t. record { number = refl; columns = refl; claim = t })
