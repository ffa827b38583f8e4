-- A plan that was resolved is typed, and its nodes are numbered in preorder.
use Rattle.std.proofs.Common.{◌≡◌, ℕ, suc, ◌+◌, ◌≤◌, ◌==◌, nat_lt, nat_le, not, List, [], ◌∷◌, ◌++◌, Bool, true, false, cond, ◌&&◌, Option, Some, None, Result, Ok, Err, map, length, position, bytes_eq, refl, sym, ap, ◌∙◌, subst, arith, eq-eqb, lt-ltb}
use Rattle.std.specs.List.{list_all, list_any}
use Rattle.std.proofs.lemmas.List.{length-map, length_push}
use Rattle.std.proofs.lemmas.Bool.{leb-false, le-leb, or_parts, not-false}
use Rattle.std.proofs.lemmas.List.Quantifiers.{position-Some}
use Rattle.vx_rows_values.specs.declared.value.ColType.{ColType}
use Rattle.vx_catalog_json.specs.Look.{OrderText}
use Rattle.vx_rows_values.specs.Order.{order_columns}
use Rattle.vx_catalog_relations.specs.Relation.{Relation}
use Rattle.vx_catalog_relations.specs.Catalog.{relation_at, IsRelation, IsCatalog}
use Rattle.vx_plan_nodes.specs.Types.{types_of, unary_types, binary_types}
use Rattle.vx_plan_nodes.specs.Outputs.{IsOutputOf, HasOutputs}
use Rattle.vx_plan_nodes.specs.Typed.{is_size, is_unary, is_binary, is_kind, is_claim, is_output, is_range, are_columns, typed, may_merge, IsTyped}
use Rattle.vx_plan_nodes.specs.Phases.{is_open, phase_fits, both_closed}
use Rattle.vx_plan_nodes.specs.Numbering.{nodes, is_numbered}
use Rattle.vx_rows_values.specs.Values.{Name}
use Rattle.vx_plan_json.specs.Document.{ClaimForm, ScanForm, UnaryForm, BinaryForm, KindForm, Tree}
use Rattle.vx_rows_values.specs.Ranges.{RangeForm}
use Rattle.vx_plan_json.specs.Document as form
use Rattle.vx_plan_nodes.specs.Outline.{Columns, Top, Outline, scan, unary, binary, exchange, columns, plan_in}
use Rattle.vx_plan_json.specs.Fault.{Refusal, bad_size, bad_range, ◌>>=◌}
use Rattle.vx_plan.specs.Lookup.{tested_onto, find_size}
use Rattle.vx_plan_nodes.specs.Names.{Names, scope_of}
use Rattle.vx_plan.specs.Resolve.{scan_columns, relation_or, find_relation, scan_typed, with_claim, under_final, unary_shape, unary_typed, binary_shape, binary_typed, exchange_shape, exchange_typed, typed_in, is_bad_size, test_sizes, is_bad_range, test_ranges}
use Rattle.vx_plan_json.specs.Formed.{is_claim_form, is_scan_form, is_unary_form, is_binary_form, is_kind_form, is_merge_form, is_tree_form}
use Rattle.vx_plan_json.proofs.Holds.{Holds, holds_then, holds_at}
use Rattle.vx_rows_values.proofs.Booleans.{and-left, and-right, and-both}
use Rattle.vx_plan.proofs.ClaimFacts.{size-holds, IsTop, top-holds}
use Rattle.vx_plan.proofs.ShapeFacts.{IsOutput, own-output, IsShape, shape-holds, IsJoint, joint-holds, IsExchange, exchange-holds}

-- an outline that was resolved: typed, closed where no final group is above, with the columns that it says at its top and at every node, and numbered from n up to the next
pub record IsResolved (s : Names) (under : Bool) (n : ℕ) (o : Outline) (next : ℕ) : Type 0 where
  pub output : IsOutput (types_of (relation_at s.catalog) (plan_in o)) (columns o)
  pub outputs : HasOutputs (relation_at s.catalog) o
  pub typed : typed (scope_of s) (plan_in o) ≡ true
  pub numbered : is_numbered n (plan_in o) ≡ true
  pub count : next ≡ n + nodes (plan_in o)
  pub closed : under ≡ false → is_open (plan_in o) ≡ false

-- the columns of an output, at a node
output-of : {types : List ColType} {cols : Columns} → IsOutput types cols → IsOutputOf types cols
output-of out = record { types_are = out.types_are; names_are = out.names_are ∙ ap length out.types_are }

-- the claim of a top that was found is one on these types
top-output : (s : Names) (node : ℕ) (types : List ColType) (cols : Columns) (h : Top) → IsOutput types cols → IsTop s node cols h → is_output (scope_of s) types h.claim ≡ true
top-output s node types cols h out t =
    let P : List ColType → Type 0 = λ ts. is_output (scope_of s) ts h.claim ≡ true in
    subst P out.types_are (and-both (nat_le (length cols.types) 64) (is_claim (scope_of s) cols.types h.claim) out.few t.claim)

top-columns : (s : Names) (node : ℕ) (types : List ColType) (cols : Columns) (h : Top) → IsOutput types cols → IsTop s node cols h → IsOutput types h.columns
top-columns s node types cols h out t = let P : Columns → Type 0 = λ c. IsOutput types c in subst P (sym t.columns) out

relation_or-holds : (catalog : List Relation) (node : ℕ) (name : Name) (o : Option ℕ) → position (λ (r : Relation). bytes_eq name r.name) catalog ≡ o → Holds (λ r. nat_lt r (length catalog) ≡ true) (relation_or node name o)
relation_or-holds catalog node name None h = tt
relation_or-holds catalog node name (Some r) h = lt-ltb r (length catalog) (position-Some (λ (r : Relation). bytes_eq name r.name) catalog r (relation_at catalog r) h).0

pub relation-holds : (s : Names) (node : ℕ) (name : Name) → Holds (λ r. nat_lt r (length s.catalog) ≡ true) (find_relation s node name)
unfolding find_relation
relation-holds s node name = relation_or-holds s.catalog node name (position (λ (r : Relation). bytes_eq name r.name) s.catalog) refl

scan-output : (r : Relation) (prefix : List ℕ) → IsRelation r → IsOutput r.types (scan_columns r prefix)
scan-output r prefix h =
    let P : ℕ → Type 0 = λ n. nat_le n 64 ≡ true in
    record {
      types_are = refl;
      names_are = length-map r.names (λ n. prefix ++ n) ∙ sym h.typed;
      few = subst P (sym h.typed) (and-right (nat_lt 0 (length r.names)) (nat_le (length r.names) 64) h.columns);
    }

scan-holds : (s : Names) (under : Bool) (n : ℕ) (c : ClaimForm) (f : ScanForm) → IsCatalog s.catalog → is_claim_form c ≡ true → Holds (λ o. IsResolved s under n o (n + 1)) (scan_typed s n c f)
unfolding scan_typed
scan-holds s under n c f cat h =
    holds_then (λ r. nat_lt r (length s.catalog) ≡ true) (λ o. IsResolved s under n o (n + 1))
    (λ r. find_size s f.size >>= λ z. with_claim s n (scan_columns (relation_at s.catalog r) f.prefix) c >>= λ t. Ok (scan t r f.shared z f.prefix)) (find_relation s n f.relation) (relation-holds s n f.relation)
    (λ r hr.
    let out = scan-output (relation_at s.catalog r) f.prefix (cat.each r hr) in
    holds_then (λ z. is_size (length s.sizes) z ≡ true) (λ o. IsResolved s under n o (n + 1)) (λ z. with_claim s n (scan_columns (relation_at s.catalog r) f.prefix) c >>= λ t. Ok (scan t r f.shared z f.prefix)) (find_size s f.size) (size-holds s f.size)
    (λ z hz. holds_then (IsTop s n (scan_columns (relation_at s.catalog r) f.prefix)) (λ o. IsResolved s under n o (n + 1)) (λ t. Ok (scan t r f.shared z f.prefix)) (with_claim s n (scan_columns (relation_at s.catalog r) f.prefix) c)
    (top-holds s n (scan_columns (relation_at s.catalog r) f.prefix) c out.names_are h)
    (λ t ht. record {
      output = top-columns s n (relation_at s.catalog r).types (scan_columns (relation_at s.catalog r) f.prefix) t out ht;
      outputs = output-of (top-columns s n (relation_at s.catalog r).types (scan_columns (relation_at s.catalog r) f.prefix) t out ht);
      typed = and-both (nat_lt r (length s.catalog)) (is_size (length s.sizes) z && is_output (scope_of s) (relation_at s.catalog r).types t.claim) hr
          (and-both (is_size (length s.sizes) z) (is_output (scope_of s) (relation_at s.catalog r).types t.claim) hz (top-output s n (relation_at s.catalog r).types (scan_columns (relation_at s.catalog r) f.prefix) t out ht));
      numbered = eq-eqb t.number n ht.number;
      count = refl;
      closed = λ e. refl;
    })))

unary-holds : (s : Names) (under : Bool) (n : ℕ) (c : ClaimForm) (op : UnaryForm) (i : Outline) (next : ℕ) → is_claim_form c ≡ true → is_unary_form op ≡ true → IsResolved s (under_final under op) (n + 1) i next → Holds (λ o. IsResolved s under n o next) (unary_typed s under n c op i)
unfolding unary_typed
unary-holds s under n c op i next hc ho hi =
    let ts : List ColType = types_of (relation_at s.catalog) (plan_in i) in
    holds_then (IsShape under (plan_in i) (columns i)) (λ o. IsResolved s under n o next) (λ o. with_claim s n o.columns c >>= λ h. Ok (unary h o.op o.renamed i)) (unary_shape under n i op) (shape-holds under s n i op hi.output hi.typed ho hi.closed)
    (λ o sh.
    let P : List ColType → Type 0 = λ us. IsOutput (unary_types o.op us) o.columns in
    let Q : List ColType → Type 0 = λ us. is_unary us o.op ≡ true in
    let out : IsOutput (unary_types o.op ts) o.columns = subst P hi.output.types_are sh.output in
    holds_then (IsTop s n o.columns) (λ o. IsResolved s under n o next) (λ h. Ok (unary h o.op o.renamed i)) (with_claim s n o.columns c) (top-holds s n o.columns c out.names_are hc)
    (λ t ht.
    let R : ℕ → Type 0 = λ k. is_numbered k (plan_in i) ≡ true in
    record {
      output = top-columns s n (unary_types o.op ts) o.columns t out ht;
      outputs = (output-of (top-columns s n (unary_types o.op ts) o.columns t out ht), hi.outputs);
      typed = and-both (typed (scope_of s) (plan_in i)) (phase_fits o.op (plan_in i) && (is_unary ts o.op && is_output (scope_of s) (unary_types o.op ts) t.claim)) hi.typed
          (and-both (phase_fits o.op (plan_in i)) (is_unary ts o.op && is_output (scope_of s) (unary_types o.op ts) t.claim) sh.fits (and-both (is_unary ts o.op) (is_output (scope_of s) (unary_types o.op ts) t.claim) (subst Q hi.output.types_are sh.op) (top-output s n (unary_types o.op ts) o.columns t out ht)));
      closed = sh.closed;
      numbered = and-both (t.number == n) (is_numbered (suc n) (plan_in i)) (eq-eqb t.number n ht.number) (let up : n + 1 ≡ suc n = omega arith in subst R up hi.numbered);
      count = omega (arith, hi.count);
    }))

binary-holds : (s : Names) (under : Bool) (n : ℕ) (c : ClaimForm) (op : BinaryForm) (l r : Outline) (between next : ℕ) → is_claim_form c ≡ true → is_binary_form op ≡ true → IsResolved s false (n + 1) l between → IsResolved s false between r next
    → Holds (λ o. IsResolved s under n o next) (binary_typed s n c op l r)
unfolding binary_typed
binary-holds s under n c op l r between next hc ho hl hr =
    let ts : List ColType = types_of (relation_at s.catalog) (plan_in l) in
    let us : List ColType = types_of (relation_at s.catalog) (plan_in r) in
    holds_then (IsJoint (columns l) (columns r)) (λ o. IsResolved s under n o next) (λ o. with_claim s n o.columns c >>= λ h. Ok (binary h o.op l r)) (binary_shape n (columns l) (columns r) op)
    (joint-holds n (columns l) (columns r) op (own-output hl.output) (own-output hr.output) ho)
    (λ o j.
    let out : IsOutput (binary_types o.op ts us) o.columns =
    (let P : List ColType → Type 0 = λ xs. IsOutput (binary_types o.op xs us) o.columns in
    let P' : List ColType → Type 0 = λ xs. IsOutput (binary_types o.op (columns l).types xs) o.columns in
    subst P hl.output.types_are (subst P' hr.output.types_are j.output)) in
    let typed_op : is_binary ts us o.op ≡ true =
    (let Q : List ColType → Type 0 = λ xs. is_binary xs us o.op ≡ true in
    let Q' : List ColType → Type 0 = λ xs. is_binary (columns l).types xs o.op ≡ true in
    subst Q hl.output.types_are (subst Q' hr.output.types_are j.op)) in
    holds_then (IsTop s n o.columns) (λ o. IsResolved s under n o next) (λ h. Ok (binary h o.op l r)) (with_claim s n o.columns c) (top-holds s n o.columns c out.names_are hc)
    (λ t ht.
    let R : ℕ → Type 0 = λ k. is_numbered k (plan_in l) ≡ true in
    let S : ℕ → Type 0 = λ k. is_numbered k (plan_in r) ≡ true in
    let last : Bool = is_output (scope_of s) (binary_types o.op ts us) t.claim in
    record {
      output = top-columns s n (binary_types o.op ts us) o.columns t out ht;
      outputs = (output-of (top-columns s n (binary_types o.op ts us) o.columns t out ht), hl.outputs, hr.outputs);
      typed = and-both (typed (scope_of s) (plan_in l)) (typed (scope_of s) (plan_in r) && (both_closed (plan_in l) (plan_in r) && (is_binary ts us o.op && last))) hl.typed
          (and-both (typed (scope_of s) (plan_in r)) (both_closed (plan_in l) (plan_in r) && (is_binary ts us o.op && last)) hr.typed
          (and-both (both_closed (plan_in l) (plan_in r)) (is_binary ts us o.op && last) (and-both (not (is_open (plan_in l))) (not (is_open (plan_in r))) (ap not (hl.closed refl)) (ap not (hr.closed refl))) (and-both (is_binary ts us o.op) last typed_op (top-output s n (binary_types o.op ts us) o.columns t out ht))));
      closed = λ e. refl;
      numbered = and-both (t.number == n) (is_numbered (suc n) (plan_in l) && is_numbered (suc n + nodes (plan_in l)) (plan_in r)) (eq-eqb t.number n ht.number)
          (and-both (is_numbered (suc n) (plan_in l)) (is_numbered (suc n + nodes (plan_in l)) (plan_in r)) (let up : n + 1 ≡ suc n = omega arith in subst R up hl.numbered)
          (let at : between ≡ suc n + nodes (plan_in l) = omega (arith, hl.count) in subst S at hr.numbered));
      count = omega (arith, hl.count, hr.count);
    }))

exchanged-holds : (s : Names) (under : Bool) (n : ℕ) (c : ClaimForm) (kind : KindForm) (merge : List OrderText) (i : Outline) (next : ℕ) → is_claim_form c ≡ true → is_kind_form kind ≡ true → is_merge_form kind merge ≡ true → IsResolved s under (n + 1) i next
    → Holds (λ o. IsResolved s under n o next) (exchange_typed s n c kind merge i)
unfolding exchange_typed
exchanged-holds s under n c kind merge i next hc hk hm hi =
    let ts : List ColType = types_of (relation_at s.catalog) (plan_in i) in
    holds_then (IsExchange s (columns i).types) (λ o. IsResolved s under n o next) (λ k. with_claim s n (columns i) c >>= λ h. Ok (exchange h k.0 k.1 i)) (exchange_shape s n (columns i) kind merge) (exchange-holds s n (columns i) kind merge (own-output hi.output) hk hm)
    (λ x hx. holds_then (IsTop s n (columns i)) (λ o. IsResolved s under n o next) (λ h. Ok (exchange h x.0 x.1 i)) (with_claim s n (columns i) c) (top-holds s n (columns i) c hi.output.names_are hc)
    (λ t ht.
    let P : List ColType → Type 0 = λ us. is_kind (scope_of s) us x.0 ≡ true in
    let Q : List ColType → Type 0 = λ us. are_columns (length us) (order_columns x.1) ≡ true in
    let R : ℕ → Type 0 = λ k. is_numbered k (plan_in i) ≡ true in
    let last : Bool = is_output (scope_of s) ts t.claim in
    record {
      output = top-columns s n ts (columns i) t hi.output ht;
      outputs = (output-of (top-columns s n ts (columns i) t hi.output ht), hi.outputs);
      typed = and-both (typed (scope_of s) (plan_in i)) (is_kind (scope_of s) ts x.0 && (are_columns (length ts) (order_columns x.1) && (may_merge x.0 x.1 && last))) hi.typed
          (and-both (is_kind (scope_of s) ts x.0) (are_columns (length ts) (order_columns x.1) && (may_merge x.0 x.1 && last)) (subst P hi.output.types_are hx.kind)
          (and-both (are_columns (length ts) (order_columns x.1)) (may_merge x.0 x.1 && last) (subst Q hi.output.types_are hx.merge)
          (and-both (may_merge x.0 x.1) last hx.may (top-output s n ts (columns i) t hi.output ht))));
      closed = hi.closed;
      numbered = and-both (t.number == n) (is_numbered (suc n) (plan_in i)) (eq-eqb t.number n ht.number) (let up : n + 1 ≡ suc n = omega arith in subst R up hi.numbered);
      count = omega (arith, hi.count);
    }))

Resolves : Names → Bool → ℕ → Outline × ℕ → Type 0
Resolves s under n r = IsResolved s under n r.0 r.1

-- a node that has its inputs
with-next : (s : Names) (under : Bool) (n next : ℕ) (r : Result Outline Refusal) → Holds (λ o. IsResolved s under n o next) r → Holds (Resolves s under n) (r >>= λ o. Ok (o, next))
unfolding Resolves
with-next s under n next (Ok o) h = h
with-next s under n next (Err e) h = tt

pub tree-holds : (s : Names) (under : Bool) (n : ℕ) (t : Tree) → IsCatalog s.catalog → is_tree_form t ≡ true → Holds (λ (r : Outline × ℕ). IsResolved s under n r.0 r.1) (typed_in s under n t)
unfolding typed_in Resolves
tree-holds s under n (form.scan c f) cat h = with-next s under n (n + 1) (scan_typed s n c f) (scan-holds s under n c f cat (and-left (is_claim_form c) (is_scan_form f) h))
tree-holds s under n (form.unary c op t) cat h =
    let rest = and-right (is_claim_form c) (is_unary_form op && is_tree_form t) h in
    holds_then (Resolves s (under_final under op) (n + 1)) (Resolves s under n) (λ i. unary_typed s under n c op i.0 >>= λ o. Ok (o, i.1)) (typed_in s (under_final under op) (n + 1) t) (tree-holds s (under_final under op) (n + 1) t cat (and-right (is_unary_form op) (is_tree_form t) rest))
    (λ i hi. with-next s under n i.1 (unary_typed s under n c op i.0) (unary-holds s under n c op i.0 i.1 (and-left (is_claim_form c) (is_unary_form op && is_tree_form t) h) (and-left (is_unary_form op) (is_tree_form t) rest) hi))
tree-holds s under n (form.binary c op t u) cat h =
    let rest = and-right (is_claim_form c) (is_binary_form op && (is_tree_form t && is_tree_form u)) h in
    let both = and-right (is_binary_form op) (is_tree_form t && is_tree_form u) rest in
    holds_then (Resolves s false (n + 1)) (Resolves s under n) (λ l. typed_in s false l.1 u >>= λ r. binary_typed s n c op l.0 r.0 >>= λ o. Ok (o, r.1)) (typed_in s false (n + 1) t) (tree-holds s false (n + 1) t cat (and-left (is_tree_form t) (is_tree_form u) both))
    (λ l hl. holds_then (Resolves s false l.1) (Resolves s under n) (λ r. binary_typed s n c op l.0 r.0 >>= λ o. Ok (o, r.1)) (typed_in s false l.1 u) (tree-holds s false l.1 u cat (and-right (is_tree_form t) (is_tree_form u) both))
    (λ r hr. with-next s under n r.1 (binary_typed s n c op l.0 r.0)
    (binary-holds s under n c op l.0 r.0 l.1 r.1 (and-left (is_claim_form c) (is_binary_form op && (is_tree_form t && is_tree_form u)) h) (and-left (is_binary_form op) (is_tree_form t && is_tree_form u) rest) hl hr)))
tree-holds s under n (form.exchange c k m t) cat h =
    let rest = and-right (is_claim_form c) (is_kind_form k && (is_merge_form k m && is_tree_form t)) h in
    let last = and-right (is_kind_form k) (is_merge_form k m && is_tree_form t) rest in
    holds_then (Resolves s under (n + 1)) (Resolves s under n) (λ i. exchange_typed s n c k m i.0 >>= λ o. Ok (o, i.1)) (typed_in s under (n + 1) t) (tree-holds s under (n + 1) t cat (and-right (is_merge_form k m) (is_tree_form t) last))
    (λ i hi. with-next s under n i.1 (exchange_typed s n c k m i.0)
    (exchanged-holds s under n c k m i.0 i.1 (and-left (is_claim_form c) (is_kind_form k && (is_merge_form k m && is_tree_form t)) h) (and-left (is_kind_form k) (is_merge_form k m && is_tree_form t) rest) (and-left (is_merge_form k m) (is_tree_form t) last) hi))

-- at most 16 size names
sizes-few : (names before : List Name) → length before ≤ 16 → tested_onto is_bad_size bad_size before names ≡ Ok tt → length before + length names ≤ 16
unfolding tested_onto
sizes-few [] before few h = omega (arith, few)
sizes-few (x ∷ xs) before few h = go (is_bad_size before x) refl (λ e k. sizes-few xs (before ++ x ∷ []) e k) h
  where
    go : (b : Bool) → is_bad_size before x ≡ b → (length (before ++ x ∷ []) ≤ 16 → tested_onto is_bad_size bad_size (before ++ x ∷ []) xs ≡ Ok tt → length (before ++ x ∷ []) + length xs ≤ 16)
        → cond b (Err (bad_size x)) (tested_onto is_bad_size bad_size (before ++ x ∷ []) xs) ≡ Ok tt → length before + suc (length xs) ≤ 16
    go true e next k = cc
    go false e next k =
        let room = leb-false 16 (length before) (or_parts (nat_le 16 (length before)) _ e).0 in
        let n = length_push before x in
        let m = next (omega (arith, n, room)) k in
        omega (arith, n, m)

-- every range is one
ranges-are : (ranges before : List RangeForm) → tested_onto is_bad_range (λ (r : RangeForm). bad_range r.name) before ranges ≡ Ok tt → list_all is_range (map (λ (r : RangeForm). r.bounds) ranges) ≡ true
unfolding tested_onto
ranges-are [] before h = refl
ranges-are (r ∷ rs) before h = go (is_bad_range before r) refl (ranges-are rs (before ++ r ∷ [])) h
  where
    go : (b : Bool) → is_bad_range before r ≡ b → (tested_onto is_bad_range (λ (r : RangeForm). bad_range r.name) (before ++ r ∷ []) rs ≡ Ok tt → list_all is_range (map (λ (r : RangeForm). r.bounds) rs) ≡ true)
        → cond b (Err (bad_range r.name)) (tested_onto is_bad_range (λ (r : RangeForm). bad_range r.name) (before ++ r ∷ []) rs) ≡ Ok tt → (is_range r.bounds && list_all is_range (map (λ (r : RangeForm). r.bounds) rs)) ≡ true
    go true e next k = cc
    go false e next k =
        and-both (is_range r.bounds) (list_all is_range (map (λ (r : RangeForm). r.bounds) rs))
        (not-false (is_range r.bounds) (or_parts (list_any (λ (q : RangeForm). bytes_eq r.name q.name) before) (not (is_range r.bounds)) e).1) (next k)

-- what was resolved is typed, and every node has the columns of its output
pub resolved-typed : (s : Names) (t : Tree) (o : Outline) (next : ℕ) → IsCatalog s.catalog → is_tree_form t ≡ true → test_sizes s.sizes ≡ Ok tt → test_ranges s.ranges ≡ Ok tt → typed_in s false 0 t ≡ Ok (o, next)
    → IsTyped (scope_of s) (plan_in o) × (next ≡ nodes (plan_in o)) × HasOutputs (relation_at s.catalog) o
unfolding test_sizes test_ranges
resolved-typed s t o next cat formed sizes ranges h =
    let r = holds_at (λ (r : Outline × ℕ). IsResolved s false 0 r.0 r.1) (typed_in s false 0 t) (o, next) (tree-holds s false 0 t cat formed) h in
    let few : length s.sizes ≤ 16 = (let f = sizes-few s.sizes [] (omega arith) sizes in omega (arith, f)) in (
      record {
        ranges = ranges-are s.ranges [] ranges;
        sizes = le-leb (length s.sizes) 16 few;
        nodes = r.typed;
        numbered = r.numbered;
        closed = r.closed refl;
      },
      omega (arith, r.count),
      r.outputs,
    )
