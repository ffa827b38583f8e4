-- A typed plan that is well named is what its document resolves to.
use Rattle.std.proofs.Common.{◌≡◌, ℕ, suc, ◌+◌, ◌==◌, nat_lt, nat_le, List, Bool, true, false, not, ◌&&◌, Ok, length, bytes_eq, refl, sym, ap, ◌∙◌, subst, arith, true≢false, eqb-true}
use Rattle.std.proofs.lemmas.Bool.{not-true}
use Rattle.vx_rows_values.specs.declared.value.ColType.{ColType}
use Rattle.vx_rows_values.specs.declared.order.OrderEntry.{OrderEntry}
use Rattle.vx_rows_values.specs.Order.{order_columns}
use Rattle.vx_catalog_relations.specs.Naming.{order_text}
use Rattle.vx_rows_values.specs.Values.{Name}
use Rattle.vx_rows_values.proofs.Booleans.{and-left, and-right}
use Rattle.vx_catalog_relations.specs.Relation.{Relation}
use Rattle.vx_catalog_relations.specs.Catalog.{relation_at, are_distinct_names}
use Rattle.vx_plan_nodes.specs.Plan.{Unary, Binary, ExchangeKind, Plan}
use Rattle.vx_plan_nodes.specs.Plan as plan
use Rattle.vx_plan_nodes.specs.Types.{types_of, unary_types, binary_types}
use Rattle.vx_plan_nodes.specs.Numbering.{nodes, is_numbered}
use Rattle.vx_plan_nodes.specs.Phases.{is_open, unary_open, phase_fits, both_closed}
use Rattle.vx_plan_nodes.specs.Typed.{are_columns, is_size, is_unary, is_binary, is_kind, is_claim, is_output, may_merge, typed}
use Rattle.vx_plan_nodes.specs.Outline.{Columns, Top, Outline, scan, unary, binary, exchange, columns, plan_in}
use Rattle.vx_plan_nodes.specs.Outputs.{IsOutputOf, HasOutputs}
use Rattle.vx_plan_nodes.specs.Names.{Names, scope_of}
use Rattle.vx_plan_nodes.proofs.ErasedFacts.{final-types}
use Rattle.vx_plan_nodes.proofs.OutputFacts.{top-output}
use Rattle.vx_plan.specs.Resolve.{scan_columns, scan_typed, with_claim, under_final, unary_typed, binary_typed, exchange_typed, typed_in}
use Rattle.vx_plan.specs.ByName.{relation_name, size_name, top_by_name, unary_by_name, binary_by_name, kind_by_name, tree_by_name, column_names}
use Rattle.vx_plan.specs.Exact.{AreNamed}
use Rattle.vx_plan.proofs.Apart.{apart}
use Rattle.vx_plan.proofs.Passed.{distinct-apart}
use Rattle.vx_plan.proofs.Looked.{AreDeclared, relation-again, size-again}
use Rattle.vx_plan.proofs.ClaimExact.{top-again}
use Rattle.vx_plan.proofs.UnaryAgain.{columns-same, IsOver, shape-again}
use Rattle.vx_plan.proofs.PairExact.{IsJoin, joint-again, exchange-again}
use Rattle.vx_plan.proofs.PlanSaid.{own-names}

-- ---- outputs

-- a node's columns, of these types, and its claim on them
record IsNode (s : Names) (n : ℕ) (types : List ColType) (h : Top) : Type 0 where
  top : with_claim s n h.columns (top_by_name s h) ≡ Ok h
  own : apart bytes_eq h.columns.names ≡ true
  long : length h.columns.names ≡ length h.columns.types
  few : nat_le (length h.columns.types) 64 ≡ true
  typed : h.columns.types ≡ types

node-again : (s : Names) (n : ℕ) (types : List ColType) (h : Top) → AreDeclared s → IsOutputOf types h.columns → are_distinct_names h.columns.names ≡ true → is_output (scope_of s) types h.claim ≡ true → (h.number == n) ≡ true → IsNode s n types h
node-again s n types h d out distinct ok number =
    let P : List ColType → Type 0 = λ ts. is_claim (scope_of s) ts h.claim ≡ true in
    let Q : List ColType → Type 0 = λ ts. nat_le (length ts) 64 ≡ true in
    let own = distinct-apart h.columns.names distinct in
    let long : length h.columns.names ≡ length h.columns.types = out.names_are ∙ ap length (sym out.types_are) in
    let claim = subst P (sym out.types_are) (and-right (nat_le (length types) 64) (is_claim (scope_of s) types h.claim) ok) in
    record {
      top = top-again s n h d own long claim (eqb-true h.number n number);
      own = own;
      long = long;
      few = subst Q (sym out.types_are) (and-left (nat_le (length types) 64) (is_claim (scope_of s) types h.claim) ok);
      typed = out.types_are;
    }

-- the columns of an input
record IsInput (s : Names) (t : Outline) : Type 0 where
  own : apart bytes_eq (column_names t) ≡ true
  wide : length (column_names t) ≡ length (columns t).types
  typed : (columns t).types ≡ types_of (relation_at s.catalog) (plan_in t)

input-of : (s : Names) (t : Outline) → HasOutputs (relation_at s.catalog) t → AreNamed s.catalog t → IsInput s t
input-of s t outputs named =
    let out = top-output (relation_at s.catalog) t outputs in
    record { own = distinct-apart (column_names t) (own-names s.catalog t named); wide = out.names_are ∙ ap length (sym out.types_are); typed = out.types_are }

-- ---- phases

-- from an open plan the way up reaches a final group, where it does so from an operator over it that leaves it open
final-above : (under : Bool) (names output : List Name) (op : Unary) (renamed : List Bool) (p : Plan) → phase_fits op p ≡ true → (unary_open op (is_open p) ≡ true → under ≡ true) → is_open p ≡ true
    → under_final under (unary_by_name names output op renamed) ≡ true
final-above under names output (plan.select cs) renamed p h above e = absurd (true≢false (sym e ∙ not-true (is_open p) h))
final-above under names output (plan.project cols) renamed p h above e = absurd (true≢false (sym e ∙ not-true (is_open p) h))
final-above under names output (plan.distinct cols) renamed p h above e = absurd (true≢false (sym e ∙ not-true (is_open p) h))
final-above under names output (plan.sort false order) renamed p h above e = absurd (true≢false (sym e ∙ not-true (is_open p) h))
final-above under names output (plan.sort true order) renamed p h above e = above e
final-above under names output (plan.group plan.plain by aggregates) renamed p h above e = absurd (true≢false (sym e ∙ not-true (is_open p) h))
final-above under names output (plan.group plan.partial by aggregates) renamed p h above e = absurd (true≢false (sym e ∙ not-true (is_open p) h))
final-above under names output (plan.group plan.final by aggregates) renamed p h above e = refl
final-above under names output (plan.limit rows) renamed p h above e = absurd (true≢false (sym e ∙ not-true (is_open p) h))

same-types : (catalog : ℕ → Relation) (op : Unary) (p : Plan) → phase_fits op p ≡ true → (keys : List ℕ) (puts : List plan.Aggregate) → op ≡ plan.group plan.final keys puts → unary_types op (types_of catalog p) ≡ types_of catalog p
same-types catalog op p fits keys puts e =
    let P : Unary → Type 0 = λ o. phase_fits o p ≡ true in
    ap (λ o. unary_types o (types_of catalog p)) e ∙ final-types catalog keys puts p (subst P e fits)

-- ---- nodes

scan-again : (s : Names) (n : ℕ) (h : Top) (r : ℕ) (shared : Bool) (z : plan.Size) (prefix : List ℕ) → AreDeclared s → typed (scope_of s) (plan_in (scan h r shared z prefix)) ≡ true → HasOutputs (relation_at s.catalog) (scan h r shared z prefix)
    → AreNamed s.catalog (scan h r shared z prefix) → (h.number == n) ≡ true
    → scan_typed s n (top_by_name s h) (record { relation = relation_name s r; shared = shared; size = size_name s z; prefix = prefix }) ≡ Ok (scan h r shared z prefix)
unfolding scan_typed
scan-again s n h r shared z prefix d ok outputs named number =
    let types : List ColType = (relation_at s.catalog r).types in
    let rest = and-right (nat_lt r (length s.catalog)) (is_size (length s.sizes) z && is_output (scope_of s) types h.claim) ok in
    let node = node-again s n types h d outputs named.1 (and-right (is_size (length s.sizes) z) (is_output (scope_of s) types h.claim) rest) number in
    let same : h.columns ≡ scan_columns (relation_at s.catalog r) prefix = columns-same h.columns (scan_columns (relation_at s.catalog r) prefix) named.0 node.typed in
    let P : Columns → Type 0 = λ c. with_claim s n c (top_by_name s h) ≡ Ok h in
    rw (
      relation-again s n r d (and-left (nat_lt r (length s.catalog)) (is_size (length s.sizes) z && is_output (scope_of s) types h.claim) ok),
      size-again s z d (and-left (is_size (length s.sizes) z) (is_output (scope_of s) types h.claim) rest),
      subst P same node.top,
    ) refl

unary-again : (s : Names) (under : Bool) (n : ℕ) (h : Top) (op : Unary) (renamed : List Bool) (t : Outline) → AreDeclared s → typed (scope_of s) (plan_in (unary h op renamed t)) ≡ true → HasOutputs (relation_at s.catalog) (unary h op renamed t)
    → AreNamed s.catalog (unary h op renamed t) → (h.number == n) ≡ true → (unary_open op (is_open (plan_in t)) ≡ true → under ≡ true)
    → unary_typed s under n (top_by_name s h) (unary_by_name (column_names t) h.columns.names op renamed) t ≡ Ok (unary h op renamed t)
unfolding unary_typed
unary-again s under n h op renamed t d ok outputs named number above =
    let ts : List ColType = types_of (relation_at s.catalog) (plan_in t) in
    let us : List ColType = unary_types op ts in
    let last : Bool = is_output (scope_of s) us h.claim in
    let one = and-right (typed (scope_of s) (plan_in t)) (phase_fits op (plan_in t) && (is_unary ts op && last)) ok in
    let fits = and-left (phase_fits op (plan_in t)) (is_unary ts op && last) one in
    let two = and-right (phase_fits op (plan_in t)) (is_unary ts op && last) one in
    let node = node-again s n us h d outputs.0 named.1 (and-right (is_unary ts op) last two) number in
    let input = input-of s t outputs.1 named.2 in
    let P : List ColType → Type 0 = λ xs. is_unary xs op ≡ true in
    let over : IsOver (columns t) op renamed h.columns = record {
      own = input.own;
      wide = input.wide;
      fits = subst P (sym input.typed) (and-left (is_unary ts op) last two);
      named = named.0;
      typed = node.typed ∙ ap (unary_types op) (sym input.typed);
      long = node.long;
      few = node.few;
      distinct = node.own;
    } in
    let shape = shape-again under n t op renamed h.columns over fits above (λ keys puts e. node.typed ∙ (same-types (relation_at s.catalog) op (plan_in t) fits keys puts e ∙ sym input.typed)) in
    rw (shape, node.top) refl

binary-again : (s : Names) (n : ℕ) (h : Top) (op : Binary) (t u : Outline) → AreDeclared s → typed (scope_of s) (plan_in (binary h op t u)) ≡ true → HasOutputs (relation_at s.catalog) (binary h op t u)
    → AreNamed s.catalog (binary h op t u) → (h.number == n) ≡ true
    → binary_typed s n (top_by_name s h) (binary_by_name (column_names t) (column_names u) op) t u ≡ Ok (binary h op t u)
unfolding binary_typed
binary-again s n h op t u d ok outputs named number =
    let ts : List ColType = types_of (relation_at s.catalog) (plan_in t) in
    let us : List ColType = types_of (relation_at s.catalog) (plan_in u) in
    let vs : List ColType = binary_types op ts us in
    let last : Bool = is_output (scope_of s) vs h.claim in
    let one = and-right (typed (scope_of s) (plan_in t)) (typed (scope_of s) (plan_in u) && (both_closed (plan_in t) (plan_in u) && (is_binary ts us op && last))) ok in
    let two = and-right (typed (scope_of s) (plan_in u)) (both_closed (plan_in t) (plan_in u) && (is_binary ts us op && last)) one in
    let three = and-right (both_closed (plan_in t) (plan_in u)) (is_binary ts us op && last) two in
    let node = node-again s n vs h d outputs.0 named.1 (and-right (is_binary ts us op) last three) number in
    let left = input-of s t outputs.1 named.2 in
    let right = input-of s u outputs.2 named.3 in
    let P : List ColType → Type 0 = λ xs. is_binary xs us op ≡ true in
    let Q : List ColType → Type 0 = λ xs. is_binary (columns t).types xs op ≡ true in
    let join : IsJoin (columns t) (columns u) op h.columns = record {
      own_left = left.own;
      own_right = right.own;
      wide_left = left.wide;
      wide_right = right.wide;
      fits = subst Q (sym right.typed) (subst P (sym left.typed) (and-left (is_binary ts us op) last three));
      named = named.0;
      typed = node.typed ∙ (ap (λ xs. binary_types op xs us) (sym left.typed) ∙ ap (λ xs. binary_types op (columns t).types xs) (sym right.typed));
      long = node.long;
      few = node.few;
      distinct = node.own;
      firsts = named.4;
      rising = named.5;
    } in
    rw (joint-again n (columns t) (columns u) op h.columns join, node.top) refl

exchanged-again : (s : Names) (n : ℕ) (h : Top) (k : ExchangeKind) (merge : List OrderEntry) (t : Outline) → AreDeclared s → typed (scope_of s) (plan_in (exchange h k merge t)) ≡ true → HasOutputs (relation_at s.catalog) (exchange h k merge t)
    → AreNamed s.catalog (exchange h k merge t) → (h.number == n) ≡ true
    → exchange_typed s n (top_by_name s h) (kind_by_name s (column_names t) k) (order_text (column_names t) merge) t ≡ Ok (exchange h k merge t)
unfolding exchange_typed
exchanged-again s n h k merge t d ok outputs named number =
    let ts : List ColType = types_of (relation_at s.catalog) (plan_in t) in
    let last : Bool = is_output (scope_of s) ts h.claim in
    let one = and-right (typed (scope_of s) (plan_in t)) (is_kind (scope_of s) ts k && (are_columns (length ts) (order_columns merge) && (may_merge k merge && last))) ok in
    let two = and-right (is_kind (scope_of s) ts k) (are_columns (length ts) (order_columns merge) && (may_merge k merge && last)) one in
    let three = and-right (are_columns (length ts) (order_columns merge)) (may_merge k merge && last) two in
    let node = node-again s n ts h d outputs.0 named.1 (and-right (may_merge k merge) last three) number in
    let input = input-of s t outputs.1 named.2 in
    let P : List ColType → Type 0 = λ xs. is_kind (scope_of s) xs k ≡ true in
    let Q : List ColType → Type 0 = λ xs. are_columns (length xs) (order_columns merge) ≡ true in
    let sent = exchange-again s n (columns t) k merge d input.own input.wide (subst P (sym input.typed) (and-left (is_kind (scope_of s) ts k) (are_columns (length ts) (order_columns merge) && (may_merge k merge && last)) one))
    (subst Q (sym input.typed) (and-left (are_columns (length ts) (order_columns merge)) (may_merge k merge && last) two)) in
    let same : h.columns ≡ columns t = columns-same h.columns (columns t) named.0 (node.typed ∙ sym input.typed) in
    let R : Columns → Type 0 = λ c. with_claim s n c (top_by_name s h) ≡ Ok h in
    rw (sent, subst R same node.top) refl

-- ---- the walk

pub tree-again : (s : Names) (under : Bool) (n : ℕ) (o : Outline) → AreDeclared s → typed (scope_of s) (plan_in o) ≡ true → HasOutputs (relation_at s.catalog) o → AreNamed s.catalog o → is_numbered n (plan_in o) ≡ true
    → (is_open (plan_in o) ≡ true → under ≡ true) → typed_in s under n (tree_by_name s o) ≡ Ok (o, n + nodes (plan_in o))
unfolding typed_in
tree-again s under n (scan h r m z p) d ok outputs named numbered above = rw (scan-again s n h r m z p d ok outputs named numbered) refl
tree-again s under n (unary h op renamed t) d ok outputs named numbered above =
    let ts : List ColType = types_of (relation_at s.catalog) (plan_in t) in
    let rest : Bool = phase_fits op (plan_in t) && (is_unary ts op && is_output (scope_of s) (unary_types op ts) h.claim) in
    let f = unary_by_name (column_names t) h.columns.names op renamed in
    let fits = and-left (phase_fits op (plan_in t)) (is_unary ts op && is_output (scope_of s) (unary_types op ts) h.claim) (and-right (typed (scope_of s) (plan_in t)) rest ok) in
    let up : suc n ≡ n + 1 = omega arith in
    let P : ℕ → Type 0 = λ k. is_numbered k (plan_in t) ≡ true in
    let below = tree-again s (under_final under f) (n + 1) t d (and-left (typed (scope_of s) (plan_in t)) rest ok) outputs.1 named.2 (subst P up (and-right (h.number == n) (is_numbered (suc n) (plan_in t)) numbered))
    (final-above under (column_names t) h.columns.names op renamed (plan_in t) fits above) in
    let count : n + 1 + nodes (plan_in t) ≡ n + suc (nodes (plan_in t)) = omega arith in
    rw (below, unary-again s under n h op renamed t d ok outputs named (and-left (h.number == n) (is_numbered (suc n) (plan_in t)) numbered) above, count) refl
tree-again s under n (binary h op t u) d ok outputs named numbered above =
    let ts : List ColType = types_of (relation_at s.catalog) (plan_in t) in
    let us : List ColType = types_of (relation_at s.catalog) (plan_in u) in
    let last : Bool = is_binary ts us op && is_output (scope_of s) (binary_types op ts us) h.claim in
    let one = and-right (typed (scope_of s) (plan_in t)) (typed (scope_of s) (plan_in u) && (both_closed (plan_in t) (plan_in u) && last)) ok in
    let shut = and-left (both_closed (plan_in t) (plan_in u)) last (and-right (typed (scope_of s) (plan_in u)) (both_closed (plan_in t) (plan_in u) && last) one) in
    let shut_left = not-true (is_open (plan_in t)) (and-left (not (is_open (plan_in t))) (not (is_open (plan_in u))) shut) in
    let shut_right = not-true (is_open (plan_in u)) (and-right (not (is_open (plan_in t))) (not (is_open (plan_in u))) shut) in
    let rest = and-right (h.number == n) (is_numbered (suc n) (plan_in t) && is_numbered (suc n + nodes (plan_in t)) (plan_in u)) numbered in
    let up : suc n ≡ n + 1 = omega arith in
    let over : suc n + nodes (plan_in t) ≡ n + 1 + nodes (plan_in t) = omega arith in
    let P : ℕ → Type 0 = λ k. is_numbered k (plan_in t) ≡ true in
    let Q : ℕ → Type 0 = λ k. is_numbered k (plan_in u) ≡ true in
    let left = tree-again s false (n + 1) t d (and-left (typed (scope_of s) (plan_in t)) (typed (scope_of s) (plan_in u) && (both_closed (plan_in t) (plan_in u) && last)) ok) outputs.1 named.2
    (subst P up (and-left (is_numbered (suc n) (plan_in t)) (is_numbered (suc n + nodes (plan_in t)) (plan_in u)) rest)) (λ e. absurd (true≢false (sym e ∙ shut_left))) in
    let right = tree-again s false (n + 1 + nodes (plan_in t)) u d (and-left (typed (scope_of s) (plan_in u)) (both_closed (plan_in t) (plan_in u) && last) one) outputs.2 named.3
    (subst Q over (and-right (is_numbered (suc n) (plan_in t)) (is_numbered (suc n + nodes (plan_in t)) (plan_in u)) rest)) (λ e. absurd (true≢false (sym e ∙ shut_right))) in
    let count : n + 1 + nodes (plan_in t) + nodes (plan_in u) ≡ n + suc (nodes (plan_in t) + nodes (plan_in u)) = omega arith in
    let number = and-left (h.number == n) (is_numbered (suc n) (plan_in t) && is_numbered (suc n + nodes (plan_in t)) (plan_in u)) numbered in
    rw (left, right, binary-again s n h op t u d ok outputs named number, count) refl
tree-again s under n (exchange h k merge t) d ok outputs named numbered above =
    let ts : List ColType = types_of (relation_at s.catalog) (plan_in t) in
    let up : suc n ≡ n + 1 = omega arith in
    let P : ℕ → Type 0 = λ k. is_numbered k (plan_in t) ≡ true in
    let below = tree-again s under (n + 1) t d (and-left (typed (scope_of s) (plan_in t)) (is_kind (scope_of s) ts k && (are_columns (length ts) (order_columns merge) && (may_merge k merge && is_output (scope_of s) ts h.claim))) ok) outputs.1 named.2
    (subst P up (and-right (h.number == n) (is_numbered (suc n) (plan_in t)) numbered)) above in
    let count : n + 1 + nodes (plan_in t) ≡ n + suc (nodes (plan_in t)) = omega arith in
    rw (below, exchanged-again s n h k merge t d ok outputs named (and-left (h.number == n) (is_numbered (suc n) (plan_in t)) numbered), count) refl
