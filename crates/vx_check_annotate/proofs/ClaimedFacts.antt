-- Typed plans and documents with the claims of others.
use Rattle.std.proofs.Common.{◌≡◌, ℕ, suc, ◌+◌, ◌==◌, List, [], ◌++◌, drop, length, Bool, false, ◌&&◌, refl, sym, ap, ◌∙◌, subst}
use Rattle.std.proofs.Math.Seq.{drop-append_seam, drop-nil}
use Rattle.std.proofs.lemmas.List.{append_assoc, length-append}
use Rattle.vx_rows_values.specs.declared.value.ColType.{ColType}
use Rattle.vx_catalog_relations.specs.Relation.{Relation}
use Rattle.vx_catalog_relations.specs.Naming.{order_text}
use Rattle.vx_plan_nodes.specs.Plan.{Plan}
use Rattle.vx_plan_nodes.specs.Plan as plan
use Rattle.vx_plan_nodes.specs.Types.{types_of, unary_types, binary_types}
use Rattle.vx_plan_nodes.specs.Numbering.{nodes, is_numbered}
use Rattle.vx_plan_nodes.specs.Phases.{unary_open, is_open}
use Rattle.vx_plan_nodes.specs.Outline.{Columns, Outline, scan, unary, binary, exchange, columns, plan_in}
use Rattle.vx_plan_nodes.specs.Outputs.{IsOutputOf, HasOutputs}
use Rattle.vx_plan_nodes.specs.Names.{Names}
use Rattle.vx_plan_json.specs.Document.{ClaimForm, Tree, tree_nodes, Document}
use Rattle.vx_plan_json.specs.Document as form
use Rattle.vx_plan.specs.ByName.{top_by_name, unary_by_name, binary_by_name, kind_by_name, tree_by_name}
use Rattle.vx_plan.specs.Exact.{UnaryNames, binary_names, has_first_columns, AreNamed}
use Rattle.vx_check_options.specs.Placed.{bare}
use Rattle.vx_check_annotate.specs.Unclaimed.{no_claim, without_claims, unclaimed}
use Rattle.vx_check_annotate.specs.Claimed.{with_claims, forms_of, first_form, later_forms, tree_with, with_forms}
use Rattle.vx_check_annotate.proofs.TreeFacts.{nodes_without, same_nodes}

-- ---- what a typed plan with other claims keeps

-- it is the plan whose claims it has
pub plan-claimed : (q : Plan) (o : Outline) → bare q ≡ bare (plan_in o) → plan_in (with_claims q o) ≡ q
plan-claimed (plan.scan n c r m z) (scan h relation shared size prefix) e = cc
plan-claimed (plan.unary n c op p) (unary h operator renamed t) e = let below : bare p ≡ bare (plan_in t) = cc in let same = plan-claimed p t below in cc
plan-claimed (plan.binary n c op p q) (binary h operator t u) e =
    let left : bare p ≡ bare (plan_in t) = cc in
    let right : bare q ≡ bare (plan_in u) = cc in
    let one = plan-claimed p t left in
    let two = plan-claimed q u right in cc
plan-claimed (plan.exchange n c k m p) (exchange h kind merge t) e = let below : bare p ≡ bare (plan_in t) = cc in let same = plan-claimed p t below in cc
plan-claimed q o e = cc

pub columns-claimed : (q : Plan) (o : Outline) → columns (with_claims q o) ≡ columns o
columns-claimed (plan.scan n c r m z) (scan h relation shared size prefix) = refl
columns-claimed (plan.unary n c op p) (unary h operator renamed t) = refl
columns-claimed (plan.binary n c op p q) (binary h operator t u) = refl
columns-claimed (plan.exchange n c k m p) (exchange h kind merge t) = refl
columns-claimed q o = refl

types-claimed : (catalog : ℕ → Relation) (q : Plan) (o : Outline) → types_of catalog (plan_in (with_claims q o)) ≡ types_of catalog (plan_in o)
types-claimed catalog (plan.scan n c r m z) (scan h relation shared size prefix) = refl
types-claimed catalog (plan.unary n c op p) (unary h operator renamed t) = ap (unary_types operator) (types-claimed catalog p t)
types-claimed catalog (plan.binary n c op p q) (binary h operator t u) = λ i. binary_types operator (types-claimed catalog p t i) (types-claimed catalog q u i)
types-claimed catalog (plan.exchange n c k m p) (exchange h kind merge t) = types-claimed catalog p t
types-claimed catalog q o = refl

nodes-claimed : (q : Plan) (o : Outline) → nodes (plan_in (with_claims q o)) ≡ nodes (plan_in o)
nodes-claimed (plan.scan n c r m z) (scan h relation shared size prefix) = refl
nodes-claimed (plan.unary n c op p) (unary h operator renamed t) = ap suc (nodes-claimed p t)
nodes-claimed (plan.binary n c op p q) (binary h operator t u) = λ i. suc (nodes-claimed p t i + nodes-claimed q u i)
nodes-claimed (plan.exchange n c k m p) (exchange h kind merge t) = ap suc (nodes-claimed p t)
nodes-claimed q o = refl

pub numbered-claimed : (i : ℕ) (q : Plan) (o : Outline) → is_numbered i (plan_in (with_claims q o)) ≡ is_numbered i (plan_in o)
numbered-claimed i (plan.scan n c r m z) (scan h relation shared size prefix) = refl
numbered-claimed i (plan.unary n c op p) (unary h operator renamed t) = ap (λ b. (h.number == i) && b) (numbered-claimed (suc i) p t)
numbered-claimed i (plan.binary n c op p q) (binary h operator t u) =
    let right : is_numbered (suc i + nodes (plan_in (with_claims p t))) (plan_in (with_claims q u)) ≡ is_numbered (suc i + nodes (plan_in t)) (plan_in u) =
    ap (λ k. is_numbered (suc i + k) (plan_in (with_claims q u))) (nodes-claimed p t) ∙ numbered-claimed (suc i + nodes (plan_in t)) q u in
    λ j. (h.number == i) && (numbered-claimed (suc i) p t j && right j)
numbered-claimed i (plan.exchange n c k m p) (exchange h kind merge t) = ap (λ b. (h.number == i) && b) (numbered-claimed (suc i) p t)
numbered-claimed i q o = refl

pub open-claimed : (q : Plan) (o : Outline) → is_open (plan_in (with_claims q o)) ≡ is_open (plan_in o)
open-claimed (plan.scan n c r m z) (scan h relation shared size prefix) = refl
open-claimed (plan.unary n c op p) (unary h operator renamed t) = ap (unary_open operator) (open-claimed p t)
open-claimed (plan.binary n c op p q) (binary h operator t u) = refl
open-claimed (plan.exchange n c k m p) (exchange h kind merge t) = open-claimed p t
open-claimed q o = refl

pub named-claimed : (catalog : List Relation) (q : Plan) (o : Outline) → AreNamed catalog o → AreNamed catalog (with_claims q o)
named-claimed catalog (plan.scan n c r m z) (scan h relation shared size prefix) a = a
named-claimed catalog (plan.unary n c op p) (unary h operator renamed t) a =
    let P : Columns → Type 0 = λ cols. UnaryNames operator renamed cols.names h.columns.names in
    (subst P (sym (columns-claimed p t)) a.0, a.1, named-claimed catalog p t a.2)
named-claimed catalog (plan.binary n c op p q) (binary h operator t u) a =
    let same : binary_names operator (columns t).names (columns u).names ≡ binary_names operator (columns (with_claims p t)).names (columns (with_claims q u)).names =
    sym (λ i. binary_names operator (columns-claimed p t i).names (columns-claimed q u i).names) in
    let first : has_first_columns operator (columns (with_claims p t)).names (columns (with_claims q u)).names ≡ has_first_columns operator (columns t).names (columns u).names =
    λ i. has_first_columns operator (columns-claimed p t i).names (columns-claimed q u i).names in
    (a.0 ∙ same, a.1, named-claimed catalog p t a.2, named-claimed catalog q u a.3, first ∙ a.4, a.5)
named-claimed catalog (plan.exchange n c k m p) (exchange h kind merge t) a = (a.0 ∙ sym (ap (λ (cols : Columns). cols.names) (columns-claimed p t)), a.1, named-claimed catalog p t a.2)
named-claimed catalog q o a = a

pub outputs-claimed : (catalog : ℕ → Relation) (q : Plan) (o : Outline) → HasOutputs catalog o → HasOutputs catalog (with_claims q o)
outputs-claimed catalog (plan.scan n c r m z) (scan h relation shared size prefix) a = a
outputs-claimed catalog (plan.unary n c op p) (unary h operator renamed t) a =
    let P : List ColType → Type 0 = λ ts. IsOutputOf (unary_types operator ts) h.columns in
    (subst P (sym (types-claimed catalog p t)) a.0, outputs-claimed catalog p t a.1)
outputs-claimed catalog (plan.binary n c op p q) (binary h operator t u) a =
    let P : List ColType → Type 0 = λ ts. IsOutputOf ts h.columns in
    (subst P (sym (types-claimed catalog (plan.binary n c op p q) (binary h operator t u))) a.0, outputs-claimed catalog p t a.1, outputs-claimed catalog q u a.2)
outputs-claimed catalog (plan.exchange n c k m p) (exchange h kind merge t) a =
    let P : List ColType → Type 0 = λ ts. IsOutputOf ts h.columns in
    (subst P (sym (types-claimed catalog p t)) a.0, outputs-claimed catalog p t a.1)
outputs-claimed catalog q o a = a

-- ---- documents that say them

-- it says the same document but for claims
pub tree-claimed : (s : Names) (q : Plan) (o : Outline) → without_claims (tree_by_name s (with_claims q o)) ≡ without_claims (tree_by_name s o)
tree-claimed s (plan.scan n c r m z) (scan h relation shared size prefix) = refl
tree-claimed s (plan.unary n c op p) (unary h operator renamed t) =
    let cols = columns-claimed p t in
    let below = tree-claimed s p t in
    ap (λ (cols : Columns). form.unary no_claim (unary_by_name cols.names h.columns.names operator renamed) (without_claims (tree_by_name s (with_claims p t)))) cols
    ∙ ap (λ below. form.unary no_claim (unary_by_name (columns t).names h.columns.names operator renamed) below) below
tree-claimed s (plan.binary n c op p q) (binary h operator t u) =
    let both : binary_by_name (columns (with_claims p t)).names (columns (with_claims q u)).names operator ≡ binary_by_name (columns t).names (columns u).names operator =
    λ i. binary_by_name (columns-claimed p t i).names (columns-claimed q u i).names operator in
    λ i. form.binary no_claim (both i) (tree-claimed s p t i) (tree-claimed s q u i)
tree-claimed s (plan.exchange n c k m p) (exchange h kind merge t) =
    let sent : kind_by_name s (columns (with_claims p t)).names kind ≡ kind_by_name s (columns t).names kind = ap (λ (cols : Columns). kind_by_name s cols.names kind) (columns-claimed p t) in
    let merged : order_text (columns (with_claims p t)).names merge ≡ order_text (columns t).names merge = ap (λ (cols : Columns). order_text cols.names merge) (columns-claimed p t) in
    λ i. form.exchange no_claim (sent i) (merged i) (tree-claimed s p t i)
tree-claimed s q o = refl

-- as many claims as nodes
forms-count : (s : Names) (o : Outline) → length (forms_of s o) ≡ tree_nodes (tree_by_name s o)
forms-count s (scan h relation shared size prefix) = refl
forms-count s (unary h op renamed t) = ap suc (forms-count s t)
forms-count s (binary h op t u) = ap suc (length-append (forms_of s t) (forms_of s u) ∙ λ i. forms-count s t i + forms-count s u i)
forms-count s (exchange h kind merge t) = ap suc (forms-count s t)

-- a tree with the claims of a typed plan is what the plan says, where it is so but for claims
pub tree-with : (s : Names) (o : Outline) (rest : List ClaimForm) (t : Tree) → without_claims t ≡ without_claims (tree_by_name s o) → tree_with (forms_of s o ++ rest) t ≡ tree_by_name s o
tree-with s (scan h relation shared size prefix) rest (form.scan c f) e = cc
tree-with s (unary h op renamed below) rest (form.unary c f t) e =
    let same : without_claims t ≡ without_claims (tree_by_name s below) = cc in
    let one = tree-with s below rest t same in cc
tree-with s (binary h op left right) rest (form.binary c f t u) e =
    let one : without_claims t ≡ without_claims (tree_by_name s left) = cc in
    let two : without_claims u ≡ without_claims (tree_by_name s right) = cc in
    let count : length (forms_of s left) ≡ tree_nodes t = forms-count s left ∙ sym (same_nodes t (tree_by_name s left) one) in
    let P : ℕ → Type 0 = λ n. drop n (forms_of s left ++ (forms_of s right ++ rest)) ≡ forms_of s right ++ rest in
    let past = subst P count (drop-append_seam (forms_of s left) (forms_of s right ++ rest)) in
    let first = tree-with s left (forms_of s right ++ rest) t one in
    let second = tree-with s right rest u two in
    let seam : (forms_of s left ++ forms_of s right) ++ rest ≡ forms_of s left ++ (forms_of s right ++ rest) = append_assoc (forms_of s left) (forms_of s right) rest in
    let there : tree_with (drop (tree_nodes t) (forms_of s left ++ (forms_of s right ++ rest))) u ≡ tree_by_name s right = ap (λ forms. tree_with forms u) past ∙ second in
    let placed : tree_with (forms_of s (binary h op left right) ++ rest) (form.binary c f t u) ≡ form.binary (top_by_name s h) f (tree_by_name s left) (tree_by_name s right) =
    (λ i. form.binary (top_by_name s h) f (tree_with (seam i) t) (tree_with (drop (tree_nodes t) (seam i)) u)) ∙ (λ i. form.binary (top_by_name s h) f (first i) (there i)) in
    cc
tree-with s (exchange h kind merge below) rest (form.exchange c f m t) e =
    let same : without_claims t ≡ without_claims (tree_by_name s below) = cc in
    let one = tree-with s below rest t same in cc
tree-with s o rest t e = cc

-- ---- claims in the order of the nodes

pub without-with : (forms : List ClaimForm) (t : Tree) → without_claims (tree_with forms t) ≡ without_claims t
without-with forms (form.scan c s) = refl
without-with forms (form.unary c op t) = ap (form.unary no_claim op) (without-with (later_forms forms) t)
without-with forms (form.binary c op t u) = λ i. form.binary no_claim op (without-with (later_forms forms) t i) (without-with (drop (tree_nodes t) (later_forms forms)) u i)
without-with forms (form.exchange c kind merge t) = ap (form.exchange no_claim kind merge) (without-with (later_forms forms) t)

-- it does not matter which claims there were
with-without : (forms : List ClaimForm) (t : Tree) → tree_with forms (without_claims t) ≡ tree_with forms t
with-without forms (form.scan c s) = refl
with-without forms (form.unary c op t) = ap (form.unary (first_form forms) op) (with-without (later_forms forms) t)
with-without forms (form.binary c op t u) =
    let count : tree_nodes (without_claims t) ≡ tree_nodes t = nodes_without t in
    let right : tree_with (drop (tree_nodes (without_claims t)) (later_forms forms)) (without_claims u) ≡ tree_with (drop (tree_nodes t) (later_forms forms)) u =
    ap (λ n. tree_with (drop n (later_forms forms)) (without_claims u)) count ∙ with-without (drop (tree_nodes t) (later_forms forms)) u in
    λ i. form.binary (first_form forms) op (with-without (later_forms forms) t i) (right i)
with-without forms (form.exchange c kind merge t) = ap (form.exchange (first_form forms) kind merge) (with-without (later_forms forms) t)

-- with no claims the nodes say nothing
with-none : (t : Tree) → tree_with [] t ≡ without_claims t
with-none (form.scan c s) = refl
with-none (form.unary c op t) = ap (form.unary no_claim op) (with-none t)
with-none (form.binary c op t u) =
    let right : tree_with (drop (tree_nodes t) []) u ≡ without_claims u = ap (λ forms. tree_with forms u) (drop-nil (tree_nodes t)) ∙ with-none u in
    λ i. form.binary no_claim op (with-none t i) (right i)
with-none (form.exchange c kind merge t) = ap (form.exchange no_claim kind merge) (with-none t)

-- the document says the same but for claims
pub unclaimed-with : (forms : List ClaimForm) (total : Bool) (d : Document) → unclaimed (with_forms forms total d) ≡ unclaimed d
unclaimed-with forms total d = λ i. record { sizes = d.sizes; ranges = d.ranges; total = false; derives = d.derives; root = without-with forms d.root i }

-- and nothing that the claims said
pub with-unclaimed : (forms : List ClaimForm) (total : Bool) (d : Document) → with_forms forms total (unclaimed d) ≡ with_forms forms total d
with-unclaimed forms total d = λ i. record { sizes = d.sizes; ranges = d.ranges; total = total; derives = d.derives; root = with-without forms d.root i }

pub with-same : (forms : List ClaimForm) (total : Bool) (d e : Document) → unclaimed d ≡ unclaimed e → with_forms forms total d ≡ with_forms forms total e
with-same forms total d e h = sym (with-unclaimed forms total d) ∙ (ap (with_forms forms total) h ∙ with-unclaimed forms total e)

pub unclaimed-none : (d : Document) → with_forms [] false d ≡ unclaimed d
unclaimed-none d = λ i. record { sizes = d.sizes; ranges = d.ranges; total = false; derives = d.derives; root = with-none d.root i }
