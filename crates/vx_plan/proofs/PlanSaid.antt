-- What resolves says the document, and every node's columns have the names that its operator gives them.
use Rattle.std.proofs.Common.{◌≡◌, ℕ, ◌+◌, nat_lt, List, [], ◌∷◌, ◌++◌, Bool, true, false, Ok, map, length, bytes_eq, refl, sym, ap, ◌∙◌, subst}
use Rattle.std.specs.List.{list_all}
use Rattle.std.proofs.lemmas.List.{append_cancel_left}
use Rattle.std.proofs.lemmas.Slice.Eq.{bytes_eq-Decides}
use Rattle.vx_catalog_json.specs.Look.{OrderText}
use Rattle.vx_rows_values.specs.Values.{Name}
use Rattle.vx_catalog_relations.specs.Relation.{Relation}
use Rattle.vx_catalog_relations.specs.Catalog.{relation_at, are_distinct_names, IsCatalog}
use Rattle.vx_plan_nodes.specs.Outline.{Columns, Top, Outline, scan, unary, binary, exchange, columns}
use Rattle.vx_plan_nodes.specs.Names.{Names}
use Rattle.vx_plan_json.specs.Document.{ClaimForm, ScanForm, UnaryForm, BinaryForm, KindForm, Tree}
use Rattle.vx_plan_json.specs.Document as form
use Rattle.vx_plan_json.proofs.Holds.{holds_at}
use Rattle.vx_plan.specs.Lookup.{find_size}
use Rattle.vx_plan.specs.Resolve.{scan_columns, find_relation, scan_typed, with_claim, under_final, unary_shape, unary_typed, binary_shape, binary_typed, exchange_shape, exchange_typed, typed_in}
use Rattle.vx_plan.specs.ByName.{unary_by_name, tree_by_name, column_names}
use Rattle.vx_plan.specs.Exact.{UnaryNames, binary_names, AreNamed}
use Rattle.vx_plan.proofs.Each.{ok_then, ok_last}
use Rattle.vx_plan.proofs.Passed.{distinct-apart, apart-distinct}
use Rattle.vx_plan.proofs.Looked.{relation-said, size-said, apart-names}
use Rattle.vx_plan.proofs.ClaimExact.{top-said}
use Rattle.vx_plan.proofs.UnarySaid.{shape-said}
use Rattle.vx_plan.proofs.PairExact.{joint-said, exchange-said}
use Rattle.vx_plan.proofs.PlanFacts.{relation-holds}

pub record IsTreeSaid (s : Names) (t : Tree) (o : Outline) : Type 0 where
  pub says : tree_by_name s o ≡ t
  pub named : AreNamed s.catalog o

-- no two columns of a node have one name
pub own-names : (catalog : List Relation) (o : Outline) → AreNamed catalog o → are_distinct_names (column_names o) ≡ true
own-names catalog (scan h r m z p) a = a.1
own-names catalog (unary h op renamed t) a = a.1
own-names catalog (binary h op t u) a = a.1
own-names catalog (exchange h k m t) a = a.1

all-pass : {A : Type 0} (xs : List A) → list_all (λ x. true) xs ≡ true
all-pass [] = refl
all-pass (x ∷ xs) = all-pass xs

-- names that are distinct stay so behind a prefix
prefix-distinct : (prefix : List ℕ) (names : List Name) → are_distinct_names names ≡ true → are_distinct_names (map (λ n. prefix ++ n) names) ≡ true
prefix-distinct prefix names h =
    apart-distinct (map (λ n. prefix ++ n) names)
    (apart-names bytes_eq bytes_eq (λ n. prefix ++ n) (λ n. true)
    (λ x y p q e. (bytes_eq-Decides x y).1 (append_cancel_left prefix x y ((bytes_eq-Decides (prefix ++ x) (prefix ++ y)).0 e)))
    names (all-pass names) (distinct-apart names h))

scan-tree : {c d : ClaimForm} {f g : ScanForm} → c ≡ d → f ≡ g → form.scan c f ≡ form.scan d g
scan-tree e f = cc

unary-tree : {c d : ClaimForm} {f g : UnaryForm} {t u : Tree} → c ≡ d → f ≡ g → t ≡ u → form.unary c f t ≡ form.unary d g u
unary-tree e f g = cc

binary-tree : {c d : ClaimForm} {f g : BinaryForm} {t u v w : Tree} → c ≡ d → f ≡ g → t ≡ u → v ≡ w → form.binary c f t v ≡ form.binary d g u w
binary-tree e f g h = cc

exchange-tree : {c d : ClaimForm} {f g : KindForm} {m l : List OrderText} {t u : Tree} → c ≡ d → f ≡ g → m ≡ l → t ≡ u → form.exchange c f m t ≡ form.exchange d g l u
exchange-tree e f g h = cc

scan-said : (s : Names) (n : ℕ) (c : ClaimForm) (f : ScanForm) (o : Outline) → IsCatalog s.catalog → scan_typed s n c f ≡ Ok o → IsTreeSaid s (form.scan c f) o
unfolding scan_typed
scan-said s n c f o cat h =
    let r = ok_then _ (find_relation s n f.relation) o h in
    let z = ok_then _ (find_size s f.size) o r.2 in
    let cols : Columns = scan_columns (relation_at s.catalog r.0) f.prefix in
    let t = ok_last (λ (t : Top). scan t r.0 f.shared z.0 f.prefix) (with_claim s n cols c) o z.2 in
    let said = top-said s n cols c t.0 t.1 in
    let there = holds_at (λ r. nat_lt r (length s.catalog) ≡ true) (find_relation s n f.relation) r.0 (relation-holds s n f.relation) r.1 in
    let P : Columns → Type 0 = λ c. (c.names ≡ cols.names) × (are_distinct_names c.names ≡ true) in
    let Q : Outline → Type 0 = λ o. IsTreeSaid s (form.scan c f) o in
    subst Q t.2 (record {
      says = scan-tree said.claim (rw (relation-said s n f.relation r.0 r.1, size-said s f.size z.0 z.1) refl);
      named = subst P (sym said.columns) (refl, prefix-distinct f.prefix (relation_at s.catalog r.0).names (cat.each r.0 there).distinct);
    })

unary-said : (s : Names) (under : Bool) (n : ℕ) (c : ClaimForm) (op : UnaryForm) (below : Tree) (i o : Outline) → IsTreeSaid s below i → unary_typed s under n c op i ≡ Ok o → IsTreeSaid s (form.unary c op below) o
unfolding unary_typed
unary-said s under n c op below i o hi h =
    let t = ok_then _ (unary_shape under n i op) o h in
    let u = ok_last (λ (h : Top). unary h t.0.op t.0.renamed i) (with_claim s n t.0.columns c) o t.2 in
    let shape = shape-said under n i op t.0 (own-names s.catalog i hi.named) t.1 in
    let said = top-said s n t.0.columns c u.0 u.1 in
    let P : Columns → Type 0 = λ c. UnaryNames t.0.op t.0.renamed (column_names i) c.names × (are_distinct_names c.names ≡ true) in
    let Q : Outline → Type 0 = λ o. IsTreeSaid s (form.unary c op below) o in
    let named = subst P (sym said.columns) (shape.named, shape.distinct) in
    subst Q u.2 (record {
      says = unary-tree said.claim (ap (λ (c : Columns). unary_by_name (column_names i) c.names t.0.op t.0.renamed) said.columns ∙ shape.says) hi.says;
      named = (named.0, named.1, hi.named);
    })

binary-said : (s : Names) (n : ℕ) (c : ClaimForm) (op : BinaryForm) (first second : Tree) (l r o : Outline) → IsTreeSaid s first l → IsTreeSaid s second r → binary_typed s n c op l r ≡ Ok o → IsTreeSaid s (form.binary c op first second) o
unfolding binary_typed
binary-said s n c op first second l r o hl hr h =
    let t = ok_then _ (binary_shape n (columns l) (columns r) op) o h in
    let u = ok_last (λ (h : Top). binary h t.0.op l r) (with_claim s n t.0.columns c) o t.2 in
    let joint = joint-said n (columns l) (columns r) op t.0 (own-names s.catalog l hl.named) t.1 in
    let said = top-said s n t.0.columns c u.0 u.1 in
    let P : Columns → Type 0 = λ c. (c.names ≡ binary_names t.0.op (column_names l) (column_names r)) × (are_distinct_names c.names ≡ true) in
    let Q : Outline → Type 0 = λ o. IsTreeSaid s (form.binary c op first second) o in
    let named = subst P (sym said.columns) (joint.named, joint.distinct) in
    subst Q u.2 (record { says = binary-tree said.claim joint.says hl.says hr.says; named = (named.0, named.1, hl.named, hr.named, joint.firsts, joint.rising) })

exchanged-said : (s : Names) (n : ℕ) (c : ClaimForm) (kind : KindForm) (merge : List OrderText) (below : Tree) (i o : Outline) → IsTreeSaid s below i → exchange_typed s n c kind merge i ≡ Ok o → IsTreeSaid s (form.exchange c kind merge below) o
unfolding exchange_typed
exchanged-said s n c kind merge below i o hi h =
    let t = ok_then _ (exchange_shape s n (columns i) kind merge) o h in
    let u = ok_last (λ (h : Top). exchange h t.0.0 t.0.1 i) (with_claim s n (columns i) c) o t.2 in
    let sent = exchange-said s n (columns i) kind merge t.0 t.1 in
    let said = top-said s n (columns i) c u.0 u.1 in
    let P : Columns → Type 0 = λ c. (c.names ≡ column_names i) × (are_distinct_names c.names ≡ true) in
    let Q : Outline → Type 0 = λ o. IsTreeSaid s (form.exchange c kind merge below) o in
    let named = subst P (sym said.columns) (refl, own-names s.catalog i hi.named) in
    subst Q u.2 (record { says = exchange-tree said.claim sent.kind sent.merged hi.says; named = (named.0, named.1, hi.named) })

pub tree-said : (s : Names) (under : Bool) (n : ℕ) (t : Tree) (r : Outline × ℕ) → IsCatalog s.catalog → typed_in s under n t ≡ Ok r → IsTreeSaid s t r.0
unfolding typed_in
tree-said s under n (form.scan c f) r cat h =
    let t = ok_last (λ (o : Outline). (o, n + 1)) (scan_typed s n c f) r h in
    let P : Outline × ℕ → Type 0 = λ r. IsTreeSaid s (form.scan c f) r.0 in
    subst P t.2 (scan-said s n c f t.0 cat t.1)
tree-said s under n (form.unary c op below) r cat h =
    let i = ok_then _ (typed_in s (under_final under op) (n + 1) below) r h in
    let t = ok_last (λ (o : Outline). (o, i.0.1)) (unary_typed s under n c op i.0.0) r i.2 in
    let P : Outline × ℕ → Type 0 = λ r. IsTreeSaid s (form.unary c op below) r.0 in
    subst P t.2 (unary-said s under n c op below i.0.0 t.0 (tree-said s (under_final under op) (n + 1) below i.0 cat i.1) t.1)
tree-said s under n (form.binary c op first second) r cat h =
    let a = ok_then _ (typed_in s false (n + 1) first) r h in
    let b = ok_then _ (typed_in s false a.0.1 second) r a.2 in
    let t = ok_last (λ (o : Outline). (o, b.0.1)) (binary_typed s n c op a.0.0 b.0.0) r b.2 in
    let P : Outline × ℕ → Type 0 = λ r. IsTreeSaid s (form.binary c op first second) r.0 in
    subst P t.2 (binary-said s n c op first second a.0.0 b.0.0 t.0 (tree-said s false (n + 1) first a.0 cat a.1) (tree-said s false a.0.1 second b.0 cat b.1) t.1)
tree-said s under n (form.exchange c kind merge below) r cat h =
    let i = ok_then _ (typed_in s under (n + 1) below) r h in
    let t = ok_last (λ (o : Outline). (o, i.0.1)) (exchange_typed s n c kind merge i.0.0) r i.2 in
    let P : Outline × ℕ → Type 0 = λ r. IsTreeSaid s (form.exchange c kind merge below) r.0 in
    subst P t.2 (exchanged-said s n c kind merge below i.0.0 t.0 (tree-said s under (n + 1) below i.0 cat i.1) t.1)
