-- What the columns of one input ask for, one after the other, where a set stands for those that were passed.
use Rattle.std.proofs.Common.{◌≡◌, ℕ, zero, suc, ◌+◌, ◌<◌, ◌≤◌, ◌==◌, Bool, true, false, ◌||◌, List, [], ◌∷◌, ◌++◌, length, drop, drop-cons, map, min, nat_lt, Option, refl, sym, ap, ◌∙◌, subst, arith, ltb-true}
use Rattle.std.specs.Prelude.{slice_index_or}
use Rattle.std.specs.List.{list_all}
use Rattle.std.proofs.lemmas.List.{append_assoc}
use Rattle.vx_rows_values.proofs.Booleans.{and-left, and-right, and-both}
use Rattle.vx_rows_values.specs.declared.order.OrderEntry.{OrderEntry}
use Rattle.vx_rows_values.specs.Limits.{max_columns}
use Rattle.vx_catalog_relations.specs.Relation.{Relation}
use Rattle.vx_catalog_relations.specs.Catalog.{relation_at, all_below}
use Rattle.vx_plan_nodes.specs.Plan.{Claim, JoinMethod, join, Binary, Plan, binary, claim}
use Rattle.vx_plan_nodes.specs.Types.{width}
use Rattle.vx_plan_facts.specs.Determined.{Columns, determined}
use Rattle.vx_plan_facts.specs.Equal.{equal_at}
use Rattle.vx_plan_facts.specs.Naming.{pair_within}
use Rattle.vx_plan_facts.proofs.NamedColumns.{typed-both}
use Rattle.vx_plan_facts.proofs.Searching.{wide-enough}
use Rattle.vx_check_rules.specs.declared.table.Table.{Table}
use Rattle.vx_check_rules.specs.declared.table.Table.TheVariants.{First, Second}
use Rattle.vx_check_rules.specs.TableView.{derives, Judges, StaysTable}
use Rattle.vx_check_rules.proofs.Shortening.{alike-at, alike-same}
use Rattle.vx_check_rules.proofs.KnownClosing.{known-closes}
use Rattle.vx_plan_facts.specs.declared.known.KnownColumns.{KnownColumns}
use Rattle.vx_check_rules.specs.KnownNode.{IsKnownTyped, AreOrdersOf}
use Rattle.vx_check_rules.proofs.NamedNodes.{order-below, same-orders}
use Rattle.vx_check_rules.proofs.TableFacts.{judges-both}
use Rattle.vx_check_directions.specs.Finding.{AreMerged, AreAsked, StaysBoth}
use Rattle.vx_plan_facts.specs.Following.{set_of, short}
use Rattle.vx_check_directions.specs.Directed.{ask, behind, asks_after, determined_by, asks, agreed}

-- what was asked for, before what is still asked for behind the columns that were passed
pub record Asked (derives : Bool) (catalog : List Relation) (p : Plan) (cols : List ℕ) (asked : List (Option Bool)) (rest : List OrderEntry) (i : ℕ) (passed : Columns) : Type 0 where
  pub before : List ℕ
  pub same : (c : ℕ) → c < max_columns → set_of before c ≡ passed c
  pub told : asks derives (relation_at catalog) p cols ≡ asked ++ asks_after (determined_by derives (relation_at catalog) p) before rest (drop i cols)

or-swap : (a b : Bool) → (a || b) ≡ (b || a)
or-swap true true = refl
or-swap true false = refl
or-swap false true = refl
or-swap false false = refl

-- nothing was asked for yet
pub asked-starts : (derives : Bool) (catalog : List Relation) (p : Plan) (cols : List ℕ) (passed : Columns) → ((c : ℕ) → passed c ≡ false)
    → Asked derives catalog p cols [] (short (determined_by derives (relation_at catalog) p) (claim p).order) 0 passed
asked-starts derives catalog p cols passed none = record { before = []; same = λ c l. sym (none c); told = refl }

-- one column more
pub asked-goes : (derives : Bool) (catalog : List Relation) (p : Plan) (cols : List ℕ) (asked : List (Option Bool)) (rest : List OrderEntry) (i : ℕ) (passed more : Columns) (column : ℕ) (is : Bool)
    → ((s t : Columns) → ((c : ℕ) → c < max_columns → s c ≡ t c) → determined_by derives (relation_at catalog) p s column ≡ determined_by derives (relation_at catalog) p t column)
    → Asked derives catalog p cols asked rest i passed → i < length cols → column ≡ slice_index_or cols i 0 → is ≡ determined_by derives (relation_at catalog) p passed column
    → ((c : ℕ) → c < max_columns → more c ≡ (passed c || (c == column))) → Asked derives catalog p cols (asked ++ ask is rest ∷ []) (behind is rest) (i + 1) more
asked-goes derives catalog p cols asked rest i passed more column is steady at l here found put =
    let det : Columns → Columns = determined_by derives (relation_at catalog) p in
    let left : List ℕ = drop (suc i) cols in
    let split : drop i cols ≡ column ∷ left = drop-cons cols i 0 l ∙ ap (λ c. c ∷ left) (sym here) in
    let is-so : det (set_of at.before) column ≡ is = steady (set_of at.before) passed at.same ∙ sym found in
    let next : suc i ≡ i + 1 = omega arith in
    record {
      before = column ∷ at.before;
      same = λ c m. or-swap (c == column) (set_of at.before c) ∙ (ap (λ b. b || (c == column)) (at.same c m) ∙ sym (put c m));
      told = at.told ∙ (ap (λ cs. asked ++ asks_after det at.before rest cs) split
          ∙ (ap (λ b. asked ++ (ask b rest ∷ asks_after det (column ∷ at.before) (behind b rest) left)) is-so
          ∙ (ap (λ k. asked ++ (ask is rest ∷ asks_after det (column ∷ at.before) (behind is rest) (drop k cols))) next
          ∙ sym (append_assoc asked (ask is rest ∷ []) (asks_after det (column ∷ at.before) (behind is rest) (drop (i + 1) cols))))));
    }

-- ---- tables

-- what columns determine looks at a node's columns alone
pub steady-at : (t : Table) (catalog : List Relation) (p : Plan) → Judges catalog t p → (column : ℕ) → (derives t ≡ true → column < width (relation_at catalog) p) → (s u : Columns)
    → ((c : ℕ) → c < max_columns → s c ≡ u c) → determined_by (derives t) (relation_at catalog) p s column ≡ determined_by (derives t) (relation_at catalog) p u column
steady-at First catalog p h column below s u same = refl
steady-at (Second k) catalog p h column below s u same =
    let C : ℕ → Relation = relation_at catalog in
    let det : Columns → Columns = determined C p in
    let closes = known-closes C k p h.known in
    let few : width C p ≤ max_columns = wide-enough C p h.known.known.within in
    alike-at (width C p) det s u (alike-same (width C p) (equal_at C p) det closes s u (λ c l. same c (omega (arith, l, few)))) column (below refl)

-- an operator over two inputs
pub merged-of : (catalog : List Relation) (t : Table) (n : ℕ) (c : Claim) (op : Binary) (p q : Plan) → Judges catalog t (binary n c op p q) → AreMerged catalog t op p q
merged-of catalog First n c op p q h = record { left = tt; right = tt; named = λ is. cc }
merged-of catalog (Second k) n c op p q h =
    let both = judges-both catalog (Second k) n c op p q h in
    record { left = both.0; right = both.1; named = λ is. (typed-both catalog (binary n c op p q) n c op p q refl h.typed).2 }

-- the columns of its pairs
pub pairs-left : (v w : ℕ) (on : List (ℕ × ℕ)) → list_all (pair_within v w) on ≡ true → all_below v (map (λ x. x.0) on) ≡ true
pairs-left v w [] h = refl
pairs-left v w (x ∷ on) h =
    let here = and-left (pair_within v w x) (list_all (pair_within v w) on) h in
    and-both (nat_lt x.0 v) (all_below v (map (λ x. x.0) on)) (and-left (nat_lt x.0 v) (nat_lt x.1 w) here) (pairs-left v w on (and-right (pair_within v w x) (list_all (pair_within v w) on) h))

pub pairs-right : (v w : ℕ) (on : List (ℕ × ℕ)) → list_all (pair_within v w) on ≡ true → all_below w (map (λ x. x.1) on) ≡ true
pairs-right v w [] h = refl
pairs-right v w (x ∷ on) h =
    let here = and-left (pair_within v w x) (list_all (pair_within v w) on) h in
    and-both (nat_lt x.1 w) (all_below w (map (λ x. x.1) on)) (and-right (nat_lt x.0 v) (nat_lt x.1 w) here) (pairs-right v w on (and-right (pair_within v w x) (list_all (pair_within v w) on) h))

pub column-below : (w : ℕ) (cols : List ℕ) (i : ℕ) → i < length cols → all_below w cols ≡ true → slice_index_or cols i 0 < w
column-below w [] i l h = absurd (omega (arith, l))
column-below w (c ∷ cols) zero l h = ltb-true c w (and-left (nat_lt c w) (all_below w cols) h)
column-below w (c ∷ cols) (suc i) l h = column-below w cols i (omega (arith, l)) (and-right (nat_lt c w) (all_below w cols) h)

-- nothing is left past the end of one of two lists
pub agreed-ends : (lefts rights : List (Option Bool)) (i : ℕ) → min (length lefts) (length rights) ≤ i → agreed (drop i lefts) (drop i rights) ≡ []
agreed-ends [] rights zero l = refl
agreed-ends [] rights (suc i) l = refl
agreed-ends (a ∷ lefts) [] zero l = refl
agreed-ends (a ∷ lefts) [] (suc i) l = ends (drop i lefts)
  where
    ends : (xs : List (Option Bool)) → agreed xs [] ≡ []
    ends [] = refl
    ends (x ∷ xs) = refl
agreed-ends (a ∷ lefts) (b ∷ rights) zero l = absurd (omega (arith, l))
agreed-ends (a ∷ lefts) (b ∷ rights) (suc i) l = agreed-ends lefts rights i (omega (arith, l))

-- what was put behind the others at two inputs stands there in a row
pub put-all : (old one two three here lefts rights : List (List Bool)) → one ≡ old ++ here → two ≡ one ++ lefts → three ≡ two ++ rights → three ≡ old ++ (here ++ (lefts ++ rights))
put-all old one two three here lefts rights a b c =
    c ∙ (ap (λ xs. xs ++ rights) (b ∙ ap (λ xs. xs ++ lefts) a) ∙ (ap (λ xs. xs ++ rights) (append_assoc old here lefts) ∙ (append_assoc old (here ++ lefts) rights ∙ ap (λ xs. old ++ xs) (append_assoc here lefts rights))))

-- the order that a known node claims
pub orders-of : (catalog : List Relation) (k : KnownColumns) (p : Plan) (order : List OrderEntry) → IsKnownTyped catalog k p → order ≡ (claim p).order → AreOrdersOf (relation_at catalog) k p order order
orders-of catalog k p order h is =
    let P : List OrderEntry → Type 0 = λ xs. AreOrdersOf (relation_at catalog) k p xs xs in
    subst P (sym is) (same-orders (relation_at catalog) k p h.known (claim p).order (order-below (relation_at catalog) k p h.known))

-- what is asked of both inputs of a join by merging
pub left-asked : (catalog : List Relation) (t : Table) (m : JoinMethod) (on : List (ℕ × ℕ)) (p q : Plan) → AreMerged catalog t (join m on) p q → AreAsked catalog t p (map (λ x. x.0) on)
left-asked catalog t m on p q h = record { judged = h.left; below = λ d. pairs-left (width (relation_at catalog) p) (width (relation_at catalog) q) on (h.named d) }

pub right-asked : (catalog : List Relation) (t u : Table) (m : JoinMethod) (on : List (ℕ × ℕ)) (p q : Plan) → AreMerged catalog t (join m on) p q → StaysTable t u p → AreAsked catalog u q (map (λ x. x.1) on)
right-asked catalog t u m on p q h stays = record {
  judged = stays.judges catalog h.left q h.right;
  below = λ d. pairs-right (width (relation_at catalog) p) (width (relation_at catalog) q) on (h.named (sym stays.same ∙ d));
}

-- after a node and both its inputs were asked, the table judges what it judged before
pub both-stay : (t u v w : Table) (n : ℕ) (c : Claim) (op : Binary) (p q : Plan) → StaysBoth t u p q → StaysTable u v p → StaysTable v w q → StaysTable t w (binary n c op p q)
both-stay t u v w n c op p q first second third = record {
  same = third.same ∙ (second.same ∙ first.same);
  judges = λ catalog h r k.
      let both = judges-both catalog t n c op p q h in
      let left = first.judges catalog both.0 both.1 p both.0 in
      let right = first.judges catalog both.0 both.1 q both.1 in
      third.judges catalog (second.judges catalog left q right) r (second.judges catalog left r (first.judges catalog both.0 both.1 r k));
}
