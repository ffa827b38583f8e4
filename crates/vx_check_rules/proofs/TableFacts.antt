-- Judging by a table: tests in their order, and a node's inputs.
use Rattle.std.proofs.Common.{◌≡◌, ◌∙◌, ℕ, Bool, true, false, List, [], ◌∷◌, Some, None, refl}
use Rattle.vx_rows_values.specs.declared.order.OrderEntry.{OrderEntry}
use Rattle.vx_catalog_relations.specs.Relation.{Relation}
use Rattle.vx_catalog_relations.specs.Catalog.{relation_at}
use Rattle.vx_plan_nodes.specs.Plan.{Claim, Unary, Binary, ExchangeKind, Plan, unary, binary, exchange}
use Rattle.vx_plan_facts.specs.declared.known.KnownColumns.{KnownColumns}
use Rattle.vx_plan_facts.proofs.KnownFacts.{known-under, known-passed, known-both}
use Rattle.vx_plan_facts.proofs.NamedColumns.{typed-unary, typed-both, typed-sent}
use Rattle.vx_check_rules.specs.declared.table.Table.{Table}
use Rattle.vx_check_rules.specs.declared.table.Table.TheVariants.{First, Second}
use Rattle.vx_check_rules.specs.KnownNode.{StaysKnown}
use Rattle.vx_check_rules.specs.Refusal.{Rule, size_mismatch, part_not_shown, inputs_not_matched, replicated_input, order_not_shown, order_needed, key_not_shown, first_rows_open, first_failure}
use Rattle.vx_check_rules.specs.TableView.{Judges, StaysTable}

-- ---- tests in their order

-- the tests of sizes, exchanges' inputs, inputs, needed orders, first rows, the part, the order and the keys
abbrev pub in_order : (a b c d e f g h : Bool) → List (Bool × Rule)
in_order a b c d e f g h =
    (a, size_mismatch) ∷ (b, replicated_input) ∷ (c, inputs_not_matched) ∷ (d, order_needed) ∷ (e, first_rows_open) ∷ (f, part_not_shown) ∷ (g, order_not_shown) ∷ (h, key_not_shown) ∷ []

pub no-sizes : (a b c d e f g h : Bool) → a ≡ false → Some size_mismatch ≡ first_failure (in_order a b c d e f g h)
no-sizes a b c d e f g h i = rw i refl

pub not-once : (a b c d e f g h : Bool) → a ≡ true → b ≡ false → Some replicated_input ≡ first_failure (in_order a b c d e f g h)
not-once a b c d e f g h i j = rw (i, j) refl

pub no-inputs : (a b c d e f g h : Bool) → a ≡ true → b ≡ true → c ≡ false → Some inputs_not_matched ≡ first_failure (in_order a b c d e f g h)
no-inputs a b c d e f g h i j k = rw (i, j, k) refl

pub not-given : (a b c d e f g h : Bool) → a ≡ true → b ≡ true → c ≡ true → d ≡ false → Some order_needed ≡ first_failure (in_order a b c d e f g h)
not-given a b c d e f g h i j k l = rw (i, j, k, l) refl

pub not-first : (a b c d e f g h : Bool) → a ≡ true → b ≡ true → c ≡ true → d ≡ true → e ≡ false → Some first_rows_open ≡ first_failure (in_order a b c d e f g h)
not-first a b c d e f g h i j k l m = rw (i, j, k, l, m) refl

-- the tests of the operator pass
pub record Fits (a b c d e : Bool) : Type 0 where
  sizes : a ≡ true
  once : b ≡ true
  inputs : c ≡ true
  order : d ≡ true
  first : e ≡ true

pub no-part : (a b c d e f g h : Bool) → Fits a b c d e → f ≡ false → Some part_not_shown ≡ first_failure (in_order a b c d e f g h)
no-part a b c d e f g h i j = rw (i.sizes, i.once, i.inputs, i.order, i.first, j) refl

pub no-order : (a b c d e f g h : Bool) → Fits a b c d e → f ≡ true → g ≡ false → Some order_not_shown ≡ first_failure (in_order a b c d e f g h)
no-order a b c d e f g h i j k = rw (i.sizes, i.once, i.inputs, i.order, i.first, j, k) refl

pub no-keys : (a b c d e f g h : Bool) → Fits a b c d e → f ≡ true → g ≡ true → h ≡ false → Some key_not_shown ≡ first_failure (in_order a b c d e f g h)
no-keys a b c d e f g h i j k l = rw (i.sizes, i.once, i.inputs, i.order, i.first, j, k, l) refl

pub no-failure : (a b c d e f g h : Bool) → Fits a b c d e → f ≡ true → g ≡ true → h ≡ true → None ≡ first_failure (in_order a b c d e f g h)
no-failure a b c d e f g h i j k l = rw (i.sizes, i.once, i.inputs, i.order, i.first, j, k, l) refl

-- ---- what a table still judges

pub stays-itself : (t : Table) (p : Plan) → StaysTable t t p
stays-itself t p = record { same = refl; judges = λ catalog h q k. k }

pub stays-then : (t u v : Table) (p : Plan) → StaysTable t u p → StaysTable u v p → StaysTable t v p
stays-then t u v p first second = record {
  same = second.same ∙ first.same;
  judges = λ catalog h q k. second.judges catalog (first.judges catalog h p h) q (first.judges catalog h q k);
}

-- what judges a plan judges an input of it
pub stays-above : (t u : Table) (below p : Plan) → ((catalog : List Relation) → Judges catalog t p → Judges catalog t below) → StaysTable t u below → StaysTable t u p
stays-above t u below p down stays = record {
  same = stays.same;
  judges = λ catalog h q k. stays.judges catalog (down catalog h) q k;
}

pub still-judges : (t u : Table) (catalog : List Relation) (p : Plan) → StaysTable t u p → Judges catalog t p → Judges catalog u p
still-judges t u catalog p stays h = stays.judges catalog h p h

-- what is known stays so, so that the second table judges what it judged
pub known-stays : (k l : KnownColumns) (p : Plan) → StaysKnown k l p → StaysTable (Second k) (Second l) p
known-stays k l p stays = record {
  same = refl;
  judges = λ catalog h q g. record { known = stays (relation_at catalog) h.known q g.known; typed = g.typed };
}

-- ---- inputs

pub judges-under : (catalog : List Relation) (t : Table) (n : ℕ) (c : Claim) (op : Unary) (p : Plan) → Judges catalog t (unary n c op p) → Judges catalog t p
judges-under catalog First n c op p h = tt
judges-under catalog (Second k) n c op p h = record {
  known = known-under (relation_at catalog) k n c op p h.known;
  typed = (typed-unary catalog (unary n c op p) n c op p refl h.typed).0;
}

pub judges-sent : (catalog : List Relation) (t : Table) (n : ℕ) (c : Claim) (x : ExchangeKind) (m : List OrderEntry) (p : Plan) → Judges catalog t (exchange n c x m p) → Judges catalog t p
judges-sent catalog First n c x m p h = tt
judges-sent catalog (Second k) n c x m p h = record {
  known = known-passed (relation_at catalog) k n c x m p h.known;
  typed = typed-sent catalog (exchange n c x m p) n c x m p refl h.typed;
}

pub judges-both : (catalog : List Relation) (t : Table) (n : ℕ) (c : Claim) (op : Binary) (p q : Plan) → Judges catalog t (binary n c op p q) → Judges catalog t p × Judges catalog t q
judges-both catalog First n c op p q h = (tt, tt)
judges-both catalog (Second k) n c op p q h =
    let below = known-both (relation_at catalog) k n c op p q h.known in
    let typed = typed-both catalog (binary n c op p q) n c op p q refl h.typed in
    (record { known = below.0; typed = typed.0 }, record { known = below.1; typed = typed.1 })

-- where a node is judged, what an input left is still judged
pub stays-under : (t u : Table) (n : ℕ) (c : Claim) (op : Unary) (p : Plan) → StaysTable t u p → StaysTable t u (unary n c op p)
stays-under t u n c op p stays = stays-above t u p (unary n c op p) (λ catalog h. judges-under catalog t n c op p h) stays

pub stays-sent : (t u : Table) (n : ℕ) (c : Claim) (x : ExchangeKind) (m : List OrderEntry) (p : Plan) → StaysTable t u p → StaysTable t u (exchange n c x m p)
stays-sent t u n c x m p stays = stays-above t u p (exchange n c x m p) (λ catalog h. judges-sent catalog t n c x m p h) stays

pub stays-left : (t u : Table) (n : ℕ) (c : Claim) (op : Binary) (p q : Plan) → StaysTable t u p → StaysTable t u (binary n c op p q)
stays-left t u n c op p q stays = stays-above t u p (binary n c op p q) (λ catalog h. (judges-both catalog t n c op p q h).0) stays

pub stays-right : (t u : Table) (n : ℕ) (c : Claim) (op : Binary) (p q : Plan) → StaysTable t u q → StaysTable t u (binary n c op p q)
stays-right t u n c op p q stays = stays-above t u q (binary n c op p q) (λ catalog h. (judges-both catalog t n c op p q h).1) stays
