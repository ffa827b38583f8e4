-- What is found over the inputs of a known node names columns of these.
use Rattle.std.proofs.Common.{◌≡◌, ℕ, true, ◌&&◌, List, sym, subst}
use Rattle.vx_rows_values.specs.declared.order.OrderEntry.{OrderEntry}
use Rattle.vx_rows_values.proofs.Booleans.{and-left, and-right}
use Rattle.vx_catalog_relations.specs.Relation.{Relation}
use Rattle.vx_catalog_relations.specs.Catalog.{relation_at, IsCatalog}
use Rattle.vx_plan_nodes.specs.Plan.{Claim, Unary, Binary, ExchangeKind, Plan, unary, binary, exchange, claim}
use Rattle.vx_plan_nodes.specs.Typed.{Scope, typed}
use Rattle.vx_plan_facts.specs.Naming.{IsTypedOver}
use Rattle.vx_check_shown.specs.Found.{no_claim, found, AreTold}
use Rattle.vx_check_shown.specs.PartLaws.{PartIsTyped}
use Rattle.vx_check_shown.specs.OrderLaws.{ShownOrderTellsTheMost}
use Rattle.vx_check_shown.specs.FoundLaws.{FoundIsGood}
use Rattle.vx_check_shown.proofs.TypedShown.{part-typed}
use Rattle.vx_check_shown.proofs.MostParts.{tells-the-most}
use Rattle.vx_check_shown.proofs.Claimless.{part-claimless}
use Rattle.vx_check_shown.proofs.LongestOrders.{longest-order}
use Rattle.vx_check_shown.proofs.FoundTold.{found-top, found-is-good, told-under, told-sent, told-both}

module _ (part-typed : PartIsTyped) (longest : ShownOrderTellsTheMost) (catalog : List Relation) (cat : IsCatalog catalog) (p : Plan) where
  under : IsTypedOver catalog p → (n : ℕ) (c : Claim) (op : Unary) (below : Plan) → p ≡ unary n c op below → AreTold (relation_at catalog) p (claim (found (relation_at catalog) below)) no_claim
  under (s, same, ok) n c op below is =
      let P : Plan → Type 0 = λ x. AreTold (relation_at catalog) x (claim (found (relation_at catalog) below)) no_claim in
      let Q : List Relation → Type 0 = λ l. AreTold (relation_at l) (unary n c op below) (claim (found (relation_at l) below)) no_claim in
      let okn = and-left (typed s below) _ (subst (λ x. typed s x ≡ true) is ok) in
      subst P (sym is) (subst Q same (told-under s below (found-top s (subst IsCatalog (sym same) cat) part-typed longest below okn) n c op))

  through : IsTypedOver catalog p → (n : ℕ) (c : Claim) (k : ExchangeKind) (m : List OrderEntry) (below : Plan) → p ≡ exchange n c k m below
      → AreTold (relation_at catalog) p (claim (found (relation_at catalog) below)) no_claim
  through (s, same, ok) n c k m below is =
      let P : Plan → Type 0 = λ x. AreTold (relation_at catalog) x (claim (found (relation_at catalog) below)) no_claim in
      let Q : List Relation → Type 0 = λ l. AreTold (relation_at l) (exchange n c k m below) (claim (found (relation_at l) below)) no_claim in
      let okn = and-left (typed s below) _ (subst (λ x. typed s x ≡ true) is ok) in
      subst P (sym is) (subst Q same (told-sent s below (found-top s (subst IsCatalog (sym same) cat) part-typed longest below okn) n c k m))

  beside : IsTypedOver catalog p → (n : ℕ) (c : Claim) (op : Binary) (left right : Plan) → p ≡ binary n c op left right
      → AreTold (relation_at catalog) p (claim (found (relation_at catalog) left)) (claim (found (relation_at catalog) right))
  beside (s, same, ok) n c op left right is =
      let P : Plan → Type 0 = λ x. AreTold (relation_at catalog) x (claim (found (relation_at catalog) left)) (claim (found (relation_at catalog) right)) in
      let Q : List Relation → Type 0 = λ l. AreTold (relation_at l) (binary n c op left right) (claim (found (relation_at l) left)) (claim (found (relation_at l) right)) in
      let okn = subst (λ x. typed s x ≡ true) is ok in
      let cats = subst IsCatalog (sym same) cat in
      subst P (sym is)
      (subst Q same
      (told-both s left right (found-top s cats part-typed longest left (and-left (typed s left) _ okn))
      (found-top s cats part-typed longest right (and-left (typed s right) _ (and-right (typed s left) _ okn))) n c op))

-- ---- by the laws of parts and orders

longest : ShownOrderTellsTheMost
longest s p cat ok = longest-order s p cat ok

pub told-over : (catalog : List Relation) → IsCatalog catalog → (p : Plan) → IsTypedOver catalog p → (n : ℕ) (c : Claim) (op : Unary) (below : Plan) → p ≡ unary n c op below
    → AreTold (relation_at catalog) p (claim (found (relation_at catalog) below)) no_claim
told-over catalog cat p = under part-typed longest catalog cat p

pub told-through : (catalog : List Relation) → IsCatalog catalog → (p : Plan) → IsTypedOver catalog p → (n : ℕ) (c : Claim) (k : ExchangeKind) (m : List OrderEntry) (below : Plan) → p ≡ exchange n c k m below
    → AreTold (relation_at catalog) p (claim (found (relation_at catalog) below)) no_claim
told-through catalog cat p = through part-typed longest catalog cat p

pub told-beside : (catalog : List Relation) → IsCatalog catalog → (p : Plan) → IsTypedOver catalog p → (n : ℕ) (c : Claim) (op : Binary) (left right : Plan) → p ≡ binary n c op left right
    → AreTold (relation_at catalog) p (claim (found (relation_at catalog) left)) (claim (found (relation_at catalog) right))
told-beside catalog cat p = beside part-typed longest catalog cat p

pub found-good : FoundIsGood
found-good = found-is-good part-typed tells-the-most part-claimless longest
