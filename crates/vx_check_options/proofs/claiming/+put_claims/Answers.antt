use Rattle.std.proofs.Common.{◌∙◌, List, [], ◌++◌, map, ap, sym, refl, append_assoc}
use Rattle.std.proofs.lemmas.List.{append-nil}
use Rattle.vx_rows_values.specs.declared.order.OrderEntry.{OrderEntry}
use Rattle.vx_catalog_relations.specs.Catalog.{relation_at}
use Rattle.vx_plan_nodes.specs.Plan.{Plan, claim}
use Rattle.vx_plan_nodes.specs.Outline.{part_of, claim_of, plan_of}
use Rattle.vx_check_options.specs.Claimed.{FoundAt, IsClaimed, reversed_claims}
use Rattle.vx_check_options.proofs.ClaimLists.{names-here, claimed-as, scan-claimed, unary-claimed, binary-claimed, exchange-claimed, keys-there, keys-still, last-put}
use Rattle.vx_check_options.proofs.claiming.+put_claims.Goals as goal

pub returns-in-Scan : goal.returns-in-Scan
returns-in-Scan n c =
    let catalog = relation_at c.args.catalog.now in
    let p : Plan = plan_of c.args.node.now in
    let q = part_of c.args.place.part in
    let order : List OrderEntry = c.args.place.order.items in
    last-put c.put_claim.result q order (FoundAt catalog p [] []) (IsClaimed catalog p q order) _ _ _ (map claim_of c.args.claims.now.items) []
    (λ keys found. scan-claimed catalog p _ _ _ _ _ (ap plan_of c.in-Scan.is) q order keys found) (λ keys. refl) (λ keys. refl) (sym (append-nil _)) c.put_claim.ensures

pub returns-in_ok-left-in-Unary : goal.returns-in_ok-left-in-Unary
returns-in_ok-left-in-Unary n c =
    let catalog = relation_at c.args.catalog.now in
    let p : Plan = plan_of c.args.node.now in
    let below : Plan = plan_of c.in-Unary.input.value in
    let q = part_of c.args.place.part in
    let order : List OrderEntry = c.args.place.order.items in
    let part_is = rw c.deref.ensures at c.in_ok-below-in-Unary.ensures.part in
    let order_is = rw c.deref.ensures at c.in_ok-below-in-Unary.ensures.order in
    let more = rw c.deref-in-Unary.ensures at c.in_ok-left-in-Unary.ensures in
    let y : Plan = more.0 in
    let is = claimed-as catalog below _ _ _ _ y part_is order_is more.1 in
    let found = rw (keys-there _ _ (claim y) more.2) at c.put_claim-in-Unary.ensures in
    last-put c.put_claim-in-Unary.result q order (FoundAt catalog p (claim y).keys []) (IsClaimed catalog p q order) _ _ _ (map claim_of c.args.claims.now.items) (reversed_claims y)
    (λ keys found. unary-claimed catalog p _ _ _ below (ap plan_of c.in-Unary.is) q order keys y is found) (λ keys. refl) (λ keys. refl) more.3 found

pub returns-in_ok-left-in-Binary : goal.returns-in_ok-left-in-Binary
returns-in_ok-left-in-Binary n c =
    let catalog = relation_at c.args.catalog.now in
    let p : Plan = plan_of c.args.node.now in
    let left : Plan = plan_of c.in-Binary.left.value in
    let right : Plan = plan_of c.in-Binary.right.value in
    let q = part_of c.args.place.part in
    let order : List OrderEntry = c.args.place.order.items in
    let parts_are = rw (c.deref-in-Binary.ensures, c.deref-in-Binary-2.ensures) at c.in_ok-first-in-Binary.ensures.parts in
    let left_order_is = rw c.deref-in-Binary.ensures at c.in_ok-first-in-Binary.ensures.left in
    let right_order_is = rw c.deref-in-Binary-2.ensures at c.in_ok-first-in-Binary.ensures.right in
    let rights = rw c.deref-in-Binary-3.ensures at c.in_ok-right-in-Binary.ensures in
    let lefts = rw c.deref-in-Binary-4.ensures at c.in_ok-left-in-Binary.ensures in
    let y : Plan = lefts.0 in
    let z : Plan = rights.0 in
    let first = claimed-as catalog left _ _ _ _ y (ap (λ r. r.0) parts_are) left_order_is lefts.1 in
    let second = claimed-as catalog right _ _ _ _ z (ap (λ r. r.1) parts_are) right_order_is rights.1 in
    let left_keys = keys-there (map claim_of c.put_claims-in-Binary-2.new.claims.items) c.in_ok-left-in-Binary.left (claim y) lefts.2 in
    let right_keys = keys-still (map claim_of c.put_claims-in-Binary.new.claims.items) (reversed_claims y) (map claim_of c.put_claims-in-Binary-2.new.claims.items) c.in_ok-right-in-Binary.right (claim z) rights.2 lefts.3 in
    let found = rw (left_keys, right_keys) at c.put_claim-in-Binary.ensures in
    let old = map claim_of c.args.claims.now.items in
    let both = lefts.3 ∙ ap (λ cs. cs ++ reversed_claims y) rights.3 ∙ append_assoc old (reversed_claims z) (reversed_claims y) in
    last-put c.put_claim-in-Binary.result q order (FoundAt catalog p (claim y).keys (claim z).keys) (IsClaimed catalog p q order) _ _ _ old (reversed_claims z ++ reversed_claims y)
    (λ keys found. binary-claimed catalog p _ _ _ left right (ap plan_of c.in-Binary.is) q order keys y z first second found) (λ keys. refl) (λ keys. sym (append_assoc (reversed_claims z) (reversed_claims y) _)) both
    found

pub returns-in_ok-left-in-Exchange : goal.returns-in_ok-left-in-Exchange
returns-in_ok-left-in-Exchange n c =
    let catalog = relation_at c.args.catalog.now in
    let p : Plan = plan_of c.args.node.now in
    let below : Plan = plan_of c.in-Exchange.input.value in
    let q = part_of c.args.place.part in
    let order : List OrderEntry = c.args.place.order.items in
    let part_is = rw c.deref-in-Exchange.ensures at c.in_ok-below-in-Exchange.ensures.part in
    let order_is = rw c.deref-in-Exchange.ensures at c.in_ok-below-in-Exchange.ensures.order in
    let more = rw c.deref-in-Exchange-2.ensures at c.in_ok-left-in-Exchange.ensures in
    let y : Plan = more.0 in
    let is = claimed-as catalog below _ _ _ _ y part_is order_is more.1 in
    let found = rw (keys-there _ _ (claim y) more.2) at c.put_claim-in-Exchange.ensures in
    last-put c.put_claim-in-Exchange.result q order (FoundAt catalog p (claim y).keys []) (IsClaimed catalog p q order) _ _ _ (map claim_of c.args.claims.now.items) (reversed_claims y)
    (λ keys found. exchange-claimed catalog p _ _ _ _ below (ap plan_of c.in-Exchange.is) q order keys y is found) (λ keys. refl) (λ keys. refl) more.3 found

pub put_claim-requires-clause-keys : goal.put_claim-requires-clause-keys
put_claim-requires-clause-keys n c = names-here (relation_at c.args.catalog.now) (plan_of c.args.node.now) c.requires.keys

pub put_claim-requires-in-Unary-clause-keys : goal.put_claim-requires-in-Unary-clause-keys
put_claim-requires-in-Unary-clause-keys n c = names-here (relation_at c.args.catalog.now) (plan_of c.args.node.now) c.requires.keys

pub put_claim-requires-in-Binary-clause-keys : goal.put_claim-requires-in-Binary-clause-keys
put_claim-requires-in-Binary-clause-keys n c = names-here (relation_at c.args.catalog.now) (plan_of c.args.node.now) c.requires.keys

pub put_claim-requires-in-Exchange-clause-keys : goal.put_claim-requires-in-Exchange-clause-keys
put_claim-requires-in-Exchange-clause-keys n c = names-here (relation_at c.args.catalog.now) (plan_of c.args.node.now) c.requires.keys
