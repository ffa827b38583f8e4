use Rattle.std.proofs.Common.{◌≡◌, ◌∙◌, ℕ, List, [], ◌++◌, map, ap, sym, refl, append_assoc}
use Rattle.std.proofs.lemmas.List.{append-nil}
use Rattle.vx_catalog_relations.specs.Catalog.{relation_at}
use Rattle.vx_plan_nodes.specs.Plan.{any, Plan, claim}
use Rattle.vx_plan_nodes.specs.Outline.{claim_of, plan_of}
use Rattle.vx_check_options.specs.Claimed.{reversed_claims}
use Rattle.vx_check_options.proofs.ClaimLists.{last-put}
use Rattle.vx_check_shown.specs.Found.{ShownAt, IsKeyed}
use Rattle.vx_check_shown.proofs.ClaimPlaces.{claim-there, claim-still, scan-keyed, unary-keyed, binary-keyed, exchange-keyed}
use Rattle.vx_check_shown.proofs.keying.+put_all_keys.Goals as goal

pub returns-in-Scan-clause-put : goal.returns-in-Scan-clause-put
returns-in-Scan-clause-put n c =
    let catalog = relation_at c.args.catalog.now in
    let p : Plan = plan_of c.args.node.now in
    last-put c.put_keys.result any [] (ShownAt catalog p [] []) (IsKeyed catalog p) _ _ _ (map claim_of c.args.claims.now.items) []
    (λ keys f. scan-keyed catalog p _ _ _ _ _ (ap plan_of c.in-Scan.is) keys f) (λ keys. refl) (λ keys. refl) (sym (append-nil _)) c.put_keys.ensures.put

pub returns-in_ok-left-in-Unary-clause-put : goal.returns-in_ok-left-in-Unary-clause-put
returns-in_ok-left-in-Unary-clause-put n c =
    let catalog = relation_at c.args.catalog.now in
    let p : Plan = plan_of c.args.node.now in
    let below : Plan = plan_of c.in-Unary.input.value in
    let more = rw c.deref.ensures at c.in_ok-left-in-Unary.ensures.put in
    let y : Plan = more.0 in
    let there = claim-there (map claim_of c.put_all_keys.new.claims.items) c.in_ok-left-in-Unary.left (claim y) more.2 in
    let found = rw (ap (λ d. d.keys) there) at c.put_keys-in-Unary.ensures.put in
    last-put c.put_keys-in-Unary.result any [] (ShownAt catalog p (claim y).keys []) (IsKeyed catalog p) _ _ _ (map claim_of c.args.claims.now.items) (reversed_claims y)
    (λ keys f. unary-keyed catalog p _ _ _ below (ap plan_of c.in-Unary.is) keys y more.1 f) (λ keys. refl) (λ keys. refl) more.3 found

pub returns-in_ok-left-in-Binary-clause-put : goal.returns-in_ok-left-in-Binary-clause-put
returns-in_ok-left-in-Binary-clause-put n c =
    let catalog = relation_at c.args.catalog.now in
    let p : Plan = plan_of c.args.node.now in
    let left : Plan = plan_of c.in-Binary.left.value in
    let right : Plan = plan_of c.in-Binary.right.value in
    let rights = rw c.deref-in-Binary.ensures at c.in_ok-right-in-Binary.ensures.put in
    let lefts = rw c.deref-in-Binary-2.ensures at c.in_ok-left-in-Binary.ensures.put in
    let y : Plan = lefts.0 in
    let z : Plan = rights.0 in
    let first = claim-there (map claim_of c.put_all_keys-in-Binary-2.new.claims.items) c.in_ok-left-in-Binary.left (claim y) lefts.2 in
    let second = claim-still (map claim_of c.put_all_keys-in-Binary.new.claims.items) (reversed_claims y) (map claim_of c.put_all_keys-in-Binary-2.new.claims.items) c.in_ok-right-in-Binary.right (claim z) rights.2 lefts.3 in
    let found = rw (ap (λ d. d.keys) first, ap (λ d. d.keys) second) at c.put_keys-in-Binary.ensures.put in
    let old = map claim_of c.args.claims.now.items in
    let both = lefts.3 ∙ ap (λ cs. cs ++ reversed_claims y) rights.3 ∙ append_assoc old (reversed_claims z) (reversed_claims y) in
    last-put c.put_keys-in-Binary.result any [] (ShownAt catalog p (claim y).keys (claim z).keys) (IsKeyed catalog p) _ _ _ old (reversed_claims z ++ reversed_claims y)
    (λ keys f. binary-keyed catalog p _ _ _ left right (ap plan_of c.in-Binary.is) keys y z lefts.1 rights.1 f) (λ keys. refl) (λ keys. sym (append_assoc (reversed_claims z) (reversed_claims y) _)) both found

pub returns-in_ok-left-in-Exchange-clause-put : goal.returns-in_ok-left-in-Exchange-clause-put
returns-in_ok-left-in-Exchange-clause-put n c =
    let catalog = relation_at c.args.catalog.now in
    let p : Plan = plan_of c.args.node.now in
    let below : Plan = plan_of c.in-Exchange.input.value in
    let more = rw c.deref-in-Exchange.ensures at c.in_ok-left-in-Exchange.ensures.put in
    let y : Plan = more.0 in
    let there = claim-there (map claim_of c.put_all_keys-in-Exchange.new.claims.items) c.in_ok-left-in-Exchange.left (claim y) more.2 in
    let found = rw (ap (λ d. d.keys) there) at c.put_keys-in-Exchange.ensures.put in
    last-put c.put_keys-in-Exchange.result any [] (ShownAt catalog p (claim y).keys []) (IsKeyed catalog p) _ _ _ (map claim_of c.args.claims.now.items) (reversed_claims y)
    (λ keys f. exchange-keyed catalog p _ _ _ _ below (ap plan_of c.in-Exchange.is) keys y more.1 f) (λ keys. refl) (λ keys. refl) more.3 found
