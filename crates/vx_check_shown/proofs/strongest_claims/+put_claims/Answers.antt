use Rattle.std.proofs.Common.{◌≡◌, ◌∙◌, ℕ, List, [], ◌∷◌, ◌++◌, map, ap, sym, refl, subst, append_assoc}
use Rattle.std.proofs.lemmas.List.{append-nil}
use Rattle.vx_catalog_relations.specs.Catalog.{relation_at}
use Rattle.vx_plan_nodes.specs.Plan.{Plan, claim}
use Rattle.vx_plan_nodes.specs.Outline.{top_of, unary_of, binary_of, kind_of, claim_of, plan_of}
use Rattle.vx_check_options.specs.Claimed.{reversed_claims}
use Rattle.vx_check_shown.specs.Found.{no_claim, found_claim, found, AreTold}
use Rattle.vx_check_shown.proofs.ClaimPlaces.{claim-there, claim-still, last-found}
use Rattle.vx_check_shown.proofs.FoundNodes.{told-over, told-through, told-beside}
use Rattle.vx_check_shown.proofs.strongest_claims.+put_claims.Goals as goal

-- ---- what the inputs claim

pub put_claim-requires-in-Unary-clause-told : goal.put_claim-requires-in-Unary-clause-told
put_claim-requires-in-Unary-clause-told n c =
    let catalog = relation_at c.args.catalog.now in
    let below : Plan = plan_of c.in-Unary.input.value in
    let more = rw c.deref.ensures at c.in_ok-left-in-Unary.ensures.put in
    let there = claim-there (map claim_of c.put_claims.new.claims.items) c.in_ok-left-in-Unary.left (claim (found catalog below)) more.0 in
    rw there (told-over c.args.catalog.now c.requires.catalog (plan_of c.args.node.now) c.requires.known.typed _ _ _ below (ap plan_of c.in-Unary.is))

pub put_claim-requires-in-Binary-clause-told : goal.put_claim-requires-in-Binary-clause-told
put_claim-requires-in-Binary-clause-told n c =
    let catalog = relation_at c.args.catalog.now in
    let left : Plan = plan_of c.in-Binary.left.value in
    let right : Plan = plan_of c.in-Binary.right.value in
    let rights = rw c.deref-in-Binary.ensures at c.in_ok-right-in-Binary.ensures.put in
    let lefts = rw c.deref-in-Binary-2.ensures at c.in_ok-left-in-Binary.ensures.put in
    let first = claim-there (map claim_of c.put_claims-in-Binary-2.new.claims.items) c.in_ok-left-in-Binary.left (claim (found catalog left)) lefts.0 in
    let second = claim-still (map claim_of c.put_claims-in-Binary.new.claims.items) (reversed_claims (found catalog left)) (map claim_of c.put_claims-in-Binary-2.new.claims.items) c.in_ok-right-in-Binary.right
    (claim (found catalog right)) rights.0 lefts.1 in
    rw (first, second) (told-beside c.args.catalog.now c.requires.catalog (plan_of c.args.node.now) c.requires.known.typed _ _ _ left right (ap plan_of c.in-Binary.is))

pub put_claim-requires-in-Exchange-clause-told : goal.put_claim-requires-in-Exchange-clause-told
put_claim-requires-in-Exchange-clause-told n c =
    let catalog = relation_at c.args.catalog.now in
    let below : Plan = plan_of c.in-Exchange.input.value in
    let more = rw c.deref-in-Exchange.ensures at c.in_ok-left-in-Exchange.ensures.put in
    let there = claim-there (map claim_of c.put_claims-in-Exchange.new.claims.items) c.in_ok-left-in-Exchange.left (claim (found catalog below)) more.0 in
    rw there (told-through c.args.catalog.now c.requires.catalog (plan_of c.args.node.now) c.requires.known.typed _ _ _ _ below (ap plan_of c.in-Exchange.is))

-- ---- what is put

pub returns-in-Scan-clause-put : goal.returns-in-Scan-clause-put
returns-in-Scan-clause-put n c =
    let catalog = relation_at c.args.catalog.now in
    let p : Plan = plan_of c.args.node.now in
    last-found c.put_claim.result (found catalog p) (found_claim catalog p no_claim no_claim) _ _ (map claim_of c.args.claims.now.items) [] (rw c.in-Scan.is refl) (rw c.in-Scan.is refl) (sym (append-nil _)) c.put_claim.ensures.put

pub returns-in_ok-left-in-Unary-clause-put : goal.returns-in_ok-left-in-Unary-clause-put
returns-in_ok-left-in-Unary-clause-put n c =
    let catalog = relation_at c.args.catalog.now in
    let p : Plan = plan_of c.args.node.now in
    let below : Plan = plan_of c.in-Unary.input.value in
    let more = rw c.deref.ensures at c.in_ok-left-in-Unary.ensures.put in
    let there = claim-there (map claim_of c.put_claims.new.claims.items) c.in_ok-left-in-Unary.left (claim (found catalog below)) more.0 in
    let put = rw there at c.put_claim-in-Unary.ensures.put in
    last-found c.put_claim-in-Unary.result (found catalog p) (found_claim catalog p (claim (found catalog below)) no_claim) _ _ (map claim_of c.args.claims.now.items) (reversed_claims (found catalog below))
    (rw c.in-Unary.is refl) (rw c.in-Unary.is refl) more.1 put

pub returns-in_ok-left-in-Binary-clause-put : goal.returns-in_ok-left-in-Binary-clause-put
returns-in_ok-left-in-Binary-clause-put n c =
    let catalog = relation_at c.args.catalog.now in
    let p : Plan = plan_of c.args.node.now in
    let left : Plan = plan_of c.in-Binary.left.value in
    let right : Plan = plan_of c.in-Binary.right.value in
    let rights = rw c.deref-in-Binary.ensures at c.in_ok-right-in-Binary.ensures.put in
    let lefts = rw c.deref-in-Binary-2.ensures at c.in_ok-left-in-Binary.ensures.put in
    let first = claim-there (map claim_of c.put_claims-in-Binary-2.new.claims.items) c.in_ok-left-in-Binary.left (claim (found catalog left)) lefts.0 in
    let second = claim-still (map claim_of c.put_claims-in-Binary.new.claims.items) (reversed_claims (found catalog left)) (map claim_of c.put_claims-in-Binary-2.new.claims.items) c.in_ok-right-in-Binary.right
    (claim (found catalog right)) rights.0 lefts.1 in
    let put = rw (first, second) at c.put_claim-in-Binary.ensures.put in
    let old = map claim_of c.args.claims.now.items in
    let ls = reversed_claims (found catalog left) in
    let rs = reversed_claims (found catalog right) in
    let both = lefts.1 ∙ ap (λ cs. cs ++ ls) rights.1 ∙ append_assoc old rs ls in
    last-found c.put_claim-in-Binary.result (found catalog p) (found_claim catalog p (claim (found catalog left)) (claim (found catalog right))) _ _ old (rs ++ ls) (rw c.in-Binary.is refl)
    (rw c.in-Binary.is (sym (append_assoc rs ls _))) both put

pub returns-in_ok-left-in-Exchange-clause-put : goal.returns-in_ok-left-in-Exchange-clause-put
returns-in_ok-left-in-Exchange-clause-put n c =
    let catalog = relation_at c.args.catalog.now in
    let p : Plan = plan_of c.args.node.now in
    let below : Plan = plan_of c.in-Exchange.input.value in
    let more = rw c.deref-in-Exchange.ensures at c.in_ok-left-in-Exchange.ensures.put in
    let there = claim-there (map claim_of c.put_claims-in-Exchange.new.claims.items) c.in_ok-left-in-Exchange.left (claim (found catalog below)) more.0 in
    let put = rw there at c.put_claim-in-Exchange.ensures.put in
    last-found c.put_claim-in-Exchange.result (found catalog p) (found_claim catalog p (claim (found catalog below)) no_claim) _ _ (map claim_of c.args.claims.now.items) (reversed_claims (found catalog below))
    (rw c.in-Exchange.is refl) (rw c.in-Exchange.is refl) more.1 put
