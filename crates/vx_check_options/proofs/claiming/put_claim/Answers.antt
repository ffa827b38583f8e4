use Rattle.std.proofs.Common.{◌≡◌, ◌∙◌, ◌∷◌, [], ◌++◌, ℕ, Vec, Global, map, ap, length, arith}
use Rattle.std.specs.Vec.{vec_len}
use Rattle.std.proofs.lemmas.List.{map-append, length-map}
use Rattle.vx_catalog_relations.specs.Catalog.{relation_at}
use Rattle.vx_plan_nodes.specs.Plan.{claim}
use Rattle.vx_plan_nodes.specs.Outline.{claim_of, plan_of}
use Rattle.vx_check_options.proofs.ClaimLists.{found-at}
use Rattle.vx_check_options.proofs.claiming.put_claim.Goals as goal

pub returns : goal.returns
returns c =
    let items = map (λ (k : Vec ℕ Global). k.items) in
    let old = c.args.claims.now in
    let claimed : items c.as_slice-claimed.result.now ≡ (claim (plan_of c.args.node.now)).keys = ap items c.as_slice-claimed.ensures.value ∙ ap (λ d. d.keys) c.head.ensures.claim in
    let lefts = rw c.as_slice.ensures.value at c.keys_at-lefts.ensures in
    let rights = rw c.as_slice-2.ensures.value at c.keys_at-rights.ensures in
    let found = rw (lefts, rights) at (found-at (relation_at c.args.catalog.now) (plan_of c.args.node.now) _ _ _ _ claimed c.in_ok-keys.ensures) in
    let count : vec_len old ≡ length old.items = omega (arith, old.ok.0) in
    let put = ap (map claim_of) c.in_ok-push.ensures.items ∙ map-append claim_of old.items (c.with_keys.result ∷ []) ∙ ap (λ d. map claim_of old.items ++ d ∷ []) c.with_keys.ensures in
    (items c.in_ok-keys.keys.items, found, simp length-map (c.len-at.ensures ∙ count), put)
