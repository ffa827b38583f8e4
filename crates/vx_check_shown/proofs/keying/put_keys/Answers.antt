use Rattle.std.proofs.Common.{◌≡◌, ◌∙◌, ◌∷◌, [], ◌++◌, ℕ, List, Vec, Global, map, ap, length, arith}
use Rattle.std.specs.Vec.{vec_len}
use Rattle.std.proofs.lemmas.List.{map-append, length-map}
use Rattle.vx_catalog_relations.specs.Catalog.{relation_at}
use Rattle.vx_plan_nodes.specs.Plan.{Plan, claim}
use Rattle.vx_plan_nodes.specs.Outline.{claim_of, plan_of}
use Rattle.vx_check_shown.specs.Found.{ShownAt, keyed}
use Rattle.vx_check_shown.proofs.FoundTold.{typed-keys}
use Rattle.vx_check_shown.proofs.keying.put_keys.Goals as goal

pub shown_keys-requires-clause-claimed : goal.shown_keys-requires-clause-claimed
shown_keys-requires-clause-claimed c =
    let items = map (λ (k : Vec ℕ Global). k.items) in
    let claimed : items c.as_slice-claimed.result.now ≡ (claim (plan_of c.args.node.now)).keys = ap items c.as_slice-claimed.ensures.value ∙ ap (λ d. d.keys) c.head.ensures.claim in
    rw claimed (typed-keys c.args.catalog.now (plan_of c.args.node.now) c.requires.known.typed)

pub returns-clause-put : goal.returns-clause-put
returns-clause-put c =
    let items = map (λ (k : Vec ℕ Global). k.items) in
    let old = c.args.claims.now in
    let catalog = relation_at c.args.catalog.now in
    let p : Plan = plan_of c.args.node.now in
    let claimed : items c.as_slice-claimed.result.now ≡ (claim p).keys = ap items c.as_slice-claimed.ensures.value ∙ ap (λ d. d.keys) c.head.ensures.claim in
    let first = rw c.as_slice.ensures.value at c.claim_at-first.ensures in
    let second = rw c.as_slice-2.ensures.value at c.claim_at-second.ensures in
    let lefts = ap items c.as_slice-3.ensures.value ∙ ap (λ d. d.keys) first in
    let rights = ap items c.as_slice-4.ensures.value ∙ ap (λ d. d.keys) second in
    let shown = rw (claimed, lefts, rights) at c.in_ok-keys.ensures.found in
    let count : vec_len old ≡ length old.items = omega (arith, old.ok.0) in
    let put = ap (map claim_of) c.in_ok-push.ensures.items ∙ map-append claim_of old.items _ ∙ ap (λ o. map claim_of old.items ++ record { part = _; order = o; keys = items c.in_ok-keys.keys.items } ∷ []) c.new.ensures.items in
    (items c.in_ok-keys.keys.items, shown, simp length-map (c.len-at.ensures ∙ count), put)
