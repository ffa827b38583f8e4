use Rattle.std.proofs.Common.{◌≡◌, ◌∙◌, ◌∷◌, [], map, take, ap, sym}
use Rattle.vx_catalog_relations.specs.Catalog.{relation_at}
use Rattle.vx_plan_nodes.specs.Plan.{Part, claim}
use Rattle.vx_plan_nodes.specs.Outline.{part_of, plan_of}
use Rattle.vx_check_options.specs.Options.{part_if_given}
use Rattle.vx_check_options.proofs.PartLists.{two-given, given-some, given-none}
use Rattle.vx_check_options.proofs.parts.part_if_given.Goals as goal

pub returns-in_ok-copied_part-in-Some : goal.returns-in_ok-copied_part-in-Some
returns-in_ok-copied_part-in-Some c =
    let catalog = relation_at c.args.catalog.now in
    let p = plan_of c.args.node.now in
    let q : Part = part_of c.head.result.now.claim.part in
    let lefts = map part_of c.args.lefts.now in
    let rights = map part_of c.args.rights.now in
    let same : q ≡ (claim p).part = ap (λ d. d.part) c.head.ensures.claim in
    let given = given-some _ _ _ q (sym c.in-Some.ensures) (two-given catalog p q lefts rights c.requires.several) in
    rw (ap (λ x. x ∷ []) c.in_ok-copied_part-in-Some.ensures ∙ given ∙ ap (λ x. take 64 (part_if_given catalog p x lefts rights)) same) at c.only_part.ensures

pub returns-in-None : goal.returns-in-None
returns-in-None c =
    let catalog = relation_at c.args.catalog.now in
    let p = plan_of c.args.node.now in
    let q : Part = part_of c.head.result.now.claim.part in
    let lefts = map part_of c.args.lefts.now in
    let rights = map part_of c.args.rights.now in
    let same : q ≡ (claim p).part = ap (λ d. d.part) c.head.ensures.claim in
    ap (map part_of) c.new.ensures.items ∙ given-none _ _ q (sym c.in-None.ensures) (two-given catalog p q lefts rights c.requires.several) ∙ ap (λ x. take 64 (part_if_given catalog p x lefts rights)) same
