use Rattle.std.proofs.Common.{◌≡◌, ◌∙◌, Bool, sym, ap, ℕ, Vec, Global, map, true}
use Rattle.std.proofs.lemmas.Result.{IfOk-weaker}
use Rattle.std.specs.List.{list_all}
use Rattle.vx_catalog_relations.specs.Catalog.{all_below}
use Rattle.vx_catalog_relations.specs.Relation.{Relation}
use Rattle.vx_plan_facts.specs.KnownView.{IsKnownOf}
use Rattle.vx_plan_nodes.specs.Outline.{claim_of, unary_of, plan_of}
use Rattle.vx_plan_nodes.specs.Types.{width}
use Rattle.vx_check_shown.proofs.StandIns.{copies-over}
use Rattle.vx_check_shown.proofs.projected.key_stand_ins.Goals as goal

pub stand_ins_over-requires : goal.stand_ins_over-requires
stand_ins_over-requires c =
    let catalog = c.requires.0 in
    let b = c.in-Unary in
    let wide : c.width-outputs.result ≡ width catalog (plan_of c.args.node.now) = c.width-outputs.ensures ∙ (c.facts_of.ensures catalog c.requires.1).wide in
    rw c.deref.ensures
    (catalog, copies-over catalog c.args.known.now (plan_of c.args.node.now) b.field-0.number (claim_of b.field-0.claim) (unary_of b.operator) (plan_of b.input.value) c.width-outputs.result (ap plan_of b.is) c.requires.1 wide)

pub returns-in-Unary : goal.returns-in-Unary
returns-in-Unary c =
    let node = plan_of c.args.node.now in
    let all : ℕ → Vec (Vec ℕ Global) Global → Bool = λ w v. list_all (all_below w) (map (λ (k : Vec ℕ Global). k.items) v.items) in
    let more : (v : Vec (Vec ℕ Global) Global) → all c.width-outputs.result v ≡ true → (catalog : ℕ → Relation) → IsKnownOf catalog c.args.known.now node → all (width catalog node) v ≡ true =
    λ v below catalog h. ap (λ w. all w v) (sym (c.width-outputs.ensures ∙ (c.facts_of.ensures catalog h).wide)) ∙ below in
    IfOk-weaker c.stand_ins_over.result (λ v. all c.width-outputs.result v ≡ true) (λ v. (catalog : ℕ → Relation) → IsKnownOf catalog c.args.known.now node → all (width catalog node) v ≡ true) more
    c.stand_ins_over.ensures
