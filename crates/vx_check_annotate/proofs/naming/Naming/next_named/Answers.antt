use Rattle.std.proofs.Common.{◌≡◌, List, IfOk, sym, subst}
use Rattle.vx_plan_nodes.specs.Plan.{Claim}
use Rattle.vx_check_annotate.specs.Claimed.{form_of, first_named}
use Rattle.vx_check_annotate.proofs.NamedFacts.{taken}
use Rattle.vx_check_annotate.proofs.naming.Naming.next_named.Goals as goal

pub returns-in-Some-clause-first : goal.returns-in-Some-clause-first
returns-in-Some-clause-first c s e =
    let P : List Claim → Type 0 = λ cs. IfOk c.named.result (λ f. form_of f ≡ first_named s c.args.columns.now.names.items cs) in
    subst P (sym (taken c.args.claims.now.items c.pop.new.self.items c.in-Some.claim c.in-Some.ensures.items)) (c.named.ensures s e)
