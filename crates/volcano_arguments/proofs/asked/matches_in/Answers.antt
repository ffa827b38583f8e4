use Rattle.std.proofs.Common.{◌≡◌, subst, refl, map, true}
use Rattle.std.proofs.lemmas.Result.{IfOk-weaker}
use Rattle.std.specs.Prelude.{IfOk}
use Rattle.clap.specs.Words.{App, FailsBy, HasMatchesOf, fault_of, is_simple_and_free}
use Rattle.volcano_arguments.specs.Asked.{volcano_app}
use Rattle.volcano_arguments.proofs.asked.matches_in.Goals as goal

pub returns-clause-found : goal.returns-clause-found
returns-clause-found c =
    let P : App → Type 0 = λ a. IfOk c.try_get_matches_from.result (HasMatchesOf a (map (λ w. w.now) c.args.arguments.now)) in
    let has : P volcano_app = subst P c.in_ok-command.ensures c.try_get_matches_from.ensures.matches in
    IfOk-weaker c.try_get_matches_from.result _ _ (λ m h. (h refl).1) has

pub returns-clause-faults : goal.returns-clause-faults
returns-clause-faults c =
    subst (λ (a : App). is_simple_and_free a ≡ true → FailsBy (fault_of a (map (λ w. w.now) c.args.arguments.now)) c.try_get_matches_from.result)
    c.in_ok-command.ensures c.try_get_matches_from.ensures.kinds refl
