-- Why a document gets no claims, by the rule table that it asks for.
use Rattle.std.proofs.Common.{◌≡◌, ◌∙◌, ℕ, true, false, List, Some, None, is_none, ap, sym, subst}
use Rattle.vx_catalog_relations.specs.Relation.{Relation}
use Rattle.vx_plan_json.specs.Document.{Document}
use Rattle.vx_check_rules.specs.declared.rule.Rule as rust_rule
use Rattle.vx_check_rules.specs.RuleView.{rule_of}
use Rattle.vx_check_annotate.specs.declared.fault.AnnotateFault.TheVariants as fault
use Rattle.vx_check_annotate.specs.Unclaimed.{unclaimed}
use Rattle.vx_check_annotate.specs.Verdict.{refuses, is_accepted, refused}
use Rattle.vx_check_annotate.specs.Strongest.{TellsTheMostDerived}
use Rattle.vx_check_annotate.specs.Fault.{IsRuleReason, IsReason}
use Rattle.vx_check_annotate.proofs.VerdictFacts.{accepted_so}

-- of one that is judged by claims alone
pub plain-reason : (catalog : List Relation) (d : Document) (n : ℕ) (r : rust_rule.Rule) → d.derives ≡ false → IsRuleReason false catalog d n (rule_of r) → IsReason catalog d (fault.Rule n r)
plain-reason catalog d n r e h = subst (λ b. IsRuleReason b catalog d n (rule_of r)) (sym e) h

-- of one that is judged by what is known of columns
pub derived-reason : (catalog : List Relation) (d e : Document) (n : ℕ) (r : rust_rule.Rule) → d.derives ≡ true → is_accepted catalog d ≡ false → unclaimed e ≡ unclaimed d → TellsTheMostDerived catalog e
    → refused catalog e ≡ Some (n, rule_of r) → IsReason catalog d (fault.Rule n r)
derived-reason catalog d e n r derives bad same most said = subst (λ b. IsRuleReason b catalog d n (rule_of r)) (sym derives) (bad, (e, same, most, said))

-- ---- documents that get claims by what is known of columns

-- nothing is refused of the document
pub accepted-of : (catalog : List Relation) (e : Document) → TellsTheMostDerived catalog e → refused catalog e ≡ None → is_accepted catalog e ≡ true
accepted-of catalog e most none = accepted_so catalog e most.0 most.1 ∙ ap is_none (sym (ap refuses most.1) ∙ none)
