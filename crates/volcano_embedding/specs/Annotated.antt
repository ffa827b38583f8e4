-- A plan with the claims that the rule table shows, and why there is none.
use Rattle.std.specs.Prelude.{◌≡◌, ℕ, ◌++◌, List, Bool, true, false, Ok, codes, if◌then◌else◌}
use Rattle.serde_json.specs.Written.{compact_text}
use Rattle.vx_catalog_relations.specs.Relation.{Relation}
use Rattle.vx_plan_json.specs.Document.{Document}
use Rattle.vx_plan_json.specs.Fault as fails
use Rattle.vx_plan_json.specs.Reading.{document_of_text}
use Rattle.vx_plan_json.specs.Written.{document_json}
use Rattle.vx_plan_json.specs.declared.fault.PlanFault.{PlanFault}
use Rattle.vx_check_annotate.specs.Unclaimed.{unclaimed}
use Rattle.vx_check_annotate.specs.Asking.{asking}
use Rattle.vx_check_annotate.specs.Verdict.{is_accepted}
use Rattle.vx_check_annotate.specs.Telling.{tells, TellsDerived}
use Rattle.vx_check_annotate.specs.Fault.{IsReason}
use Rattle.vx_check_annotate.specs.declared.fault.AnnotateFault.{AnnotateFault}
use Rattle.vx_check_annotate.specs.declared.fault.AnnotateFault.TheVariants as fault
use Rattle.volcano_refusals.specs.declared.refusal.Refusal.{Refusal}
use Rattle.volcano_refusals.specs.declared.refusal.Refusal.TheVariants as refusal

-- the refusal that a fault is to the caller
abbrev pub refusal_of : AnnotateFault → Refusal
refusal_of (fault.Plan f) = refusal.Plan f
refusal_of (fault.Rule node rule) = refusal.Check rule node

-- the document, which asks for what is known of its columns where that is said
abbrev pub asking_if : (derive : Bool) → Document → Document
asking_if derive d = if derive then asking d else d

-- the text is a line of JSON with the same document but for its claims, total or not as is said. The checker accepts it, and its claims tell at least as much as the
-- document's own where the checker accepts that, by the rule table that the document asks for; and it reads as that document
pub record IsAnnotated (catalog : List Relation) (d : Document) (text : List ℕ) (is_total : Bool) : Type 0 where
  pub shown : Document
  pub same : unclaimed shown ≡ unclaimed d
  pub accepted : is_accepted catalog shown ≡ true
  pub telling : d.derives ≡ false → is_accepted catalog d ≡ true → tells shown d ≡ true
  pub telling_derived : d.derives ≡ true → is_accepted catalog d ≡ true → TellsDerived catalog shown d
  pub written : text ≡ compact_text (document_json shown) ++ codes "\n"
  pub reads_back : document_of_text (compact_text (document_json shown)) ≡ Ok shown
  pub total : is_total ≡ shown.total

-- why there is none: the plan without its claims does not fit the catalog, or an operator does not fit; or memory ran out
pub data AnnotationRefuses (catalog : List Relation) (d : Document) (e : Refusal) : Type 0 where
  annotation_memory : e ≡ refusal.NoMemory → AnnotationRefuses catalog d e
  for_reason : (f : AnnotateFault) → e ≡ refusal_of f → IsReason catalog d f → AnnotationRefuses catalog d e

-- the text of a plan is annotated by this one
pub record Annotates (catalog : List Relation) (derive : Bool) (plan text : List ℕ) (is_total : Bool) : Type 0 where
  pub document : Document
  pub says : document_of_text plan ≡ Ok document
  pub annotated : IsAnnotated catalog (asking_if derive document) text is_total

-- why the text of a plan is not annotated: it is no plan, or gets no claims
pub data AnnotateRefuses (catalog : List Relation) (derive : Bool) (plan : List ℕ) (e : Refusal) : Type 0 where
  annotate_memory : e ≡ refusal.NoMemory → AnnotateRefuses catalog derive plan e
  for_text : (fault : PlanFault) → e ≡ refusal.Plan fault → fails.Fails fault (document_of_text plan) → AnnotateRefuses catalog derive plan e
  for_claims : (d : Document) → document_of_text plan ≡ Ok d → AnnotationRefuses catalog (asking_if derive d) e → AnnotateRefuses catalog derive plan e
