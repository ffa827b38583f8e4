-- What the calls come to: a status of 0 with what answers, or the status and the node of a refusal.
use Rattle.std.specs.Prelude.{◌≡◌, ◌⊎◌, ℕ, List, map, Bool, None}
use Rattle.std.specs.Str.{IsUtf8}
use Rattle.volcano_bundle.specs.Named.{Named}
use Rattle.vx_catalog_relations.specs.Relation.{Relation}
use Rattle.vx_plan_nodes.specs.Names.{TypedPlanView}
use Rattle.vx_check.specs.Accepted.{accepted_text}
use Rattle.volcano_why.specs.Codes.{code_of, BeginsWith}
use Rattle.volcano_refusals.specs.declared.refusal.Refusal.{Refusal}
use Rattle.volcano_refusals.specs.Status.{status_of}
use Rattle.volcano_embedding.specs.Texts.{table_form}
use Rattle.volcano_embedding.specs.Planning.{IsAccepted, NoPlan, CheckRefuses}
use Rattle.volcano_embedding.specs.Forms.{text_in_form}
use Rattle.volcano_embedding.specs.Annotated.{Annotates, AnnotateRefuses}
use Rattle.volcano_embedding.specs.Verdict.{AreFailures}
use Rattle.volcano_embedding.specs.Serial.{IsSerial, SerialRefuses}
use Rattle.volcano_embedding.specs.Lines.{node_of}
use Rattle.volcano_embedding.specs.declared.forms.ExplainForm.{ExplainForm}
use Rattle.volcano_embedding.specs.declared.replies.Question.{Question}
use Rattle.volcano_embedding.specs.declared.replies.Question.TheVariants as question
use Rattle.volcano_embedding.specs.declared.replies.Reply.{Reply}

-- memory ran out
abbrev pub IsMemoryReply : Reply → Type 0
IsMemoryReply r = (r.status ≡ 4) × (r.node ≡ None)

-- the reply has the status and the node of a refusal, unless memory ran out
abbrev pub IsRefusalReply : Refusal → Reply → Type 0
IsRefusalReply e r = ((r.status ≡ status_of e) × (r.node ≡ node_of e)) ⊎ IsMemoryReply r

-- the reply says that the plan is accepted, and whether it is total
abbrev pub IsCheck : List Relation → List ℕ → Reply → Type 0
IsCheck relations plan r = (p : TypedPlanView) × IsAccepted relations plan p × (r.status ≡ 0) × (r.is_total ≡ p.total) × (r.text.items ≡ accepted_text p.total)

-- the same; or the plan is refused, and the reply has a line for each node that fails
abbrev pub IsFullCheck : List Relation → List ℕ → Reply → Type 0
IsFullCheck relations plan r = IsCheck relations plan r ⊎ ((r.status ≡ 3) × AreFailures relations plan r.text.items)

-- the reply explains the accepted plan
abbrev pub IsExplanation : ExplainForm → List Relation → List ℕ → Reply → Type 0
IsExplanation form relations plan r = (p : TypedPlanView) × IsAccepted relations plan p × (r.status ≡ 0) × (r.text.items ≡ text_in_form form p)

-- the reply is the plan with the claims that follow, and says whether it is total
abbrev pub IsAnnotation : Bool → List Relation → List ℕ → Reply → Type 0
IsAnnotation derive relations plan r = (r.status ≡ 0) × Annotates relations derive plan r.text.items r.is_total

-- the reply has the plan's serial rows
abbrev pub IsEvaluation : Named (List ℕ) → List Relation → List ℕ → Reply → Type 0
IsEvaluation tables relations plan r = (r.status ≡ 0) × IsSerial relations tables plan r.text.items

-- the reply answers, or is that of a refusal
pub data Answers (Answer : Reply → Type 0) (Refuses : Refusal → Type 0) (r : Reply) : Type 0 where
  answered : Answer r → Answers Answer Refuses r
  refused : (e : Refusal) → Refuses e → IsRefusalReply e r → Answers Answer Refuses r

abbrev pub ChecksTo : List Relation → List ℕ → Reply → Type 0
ChecksTo relations plan = Answers (IsCheck relations plan) (CheckRefuses relations plan)

abbrev pub ChecksAllTo : List Relation → List ℕ → Reply → Type 0
ChecksAllTo relations plan = Answers (IsFullCheck relations plan) (NoPlan relations plan)

abbrev pub ExplainsTo : ExplainForm → List Relation → List ℕ → Reply → Type 0
ExplainsTo form relations plan = Answers (IsExplanation form relations plan) (CheckRefuses relations plan)

abbrev pub AnnotatesTo : Bool → List Relation → List ℕ → Reply → Type 0
AnnotatesTo derive relations plan = Answers (IsAnnotation derive relations plan) (AnnotateRefuses relations derive plan)

abbrev pub EvaluatesTo : Named (List ℕ) → List Relation → List ℕ → Reply → Type 0
EvaluatesTo tables relations plan = Answers (IsEvaluation tables relations plan) (SerialRefuses relations tables plan)

-- the reply answers a question
abbrev pub IsAnswerTo : Question → List Relation → List ℕ → Reply → Type 0
IsAnswerTo question.Check = IsCheck
IsAnswerTo question.CheckAll = IsFullCheck
IsAnswerTo (question.Explain form) = IsExplanation form
IsAnswerTo (question.Annotate derive) = IsAnnotation derive
IsAnswerTo (question.Evaluate tables) = IsEvaluation (map table_form tables.now)

-- why a question has no answer
abbrev pub RefusesTo : Question → List Relation → List ℕ → Refusal → Type 0
RefusesTo question.Check relations = CheckRefuses relations
RefusesTo question.CheckAll relations = NoPlan relations
RefusesTo (question.Explain form) relations = CheckRefuses relations
RefusesTo (question.Annotate derive) relations = AnnotateRefuses relations derive
RefusesTo (question.Evaluate tables) relations = SerialRefuses relations (map table_form tables.now)

-- the reply to a question
abbrev pub AnswersTo : Question → List Relation → List ℕ → Reply → Type 0
AnswersTo question relations plan = Answers (IsAnswerTo question relations plan) (RefusesTo question relations plan)

-- the reply has the entry of the code that a word is or names, or memory ran out
abbrev pub ExplainsCode : List ℕ → Reply → Type 0
ExplainsCode word r = ((r.status ≡ 0) × BeginsWith (code_of word) r.text.items) ⊎ IsMemoryReply r

-- a word is neither a code nor the name of one; one that is not UTF-8 never is
abbrev pub IsNoCode : List ℕ → Type 0
IsNoCode word = (code_of word ≡ None) ⊎ (IsUtf8 word → ⊥)
