-- What each entry point over a catalog that was read returns, writes for its caller and leaves behind the handle.
use Rattle.std.specs.Prelude.{◌≡◌, ℕ, List, map, Bool, Option, Some, None, Ok}
use Rattle.vx_catalog_relations.specs.Relation.{Relation}
use Rattle.vx_catalog_relations.specs.Naming.{catalog_text}
use Rattle.volcano_refusals.specs.declared.refusal.Refusal.{Refusal}
use Rattle.volcano_embedding.specs.declared.forms.ExplainForm.{ExplainForm}
use Rattle.volcano_embedding.specs.declared.replies.Reply.{Reply}
use Rattle.volcano_embedding.specs.declared.spans.TableSpan.{TableSpan}
use Rattle.volcano_embedding.specs.declared.spans.SpanFault.{SpanFault}
use Rattle.volcano_embedding.specs.Planning.{NoCatalog}
use Rattle.volcano_embedding.specs.Spans.{cut_table, SpansFail}
use Rattle.volcano_embedding.specs.Replies.{ChecksTo, ChecksAllTo, ExplainsTo, AnnotatesTo, EvaluatesTo}
use Rattle.volcano_embed.specs.declared.answer.Answer.{Answer}
use Rattle.volcano_embed.specs.Given.{IsGiven, IsRefusal, IsSpanStatus}

-- the handle has the relations of the text, or the text is no catalog and the handle is closed
pub data OpensAs (text : List ℕ) (held : Option (List Relation)) (status : ℕ) (a : Answer) : Type 0 where
  opens : (relations : List Relation) → catalog_text text ≡ Ok relations → held ≡ Some relations → status ≡ 0 → OpensAs text held status a
  opens_none : (e : Refusal) → NoCatalog text e → held ≡ None → IsRefusal e status a → OpensAs text held status a

-- a reply of this kind was written over the relations behind the handle, or it is closed
pub data AnswersOver (Replies : List Relation → Reply → Type 0) (held : Option (List Relation)) (status : ℕ) (a : Answer) : Type 0 where
  answers_over : (relations : List Relation) (r : Reply) → held ≡ Some relations → Replies relations r → IsGiven r status a → AnswersOver Replies held status a
  closed : held ≡ None → status ≡ 2 → AnswersOver Replies held status a

-- the plan was checked
abbrev pub ChecksOver : (held : Option (List Relation)) → (plan : List ℕ) → (status : ℕ) → Answer → Type 0
ChecksOver held plan = AnswersOver (λ relations. ChecksTo relations plan) held

-- all nodes of the plan were checked
abbrev pub ChecksAllOver : (held : Option (List Relation)) → (plan : List ℕ) → (status : ℕ) → Answer → Type 0
ChecksAllOver held plan = AnswersOver (λ relations. ChecksAllTo relations plan) held

-- the plan was explained in a form
abbrev pub ExplainsOver : ExplainForm → (held : Option (List Relation)) → (plan : List ℕ) → (status : ℕ) → Answer → Type 0
ExplainsOver form held plan = AnswersOver (λ relations. ExplainsTo form relations plan) held

-- the plan was written with the claims that follow
abbrev pub AnnotatesOver : (derive : Bool) → (held : Option (List Relation)) → (plan : List ℕ) → (status : ℕ) → Answer → Type 0
AnnotatesOver derive held plan = AnswersOver (λ relations. AnnotatesTo derive relations plan) held

-- the plan was evaluated over the tables too, or a span is not within the bytes
pub data EvaluatesOver (held : Option (List Relation)) (plan bytes : List ℕ) (spans : List TableSpan) (status : ℕ) (a : Answer) : Type 0 where
  evaluates_over : AnswersOver (λ relations. EvaluatesTo (map (cut_table bytes) spans) relations plan) held status a → EvaluatesOver held plan bytes spans status a
  spans_over : (e : SpanFault) → SpansFail bytes spans e → IsSpanStatus e status → EvaluatesOver held plan bytes spans status a

-- the other handle has what this one has; or this one is closed, or memory ran out, and the other one is closed
pub data IsShared (held another : Option (List Relation)) (status : ℕ) : Type 0 where
  shared : (relations : List Relation) → held ≡ Some relations → another ≡ Some relations → status ≡ 0 → IsShared held another status
  shared_closed : held ≡ None → another ≡ None → status ≡ 2 → IsShared held another status
  shared_memory : another ≡ None → status ≡ 4 → IsShared held another status
