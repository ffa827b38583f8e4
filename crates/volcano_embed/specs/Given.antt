-- What each entry point returns and writes for its caller.
use Rattle.std.specs.Prelude.{◌≡◌, ◌==◌, ◌⊎◌, ℕ, List, map, length, Bool, true, false, Option, Some, None, Ok, if◌then◌else◌}
use Rattle.vx_catalog_relations.specs.Relation.{Relation}
use Rattle.vx_catalog_relations.specs.Naming.{catalog_text}
use Rattle.volcano_refusals.specs.declared.refusal.Refusal.{Refusal}
use Rattle.volcano_embedding.specs.declared.forms.ExplainForm.{ExplainForm}
use Rattle.volcano_embedding.specs.declared.more.ErrorForm.{ErrorForm}
use Rattle.volcano_embedding.specs.declared.more.ErrorForm.TheVariants as errors
use Rattle.volcano_embedding.specs.declared.replies.Reply.{Reply}
use Rattle.volcano_embedding.specs.declared.spans.TableSpan.{TableSpan}
use Rattle.volcano_embedding.specs.declared.spans.SpanFault.{SpanFault}
use Rattle.volcano_embedding.specs.declared.spans.SpanFault.TheVariants as fault
use Rattle.volcano_embedding.specs.Planning.{NoCatalog}
use Rattle.volcano_embedding.specs.Spans.{cut_table, SpansFail}
use Rattle.volcano_embedding.specs.Replies.{IsRefusalReply, ChecksTo, ChecksAllTo, ExplainsTo, AnnotatesTo, EvaluatesTo, ExplainsCode, IsNoCode}
use Rattle.volcano_embed.specs.declared.answer.Answer.{Answer}

-- the form in which more is to be said of a refusal; any other number asks for nothing more
abbrev pub error_form : ℕ → ErrorForm
error_form number = if number == 1 then errors.Long else if number == 2 then errors.Json else errors.Short

-- a number stands for a node, where there is one
abbrev pub IsNode : Option ℕ → Bool → ℕ → Type 0
IsNode None has_node node = has_node ≡ false
IsNode (Some n) has_node node = (has_node ≡ true) × (node ≡ n)

-- a reply was written for the caller: its status is returned, and the answer has its length, its node and whether the plan is total; and the length of what is said
-- below the line of a refusal, unless memory ran out for that
pub record IsWritten (r : Reply) (status : ℕ) (a : Answer) : Type 0 where
  pub same : status ≡ r.status
  pub many : a.length ≡ length r.text.items
  pub total : a.is_total ≡ r.is_total
  pub node : IsNode r.node a.has_node a.node
  pub more : (a.more_length ≡ length r.more.items) ⊎ (a.more_length ≡ 0)

-- it was written, unless memory ran out
abbrev pub IsGiven : Reply → ℕ → Answer → Type 0
IsGiven r status a = IsWritten r status a ⊎ ((status ≡ 4) × (a.more_length ≡ 0))

-- the reply to a refusal was written
abbrev pub IsRefusal : Refusal → ℕ → Answer → Type 0
IsRefusal e status a = (r : Reply) × IsRefusalReply e r × IsGiven r status a

-- the status for tables that were not cut
abbrev pub IsSpanStatus : SpanFault → ℕ → Type 0
IsSpanStatus fault.Outside status = status ≡ 2
IsSpanStatus fault.NoMemory status = status ≡ 4

-- a reply of this kind was written over the relations of a catalog's text, or the text is no catalog
pub data AnswersAs (Replies : List Relation → Reply → Type 0) (catalog : List ℕ) (status : ℕ) (a : Answer) : Type 0 where
  answers : (relations : List Relation) (r : Reply) → catalog_text catalog ≡ Ok relations → Replies relations r → IsGiven r status a → AnswersAs Replies catalog status a
  no_catalog : (e : Refusal) → NoCatalog catalog e → IsRefusal e status a → AnswersAs Replies catalog status a

-- the plan was checked over the catalog
abbrev pub ChecksAs : (catalog plan : List ℕ) → (status : ℕ) → Answer → Type 0
ChecksAs catalog plan = AnswersAs (λ relations. ChecksTo relations plan) catalog

-- all nodes of the plan were checked
abbrev pub ChecksAllAs : (catalog plan : List ℕ) → (status : ℕ) → Answer → Type 0
ChecksAllAs catalog plan = AnswersAs (λ relations. ChecksAllTo relations plan) catalog

-- the plan was explained in a form
abbrev pub ExplainsAs : ExplainForm → (catalog plan : List ℕ) → (status : ℕ) → Answer → Type 0
ExplainsAs form catalog plan = AnswersAs (λ relations. ExplainsTo form relations plan) catalog

-- the plan was written with the claims that follow
abbrev pub AnnotatesAs : (derive : Bool) → (catalog plan : List ℕ) → (status : ℕ) → Answer → Type 0
AnnotatesAs derive catalog plan = AnswersAs (λ relations. AnnotatesTo derive relations plan) catalog

-- the plan was evaluated over the catalog and the tables, or a span is not within the bytes
pub data EvaluatesAs (catalog plan bytes : List ℕ) (spans : List TableSpan) (status : ℕ) (a : Answer) : Type 0 where
  evaluates : AnswersAs (λ relations. EvaluatesTo (map (cut_table bytes) spans) relations plan) catalog status a → EvaluatesAs catalog plan bytes spans status a
  no_tables : (e : SpanFault) → SpansFail bytes spans e → IsSpanStatus e status → EvaluatesAs catalog plan bytes spans status a

-- the entry of a code was written, or the word is neither a code nor the name of one
pub data ExplainsCodeAs (word : List ℕ) (status : ℕ) (a : Answer) : Type 0 where
  explains_code : (r : Reply) → ExplainsCode word r → IsGiven r status a → ExplainsCodeAs word status a
  no_code : IsNoCode word → status ≡ 2 → ExplainsCodeAs word status a
