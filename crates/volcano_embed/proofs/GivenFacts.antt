-- What is written for the caller of a reply that says nothing below its line, and that an open handle is shared.
use Rattle.std.proofs.Common.{◌≡◌, ◌⊎◌, ◌∙◌, inl, inr, ℕ, List, [], length, ap, refl, sym, subst}
use Rattle.std.specs.Prelude.{Option, Some, None, is_some, true}
use lib.Dec.{T}
use Rattle.vx_catalog_relations.specs.Relation.{Relation}
use Rattle.volcano_embed.specs.Over.{IsShared, shared}
use Rattle.volcano_embedding.specs.declared.replies.Reply.{Reply}
use Rattle.volcano_embed.specs.declared.answer.Answer.{Answer}
use Rattle.volcano_embed.specs.Given.{IsGiven}

is_nothing : (n : ℕ) (xs : List ℕ) → xs ≡ [] → (n ≡ length xs) ⊎ (n ≡ 0) → n ≡ 0
is_nothing n xs none (inl same) = same ∙ ap length none
is_nothing n xs none (inr zero) = zero

pub nothing_more : (r : Reply) (status : ℕ) (a : Answer) → r.more.items ≡ [] → IsGiven r status a → a.more_length ≡ 0
nothing_more r status a none (inl written) = is_nothing a.more_length r.more.items none written.more
nothing_more r status a none (inr memory) = memory.1

pub shares : (held another : Option (List Relation)) → is_some held ≡ true → another ≡ held → IsShared held another 0
shares (Some relations) another there same = shared relations refl same refl
shares None another there same = absurd (subst T (sym there) tt)
