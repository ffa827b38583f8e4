use Rattle.std.proofs.Common.{◌∙◌, Option, Some, None, true, ap}
use Rattle.std.specs.Prelude.{IfSome, IfNone}
use Rattle.std.proofs.lemmas.Option.{IfSome_then, slice_get-get_or}
use Rattle.vx_exchange_ends.proofs.in_turn.next_unset.Goals as goal

none-then : {X : Type 0} (r : Option X) {P Q : Type 0} → IfNone r P → (P → Q) → IfNone r Q
none-then None h f = f h
none-then (Some x) h f = tt

both-some : {X : Type 0} (r : Option X) {P Q R : X → Type 0} → IfSome r P → IfSome r Q → ((x : X) → P x → Q x → R x) → IfSome r R
both-some None h k f = tt
both-some (Some x) h k f = f x h k

pub returns-clause-none : goal.returns-clause-none
returns-clause-none c = none-then c.next_open.result c.next_open.ensures.none (λ all k l. slice_get-get_or c.args.flags.now k true l ∙ ap Some (all k true l))

pub returns-clause-some : goal.returns-clause-some
returns-clause-some c = both-some c.next_open.result c.next_open.ensures.within c.next_open.ensures.some (λ i l h. slice_get-get_or c.args.flags.now i true l ∙ ap Some (h true))

pub returns-clause-in_turn : goal.returns-clause-in_turn
returns-clause-in_turn c = IfSome_then c.next_open.result c.next_open.ensures.in_turn (λ i h. λ k l t. slice_get-get_or c.args.flags.now k true l ∙ ap Some (h k true l t))
