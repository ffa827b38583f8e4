-- What answers a bundle's text, and why it may have no answer.
use Rattle.std.specs.Prelude.{◌≡◌, ℕ, ◌⊎◌, List, Bool, Option, Some, None, IfSome}
use Rattle.vx_catalog_relations.specs.Naming.{catalog_of}
use Rattle.vx_plan_nodes.specs.Names.{TypedPlanView}
use Rattle.vx_plan_json.specs.Reading.{document_in}
use Rattle.volcano_bundle.specs.Bundle.{Bundle, bundle_of_text}
use Rattle.volcano_bundle.specs.declared.command.Command.TheVariants as command
use Rattle.volcano_refusals.specs.declared.refusal.Refusal.{Refusal}
use Rattle.volcano_refusals.specs.declared.refusal.Refusal.TheVariants as refusal
use Rattle.volcano_refusals.specs.Status.{status_of}
use Rattle.volcano_tables.specs.Texts.{holds_in, lacks_in}
use Rattle.volcano_answer.specs.declared.layouts.Layout.{Layout}
use Rattle.volcano_answer.specs.Commands.{IsResultOf, CommandRefuses}
use Rattle.volcano_answer.specs.Files.{IsUnread}
use Rattle.volcano_answer.specs.Planning.{exactly, IsPlanned, IsPlanRefusal}

-- the plan of a bundle, over its catalog
abbrev pub IsBundlePlan : Bundle → TypedPlanView → Type 0
IsBundlePlan b p = IsPlanned (exactly (catalog_of b.catalog)) (exactly (document_in b.plan)) p

-- the first reason why a bundle has no plan: its catalog, its plan
abbrev pub IsBundlePlanRefusal : Bundle → Refusal → Type 0
IsBundlePlanRefusal b e = IsPlanRefusal (exactly (catalog_of b.catalog)) (exactly (document_in b.plan)) e

-- the text answers this bundle: it is what its command asks for of its plan over its texts
abbrev pub IsOutput : Layout → Bundle → List ℕ → Type 0
IsOutput layout b text = (p : TypedPlanView) × IsBundlePlan b p × IsResultOf layout b.command p (holds_in b.tables) b.setting text

-- the first reason why this bundle has no answer: its plan, or what the command makes of that; out of memory may come anywhere
pub data Refuses (b : Bundle) (e : Refusal) : Type 0 where
  bundle_memory : e ≡ refusal.NoMemory → Refuses b e
  for_planning : IsBundlePlanRefusal b e → Refuses b e
  for_plan_of : (p : TypedPlanView) → IsBundlePlan b p → CommandRefuses b.command p (holds_in b.tables) (lacks_in b.tables) b.setting e → Refuses b e

-- the text answers these bytes: they are a bundle's, and it answers that
abbrev pub IsAnswer : Layout → List ℕ → List ℕ → Type 0
IsAnswer layout bytes text = (b : Bundle) × (bundle_of_text bytes ≡ Some b) × IsOutput layout b text

-- these bytes are a bundle that asks for a run
abbrev pub AsksForRun : List ℕ → Type 0
AsksForRun bytes = (b : Bundle) × (bundle_of_text bytes ≡ Some b) × (b.command ≡ command.Run)

-- no bundle, or why the bundle has no answer
abbrev pub RefusedAs : Option Bundle → Refusal → Type 0
RefusedAs None e = (e ≡ refusal.BadBundle) ⊎ (e ≡ refusal.NoMemory)
RefusedAs (Some b) e = Refuses b e

-- these bytes are refused like this
abbrev pub IsRefused : List ℕ → Refusal → Type 0
IsRefused bytes e = RefusedAs (bundle_of_text bytes) e

-- why all that a reader had left is refused with this refusal
abbrev pub RefusedWith : Option (List ℕ) → Bool → Refusal → Type 0
RefusedWith known failed refusal.InputUnreadable = IsUnread known failed
RefusedWith known failed refusal.NoMemory = Unit {0}
RefusedWith known failed e = IfSome known (λ bytes. IsRefused bytes e)

-- input is refused with a refusal of this status
abbrev pub IsRefusedBy : ℕ → Option (List ℕ) → Bool → Type 0
IsRefusedBy status known failed = (e : Refusal) × (status_of e ≡ status) × RefusedWith known failed e
