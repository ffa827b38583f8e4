use Rattle.std.proofs.Common.{◌≡◌, refl}
use Rattle.std.specs.Bool.{Decides}
use Rattle.std.proofs.lemmas.Slice.Eq.{slice_eq-Decides}
use Rattle.vx_rows_values.specs.contracts.value.ColTypePartialEq.TheImpl.{ghosts}
use Rattle.vx_rows_values.specs.declared.value.ColType.{ColType}
use Rattle.vx_rows_values.specs.declared.value.ColType.TheVariants as kind
use Rattle.vx_catalog_finding.proofs.relation.are_same_types.Goals as goal

type_decides : (a b : ColType) → Decides (ghosts.eq a b) (a ≡ b)
type_decides kind.Int kind.Int = (λ _. refl, λ _. refl)
type_decides kind.Int kind.Text = (λ e. cc, λ e. cc)
type_decides kind.Text kind.Int = (λ e. cc, λ e. cc)
type_decides kind.Text kind.Text = (λ _. refl, λ _. refl)

pub returns : goal.returns
returns c = slice_eq-Decides type_decides c.args.types.now c.args.others.now c.eq.result c.eq.ensures
