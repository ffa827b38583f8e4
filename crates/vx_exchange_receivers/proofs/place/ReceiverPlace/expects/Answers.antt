use Rattle.std.proofs.Common.{rules, ◌≡◌, true, refl, sym, ◌∙◌}
use denote.Enum.Bare.{sameb}
use Rattle.std.specs.Bool.{Decides}
use Rattle.std.proofs.lemmas.Slice.Eq.{slice_eq-Decides}
use Rattle.vx_rows_values.specs.declared.value.ColType.{ColType}
use Rattle.vx_rows_values.specs.declared.value.ColType.TheVariants.{Int, Text}
use Rattle.vx_rows_values.specs.contracts.value.ColType.{the_type}
use Rattle.vx_exchange.proofs.Arrivals.{is-for}
use Rattle.vx_exchange_receivers.specs.Ends.{end_at}
use Rattle.vx_exchange_receivers.proofs.place.ReceiverPlace.expects.Goals as goal

kind-decides : (a b : ColType) → Decides (sameb the_type a b) (a ≡ b)
kind-decides Int Int = (λ e. refl, λ e. refl)
kind-decides Int Text = (λ e. cc, λ e. cc)
kind-decides Text Int = (λ e. cc, λ e. cc)
kind-decides Text Text = (λ e. refl, λ e. refl)

pub returns-then-to-self-clause-ours : goal.returns-then-to-self-clause-ours
returns-then-to-self-clause-ours c producers merge in_order =
    let t = c.if-to-self.true in
    let same = slice_eq-Decides kind-decides c.types.result.now c.as_slice.result.now c.eq.result c.eq.ensures in
    let value = c.as_slice.ensures.value in (
      λ e. is-for (end_at c.args.self.now producers merge in_order) c.args.from c.args.packet.now (search rules) (search rules) (search rules)
          (sym c.types.ensures.types ∙ same.0 (search rules) ∙ value),
      λ f. let types = f.types in let s : c.eq.result ≡ true = same.1 (c.types.ensures.types ∙ types ∙ sym value) in rw s (search rules),
    )
