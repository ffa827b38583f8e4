use Rattle.std.proofs.Common.{◌∙◌, sym, subst, length}
use Rattle.vx_exec_threads.specs.Wired.{IsWired}
use Rattle.vx_exec_wiring.specs.Making.{counts_in, made_of}
use Rattle.vx_exec_wiring.proofs.Growing.{all-wired, all-sit}
use Rattle.vx_exec_wiring.proofs.wiring.wiring_of.Goals as goal

pub returns-clause-wired : goal.returns-clause-wired
returns-clause-wired c = λ S p laid counts.
    let new = made_of c.in_ok-making.making in
    let morsels = c.args.morsels.now in
    subst (λ hs. IsWired S p new.decks new.places hs) (sym c.in_ok-ends_of.ensures)
    (all-wired S (counts_in morsels) p c.spans.result.now new (c.spans.ensures ∙ laid) counts c.in_ok-making.ensures)

pub returns-clause-sits : goal.returns-clause-sits
returns-clause-sits c =
    let new = made_of c.in_ok-making.making in
    all-sit (length c.spans.result.now) 0 new c.in_ok-ends_of.field-0.items c.in_ok-ends_of.ensures c.in_ok-making.ensures.sound
