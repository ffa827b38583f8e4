use Rattle.std.proofs.Common.{refl, subst}
use Rattle.vx_exchange_receivers.specs.Heads.{IsMissing}
use Rattle.vx_exchange_receivers.proofs.MergeCalls.{call-end-fits, call-ended}
use Rattle.vx_exchange_receivers.proofs.merge.StreamMerge.end.Goals as goal

pub invariant_of-self : goal.invariant_of-self
invariant_of-self c =
    call-end-fits _ _ c.self.view_is c.self.invariant c.args.from c.requires c.index_mut.result.now _ c.index_mut.ensures.value refl refl c.first_lacking-self-inside.result
    (subst (λ hs. IsMissing hs c.first_lacking-self-inside.result) c.deref.ensures.value c.first_lacking-self-inside.ensures)

pub returns-clause-merged : goal.returns-clause-merged
returns-clause-merged c closed more came given keeps here h =
    call-ended _ _ c.self.view_is c.self.invariant c.args.from c.requires c.index_mut.result.now _ c.index_mut.ensures.value refl refl refl closed more came given keeps here h
