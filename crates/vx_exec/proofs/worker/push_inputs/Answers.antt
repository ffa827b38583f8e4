use Rattle.std.proofs.Common.{ℕ, ap, map, ◌++◌, ◌∷◌, []}
use Rattle.std.proofs.lemmas.List.Elements.{All-push, All-same}
use Rattle.vx_worker.specs.Intake.{source_of, IsFresh}
use Rattle.vx_worker.specs.declared.intake.ExchangeInput.{ExchangeInput}
use Rattle.vx_exec.proofs.Each.{each-begun, each-mapped}
use Rattle.vx_exec.proofs.worker.push_inputs.Goals as goal

pub loop-from-init : goal.loop-from-init
loop-from-init c = record { fresh = λ h. h; sources = each-begun (λ (i : ℕ). (c.args.exchange, i)) (map source_of c.args.inputs.now.items) }

pub loop-from-preserved : goal.loop-from-preserved
loop-from-preserved c = record {
  fresh = λ h.
      All-same IsFresh c.push.new.self.items (c.loop-from.inputs.items ++ c.new.result ∷ []) c.in_ok-push.ensures.items
      (All-push IsFresh c.loop-from.inputs.items c.new.result (c.loop-from.invariant.fresh h) (ap (λ (i : ExchangeInput). i.is_closed) c.new.ensures));
  sources = each-mapped source_of (λ i. (c.args.exchange, i)) c.loop-from.from (map source_of c.args.inputs.now.items) c.loop-from.inputs.items c.push.new.self.items c.new.result
      c.in_ok-push.ensures.items (ap source_of c.new.ensures) c.loop-from.invariant.sources;
}
