use Rattle.std.proofs.Common.{◌≡◌, ℕ, ap, sym, ◌∙◌, List, ◌++◌, Option, Some, None}
use Rattle.std.specs.Option.{option_to_list}
use Rattle.vx_ports.specs.Packets.{PacketView}
use Rattle.vx_ops.specs.Turn.{with_packet}
use Rattle.vx_worker.specs.Worker.{with_all, with_pending}
use Rattle.vx_worker.proofs.Stopping.{with_all-push}
use Rattle.vx_worker.proofs.worker.Worker.next_closing.Goals as goal

popped : (put : ℕ → List PacketView) (x : Option (ℕ × PacketView)) (ps qs : List PacketView) (o : Option PacketView) (p : PacketView) (to : ℕ) → x ≡ None → ps ≡ qs ++ option_to_list o → o ≡ Some p → to ≡ p.to
    → with_all (with_pending put x) ps ≡ with_all (with_packet put to (Some p)) qs
popped put x ps qs o p to none split is e =
    ap (λ z. with_all (with_pending put z) ps) none ∙ ap (with_all put) (split ∙ ap (λ z. qs ++ option_to_list z) is) ∙ with_all-push put qs p
    ∙ ap (λ z. with_all (with_packet put z (Some p)) qs) (sym e)

pub returns-in-Some-pop-clause-some : goal.returns-in-Some-pop-clause-some
returns-in-Some-pop-clause-some g c = λ put. popped put c.args.self.now.pending c.args.self.now.closing.items c.pop.new.self.items c.pop.result c.in-Some-pop.packet c.to.result
    (sym c.take.ensures.value ∙ c.in-None.is) c.pop.ensures.items c.in-Some-pop.is c.to.ensures
