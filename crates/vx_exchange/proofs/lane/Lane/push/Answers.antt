use Rattle.std.proofs.Common.{rules, ◌≡◌, ◌<◌, length, false, true≢false, sym, ap, ◌∙◌}
use Rattle.std.proofs.lemmas.List.Elements.{All-push, All-same}
use Rattle.vx_ports.specs.Packets.{PacketView, closes, content_rows}
use Rattle.vx_exchange.specs.LaneView.{LaneView, is_given}
use Rattle.vx_exchange.proofs.lane.Lane.push.Goals as goal

pub invariant_of-self : goal.invariant_of-self
invariant_of-self c =
    let i = c.self.invariant in
    let still : is_given c.self.inside.closing ≡ false = ap (λ (o : LaneView). o.closed) c.self.view_is ∙ c.requires.open in
    let P : PacketView → Type 0 = λ p. closes p.content ≡ false in
    let S : PacketView → Type 0 = λ p. 0 < length (content_rows p.content) in
    record {
      some = i.some;
      few = i.few;
      shorter = i.shorter;
      none_after = λ e. absurd (true≢false (sym e ∙ still));
      of_some = All-same S c.push_back.new.self.items _ (search rules) (All-push S c.self.inside.ready.items c.of_rows-packet.result i.of_some (rw c.of_rows-packet.ensures c.requires.some));
      of_rows = All-same P c.push_back.new.self.items _ (search rules) (All-push P c.self.inside.ready.items c.of_rows-packet.result i.of_rows (ap (λ (p : PacketView). closes p.content) c.of_rows-packet.ensures));
      keeps = i.keeps;
    }
