-- What was given in part: more rows, fewer packets, and Fault.
use Rattle.std.proofs.Common.{◌≡◌, ℕ, ◌==◌, Bool, true, false, Some, cond, List, [], ◌∷◌, ◌++◌, length, take, refl, sym, ◌∙◌, append-nil}
use Rattle.vx_rows_values.specs.Values.{Row}
use Rattle.vx_rows.specs.Lists.{IsBeginning}
use Rattle.vx_plan_nodes.specs.Routes.{Routing}
use Rattle.vx_ports.specs.Packets.{fault, PacketView}
use Rattle.vx_ops.specs.Turn.{with_packet}
use Rattle.vx_exchange_ends.specs.Ship.{Ship, packet_at, end_to_end, IsCutShort}
use Rattle.vx_exchange_ends.specs.Tasks.{send, keep}
use Rattle.vx_exchange_ends.specs.Beginnings.{begins-along, begins-take, mapped-take}
use Rattle.vx_exchange_ends.specs.Parts.{PartStaysAsRowsCome, PartStaysWithLess, PartStaysWithoutLast, BegunStaysAsRowsCome, BegunStaysWithoutLast, FaultStops}
use Rattle.vx_exchange_ends.specs.Closing.{closed_by}
use Rattle.vx_exchange_ends.proofs.Closings.{fault-cuts-short}
use Rattle.vx_exchange_ends.proofs.Sendings.{sends-append, sends-some}

pub part-shipped-more : PartStaysAsRowsCome
part-shipped-more goes s xs ys put some part =
    let m = sends-some goes s.kind s.consumers ys some in
    record {
      sent = λ j. part.sent j ++ m.0 j;
      sends = sends-append goes s.kind s.consumers xs ys part.sent m.0 part.sends m.1;
      parts = part.parts;
      begins = λ j l. begins-along (end_to_end (part.parts j)) (part.sent j) (part.sent j ++ m.0 j) (part.begins j l) (record { rest = m.0 j; joined = refl });
      packets = part.packets;
      nothing = part.nothing;
    }

-- before nothing stands nothing
none-before : {X : Type 0} (xs ys : List X) → xs ++ ys ≡ [] → xs ≡ []
none-before [] ys e = refl
none-before (x ∷ xs) ys e = cc

pub part-shipped-less : PartStaysWithLess
part-shipped-less goes s rows put more less part = record {
  sent = part.sent;
  sends = part.sends;
  parts = λ j. take (length (put j)) (part.parts j);
  begins = λ j l. begins-along (end_to_end (take (length (put j)) (part.parts j))) (end_to_end (part.parts j)) (part.sent j) (begins-take (length (put j)) (part.parts j)) (part.begins j l);
  packets = λ j l. mapped-take (packet_at s j) (part.parts j) (put j) (less j).rest ((less j).joined ∙ sym (part.packets j l));
  nothing = λ j l. none-before (put j) (less j).rest ((less j).joined ∙ part.nothing j l);
}

-- all but the last packet for a consumer are a beginning
begins-without : (put : ℕ → List PacketView) (j : ℕ) (p : PacketView) (i : ℕ) → IsBeginning (put i) (with_packet put j (Some p) i)
begins-without put j p i = go (i == j)
  where
    go : (b : Bool) → IsBeginning (put i) (cond b (put i ++ p ∷ []) (put i))
    go true = record { rest = p ∷ []; joined = refl }
    go false = record { rest = []; joined = append-nil (put i) }

pub without-last-packet : PartStaysWithoutLast
without-last-packet goes s rows put j p part = part-shipped-less goes s rows put (with_packet put j (Some p)) (begins-without put j p) part

pub begun-more : BegunStaysAsRowsCome
begun-more goes (send s) xs ys put some h = part-shipped-more goes s xs ys put some h
begun-more goes (keep kept) xs ys put some h = h

pub begun-without-last : BegunStaysWithoutLast
begun-without-last goes (send s) rows put j p h = without-last-packet goes s rows put j p h
begun-without-last goes (keep kept) rows put j p h = λ i. none-before (put i) (begins-without put j p i).rest ((begins-without put j p i).joined ∙ h i)

-- the same packets are cut short alike
cut-short-alike : (goes : Routing) (s : Ship) (rows : List Row) (put alike : ℕ → List PacketView) → ((j : ℕ) → alike j ≡ put j)
    → IsCutShort goes s rows put → IsCutShort goes s rows alike
cut-short-alike goes s rows put alike e h = record {
  sent = h.sent;
  sends = h.sends;
  ports = λ j l. let p = h.ports j l in record { parts = p.parts; begins = p.begins; closed = p.closed ∙ sym (e j) };
  nothing = λ j l. e j ∙ h.nothing j l;
}

pub fault-stops : FaultStops
fault-stops goes (send s) rows put closed e h = cut-short-alike goes s rows (closed_by s fault put) closed e (fault-cuts-short goes s rows put h)
fault-stops goes (keep kept) rows put closed e h = λ j. e j ∙ h j
