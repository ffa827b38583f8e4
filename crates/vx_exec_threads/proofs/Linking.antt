-- From what all threads hold to traces that are linked as the plan says.
use Rattle.std.proofs.Common.{ℕ, zero, suc, ◌≡◌, ◌<◌, ◌+◌, true, false, List, [], ◌∷◌, ◌++◌, length, Some, slice_get, sym, ap, ◌∙◌, refl, subst, arith, append_assoc}
use Rattle.vx_plan_nodes.specs.Plan.{Plan, scan, unary, binary, exchange, size}
use Rattle.vx_plan_nodes.specs.Streams.{workers, across}
use Rattle.vx_ports.specs.Packets.{PacketView, Flows}
use Rattle.vx_ports.specs.Flowing.{flow_is}
use Rattle.vx_morsel.specs.Draws.{Draws, times, Rises, seat_at}
use Rattle.vx_morsel.specs.Hands.{HandState}
use Rattle.vx_worker.specs.Fragment.{RunModel}
use Rattle.vx_worker.specs.Morsels.{Dispatched, morsel_count}
use Rattle.vx_worker.specs.Trace.{Trace}
use Rattle.vx_plan_nodes.specs.Workers.{workers_below}
use Rattle.vx_exec_laws.proofs.Hands.{hands-dispatched}
use Rattle.vx_exec_steps.specs.Roles.{IsLinked}
use Rattle.vx_exec_steps.proofs.FlatRuns.{dispatched}
use Rattle.vx_ports_rings.specs.Ends.{put_to, taken_from}
use Rattle.vx_ports_rings.specs.declared.ring.RingOut.{RingOut}
use Rattle.vx_exec_threads.specs.declared.inlet.Inlet.{Inlet}
use Rattle.vx_morsel_decks.specs.Seats.{SeatView, draws_in}
use Rattle.vx_exec_threads.specs.declared.drawer.Dealer.{Dealer}
use Rattle.vx_exec_threads.specs.declared.drawer.Dealer.TheVariants as dealer
use Rattle.vx_exec_threads.specs.Drawers.{DealsAs}
use Rattle.vx_exec_threads.specs.Holds.{Hold, OutAt, InAt, DrawAt}
use Rattle.vx_exec_threads.specs.Joined.{FlowsThrough, ClosedAt, Together, AllBear, JoinedIsLinked}

-- what flows with packets that no step took flows without them
pub flow-front : (put came left : List PacketView) → Flows put (came ++ left) → Flows put came
flow-front put came left f = flow_is put came (left ++ f.rest) (sym f.begins ∙ append_assoc came left f.rest) f.stream

across-same : (n : ℕ) (f g : ℕ → ℕ) → ((w : ℕ) → w < n → f w ≡ g w) → across n f ≡ across n g
across-same zero f g e = refl
across-same (suc n) f g e =
    let a = across-same n f g (λ w l. e w (omega (arith, l))) in
    let b = e n (omega arith) in
    omega (arith, a, b)

dispatched-same : (n m : ℕ) (f g : ℕ → Draws) → ((w : ℕ) → w < n → f w ≡ g w) → Dispatched n m f → Dispatched n m g
dispatched-same n m f g e d = record {
  t = d.t;
  rise = λ w l. subst (λ (z : Draws). Rises z.numbers) (e w l) (d.rise w l);
  each = λ x. sym (across-same n (λ w. times x (f w).numbers) (λ w. times x (g w).numbers) (λ w l. ap (λ (z : Draws). times x z.numbers) (e w l))) ∙ d.each x;
  most = d.most;
  ended = λ w l h. d.ended w l (ap (λ (z : Draws). z.met_end) (e w l) ∙ h);
}

draws-length : (ss : List SeatView) → length (draws_in ss) ≡ length ss
draws-length [] = refl
draws-length (s ∷ ss) = ap suc (draws-length ss)

seat-there : (ss : List SeatView) (w : ℕ) → w < length ss → (s : SeatView) × (slice_get ss w ≡ Some s) × (seat_at (draws_in ss) w ≡ s.drew)
seat-there [] w l = absurd (omega (arith, l))
seat-there (s ∷ ss) zero l = (s, refl, refl)
seat-there (s ∷ ss) (suc w) l = seat-there ss w (omega (arith, l))

module _ (S : RunModel) (ts : ℕ → Trace) (hs : List Hold) (bear : AllBear hs ts) where
  reported-at : (a n : ℕ) (d : Dealer) → DrawAt hs a n d → DealsAs d ((ts a).drew n)
  reported-at a n d s =
      let h = (bear a s.hold s.worker).draws s.k s.x s.place in
      subst (λ z. DealsAs d ((ts a).drew z)) s.scan (subst (λ z. DealsAs z ((ts a).drew s.x.scan)) s.dealer h)

  closed : (n top count m : ℕ) → ClosedAt hs n top count m → Dispatched count m (λ w. (ts (top + w)).drew n)
  closed n top count m h =
      let all = draws_in h.seats in
      let len : length all ≡ count = draws-length h.seats ∙ h.count_is in
      dispatched-same count m (seat_at all) (λ w. (ts (top + w)).drew n)
      (λ w l.
      let x = seat-there h.seats w (subst (λ z. w < z) (sym h.count_is) l) in
      x.2 ∙ sym (reported-at (top + w) n (dealer.Seat h.deck x.0) (h.held w x.0 x.1)))
      (subst (λ z. Dispatched z m (seat_at all)) len (hands-dispatched m h.t all h.dealt))

  whole : (n a m : ℕ) (h : HandState) → DrawAt hs a n (dealer.Hand h) → h.morsels ≡ m → Dispatched 1 m (λ w. (ts a).drew n)
  whole n a m h at e =
      let d = reported-at a n (dealer.Hand h) at in
      subst (λ z. Dispatched 1 z (λ w. (ts a).drew n)) e (dispatched 1 h.morsels h.next (λ w. (ts a).drew n) d.drew)

  flowed : (a j b n i : ℕ) (o : RingOut) (e : Inlet) → OutAt hs a j o → InAt hs b n i e → FlowsThrough o e → Flows ((ts a).sent j) ((ts b).came n i)
  flowed a j b n i o e out inn f =
      let put : put_to o ≡ (ts a).sent j = (bear a out.hold out.worker).outs j o out.place in
      let taken : taken_from e.ring ≡ (ts b).came e.exchange e.from ++ e.queue.items = (bear b inn.hold inn.worker).ins inn.k e inn.place in
      let whole : Flows ((ts a).sent j) ((ts b).came e.exchange e.from ++ e.queue.items) = subst (λ z. Flows z ((ts b).came e.exchange e.from ++ e.queue.items)) put (subst (λ z. Flows (put_to o) z) taken f) in
      let front = flow-front ((ts a).sent j) ((ts b).came e.exchange e.from) e.queue.items whole in
      subst (λ z. Flows ((ts a).sent j) ((ts b).came n z)) inn.from (subst (λ z. Flows ((ts a).sent j) ((ts b).came z e.from)) inn.exchange front)

  linked : (p : Plan) (top next : ℕ) → Together FlowsThrough S p top next hs → IsLinked S ts p top next
  linked (scan n c r true z) top next h = closed n top (workers S.sizes z) (morsel_count S.morsel (length (S.db r))) h
  linked (scan n c r false z) top next h = λ w l. let x = h w l in whole n (top + w) (morsel_count S.morsel (length (S.db r))) x.0 x.1 x.2
  linked (unary n c op p) top next h = linked p top next h
  linked (binary n c op p q) top next h = (linked p top next h.0, linked q top (next + workers_below S.sizes p) h.1)
  linked (exchange n c k merge p) top next h = (
    linked p next (next + workers S.sizes (size p)) h.1,
    λ i l. tt,
    λ i j l m. let x = h.0 i j l m in flowed (next + i) j (top + j) n i x.0 x.1 x.2 x.3 x.4,
  )

pub joined-is-linked : JoinedIsLinked
joined-is-linked S ts hs bear p top next h = linked S ts hs bear p top next h
