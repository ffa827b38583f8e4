-- The ends that came back are those of the same rings.
use Rattle.std.proofs.Common.{ℕ, ◌+◌, List, sym, ◌∙◌}
use Rattle.vx_plan_nodes.specs.Plan.{Plan, scan, unary, binary, exchange, size}
use Rattle.vx_plan_nodes.specs.Streams.{workers}
use Rattle.vx_worker.specs.Fragment.{RunModel}
use Rattle.vx_plan_nodes.specs.Workers.{workers_below}
use Rattle.vx_exec_threads.specs.Holds.{Hold}
use Rattle.vx_exec_threads.specs.Joined.{PairAt}
use Rattle.vx_exec_threads.specs.Paired.{IsRingOf, Paired, AllSame, PairedStays}

module _ (S : RunModel) (gs hs : List Hold) (same : AllSame gs hs) where
  pair-stays : (a j b n i : ℕ) → PairAt IsRingOf gs a j b n i → PairAt IsRingOf hs a j b n i
  pair-stays a j b n i x =
      let out = x.2 in
      let inn = x.3 in
      let u = same a out.hold out.worker in
      let v = same b inn.hold inn.worker in
      let o = u.2.outs j x.0 out.place in
      let e = v.2.ins inn.k x.1 inn.place in
      let f = o.2.0 in
      let g = e.2.ring.0 in
      let r = x.4 in (
        o.0,
        e.0,
        record { hold = u.0; worker = u.1; place = o.1 },
        record { hold = v.0; worker = v.1; k = inn.k; place = e.1; exchange = e.2.exchange ∙ inn.exchange; from = e.2.from ∙ inn.from },
        (g.0 ∙ r.0 ∙ sym f.0, g.1 ∙ r.1 ∙ sym f.1, g.2 ∙ r.2 ∙ sym f.2, g.3 ∙ r.3 ∙ sym f.3),
      )

  stays : (p : Plan) (top next : ℕ) → Paired S p top next gs → Paired S p top next hs
  stays (scan n c r m z) top next h = tt
  stays (unary n c op p) top next h = stays p top next h
  stays (binary n c op p q) top next h = (stays p top next h.0, stays q top (next + workers_below S.sizes p) h.1)
  stays (exchange n c k merge p) top next h = (
    λ i j l m. pair-stays (next + i) j (top + j) n i (h.0 i j l m),
    stays p next (next + workers S.sizes (size p)) h.1,
  )

pub paired-stays : PairedStays
paired-stays S gs hs same p top next h = stays S gs hs same p top next h
