-- The producers from which a worker of a plan takes: the board connects them to it, and they have greater numbers.
use Rattle.std.proofs.Common.{ℕ, ◌≡◌, ◌<◌, ◌≤◌, ◌+◌, ◌-◌, ◌&&◌, ⊎_elim, true, Some, slice_get, refl, sym, ap, ◌∙◌, subst, arith, inl, inr}
use Rattle.std.proofs.lemmas.Bool.{cases_lt}
use Rattle.vx_plan_nodes.specs.Plan.{Plan, scan, unary, binary, exchange, size, size_eq}
use Rattle.vx_plan_nodes.specs.Streams.{workers}
use Rattle.vx_plan_nodes.specs.Numbering.{is_fit}
use Rattle.vx_plan_nodes.specs.Workers.{workers_below, crew_size}
use Rattle.vx_exchange_ends.specs.Tasks.{Post}
use Rattle.vx_exchange_ends.specs.Queued.{consumers_of}
use Rattle.vx_worker.specs.Fragment.{RunModel, fragment}
use Rattle.vx_worker.specs.Trees.{IsFormed, fragment-formed, TakesFrom}
use Rattle.vx_worker.specs.Worker.{Role}
use Rattle.vx_exec_laws.proofs.Bags.{and-left, and-right}
use Rattle.vx_exec_steps.specs.LinksView.{LinksView, station_at}
use Rattle.vx_exec_steps.specs.Roles.{IsRoot, RolesBelow, Wired}
use Rattle.vx_exec_steps.specs.declared.station.Station.TheVariants.{Exchange}
use Rattle.vx_exec_steps.proofs.FlatRuns.{le-left, le-right, lt-first}
use Rattle.vx_exec_steps.proofs.Origins.{same-size}

-- of so many workers, the producer at place k of exchange x sends to worker i, which has a lower number
pub record Feeds (v : LinksView) (roles : ℕ → Role) (total i x k : ℕ) : Type 0 where
  pub below : ℕ
  pub above : ℕ
  pub place : ℕ
  pub station : station_at v x ≡ Exchange below above
  pub sends : slice_get v.sends (below + k) ≡ Some x
  pub consumer : above + place ≡ i
  pub later : i < below + k
  pub within : below + k < total
  pub reaches : place < consumers_of (roles (below + k)).post

-- worker i has the operators of a fragment, and each producer from which its leaves take sends to it
pub record Works (v : LinksView) (roles : ℕ → Role) (total i : ℕ) : Type 0 where
  pub formed : IsFormed (roles i).frag
  pub fed : (x k : ℕ) → TakesFrom x k (roles i).frag → Feeds v roles total i x k

module _ (S : RunModel) (v : LinksView) (roles : ℕ → Role) (total : ℕ) where
  -- the worker at a place of a plan's top fragment
  fed-at : (p : Plan) (top next : ℕ) → is_fit S.relation_of p ≡ true → Wired S v p top next → RolesBelow S roles p next → next + workers_below S.sizes p ≤ total
      → (w : ℕ) → w < workers S.sizes (size p) → top + w < next → (x k : ℕ) → TakesFrom x k (fragment S w p) → Feeds v roles total (top + w) x k
  fed-at (scan n c r m z) top next fit wired rb le w lw low x k takes = absurd takes.1
  fed-at (unary n c op p) top next fit wired rb le w lw low x k takes = fed-at p top next fit wired rb le w lw low x k takes
  fed-at (binary n c op p q) top next fit wired rb le w lw low x k takes =
      let fits = and-right (size_eq (size p) (size q)) (is_fit S.relation_of p && is_fit S.relation_of q) fit in
      let same = same-size S.sizes (size p) (size q) (and-left (size_eq (size p) (size q)) (is_fit S.relation_of p && is_fit S.relation_of q) fit) in
      let P : ℕ → Type 0 = λ z. w < z in
      ⊎_elim
      (λ a. fed-at p top next (and-left (is_fit S.relation_of p) (is_fit S.relation_of q) fits) wired.0 rb.0
      (le-left next (workers_below S.sizes p) (workers_below S.sizes q) total le) w lw low x k a)
      (λ a. fed-at q top (next + workers_below S.sizes p) (and-right (is_fit S.relation_of p) (is_fit S.relation_of q) fits) wired.1 rb.1
      (le-right next (workers_below S.sizes p) (workers_below S.sizes q) total le) w (subst P same lw) (omega (arith, low)) x k a)
      takes
  fed-at (exchange n c kind merge p) top next fit wired rb le w lw low x k takes =
      let producer = rb.0 k takes.1 in
      record {
        below = next;
        above = top;
        place = w;
        station = ap (station_at v) (sym takes.0) ∙ wired.0;
        sends = wired.1 k takes.1 ∙ ap Some takes.0;
        consumer = refl;
        later = omega (arith, low);
        within = lt-first next (workers S.sizes (size p)) (workers_below S.sizes p) total k le takes.1;
        reaches = subst (λ (z : Post). w < consumers_of z) (sym producer.post) lw;
      }

  works-below : (p : Plan) (top next : ℕ) → is_fit S.relation_of p ≡ true → Wired S v p top next → RolesBelow S roles p next → next + workers_below S.sizes p ≤ total
      → (i : ℕ) → next ≤ i → i < next + workers_below S.sizes p → Works v roles total i
  works-below (scan n c r m z) top next fit wired rb le i lo hi = absurd (omega (arith, lo, hi))
  works-below (unary n c op p) top next fit wired rb le i lo hi = works-below p top next fit wired rb le i lo hi
  works-below (binary n c op p q) top next fit wired rb le i lo hi =
      let fits = and-right (size_eq (size p) (size q)) (is_fit S.relation_of p && is_fit S.relation_of q) fit in
      elim (cases_lt i (next + workers_below S.sizes p)) [
        | inl l ↦ works-below p top next (and-left (is_fit S.relation_of p) (is_fit S.relation_of q) fits) wired.0 rb.0
            (le-left next (workers_below S.sizes p) (workers_below S.sizes q) total le) i lo l
        | inr l ↦ works-below q top (next + workers_below S.sizes p) (and-right (is_fit S.relation_of p) (is_fit S.relation_of q) fits) wired.1 rb.1
            (le-right next (workers_below S.sizes p) (workers_below S.sizes q) total le) i l (omega (arith, hi))
      ]
  works-below (exchange n c kind merge p) top next fit wired rb le i lo hi =
      let rest = le-right next (workers S.sizes (size p)) (workers_below S.sizes p) total le in
      elim (cases_lt i (next + workers S.sizes (size p))) [
        | inl l ↦
            let w = i - next in
            let lw : w < workers S.sizes (size p) = omega (arith, lo, l) in
            let at : next + w ≡ i = omega (arith, lo) in
            let producer = rb.0 w lw in
            subst (Works v roles total) at
            (record {
              formed = subst IsFormed (sym producer.frag) (fragment-formed S w p);
              fed = λ x k takes. fed-at p next (next + workers S.sizes (size p)) fit wired.2 rb.1 rest w lw (omega (arith, lw)) x k (subst (TakesFrom x k) producer.frag takes);
            })
        | inr l ↦ works-below p next (next + workers S.sizes (size p)) fit wired.2 rb.1 rest i l (omega (arith, hi))
      ]

  -- each worker of a plan
  pub works : (p : Plan) → is_fit S.relation_of p ≡ true → 0 < workers S.sizes (size p) → Wired S v p 0 1 → IsRoot S p (roles 0) → RolesBelow S roles p 1 → crew_size S.sizes p ≤ total
      → (i : ℕ) → i < crew_size S.sizes p → Works v roles total i
  works p fit some wired root rb le i lt = elim (cases_lt 0 i) [
    | inl l ↦ works-below p 0 1 fit wired rb le i l lt
    | inr l ↦
        let at : 0 ≡ i = omega (arith, l) in
        subst (Works v roles total) at
        (record {
          formed = subst IsFormed (sym root.frag) (fragment-formed S 0 p);
          fed = λ x k takes. fed-at p 0 1 fit wired rb le 0 some (omega arith) x k (subst (TakesFrom x k) root.frag takes);
        })
  ]
