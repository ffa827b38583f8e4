-- A failure that was passed on began with a worker that failed by itself.
use Rattle.std.proofs.Common.{ℕ, ◌≡◌, ◌<◌, ◌≤◌, ◌+◌, ◌-◌, ◌⊎◌, ⊎_elim, List, [], ◌∷◌, ◌++◌, map, Bool, true, false, ◌||◌, ◌&&◌, refl, sym, ap, ◌∙◌, subst, arith, inl, inr, true≢false, eqb-true}
use Rattle.std.proofs.lemmas.Bool.{cases_lt}
use Rattle.vx_rows_values.specs.Values.{Row}
use Rattle.vx_rows.specs.Lists.{IsBeginning}
use Rattle.vx_plan_nodes.specs.Plan.{Plan, scan, unary, binary, exchange, Unary, Binary, size, size_eq, Size, one_worker, group_of}
use Rattle.vx_plan_nodes.specs.Streams.{workers}
use Rattle.vx_plan_nodes.specs.Numbering.{is_fit}
use Rattle.vx_ports.specs.Packets.{last, PacketView, is_fault, has_fault, Flows}
use Rattle.vx_ops.specs.Ledger.{Stream, Ledger, one_op, two_op, Abides}
use Rattle.vx_ops.specs.declared.fault.Fault.{Fault}
use Rattle.vx_ops.specs.declared.fault.Fault.TheVariants.{Own, Passed}
use Rattle.vx_ops.specs.declared.fault.StreamState.TheVariants.{Failed}
use Rattle.vx_exchange_ends.specs.Ship.{Ship, packet_at, packet_of}
use Rattle.vx_exchange_ends.specs.Tasks.{Task, send, sends_by_ship}
use Rattle.vx_worker.specs.Fragment.{RunModel, Frag, Reads, fragment, FragAbides}
use Rattle.vx_worker.specs.Trace.{Trace, ReadsBegin, Fate, well, failed, Honest}
use Rattle.vx_worker.specs.Worker.{Role}
use Rattle.vx_exec_laws.specs.RunOf.{ship_of}
use Rattle.vx_plan_nodes.specs.Workers.{workers_below, crew_size}
use Rattle.vx_exec_laws.proofs.Bags.{and-left, and-right}
use Rattle.vx_exec_steps.specs.Roles.{IsRoot, RolesBelow, IsLinked, AllEnded}
use Rattle.vx_exec_steps.specs.Verdicts.{IsOwn}
use Rattle.vx_exec_steps.proofs.FlatRuns.{ship-honest, le-left, le-right, lt-first}

-- one of so many workers failed by itself
pub record FailsItself (fates : ℕ → Fate) (total : ℕ) : Type 0 where
  pub number : ℕ
  pub within : number < total
  pub fault : Fault
  pub own : IsOwn fault
  pub here : fates number ≡ failed fault

fault-stays : (xs ys : List PacketView) → has_fault xs ≡ true → has_fault (xs ++ ys) ≡ true
fault-stays [] ys e = absurd (true≢false (sym e))
fault-stays (x ∷ xs) ys e = go (is_fault x.content) (has_fault xs) (has_fault (xs ++ ys)) (fault-stays xs ys) e
  where
    go : (a b c : Bool) → (b ≡ true → c ≡ true) → (a || b) ≡ true → (a || c) ≡ true
    go true b c f e = refl
    go false b c f e = f e

-- a worker that is well puts no Fault
no-fault : (s : Ship) (j : ℕ) (parts : List (List Row)) → has_fault (map (packet_at s j) parts ++ packet_of s j last ∷ []) ≡ false
no-fault s j [] = refl
no-fault s j (p ∷ ps) = no-fault s j ps

pub same-size : (sizes : ℕ → ℕ) (a b : Size) → size_eq a b ≡ true → workers sizes a ≡ workers sizes b
same-size sizes one_worker one_worker e = refl
same-size sizes one_worker (group_of k) e = absurd (true≢false (sym e))
same-size sizes (group_of j) one_worker e = absurd (true≢false (sym e))
same-size sizes (group_of j) (group_of k) e = ap sizes (eqb-true j k e)

-- at a source that is no consumer end, a failure that was passed on came from an input
one-passed : (n : ℕ) (u : Unary) (l : Ledger) → Abides (one_op n u) l → l.gave.over ≡ Failed Passed → l.left.over ≡ Failed Passed
one-passed n u l t e = ⊎_elim (λ a. a) (λ b. absurd b) (t.blame Passed e)

two-passed : (n : ℕ) (b : Binary) (l : Ledger) → Abides (two_op n b) l → l.gave.over ≡ Failed Passed → (l.left.over ≡ Failed Passed) ⊎ (l.right.over ≡ Failed Passed)
two-passed n b l t e = ⊎_elim (λ a. a) (λ c. absurd c) (t.blame Passed e)

-- a Fault that was read was put
fault-put : (n i : ℕ) (reads : Reads) (t : Trace) (put : List PacketView) → IsBeginning (reads.came n i) (t.came n i) → Flows put (t.came n i) → has_fault (reads.came n i) ≡ true → has_fault put ≡ true
fault-put n i reads t put b f h =
    let came : has_fault (t.came n i) ≡ true = subst (λ z. has_fault z ≡ true) b.joined (fault-stays (reads.came n i) b.rest h) in
    subst (λ z. has_fault z ≡ true) f.begins (fault-stays (t.came n i) f.rest came)

module _ (S : RunModel) (ts : ℕ → Trace) (roles : ℕ → Role) (tasks : ℕ → Task) (fates : ℕ → Fate) (total : ℕ) (all : AllEnded S roles tasks fates ts total) where
  -- below the top fragment of a plan, of which a worker learned of a failure
  pub origin : (p : Plan) (top next : ℕ) → is_fit S.relation_of p ≡ true → IsLinked S ts p top next → RolesBelow S roles p next → next + workers_below S.sizes p ≤ total
      → (w : ℕ) → w < workers S.sizes (size p) → (reads : Reads) (out : Stream) → ReadsBegin S (ts (top + w)) reads → FragAbides (fragment S w p) reads out → out.over ≡ Failed Passed
      → FailsItself fates total
  origin (scan n c r m z) top next fit links rb le w lw reads out begins abides e =
      let l = abides.0 in
      let gave : l.gave.over ≡ Failed Passed = ap (λ (z : Stream). z.over) abides.3 ∙ e in
      let scanned = begins.scanned n in
      ⊎_elim (λ a. absurd (scanned.never_fails Passed (sym (ap (λ (z : Stream). z.over) abides.1.scanned) ∙ a))) (λ b. absurd b) (abides.2.blame Passed gave)
  origin (unary n c op p) top next fit links rb le w lw reads out begins abides e =
      let l = abides.0 in
      let gave : l.gave.over ≡ Failed Passed = ap (λ (z : Stream). z.over) abides.3 ∙ e in
      origin p top next fit links rb le w lw reads l.left begins abides.1 (one-passed n op l abides.2 gave)
  origin (binary n c op p q) top next fit links rb le w lw reads out begins abides e =
      let l = abides.0 in
      let gave : l.gave.over ≡ Failed Passed = ap (λ (z : Stream). z.over) abides.4 ∙ e in
      let fits = and-right (size_eq (size p) (size q)) (is_fit S.relation_of p && is_fit S.relation_of q) fit in
      let same = same-size S.sizes (size p) (size q) (and-left (size_eq (size p) (size q)) (is_fit S.relation_of p && is_fit S.relation_of q) fit) in
      let P : ℕ → Type 0 = λ k. w < k in
      ⊎_elim
      (λ a. origin p top next (and-left (is_fit S.relation_of p) (is_fit S.relation_of q) fits) links.0 rb.0
      (le-left next (workers_below S.sizes p) (workers_below S.sizes q) total le) w lw reads l.left begins abides.1 a)
      (λ a. origin q top (next + workers_below S.sizes p) (and-right (is_fit S.relation_of p) (is_fit S.relation_of q) fits) links.1 rb.1
      (le-right next (workers_below S.sizes p) (workers_below S.sizes q) total le) w (subst P same lw) reads l.right begins abides.2 a)
      (two-passed n op l abides.3 gave)
  origin (exchange n c k merge p) top next fit links rb le w lw reads out begins abides e =
      let l = abides.0 in
      let gave : l.gave.over ≡ Failed Passed = ap (λ (z : Stream). z.over) abides.3 ∙ e in
      ⊎_elim (λ a. absurd a)
      (λ b.
      let i = b.0 in
      let li = b.1 in
      let read : has_fault (reads.came n i) ≡ true = subst (λ (z : ℕ → List PacketView). has_fault (z i) ≡ true) abides.1.came b.2 in
      let put = fault-put n i reads (ts (top + w)) ((ts (next + i)).sent w) (begins.came n i) (links.2 i w li lw) read in
      let la = lt-first next (workers S.sizes (size p)) (workers_below S.sizes p) total i le li in
      let role = rb.0 i li in
      from (next + i) la (fragment S i p) (ship_of S n i k p) w lw put (fates (next + i)) refl
      (ship-honest S (roles (next + i)) (tasks (next + i)) (fates (next + i)) (ts (next + i)) (all (next + i) la) (fragment S i p) (ship_of S n i k p) role.frag role.post)
      (λ reads out. origin p next (next + workers S.sizes (size p)) fit links.0 rb.1 (le-right next (workers S.sizes (size p)) (workers_below S.sizes p) total le) i li reads out))
      (abides.2.blame Passed gave)
    where
      from : (a : ℕ) → a < total → (f : Frag) (s : Ship) (j : ℕ) → j < s.consumers → has_fault ((ts a).sent j) ≡ true
          → (fate : Fate) → fates a ≡ fate → Honest S f (send s) fate (ts a)
          → ((reads : Reads) (out : Stream) → ReadsBegin S (ts a) reads → FragAbides f reads out → out.over ≡ Failed Passed → FailsItself fates total)
          → FailsItself fates total
      from a la f s j lj put well is h below =
          let port = h.finished.ports j lj in
          absurd (true≢false (sym put ∙ ap has_fault (sym port.closed) ∙ no-fault s j port.parts))
      from a la f s j lj put (failed (Own code node)) is h below = record { number = a; within = la; fault = Own code node; own = tt; here = is }
      from a la f s j lj put (failed Passed) is h below = below h.reads h.out h.reads_begin h.abides (⊎_elim (λ x. x) (λ x. absurd x) h.why)

  -- the fate of a worker that sends
  sent-on : (a : ℕ) → a < total → (f : Frag) (s : Ship) → (roles a).frag ≡ f → (roles a).post ≡ sends_by_ship s → fates a ≡ failed Passed
      → ((reads : Reads) (out : Stream) → ReadsBegin S (ts a) reads → FragAbides f reads out → out.over ≡ Failed Passed → FailsItself fates total) → FailsItself fates total
  sent-on a la f s ef ep is below =
      let h : Honest S f (send s) (failed Passed) (ts a) = subst (λ z. Honest S f (send s) z (ts a)) is (ship-honest S (roles a) (tasks a) (fates a) (ts a) (all a la) f s ef ep) in
      below h.reads h.out h.reads_begin h.abides (⊎_elim (λ x. x) (λ x. absurd x) h.why)

  -- the same for any worker below the top fragment that learned of a failure
  began-below : (p : Plan) (top next : ℕ) → is_fit S.relation_of p ≡ true → IsLinked S ts p top next → RolesBelow S roles p next → next + workers_below S.sizes p ≤ total
      → (a : ℕ) → next ≤ a → a < next + workers_below S.sizes p → fates a ≡ failed Passed → FailsItself fates total
  began-below (scan n c r m z) top next fit links rb le a lo hi e = absurd (omega (arith, lo, hi))
  began-below (unary n c op p) top next fit links rb le a lo hi e = began-below p top next fit links rb le a lo hi e
  began-below (binary n c op p q) top next fit links rb le a lo hi e =
      let fits = and-right (size_eq (size p) (size q)) (is_fit S.relation_of p && is_fit S.relation_of q) fit in
      elim (cases_lt a (next + workers_below S.sizes p)) [
        | inl l ↦ began-below p top next (and-left (is_fit S.relation_of p) (is_fit S.relation_of q) fits) links.0 rb.0
            (le-left next (workers_below S.sizes p) (workers_below S.sizes q) total le) a lo l e
        | inr l ↦ began-below q top (next + workers_below S.sizes p) (and-right (is_fit S.relation_of p) (is_fit S.relation_of q) fits) links.1 rb.1
            (le-right next (workers_below S.sizes p) (workers_below S.sizes q) total le) a l (omega (arith, hi)) e
      ]
  began-below (exchange n c k merge p) top next fit links rb le a lo hi e =
      let rest = le-right next (workers S.sizes (size p)) (workers_below S.sizes p) total le in
      elim (cases_lt a (next + workers S.sizes (size p))) [
        | inl l ↦
            let i = a - next in
            let li : i < workers S.sizes (size p) = omega (arith, lo, l) in
            let at : a ≡ next + i = omega (arith, lo) in
            let role = rb.0 i li in
            sent-on (next + i) (lt-first next (workers S.sizes (size p)) (workers_below S.sizes p) total i le li) (fragment S i p) (ship_of S n i k p) role.frag role.post (ap fates (sym at) ∙ e)
            (λ reads out. origin p next (next + workers S.sizes (size p)) fit links.0 rb.1 rest i li reads out)
        | inr l ↦ began-below p next (next + workers S.sizes (size p)) fit links.0 rb.1 rest a l (omega (arith, hi)) e
      ]

-- where all workers of a plan ended, and one learned of a failure, one failed by itself
pub began : (S : RunModel) (p : Plan) (ts : ℕ → Trace) (roles : ℕ → Role) (tasks : ℕ → Task) (fates : ℕ → Fate) → is_fit S.relation_of p ≡ true → 0 < workers S.sizes (size p)
    → IsLinked S ts p 0 1 → IsRoot S p (roles 0) → RolesBelow S roles p 1 → AllEnded S roles tasks fates ts (crew_size S.sizes p)
    → (a : ℕ) → a < crew_size S.sizes p → fates a ≡ failed Passed → FailsItself fates (crew_size S.sizes p)
began S p ts roles tasks fates fit some links root below all a la e =
    let le : 1 + workers_below S.sizes p ≤ crew_size S.sizes p = omega arith in
    elim (cases_lt 0 a) [
      | inl z ↦ began-below S ts roles tasks fates (crew_size S.sizes p) all p 0 1 fit links below le a z la e
      | inr z ↦
          let a0 : 0 ≡ a = omega (arith, z) in
          let one = all 0 (omega arith) in
          let h : Honest S (fragment S 0 p) (tasks 0) (failed Passed) (ts 0) =
          subst (λ z. Honest S z (tasks 0) (failed Passed) (ts 0)) root.frag (subst (λ z. Honest S (roles 0).frag (tasks 0) z (ts 0)) (ap fates a0 ∙ e) one.honest)
          in
          origin S ts roles tasks fates (crew_size S.sizes p) all p 0 1 fit links below le 0 some h.reads h.out h.reads_begin h.abides (⊎_elim (λ x. x) (λ x. absurd x) h.why)
    ]
