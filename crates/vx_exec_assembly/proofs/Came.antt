-- All workers came back, as the law of a run in threads wants it (our own).
use Rattle.std.proofs.Common.{ℕ, ◌≡◌, List, map, Vec, Global, Some, sym, ◌∙◌, subst, slice_get}
use Rattle.std.specs.List.{All, AllZip}
use Rattle.std.proofs.lemmas.List.Elements.{All-from_recursion, recursion_from_All}
use Rattle.vx_rows_values.specs.Values.{Val, Row}
use Rattle.vx_plan_nodes.specs.Plan.{Plan}
use Rattle.vx_plan_nodes.specs.Routes.{Routing}
use Rattle.vx_ports.specs.Packets.{PacketView}
use Rattle.vx_ports_rings.specs.declared.ring.RingOut.{RingOut}
use Rattle.vx_ops.specs.Ledger.{Stream, Ledger, Op}
use Rattle.vx_exchange_ends.specs.Tasks.{Task, Post}
use Rattle.vx_worker.specs.Fragment.{RunModel, goes}
use Rattle.vx_worker.specs.Trace.{Trace}
use Rattle.vx_worker.specs.Worker.{Role, WorkerStands}
use Rattle.vx_worker.specs.declared.worker.Worker.{Worker}
use Rattle.vx_exec_steps.specs.Agrees.{trace_at}
use Rattle.vx_exec_steps.specs.Roles.{role_at, IsRoot, RolesBelow}
use Rattle.vx_morsel_decks.specs.Seats.{DeckView}
use Rattle.vx_exec_threads.specs.declared.inlet.Inlet.{Inlet}
use Rattle.vx_exec_threads.specs.declared.drawer.Drawer.{Drawer}
use Rattle.vx_exec_threads.specs.declared.deck_place.DeckPlace.{DeckPlace}
use Rattle.vx_exec_threads.specs.Holds.{Hold, IsApart}
use Rattle.vx_exec_threads.specs.Joined.{AllBear, FlowsThrough, CameBack}
use Rattle.vx_exec_threads.specs.Paired.{IsRingOf, AllSame}
use Rattle.vx_exec_threads.proofs.Still.{paired-stays}
use Rattle.vx_exec_layout.specs.Layout.{spans_of}
use Rattle.vx_exec_spawn.specs.declared.member.Joined.{Joined}
use Rattle.vx_exec_assembly.specs.Plans.{AreApart}
use Rattle.vx_exec_assembly.specs.Spans.{IsSpanned}
use Rattle.vx_exec_assembly.specs.Closing.{AllSeatedIn, AllClosed, AreApartDraws}
use Rattle.vx_exec_assembly.specs.Parts.{worker_in, outs_in, ins_in, drawers_in, held_in}
use Rattle.vx_exec_assembly.specs.Assembly.{WasRun}
use Rattle.vx_exec_assembly.proofs.Lists.{apart-in, apart-draws}
use Rattle.vx_exec_assembly.proofs.Each.{map-length, held_before, same-count, same-roles, same-ends, traces-of}
use Rattle.vx_exec_assembly.proofs.Together.{pairs-in, seated-in, together}

module _ {O S : Type 0} (OS : O → Ledger → Type 0) (op : O → Op) (SS : S → Routing → Stream → (ℕ → List PacketView) → Type 0) (task : S → Task)
    (post : S → Post) (bounds : S → List Val) (hash : List ℕ → Row → ℕ → ℕ) (m : ℕ → ℕ → List Row) (W : RunModel) (p : Plan)
    (decks : List DeckView) (places : List DeckPlace) (js : List (Joined O S))
    (run : WasRun OS op SS task post bounds hash m W p decks places js) where
  same : AllSame (map held_before run.members) (map held_in js)
  same = same-ends OS op SS task post bounds hash m run.members js run.honest

  traces : (us : List Trace) × AllZip (WorkerStands OS op SS task (goes W) m) (map worker_in js) us × AllBear (map held_in js) (trace_at us)
  traces = traces-of OS op SS task post bounds hash m (goes W) run.members js run.honest run.stands run.routes run.wired.fresh

  each-apart : (a : ℕ) (h : Hold) → slice_get (map held_in js) a ≡ Some h → IsApart h
  each-apart a h e = (traces.2 a h e).apart

  module _ (sizes : ℕ → ℕ) (sized : W.sizes ≡ sizes) (os : List (Vec RingOut Global)) (is : List (Vec Inlet Global)) (ds : List (Vec Drawer Global))
      (outs : os ≡ map outs_in js) (ins : is ≡ map ins_in js) (draws : ds ≡ map drawers_in js) where
    -- what the reunion asks for
    pub paired : All (IsSpanned IsRingOf os is) (spans_of sizes p 0 1)
    paired =
        let here = All-from_recursion (IsSpanned IsRingOf (map outs_in js) (map ins_in js)) (spans_of W.sizes p 0 1)
        (pairs-in js W p 0 1 (paired-stays W (map held_before run.members) (map held_in js) same p 0 1 run.wired.paired)) in
        subst (λ (z : ℕ → ℕ). All (IsSpanned IsRingOf os is) (spans_of z p 0 1)) sized
        (subst (λ (z : List (Vec RingOut Global)). All (IsSpanned IsRingOf z is) (spans_of W.sizes p 0 1)) (sym outs)
        (subst (λ (z : List (Vec Inlet Global)). All (IsSpanned IsRingOf (map outs_in js) z) (spans_of W.sizes p 0 1)) (sym ins) here))

    pub inlets-apart : AreApart is
    inlets-apart = subst (λ (z : List (Vec Inlet Global)). AreApart z) (sym ins) (apart-in js each-apart)

    -- what closing the decks asks for
    pub seated : AllSeatedIn decks places ds
    seated =
        subst (λ (z : List (Vec Drawer Global)). AllSeatedIn decks places z) (sym draws)
        (seated-in js (map held_before run.members) same decks places run.wired.seated)

    pub draws-apart : AreApartDraws ds
    draws-apart = subst (λ (z : List (Vec Drawer Global)). AreApartDraws z) (sym draws) (apart-draws js each-apart)

    -- and what both give
    pub came-back : (ws : List (Worker O S)) → ws ≡ map worker_in js → All (IsSpanned FlowsThrough os is) (spans_of sizes p 0 1) → AllClosed decks places ds
        → CameBack OS op SS task post bounds hash m W p ws (map held_in js)
    came-back ws is_it flows closed =
        let roles = same-roles OS op SS task post bounds hash m run.members js run.honest in
        let through : All (IsSpanned FlowsThrough (map outs_in js) (map ins_in js)) (spans_of W.sizes p 0 1) =
        subst (λ (z : ℕ → ℕ). All (IsSpanned FlowsThrough (map outs_in js) (map ins_in js)) (spans_of z p 0 1)) (sym sized)
        (subst (λ (z : List (Vec RingOut Global)). All (IsSpanned FlowsThrough z (map ins_in js)) (spans_of sizes p 0 1)) outs
        (subst (λ (z : List (Vec Inlet Global)). All (IsSpanned FlowsThrough os z) (spans_of sizes p 0 1)) ins flows)) in
        let shut : AllClosed decks places (map drawers_in js) = subst (λ (z : List (Vec Drawer Global)). AllClosed decks places z) draws closed in
        let all : CameBack OS op SS task post bounds hash m W p (map worker_in js) (map held_in js) = record {
          traces = traces.0;
          stand = traces.1;
          bear = traces.2;
          morsels = run.morsels;
          count = map-length worker_in js ∙ same-count OS op SS task post bounds hash m run.members js run.honest ∙ run.count;
          root = subst (λ (z : List Role). IsRoot W p (role_at z 0)) roles run.root;
          below = subst (λ (z : List Role). RolesBelow W (role_at z) p 1) roles run.below;
          together = together js (map held_before run.members) same decks places W p 0 1 shut
              (recursion_from_All (IsSpanned FlowsThrough (map outs_in js) (map ins_in js)) (spans_of W.sizes p 0 1) through) run.wired.dealing;
        } in
        subst (λ (z : List (Worker O S)). CameBack OS op SS task post bounds hash m W p z (map held_in js)) (sym is_it) all
