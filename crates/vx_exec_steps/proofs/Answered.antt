-- From what a run comes to, to what its verdict is worth.
use Rattle.std.proofs.Common.{ℕ, ◌≡◌, ◌<◌, Bool, true, List, sym, subst, arith}
use Rattle.vx_rows_values.specs.Values.{Val, Row}
use Rattle.vx_plan_nodes.specs.Plan.{Plan, size, is_one}
use Rattle.vx_plan_nodes.specs.Streams.{workers}
use Rattle.vx_plan_nodes.specs.Routes.{Routing}
use Rattle.vx_ports.specs.Packets.{PacketView}
use Rattle.vx_ops.specs.Ledger.{Stream, Ledger, Op}
use Rattle.vx_ops.specs.declared.fault.Fault.{Fault}
use Rattle.vx_exchange_ends.specs.Tasks.{Task, Post, IsAt}
use Rattle.vx_worker.specs.Fragment.{RunModel}
use Rattle.vx_worker.specs.declared.worker.Worker.{Worker}
use Rattle.vx_exec_laws.specs.Faults.{SomeFails}
use Rattle.vx_exec_laws.proofs.Parts.{one-worker}
use Rattle.vx_exec_laws.proofs.EitherTable.{root-is-one, numbered-run-delivers, numbered-faults-are-real}
use Rattle.vx_exec_steps.specs.LinksView.{LinksView}
use Rattle.vx_exec_steps.specs.Endings.{ReportsFirst}
use Rattle.vx_exec_steps.specs.Ready.{Ready, Settled}
use Rattle.vx_exec_steps.specs.Runs.{Advances}
use Rattle.vx_exec_steps.specs.Verdicts.{Judged}
use Rattle.vx_exec_steps.specs.Headline.{IsAccepted, Answers}
use Rattle.vx_exec_steps.specs.declared.verdict.RunState.{RunState}
use Rattle.vx_exec_steps.specs.declared.verdict.RunState.TheVariants as run_state
use Rattle.vx_exec_steps.proofs.Settling.{settled, abides}

-- an accepted plan has a worker at its top
pub some-workers : (W : RunModel) (is_total : Bool) (p : Plan) → IsAccepted W is_total p → 0 < workers W.sizes (size p)
some-workers W is_total p ok =
    let one : is_one (size p) ≡ true = root-is-one ok.derives W.catalog is_total p ok.root in
    let P : ℕ → Type 0 = λ n. 0 < n in
    subst P (sym (one-worker W.sizes (size p) one)) (omega arith)

pub answered : {O S : Type 0} (task : S → Task) (W : RunModel) (is_total : Bool) (p : Plan) (ws : List (Worker O S)) (v : RunState)
    → IsAccepted W is_total p → Settled task W p ws v → Answers task W is_total p ws v
answered task W is_total p ws run_state.Done ok h = λ d rows e.
    numbered-run-delivers W ok.set ok.derives is_total p ok.fit ok.formed ok.inputs ok.closed ok.allows ok.root h.0 rows (h.1 d rows e)
answered task W is_total p ws run_state.Unfinished ok h = tt
answered task W is_total p ws (run_state.Failed f) ok h =
    let one : is_one (size p) ≡ true = root-is-one ok.derives W.catalog is_total p ok.root in
    let real = numbered-faults-are-real in
    record {
      own = h.2 ok.fit (some-workers W is_total p ok);
      overflow = λ node e. real.overflow W ok.set ok.derives p ok.fit ok.formed ok.inputs ok.allows one h.0 node (let Q : Fault → Type 0 = λ x. SomeFails W p h.0 x in subst Q e h.1);
      order = λ o. real.order W ok.set ok.derives p ok.fit ok.formed ok.inputs ok.allows one h.0 f o h.1;
    }

module _ {O S : Type 0} (OS : O → Ledger → Type 0) (op : O → Op) (SS : S → Routing → Stream → (ℕ → List PacketView) → Type 0) (task : S → Task) (post : S → Post) (bounds : S → List Val)
    (hash : List ℕ → Row → ℕ → ℕ) (m : ℕ → ℕ → List Row) where
  -- what the verdict says on workers that made steps: whatever they began with, where they were ready, and where the plan is accepted too
  pub record IsWorth (ws vs : List (Worker O S)) (w : LinksView) (x : RunState) : Type 0 where
    pub judged : Judged vs x
    pub settled : (W : RunModel) (p : Plan) → Ready OS op SS task post bounds hash m W p ws w → Settled task W p vs x
    pub answers : (W : RunModel) (is_total : Bool) (p : Plan) → IsAccepted W is_total p → Ready OS op SS task post bounds hash m W p ws w → Answers task W is_total p vs x
    pub first : (W : RunModel) (is_total : Bool) (p : Plan) → IsAccepted W is_total p → Ready OS op SS task post bounds hash m W p ws w → ReportsFirst W p x

  pub is-worth : (ws vs : List (Worker O S)) (w v : LinksView) → ((s : S) → IsAt (post s) (task s)) → Advances OS op SS task post bounds hash m ws w vs v
      → (x : RunState) → Judged vs x → IsWorth ws vs w x
  is-worth ws vs w v at steps x judged =
      let settles = λ (W : RunModel) (p : Plan) (ready : Ready OS op SS task post bounds hash m W p ws w). settled OS op SS task post bounds hash m W p ws vs w v at steps x judged ready in
      record {
        judged = judged;
        settled = settles;
        answers = λ W is_total p ok ready. answered task W is_total p vs x ok (settles W p ready);
        first = λ W is_total p ok ready. abides OS op SS task post bounds hash m W p ws vs w v at steps ok.fit (some-workers W is_total p ok) x judged ready;
      }
