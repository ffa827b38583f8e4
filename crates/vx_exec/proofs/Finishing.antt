-- Workers that were ready for the accepted plan of a job, and what they come to.
use Rattle.std.proofs.Common.{Vec, Global, Bool, ◌≡◌, ℕ, ◌<◌, ◌≤◌, true, List, [], ◌∷◌, length, vec_len, map, Ok, Err, Result, get_or, refl, sym, ap, ◌∙◌, subst, arith, zero, suc, inl, inr}
use Rattle.std.proofs.lemmas.Bool.{cases_lt}
use Rattle.std.specs.List.{All, slice_index_or}
use Rattle.vx_rows_values.specs.Values.{Row}
use Rattle.vx_rows_values.specs.declared.value.ColType.{ColType}
use Rattle.vx_catalog.specs.Database.{Database, rows_at, MeetsAll}
use Rattle.vx_catalog_relations.specs.Catalog.{relation_at}
use Rattle.vx_catalog_relations.specs.Relation.{Relation, Meets}
use Rattle.vx_plan_nodes.specs.Outline.{plan_in}
use Rattle.vx_plan_nodes.specs.Plan.{Plan}
use Rattle.vx_plan_nodes.specs.Names.{TypedPlanView}
use Rattle.vx_plan_nodes.specs.TypedView.{scope, plan, resolved_of}
use Rattle.vx_plan_nodes.specs.Under.{Functions, typed_plan_under}
use Rattle.vx_plan_nodes.proofs.UnderFacts.{nodes-stay, phases-stay, types-stay}
use Rattle.vx_plan_nodes.specs.Types.{types_of}
use Rattle.vx_plan_facts.proofs.RowFacts.{typed-inputs-fit}
use Rattle.vx_plan_facts.proofs.UnderFacts.{facts-stay}
use Rattle.vx_check_rules.specs.Checked.{relations, is_allowed, is_root_allowed}
use Rattle.vx_check_rules.proofs.UnaskedFacts.{functions-are-not-asked}
use Rattle.vx_ops.specs.declared.fault.Code.TheVariants.{Overflow, NoMemory, Unsorted, Stranger}
use Rattle.vx_ops.specs.declared.fault.Fault.{Fault}
use Rattle.vx_ops.specs.declared.fault.Fault.TheVariants.{Own, Passed}
use Rattle.vx_exchange_ends.specs.Tasks.{keeps, post_types}
use Rattle.vx_worker.specs.Fragment.{RunModel, goes}
use Rattle.vx_exec_operators.specs.Operator.{OperatorStands, operator_op, operator_types, operator_most, operator_idle}
use Rattle.vx_exec_operators.specs.Destination.{DestinationStands, task_of, post_of, bounds_of, is_open, has_closed, held_in, unclosed_in}
use Rattle.vx_worker.specs.Trace.{scan_morsels}
use Rattle.vx_worker.specs.Worker.{role_of, sender_of, IsReady}
use Rattle.vx_exec_operators.specs.declared.operator.Operator.{Operator}
use Rattle.vx_exec_operators.specs.declared.destination.Destination.{Destination}
use Rattle.vx_worker.specs.declared.worker.Worker.{Worker}
use Rattle.vx_plan_nodes.specs.Numbering.{relation_in}
use Rattle.vx_plan_nodes.specs.Real.{IsReal}
use Rattle.vx_plan_nodes.specs.Runs.{Runs}
use Rattle.vx_check_rules.specs.Claims.{Delivers}
use Rattle.vx_exec_laws.proofs.Layouts.{numbered-is-fit}
use Rattle.vx_exec_laws.proofs.TypedPlans.{typed-is-well-formed}
use Rattle.vx_exec_steps.specs.Crews.{Duty, duty_of, root_duty, duties_below}
use Rattle.vx_exec_steps.specs.LinksView.{LinksView}
use Rattle.vx_plan_nodes.specs.Workers.{crew_size, IsWithin, worker_group_at}
use Rattle.vx_plan_nodes.specs.declared.functions.PlanFunctions.{Ghosts}
use Rattle.vx_exec_steps.specs.Endings.{ReportsFirst}
use Rattle.vx_exec_steps.specs.Ready.{Ready, IsRested}
use Rattle.vx_exec_steps.specs.Headline.{IsAccepted, IsTrueFault, Answers}
use Rattle.vx_exec_steps.specs.declared.verdict.RunState.{RunState}
use Rattle.vx_exec_steps.specs.declared.verdict.RunState.TheVariants as run_state
use Rattle.vx_exec_steps.proofs.Build.{crew-count}
use Rattle.vx_exec_steps.proofs.RunSteps.{map-length}
use Rattle.vx_exec.specs.Crew.{IsNew}
use Rattle.vx_exec.specs.Job.{job_plan, model_of, sizes_of, types_at}
use Rattle.vx_exec_runs.specs.Promise.{Reports}
use Rattle.vx_exec.specs.Promise.{PromiseOnceSet}
use Rattle.vx_exec.specs.Runs.{ComesTo, fault_reported}
use Rattle.vx_exec_runs.specs.Runs.{IsTrueOf}
use Rattle.vx_exec.specs.Links.{board_of}
use Rattle.vx_exec_setup.specs.declared.fault.RunFault.{RunFault}
use Rattle.vx_exec.proofs.FunctionFacts.{plan-under}
use Rattle.vx_exec.specs.declared.crew.Crew.{Crew}
use Rattle.vx_exec.specs.declared.job.Job.{Job}
use Rattle.vx_exec_runs.specs.declared.outcome.RunOutcome.{RunOutcome}
use Rattle.vx_exec_runs.specs.declared.outcome.RunOutcome.TheVariants as run_outcome

some-group : (worker_groups : List ℕ) → All (IsWithin 1 64) worker_groups → (k : ℕ) → 0 < worker_group_at worker_groups k
some-group worker_groups h k = elim (cases_lt k (length worker_groups)) [
  | inl l ↦ let w = (h k 1 l).0 in omega (arith, w)
  | inr l ↦ let e = past worker_groups k l in omega (arith, e)
]
  where
    past : (xs : List ℕ) (k : ℕ) → length xs ≤ k → worker_group_at xs k ≡ 1
    past [] k l = refl
    past (x ∷ xs) zero l = absurd (omega (arith, l))
    past (x ∷ xs) (suc k) l = past xs k (omega (arith, l))

-- the first of these workers keeps rows of these types
pub record KeepsFirst {F : Type 0} {given : Ghosts F} (ws : List (Worker (Operator F given) Destination)) (types : List ColType) : Type 0 where
  pub some : 0 < length ws
  pub first : Worker (Operator F given) Destination
  pub is_first : (d : Worker (Operator F given) Destination) → slice_index_or ws 0 d ≡ first
  pub keeps_types : post_of (sender_of first) ≡ keeps types

first-keeps : {F : Type 0} (given : Ghosts F) (S : RunModel) (p : Plan) (ws : List (Worker (Operator F given) Destination)) (ds : List Duty)
    → map duty_of (map (role_of (operator_op given) post_of bounds_of) ws) ≡ root_duty S p ∷ ds → KeepsFirst ws (types_of S.catalog p)
first-keeps given S p [] ds e = let k = ap (λ (l : List Duty). length l) e in absurd (omega (arith, k))
first-keeps given S p (w ∷ ws) ds e = record {
  some = omega arith;
  first = w;
  is_first = λ d. refl;
  keeps_types = ap (λ (l : List Duty). (get_or l 0 (root_duty S p)).post) e;
}

keeps-same : (ts us : List ColType) → keeps ts ≡ keeps us → ts ≡ us
keeps-same ts us e = ap post_types e

-- the fault of an accepted plan's run is reported as it is
true-reported : (W : RunModel) (p : TypedPlanView) (db : Database) (f : Fault) → W.db ≡ rows_at db → IsTrueFault W (plan_in p.root) f → IsTrueOf p db (fault_reported f)
true-reported W p db (Own Overflow n) e h = let Q : (ℕ → List Row) → Type 0 = λ z. IsReal z (plan_in p.root) in subst Q e (h.overflow n refl)
true-reported W p db (Own NoMemory n) e h = tt
true-reported W p db (Own Unsorted n) e h = absurd (h.order tt)
true-reported W p db (Own Stranger n) e h = absurd (h.order tt)
true-reported W p db Passed e h = absurd h.own

module _ {F : Type 0} (given : Ghosts F) (j : Job F) (hash : List ℕ → Row → ℕ → ℕ) where
  -- the plan of a job is accepted, in the setting of its run
  abbrev pub IsJobAccepted : Type 0
  IsJobAccepted = IsAccepted (model_of hash j) (resolved_of j.plan.now).total (job_plan given j)

  pub job-accepted : ((name : List ℕ) (key : Row) (n : ℕ) → 0 < n → hash name key n < n) → MeetsAll j.database.now
      → is_allowed j.plan.now ≡ true → is_root_allowed j.plan.now ≡ true → IsJobAccepted
  job-accepted in_range meets allowed root =
      let P : List Relation → Type 0 = λ z. (r : ℕ) → Meets (relation_at z r) (rows_at j.database.now r) in
      let packet = j.within.packet.0 in
      let morsel = j.within.morsel.0 in
      let p : Plan = plan j.plan.now in
      let functions : Functions = given.functions j.functions in
      let catalog : ℕ → Relation = relations j.plan.now in
      let derives : Bool = (resolved_of j.plan.now).derives in
      record {
        set = record {
          meets = subst P j.same_catalog meets;
          some_workers = some-group j.layout.worker_groups.items j.within.worker_groups;
          in_range = in_range;
          some_packet = omega (arith, packet);
          some_morsel = omega (arith, morsel);
        };
        fit = nodes-stay.fit functions (relation_in p) p ∙ numbered-is-fit derives catalog p j.plan.now.numbered allowed;
        formed = types-stay.formed functions catalog p ∙ (typed-is-well-formed (scope j.plan.now) p j.plan.now.typed_nodes).0;
        inputs = facts-stay.inputs functions catalog p ∙ typed-inputs-fit (scope j.plan.now) p j.plan.now.typed_nodes;
        closed = phases-stay.opened functions p ∙ j.plan.now.closed;
        derives = derives;
        allows = functions-are-not-asked.allowed functions derives catalog p ∙ allowed;
        root = functions-are-not-asked.root functions derives catalog (resolved_of j.plan.now).total p ∙ root;
      }

  -- workers and links that are ready for a plan in a setting, where the morsels are those of the job
  abbrev pub ReadyIn : RunModel → Plan → List (Worker (Operator F given) Destination) → LinksView → Type 0
  ReadyIn W p ws w = Ready (OperatorStands given) (operator_op given) DestinationStands task_of post_of bounds_of hash (scan_morsels (model_of hash j)) W p ws w

  -- they are ready for the job's plan, which is accepted
  pub record IsReadyFor (ws : List (Worker (Operator F given) Destination)) (w : LinksView) : Type 0 where
    pub accepted : IsJobAccepted
    pub ready : ReadyIn (model_of hash j) (job_plan given j) ws w
    pub rested : All (IsRested (operator_op given) (operator_most given) (operator_idle given) post_of held_in unclosed_in) ws

  -- the workers and links of a crew are ready as the crew is
  pub ready-parts : IsJobAccepted → (crew : Crew F given) (ws : Vec (Worker (Operator F given) Destination) Global) (w : LinksView) → ws ≡ crew.workers → w ≡ board_of crew
      → ReadyIn (model_of hash j) (job_plan given j) crew.workers.items (board_of crew) → All (IsNew given j) crew.workers.items → IsReadyFor ws.items w
  ready-parts ok crew ws w e f h new =
      let P : List (Worker (Operator F given) Destination) → LinksView → Type 0 = λ z b. ReadyIn (model_of hash j) (job_plan given j) z b in
      let same : crew.workers.items ≡ ws.items = sym (ap (λ (v : Vec (Worker (Operator F given) Destination) Global). v.items) e) in
      record {
        accepted = ok;
        ready = subst (λ z. P z w) same (subst (λ b. P crew.workers.items b) (sym f) h);
        rested = subst (λ z. All (IsRested (operator_op given) (operator_most given) (operator_idle given) post_of held_in unclosed_in) z) same (λ k d l. (new k d l).rested);
      }

  -- each of them can make its first step
  pub parts-ready : (crew : Crew F given) (ws : Vec (Worker (Operator F given) Destination) Global) → ws ≡ crew.workers → All (IsNew given j) crew.workers.items
      → All (IsReady (operator_types given) post_of is_open has_closed (types_at j)) ws.items
  parts-ready crew ws e new =
      let same : crew.workers.items ≡ ws.items = sym (ap (λ (v : Vec (Worker (Operator F given) Destination) Global). v.items) e) in
      subst (λ z. All (IsReady (operator_types given) post_of is_open has_closed (types_at j)) z) same (λ k d l. (new k d l).ready)

  -- they are as many as the plan asks for
  pub ready-count : (ws : Vec (Worker (Operator F given) Destination) Global) (w : LinksView) → IsReadyFor ws.items w → vec_len ws ≡ crew_size (worker_group_at j.layout.worker_groups.items) (job_plan given j)
  ready-count ws w begun =
      let roles = map (role_of (operator_op given) post_of bounds_of) ws.items in
      let a = map-length (role_of (operator_op given) post_of bounds_of) ws.items in
      let b : length roles ≡ crew_size (worker_group_at j.layout.worker_groups.items) (job_plan given j) = crew-count (model_of hash j) (job_plan given j) roles w begun.ready.crew in
      let ok = ws.ok in
      omega (arith, a, b, ok)

  -- what workers came to that were ready for the job's accepted plan: the first keeps rows of the plan's types, and the verdict is worth what it says
  pub record HasRun (ws : List (Worker (Operator F given) Destination)) (v : RunState) : Type 0 where
    pub keeps : KeepsFirst ws (types_of (relations j.plan.now) (job_plan given j))
    pub answers : Answers task_of (model_of hash j) (resolved_of j.plan.now).total (job_plan given j) ws v
    pub first : ReportsFirst (model_of hash j) (job_plan given j) v

  -- workers with the roles of those that were ready, and a verdict that is worth what it says
  pub has-ended : (old new : List (Worker (Operator F given) Destination)) (w : LinksView) (v : RunState) → IsReadyFor old w
      → map (role_of (operator_op given) post_of bounds_of) new ≡ map (role_of (operator_op given) post_of bounds_of) old
      → Answers task_of (model_of hash j) (resolved_of j.plan.now).total (job_plan given j) new v → ReportsFirst (model_of hash j) (job_plan given j) v → HasRun new v
  has-ended old new w v begun roles answers first =
      let W = model_of hash j in
      let p : Plan = job_plan given j in
      record { keeps = first-keeps given W p new (duties_below W p) (ap (λ z. map duty_of z) roles ∙ begun.ready.crew.duties); answers = answers; first = first }

  -- after steps that keep the roles, with a verdict that is worth what it says wherever the workers were ready
  pub has-run : (old new : List (Worker (Operator F given) Destination)) (w : LinksView) (v : RunState) → IsReadyFor old w
      → map (role_of (operator_op given) post_of bounds_of) new ≡ map (role_of (operator_op given) post_of bounds_of) old
      → ((W : RunModel) (is_total : Bool) (p : Plan) → IsAccepted W is_total p → ReadyIn W p old w → Answers task_of W is_total p new v)
      → ((W : RunModel) (is_total : Bool) (p : Plan) → IsAccepted W is_total p → ReadyIn W p old w → ReportsFirst W p v)
      → HasRun new v
  has-run old new w v begun roles answers first =
      let W = model_of hash j in
      let p : Plan = job_plan given j in
      let is_total : Bool = (resolved_of j.plan.now).total in
      has-ended old new w v begun roles (answers W is_total p begun.accepted begun.ready) (first W is_total p begun.accepted begun.ready)

module _ {F : Type 0} {given : Ghosts F} {j : Job F} {hash : List ℕ → Row → ℕ → ℕ} {ws : List (Worker (Operator F given) Destination)} where
  -- the first worker keeps rows of the plan's types
  pub first-types : {v : RunState} → HasRun given j hash ws v → (d : Worker (Operator F given) Destination)
      → post_of (sender_of (slice_index_or ws 0 d)) ≡ keeps (types_of (relations j.plan.now) (job_plan given j))
  first-types run d = ap (λ w. post_of (sender_of w)) (run.keeps.is_first d) ∙ run.keeps.keeps_types

  -- no worker's fault is only that a Fault came in a packet
  pub not-passed : (v : RunState) → HasRun given j hash ws v → v ≡ run_state.Failed Passed → ⊥
  not-passed v run e =
      let Q : RunState → Type 0 = λ z. Answers task_of (model_of hash j) (resolved_of j.plan.now).total (job_plan given j) ws z in
      (subst Q e run.answers).own

  -- they keep the promise of a run
  pub comes-kept : (Other : Reports) (v : RunState) (r : Result RunOutcome RunFault) → HasRun given j hash ws v → ComesTo ws v r
      → PromiseOnceSet hash (given.functions j.functions) Other j.plan.now j.database.now (sizes_of j) r
  comes-kept Other run_state.Done (Ok (run_outcome.Done t)) run h =
      let first = run.keeps.first in
      let W = model_of hash j in
      let is_total : Bool = (resolved_of j.plan.now).total in
      let answer = run.answers first t.rows (h first).0 in
      let same = sym (plan-under (given.functions j.functions) j.plan.now) in
      record {
        done = record {
          types = keeps-same t.types (types_of W.catalog (job_plan given j)) (sym (h first).1 ∙ first-types run first) ∙ ap (types_of W.catalog) same;
          runs = subst (λ q. Runs W.db W.sizes (goes W) q (λ _. t.rows)) same answer.0;
          delivers = subst (λ q. Delivers W.db is_total q t.rows) same answer.1;
        };
        failed = tt;
        first = tt;
      }
  comes-kept Other run_state.Unfinished (Ok run_outcome.Unfinished) run h = record { done = tt; failed = tt; first = tt }
  comes-kept Other (run_state.Failed f) (Err e) run h =
      let W = model_of hash j in
      let p = typed_plan_under (given.functions j.functions) (resolved_of j.plan.now) in
      let true_fault = subst (λ q. IsTrueFault W q f) (sym (plan-under (given.functions j.functions) j.plan.now)) run.answers in
      record {
        done = tt;
        failed = inl (subst (λ z. IsTrueOf p j.database.now z) (sym h) (true-reported W p j.database.now f refl true_fault));
        first = inl (inr (f, h, run.first));
      }
  comes-kept Other run_state.Done (Ok run_outcome.Unfinished) run h = absurd h
  comes-kept Other run_state.Done (Err e) run h = absurd h
  comes-kept Other run_state.Unfinished (Ok (run_outcome.Done t)) run h = absurd h
  comes-kept Other run_state.Unfinished (Err e) run h = absurd h
  comes-kept Other (run_state.Failed f) (Ok (run_outcome.Done t)) run h = absurd h
  comes-kept Other (run_state.Failed f) (Ok run_outcome.Unfinished) run h = absurd h
