-- What a run of a job comes to, in terms of the plan, the database and the setup that the job was made of.
use Rattle.std.proofs.Common.{◌≡◌, ◌⊎◌, ℕ, ◌<◌, List, Option, Some, None, Ok, Err, Result, IfOk, IfErr, refl, sym, ◌∙◌, subst, inl, inr}
use Rattle.std.specs.List.{All}
use Rattle.std.specs.Result.{IsErrAnd}
use Rattle.vx_catalog.specs.Database.{Database}
use Rattle.vx_rows_values.specs.Values.{Row}
use Rattle.vx_plan_nodes.specs.Plan.{Plan}
use Rattle.vx_plan_nodes.specs.TypedView.{plan as whole_plan, resolved_of}
use Rattle.vx_plan_nodes.specs.Under.{Functions, under, typed_plan_under}
use Rattle.vx_worker.specs.Fragment.{RunModel}
use Rattle.vx_worker.specs.declared.worker.Worker.{Worker}
use Rattle.vx_exec_operators.specs.declared.operator.Operator.{Operator}
use Rattle.vx_exec_operators.specs.declared.destination.Destination.{Destination}
use Rattle.vx_exec_steps.specs.declared.verdict.RunState.{RunState}
use Rattle.vx_exec_steps.specs.declared.verdict.RunState.TheVariants as run_state
use Rattle.vx_plan_nodes.specs.declared.typed_plan.TypedPlan.{TypedPlan}
use Rattle.vx_plan_nodes.specs.Workers.{crew_size, worker_group_at}
use Rattle.vx_plan_nodes.specs.declared.functions.PlanFunctions.{Ghosts}
use Rattle.vx_exec_runs.specs.Sizes.{Sizes}
use Rattle.vx_exec.specs.Model.{run_model}
use Rattle.vx_exec_runs.specs.Setup.{SetupRefusal}
use Rattle.vx_exec_setup.specs.Setup.{SetupView}
use Rattle.vx_exec.specs.Job.{job_plan, model_of, sizes_of}
use Rattle.vx_exec_runs.specs.Promise.{Reports}
use Rattle.vx_exec.specs.Promise.{CrewPromise, PromiseOnceSet, WhereSet, WhereSized}
use Rattle.vx_exec.specs.Runs.{ComesTo, NamesFirst, IsFirstReported, IsScheduled, IsInRounds, Scheduled, InRounds, IsCountedInRounds, CountedInRounds}
use Rattle.vx_exec.specs.Setup.{IsUnknownFault}
use Rattle.vx_exec.proofs.FunctionFacts.{has-sizes}
use Rattle.vx_exec_runs.specs.Runs.{HasSizes, IsSetUp, IsWhole, RunFails, for_setup, for_function, for_fault, unknown_in}
use Rattle.vx_exec_runs.proofs.UnderFacts.{setup-stays}
use Rattle.vx_exec_setup.specs.declared.fault.RunFault.{RunFault}
use Rattle.vx_exec_setup.specs.declared.fault.RunFault.TheVariants as fault
use Rattle.vx_exec.specs.declared.job.Job.{Job}
use Rattle.vx_exec_setup.specs.declared.counts.WorkerCounts.{WorkerCounts}
use Rattle.vx_exec_runs.specs.declared.outcome.RunOutcome.{RunOutcome}
use Rattle.vx_exec_runs.specs.declared.outcome.RunOutcome.TheVariants as run_outcome

ok-is : (s t : Sizes) → ◌≡◌ {A = Result Sizes SetupRefusal} (Ok s) (Ok t) → s ≡ t
ok-is s t e = cc

-- a job is one of this plan over this database, whose sizes are those of this setup
pub record IsSizedJobOf {F : Type 0} (j : Job F) (p : TypedPlan) (db : Database) (setup : SetupView) : Type 0 where
  pub plan : j.plan.now ≡ p
  pub database : j.database.now ≡ db
  pub set : HasSizes (resolved_of p) db setup (sizes_of j)

-- a job is one of this plan under these functions over this database, set up like this
pub record IsJobOf {F : Type 0} (given : Ghosts F) (functions : Functions) (j : Job F) (p : TypedPlan) (db : Database) (setup : SetupView) : Type 0 where
  pub same : given.functions j.functions ≡ functions
  pub plan : j.plan.now ≡ p
  pub database : j.database.now ≡ db
  pub set : IsSetUp (typed_plan_under functions (resolved_of p)) db setup (sizes_of j)

-- what holds of a fault holds of it when it is handed on
pub refused-by : {X : Type 0} (P : RunFault → Type 0) (r : Result X RunFault) (e : RunFault) → IsErrAnd r (λ y. y ≡ e) → P e → IfErr r P
refused-by P (Ok x) e handed h = absurd handed
refused-by P (Err y) e handed h = subst P (sym handed) h

sized-job : {F : Type 0} {given : Ghosts F} {functions : Functions} {j : Job F} {p : TypedPlan} {db : Database} {setup : SetupView} → IsJobOf given functions j p db setup → IsSizedJobOf j p db setup
sized-job {F} {given} {functions} {j} {p} {db} {setup} made = record {
  plan = made.plan;
  database = made.database;
  set = has-sizes functions (resolved_of p) db setup (sizes_of j) made.set;
}

-- a job with the sizes of a setup is set up where its plan's functions are among its own
pub job-known : {F : Type 0} {given : Ghosts F} {functions : Functions} {j : Job F} {p : TypedPlan} {db : Database} {setup : SetupView} → given.functions j.functions ≡ functions → IsSizedJobOf j p db setup
    → unknown_in (typed_plan_under functions (resolved_of p)) ≡ None → IsJobOf given functions j p db setup
job-known {F} {given} {functions} {j} {p} {db} {setup} same made known =
    let set = setup-stays.set functions (resolved_of p) db setup (sizes_of j) made.set in
    record { same = same; plan = made.plan; database = made.database; set = record { same = set.same; sizes = set.sizes; known = known } }

-- where it was made of this plan under another name
pub made-of : {F : Type 0} {given : Ghosts F} {functions : Functions} {p q : TypedPlan} {db : Database} {setup : SetupView} (j : Job F) → given.functions j.functions ≡ functions → q ≡ p → j.plan.now ≡ q
    → j.database.now ≡ db → IsSetUp (typed_plan_under functions (resolved_of q)) db setup (sizes_of j) → IsJobOf given functions j p db setup
made-of {F} {given} {functions} {p} {q} {db} {setup} j functions-same same plan database set = record {
  same = functions-same;
  plan = plan ∙ same;
  database = database;
  set = subst (λ z. IsSetUp (typed_plan_under functions (resolved_of z)) db setup (sizes_of j)) same set;
}

pub sized-of : {F : Type 0} {p q : TypedPlan} {db : Database} {setup : SetupView} (j : Job F) → q ≡ p → j.plan.now ≡ q → j.database.now ≡ db → HasSizes (resolved_of q) db setup (sizes_of j)
    → IsSizedJobOf j p db setup
sized-of {F} {p} {q} {db} {setup} j same plan database set = record {
  plan = plan ∙ same;
  database = database;
  set = subst (λ z. HasSizes (resolved_of z) db setup (sizes_of j)) same set;
}

-- why there is none with the sizes of the setup
pub record NoSizedJobOf (functions : Functions) (p : TypedPlan) (db : Database) (setup : SetupView) (e : RunFault) : Type 0 where
  pub refused : RunFails (typed_plan_under functions (resolved_of p)) db setup e
  pub memory : (s : Sizes) → HasSizes (resolved_of p) db setup s → e ≡ fault.NoMemory

-- why there is none that is set up
pub record NoJobOf (functions : Functions) (p : TypedPlan) (db : Database) (setup : SetupView) (e : RunFault) : Type 0 where
  pub refused : RunFails (typed_plan_under functions (resolved_of p)) db setup e
  pub memory : (s : Sizes) → IsSetUp (typed_plan_under functions (resolved_of p)) db setup s → e ≡ fault.NoMemory

pub not-sized : {functions : Functions} {p : TypedPlan} {db : Database} {setup : SetupView} {e : RunFault} → NoSizedJobOf functions p db setup e → NoJobOf functions p db setup e
not-sized {functions} {p} {db} {setup} none = record { refused = none.refused; memory = λ s set. none.memory s (has-sizes functions (resolved_of p) db setup s set) }

-- a number is not both some and none
not-none : (unknown : Option ℕ) (n : ℕ) → unknown ≡ Some n → unknown ≡ None → ⊥
not-none unknown n some none = (cc)

-- where the sizes are right, and a function is not among these or memory was refused
pub not-known : (functions : Functions) (p : TypedPlan) (db : Database) (setup : SetupView) (s : Sizes) (e : RunFault) → HasSizes (resolved_of p) db setup s
    → IsUnknownFault (unknown_in (typed_plan_under functions (resolved_of p))) e → NoJobOf functions p db setup e
not-known functions p db setup s e has (inl memory) = record { refused = for_setup has.same (inl memory); memory = λ z set. memory }
not-known functions p db setup s e has (inr unknown) = record {
  refused = for_function s (setup-stays.set functions (resolved_of p) db setup s has) unknown.0 unknown.1 unknown.2;
  memory = λ z set. absurd (not-none (unknown_in (typed_plan_under functions (resolved_of p))) unknown.0 unknown.2 set.known);
}

-- what holds of a job holds of the plan, the database and the sizes that it was made of
of-job : {F : Type 0} (P : TypedPlan → Database → Sizes → Type 0) {j : Job F} {p : TypedPlan} {db : Database} {setup : SetupView} → IsSizedJobOf j p db setup → (s : Sizes)
    → HasSizes (resolved_of p) db setup s → P j.plan.now j.database.now (sizes_of j) → P p db s
of-job P {j} {p} {db} {setup} made s set h =
    subst (λ z. P p db z) (ok-is (sizes_of j) s (sym made.set.sizes ∙ set.sizes))
    (subst (λ y. P p y (sizes_of j)) made.database (subst (λ x. P x j.database.now (sizes_of j)) made.plan h))

module _ {p : TypedPlan} {db : Database} {setup : SetupView} (hash : List ℕ → Row → ℕ → ℕ) where
  -- so what holds in the setting of a job holds in that to which the setup comes
  pub where-sized : {F : Type 0} {j : Job F} (P : RunModel → Plan → Type 0) → IsSizedJobOf j p db setup → P (model_of hash j) (whole_plan j.plan.now) → WhereSized hash p db setup P
  where-sized P made h = λ s set. of-job (λ q b z. P (run_model hash q b z) (whole_plan q)) made s set h

  -- and what holds of its plan under its functions, of the plan under them
  pub where-set : {F : Type 0} {given : Ghosts F} {functions : Functions} {j : Job F} (P : RunModel → Plan → Type 0) → IsJobOf given functions j p db setup
      → P (model_of hash j) (job_plan given j) → WhereSet hash functions p db setup P
  where-set {F} {given} {functions} {j} P made h = λ s set.
      subst (λ (f : Functions). P (run_model hash p db s) (under f (whole_plan p))) made.same
      (of-job (λ q b z. P (run_model hash q b z) (under (given.functions j.functions) (whole_plan q))) (sized-job made) s (has-sizes functions (resolved_of p) db setup s set) h)

  -- where there is no job with its sizes, and the sizes are right, memory was refused
  pub nothing-sized : {functions : Functions} (P : RunModel → Plan → Result RunOutcome RunFault → Type 0) (r : Result RunOutcome RunFault) (e : RunFault) → IsErrAnd r (λ y. y ≡ e)
      → NoSizedJobOf functions p db setup e → ((W : RunModel) (q : Plan) → P W q (Err fault.NoMemory)) → WhereSized hash p db setup (λ W q. P W q r)
  nothing-sized P (Ok x) e handed none h = absurd handed
  nothing-sized P (Err y) e handed none h = λ s set.
      subst (λ z. P (run_model hash p db s) (whole_plan p) (Err z)) (sym (handed ∙ none.memory s set)) (h (run_model hash p db s) (whole_plan p))

  -- where there is no job, and the setup is right, memory was refused
  pub nothing-ran : {functions : Functions} (P : RunModel → Plan → Result RunOutcome RunFault → Type 0) (r : Result RunOutcome RunFault) (e : RunFault) → IsErrAnd r (λ y. y ≡ e)
      → NoJobOf functions p db setup e → ((W : RunModel) (q : Plan) → P W q (Err fault.NoMemory)) → WhereSet hash functions p db setup (λ W q. P W q r)
  nothing-ran P (Ok x) e handed none h = absurd handed
  nothing-ran {functions} P (Err y) e handed none h = λ s set.
      subst (λ z. P (run_model hash p db s) (under functions (whole_plan p)) (Err z)) (sym (handed ∙ none.memory s set)) (h (run_model hash p db s) (under functions (whole_plan p)))

  module _ (Other : Reports) {functions : Functions} where
    set-promise : (r : Result RunOutcome RunFault) (s : Sizes) → IsSetUp (typed_plan_under functions (resolved_of p)) db setup s → PromiseOnceSet hash functions Other p db s r
        → CrewPromise hash functions Other p db setup r
    set-promise (Ok (run_outcome.Done rows)) s set run = record { run = record { done = (s, set, run.done); set = (s, set); refused = tt }; first = λ z same. tt }
    set-promise (Ok run_outcome.Unfinished) s set run = record { run = record { done = tt; set = (s, set); refused = tt }; first = λ z same. tt }
    set-promise (Err e) s set run = record {
      run = record {
        done = tt;
        set = tt;
        refused = elim run.failed [
          | inl true_fault ↦ inl (for_fault s set true_fault)
          | inr other ↦ inr (s, set, other)
        ];
      };
      first = λ z same.
          let q = under functions (whole_plan p) in
          subst (λ y. IsFirstReported (run_model hash p db y) q e ⊎ Other (worker_group_at y.worker_groups) q e) (ok-is s z (sym set.sizes ∙ same.sizes)) run.first;
    }

    -- a run keeps its promise by what the workers of its job come to
    pub promise-kept : {F : Type 0} {given : Ghosts F} {j : Job F} (r : Result RunOutcome RunFault) → IsJobOf given functions j p db setup
        → PromiseOnceSet hash (given.functions j.functions) Other j.plan.now j.database.now (sizes_of j) r → CrewPromise hash functions Other p db setup r
    promise-kept {F} {given} {j} r made run =
        let sized = sized-job made in
        set-promise r (sizes_of j) made.set
        (subst (λ (f : Functions). PromiseOnceSet hash f Other p db (sizes_of j) r) made.same
        (of-job (λ q b z. PromiseOnceSet hash (given.functions j.functions) Other q b z r) sized (sizes_of j) sized.set run))

    -- and where there is no job
    pub promise-refused : (r : Result RunOutcome RunFault) (e : RunFault) → IsErrAnd r (λ y. y ≡ e) → NoJobOf functions p db setup e → CrewPromise hash functions Other p db setup r
    promise-refused (Ok x) e handed none = absurd handed
    promise-refused (Err y) e handed none = record {
      run = record { done = tt; set = tt; refused = inl (subst (λ z. RunFails (typed_plan_under functions (resolved_of p)) db setup z) (sym handed) none.refused) };
      first = λ s set. inl (inl (handed ∙ none.memory s set));
    }

-- where all have ended, so has the run
pub comes-whole : {F : Type 0} {given : Ghosts F} (ws : List (Worker (Operator F given) Destination)) (v : RunState) (r : Result RunOutcome RunFault) → (v ≡ run_state.Unfinished → ⊥) → ComesTo ws v r → IfOk r IsWhole
comes-whole ws run_state.Done (Ok (run_outcome.Done t)) whole h = tt
comes-whole ws run_state.Done (Ok run_outcome.Unfinished) whole h = absurd h
comes-whole ws run_state.Unfinished (Ok x) whole h = absurd (whole refl)
comes-whole ws (run_state.Failed f) (Ok (run_outcome.Done t)) whole h = absurd h
comes-whole ws (run_state.Failed f) (Ok run_outcome.Unfinished) whole h = absurd h
comes-whole ws v (Err e) whole h = tt

module _ (W : RunModel) (p : Plan) where
  -- each step names a worker, whatever the run comes to
  pub names-reported : (r : Result RunOutcome RunFault) (steps : List ℕ) → All (λ s. s < crew_size W.sizes p) steps → NamesFirst steps W p r
  names-reported (Ok x) steps h = h
  names-reported (Err e) steps h = inr (inr h)

module _ {F : Type 0} (given : Ghosts F) (hash : List ℕ → Row → ℕ → ℕ) (W : RunModel) (p : Plan) where
  -- the steps were made, whatever they come to
  pub steps-reported : (r : Result RunOutcome RunFault) (steps : List ℕ) → IsScheduled given hash W p steps r → Scheduled given hash W p steps r
  steps-reported (Ok x) steps h = h
  steps-reported (Err e) steps h = inr (inr h)

  pub rounds-reported : (r : Result RunOutcome RunFault) (limit : ℕ) → IsInRounds given hash W p limit r → InRounds given hash W p limit r
  rounds-reported (Ok x) limit h = h
  rounds-reported (Err e) limit h = inr h

  -- the same of rounds that were counted
  pub counted-reported : (r : Result RunOutcome RunFault) (limit : ℕ) (counts : List WorkerCounts) → IsCountedInRounds given hash W p limit r counts → CountedInRounds given hash W p limit r counts
  counted-reported (Ok x) limit counts h = h
  counted-reported (Err e) limit counts h = inr h
