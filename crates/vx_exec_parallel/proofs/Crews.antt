-- The workers of a job in threads: what they need before the first step, and what came back of them.
use Rattle.std.proofs.Common.{◌≡◌, ℕ, zero, suc, ◌≤◌, List, [], ◌∷◌, length, flat_map, map, Option, Some, slice_get, refl, sym, ap, ◌∙◌, subst, arith}
use Rattle.std.proofs.lemmas.Simd.{map-map}
use Rattle.std.specs.List.{All}
use Rattle.vx_rows_values.specs.Values.{Row}
use Rattle.vx_plan_nodes.specs.declared.functions.PlanFunctions.{Ghosts}
use Rattle.vx_plan_nodes.specs.Plan.{Plan}
use Rattle.vx_plan_nodes.specs.TypedView.{plan, resolved_of}
use Rattle.vx_worker.specs.Fragment.{goes}
use Rattle.vx_worker.specs.Trace.{scan_morsels}
use Rattle.vx_worker.specs.Worker.{Role, role_of}
use Rattle.vx_worker.specs.declared.worker.Worker.{Worker}
use Rattle.vx_exec_operators.specs.Operator.{OperatorStands, operator_op, operator_types}
use Rattle.vx_exec_operators.specs.Destination.{DestinationStands, task_of, post_of, bounds_of, is_open, has_closed}
use Rattle.vx_exec_operators.specs.declared.operator.Operator.{Operator}
use Rattle.vx_exec_operators.specs.declared.destination.Destination.{Destination}
use Rattle.vx_exec_steps.specs.Crews.{IsCrew}
use Rattle.vx_exec_steps.specs.Endings.{ReportsFirst}
use Rattle.vx_exec_steps.specs.Headline.{Answers}
use Rattle.vx_exec_steps.specs.Ready.{Settled}
use Rattle.vx_plan_nodes.specs.Workers.{crew_size, worker_group_at}
use Rattle.vx_plan_nodes.proofs.UnderFacts.{nodes-stay}
use Rattle.vx_exec_steps.proofs.Build.{crew-count, crew-root, crew-below}
use Rattle.vx_exec_steps.proofs.RunSteps.{map-length}
use Rattle.vx_exec_steps.specs.declared.verdict.RunState.{RunState}
use Rattle.vx_exec_steps.specs.declared.verdict.RunState.TheVariants as run_state
use Rattle.vx_morsel_decks.specs.Seats.{DeckView}
use Rattle.vx_exec_threads.specs.Carrying.{hold_of}
use Rattle.vx_exec_threads.specs.Drawers.{Sits}
use Rattle.vx_exec_threads.specs.Wired.{IsWired}
use Rattle.vx_exec_threads.specs.declared.deck_place.DeckPlace.{DeckPlace}
use Rattle.vx_exec_threads.specs.declared.ends.Ends.{Ends}
use Rattle.vx_exec_spawn.specs.Each.{AllReady}
use Rattle.vx_exec_spawn.specs.declared.member.CrewMember.{CrewMember}
use Rattle.vx_exec_spawn.specs.declared.member.Joined.{Joined}
use Rattle.vx_exec_wiring.specs.declared.wiring.Wiring.{Wiring}
use Rattle.vx_exec_assembly.specs.Assembly.{WasRun}
use Rattle.vx_exec.specs.Crew.{IsNew}
use Rattle.vx_exec.specs.Job.{model_of, types_at, job_plan}
use Rattle.vx_exec.specs.declared.job.Job.{Job}
use Rattle.vx_exec_parallel.specs.declared.places.FragmentPlace.{FragmentPlace}
use Rattle.vx_exec_parallel.specs.Crew.{IsWiringOf, AreNew, AreHonest, HaveRun}
use Rattle.vx_exec_parallel.specs.Fragments.{fragment_in, places_from}
use Rattle.vx_exec_parallel.specs.Members.{worker_of, ends_of}
use Rattle.vx_exec_parallel.specs.Parallel.{WereJoined}
use Rattle.vx_exec_parallel.specs.Places.{place_in}
use Rattle.vx_exec_layout.specs.Layout.{spans_of}
use Rattle.vx_exec_layout.specs.Order.{made_after}
use Rattle.vx_exec_layout.specs.declared.span.NodeSpan.{NodeSpan}
use Rattle.vx_exec_layout.proofs.Order.{made-by-plan}
use Rattle.vx_exec_parallel.proofs.Counting.{places-count}

some-is : {A : Type 0} (x y : A) → ◌≡◌ {A = Option A} (Some x) (Some y) → x ≡ y
some-is x y e = cc

-- what holds of each image holds of that of an element
at-image : {A B : Type 0} (f : A → B) (P : B → Type 0) (xs : List A) → All P (map f xs) → (k : ℕ) (x : A) → slice_get xs k ≡ Some x → P (f x)
at-image f P [] h k x e = absurd (cc)
at-image f P (y ∷ ys) h zero x e = subst (λ z. P (f z)) (some-is y x e) (h 0 (f y) (omega arith))
at-image f P (y ∷ ys) h (suc k) x e = at-image f P ys (λ i d l. h (suc i) d (omega (arith, l))) k x e

-- they can make their first steps
all-ready : {F : Type 0} (given : Ghosts F) (j : Job F) (decks : List DeckView) (cs : List (CrewMember (Operator F given) Destination)) → All (IsNew given j) (map worker_of cs)
    → All (λ (e : Ends). All (Sits decks) e.draws.items) (map ends_of cs) → AllReady (operator_types given) post_of is_open has_closed (types_at j) decks cs
all-ready given j decks [] new sits = tt
all-ready given j decks (c ∷ cs) new sits = (
  (new 0 c.worker (omega arith)).ready,
  sits 0 c.ends (omega arith),
  all-ready given j decks cs (λ k d l. new (suc k) d (omega (arith, l))) (λ k d l. sits (suc k) d (omega (arith, l))),
)

pub members-ready : {F : Type 0} (given : Ghosts F) (j : Job F) (ws : List (Worker (Operator F given) Destination)) (w : Wiring) (cs : List (CrewMember (Operator F given) Destination)) → AreNew given j ws → IsWiringOf given j w
    → map worker_of cs ≡ ws → map ends_of cs ≡ w.ends.items → AllReady (operator_types given) post_of is_open has_closed (types_at j) w.decks.items cs
members-ready given j ws w cs new wiring ews ees =
    all-ready given j w.decks.items cs (subst (λ z. All (IsNew given j) z) (sym ews) new.new)
    (subst (λ z. All (λ (e : Ends). All (Sits w.decks.items) e.draws.items) z) (sym ees) wiring.sits)

-- the role of a worker of a job
abbrev role : {F : Type 0} (given : Ghosts F) → Worker (Operator F given) Destination → Role
role given = role_of (operator_op given) post_of bounds_of

abbrev joined_worker : {F : Type 0} {given : Ghosts F} → Joined (Operator F given) Destination → Worker (Operator F given) Destination
joined_worker j = j.worker

module _ {F : Type 0} (given : Ghosts F) (j : Job F) (hash : List ℕ → Row → ℕ → ℕ) where
  -- what came back of them was run
  abbrev pub WereRun : Plan → List DeckView → List DeckPlace → List (Joined (Operator F given) Destination) → Type 0
  WereRun p decks places js =
      WasRun (OperatorStands given) (operator_op given) DestinationStands task_of post_of bounds_of hash (scan_morsels (model_of hash j)) (model_of hash j) p decks places js

  new-count : (ws : List (Worker (Operator F given) Destination)) → AreNew given j ws → length ws ≡ crew_size (worker_group_at j.layout.worker_groups.items) (job_plan given j)
  new-count ws new =
      let ready = new.ready hash in
      let a = map-length (role given) ws in
      let b : length (map (role given) ws) ≡ crew_size (worker_group_at j.layout.worker_groups.items) (job_plan given j) = crew-count (model_of hash j) (job_plan given j) (map (role given) ws) ready.0 ready.1.crew in
      omega (arith, a, b)

  -- there are few of them
  pub few-members : (ws : List (Worker (Operator F given) Destination)) → AreNew given j ws → length ws ≤ 256
  few-members ws new =
      let a = new-count ws new in
      let b = j.few_workers in
      let same = nodes-stay.crews (given.functions j.functions) (worker_group_at j.layout.worker_groups.items) (plan j.plan.now) in
      omega (arith, a, b, same)

  -- each worker has its ends
  pub as-many-ends : (ws : List (Worker (Operator F given) Destination)) (w : Wiring) → AreNew given j ws → IsWiringOf given j w → length w.ends.items ≡ length ws
  as-many-ends ws w new wiring =
      let a = map-length hold_of w.ends.items in
      let b : length (map hold_of w.ends.items) ≡ crew_size (worker_group_at j.layout.worker_groups.items) (job_plan given j) = (wiring.wired hash).count in
      let c = new-count ws new in
      omega (arith, a, b, c)

  -- and its place
  pub as-many-places : (ws : List (Worker (Operator F given) Destination)) (seats lent : List FragmentPlace) (spans : List NodeSpan) → AreNew given j ws
      → spans ≡ spans_of (worker_group_at j.layout.worker_groups.items) (job_plan given j) 0 1 → lent ≡ seats → map place_in seats ≡ places_from 0 (1 ∷ flat_map fragment_in spans)
      → length lent ≡ length ws
  as-many-places ws seats lent spans new es el is =
      let a = map-length place_in seats in
      let b = ap (λ (z : List (ℕ × ℕ)). length z) is ∙ places-count spans ∙ ap (λ (z : List NodeSpan). made_after 1 z) es
      ∙ made-by-plan (worker_group_at j.layout.worker_groups.items) (job_plan given j) 0 1 in
      let c = new-count ws new in
      let d = ap (λ (z : List FragmentPlace). length z) el in
      omega (arith, a, b, c, d)

  pub were-run : (ws : List (Worker (Operator F given) Destination)) (w : Wiring) (cs : List (CrewMember (Operator F given) Destination)) (js : List (Joined (Operator F given) Destination))
      (p : Plan) (places : List DeckPlace) → AreNew given j ws → IsWiringOf given j w → map worker_of cs ≡ ws → map ends_of cs ≡ w.ends.items
      → p ≡ job_plan given j → places ≡ w.places.items → AreHonest given hash j cs js → WereRun p w.decks.items places js
  were-run ws w cs js p places new wiring ews ees ep eq honest =
      let W = model_of hash j in
      let q : Plan = job_plan given j in
      let m = scan_morsels W in
      let ready = new.ready hash in
      let crew : IsCrew W q (map (role given) (map worker_of cs)) ready.0 = subst (λ z. IsCrew W q (map (role given) z) ready.0) (sym ews) ready.1.crew in
      let fresh : All (IsNew given j) (map worker_of cs) = subst (λ z. All (IsNew given j) z) (sym ews) new.new in
      let a = map-length worker_of cs in
      let b = new-count ws new in
      let c = ap (λ (z : List (Worker (Operator F given) Destination)). length z) ews in
      let was : WereRun q w.decks.items w.places.items js = record {
        members = cs;
        honest = honest;
        wired = subst (λ hs. IsWired W q w.decks.items w.places.items hs) (ap (λ z. map hold_of z) (sym ees) ∙ map-map hold_of ends_of cs) (wiring.wired hash);
        stands = λ k x e. (at-image worker_of (IsNew given j) cs fresh k x e).stands (goes W) m;
        routes = λ k x e. (at-image worker_of (IsNew given j) cs fresh k x e).routes hash;
        morsels = refl;
        count = omega (arith, a, b, c);
        root = crew-root W q (map (role given) (map worker_of cs)) ready.0 crew;
        below = crew-below W q (map (role given) (map worker_of cs)) ready.0 crew;
      } in
      subst (λ z. WereRun z w.decks.items places js) (sym ep) (subst (λ z. WereRun q w.decks.items z js) (sym eq) was)

  -- they are the workers that were joined, of the plan as the job has it
  pub were-joined : (p : Plan) (decks : List DeckView) (places : List DeckPlace) (js : List (Joined (Operator F given) Destination)) (ended : List (Worker (Operator F given) Destination)) (v : RunState)
      → p ≡ job_plan given j → WereRun p decks places js → ended ≡ map joined_worker js → Settled task_of (model_of hash j) p ended v
      → WereJoined given hash (model_of hash j) (job_plan given j) ended v
  were-joined p decks places js ended v ep was are settled = record {
    decks = decks;
    places = places;
    joined = js;
    run = subst (λ z. WereRun z decks places js) ep was;
    workers = are;
    settled = subst (λ z. Settled task_of (model_of hash j) z ended v) ep settled;
  }

  -- those that came back have the roles of those that went
  same-roles : (cs : List (CrewMember (Operator F given) Destination)) (js : List (Joined (Operator F given) Destination)) → AreHonest given hash j cs js
      → map (role given) (map joined_worker js) ≡ map (role given) (map worker_of cs)
  same-roles [] [] h = refl
  same-roles [] (x ∷ js) h = absurd h
  same-roles (c ∷ cs) [] h = absurd h
  same-roles (c ∷ cs) (x ∷ js) h = ap (λ z. z ∷ map (role given) (map joined_worker js)) h.0.ran.role ∙ ap (λ z. role given c.worker ∷ z) (same-roles cs js h.1)

  -- and what they come to is worth what the verdict says
  pub have-run : (ws ended : List (Worker (Operator F given) Destination)) (cs : List (CrewMember (Operator F given) Destination)) (js : List (Joined (Operator F given) Destination)) (p : Plan) (v : RunState)
      → map worker_of cs ≡ ws → p ≡ job_plan given j → ended ≡ map joined_worker js → AreHonest given hash j cs js
      → Answers task_of (model_of hash j) (resolved_of j.plan.now).total p ended v → ReportsFirst (model_of hash j) p v → (v ≡ run_state.Unfinished → ⊥) → HaveRun given hash j ws ended v
  have-run ws ended cs js p v ews ep ejs honest answers first whole = record {
    roles = ap (λ z. map (role given) z) ejs ∙ same-roles cs js honest ∙ ap (λ z. map (role given) z) ews;
    answers = subst (λ z. Answers task_of (model_of hash j) (resolved_of j.plan.now).total z ended v) ep answers;
    first = subst (λ z. ReportsFirst (model_of hash j) z v) ep first;
    whole = whole;
  }
