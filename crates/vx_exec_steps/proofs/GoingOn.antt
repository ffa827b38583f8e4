-- No crew stands still: a worker goes on at its step where all workers with greater numbers have ended.
use Rattle.std.proofs.Common.{ℕ, ◌≡◌, ◌<◌, zero, suc, ◌+◌, ⊎_elim, not, ◌||◌, ◌&&◌, Bool, true, false, List, [], ◌∷◌, ◌++◌, length, map, Option, Some, None, IsSome, Contains, refl, sym, ap, ◌∙◌, subst, arith, inl, inr, append_assoc, append-nil, true≢false}
use Rattle.std.proofs.Math.ListN.{get_or, set}
use Rattle.std.specs.List.{All}
use Rattle.std.proofs.lemmas.Bool.{cases_eq, cases_lt}
use Rattle.std.proofs.lemmas.List.{get_or_past}
use Rattle.vx_rows_values.specs.Values.{Val, Row}
use Rattle.vx_plan_nodes.specs.Plan.{Plan, size}
use Rattle.vx_plan_nodes.specs.Streams.{workers}
use Rattle.vx_plan_nodes.specs.Routes.{Routing}
use Rattle.vx_plan_nodes.specs.Numbering.{is_fit}
use Rattle.vx_plan_nodes.specs.Workers.{crew_size}
use Rattle.vx_ports.specs.Packets.{PacketView, closes, is_empty, is_closed, is_stream}
use Rattle.vx_ops.specs.Ledger.{Stream, Ledger, Op}
use Rattle.vx_ops.specs.Turn.{Coming, with_packet}
use Rattle.vx_ops.specs.declared.turn.Want.{Want}
use Rattle.vx_exchange_ends.specs.Tasks.{Task, Post, IsAt}
use Rattle.vx_exchange_ends.specs.Queued.{consumers_of}
use Rattle.vx_exchange_ends.specs.Streams.{AreStreams}
use Rattle.vx_exchange_ends.proofs.PortStreams.{stopped-streams, finished-closed, stopped-closed}
use Rattle.vx_worker.specs.Fragment.{RunModel, goes}
use Rattle.vx_worker.specs.Trace.{Trace, idle, took_one, added, empty_trace, HonestBy}
use Rattle.vx_worker.specs.Answering.{IsSending, Answered, Waits, none_came, none_drains, is_full, no_memory}
use Rattle.vx_worker.specs.Trees.{shape, IsFormed, TakesFrom}
use Rattle.vx_worker.specs.Remaining.{EventFits}
use Rattle.vx_worker.specs.Worker.{Role, role_of, tree_of, sender_of, inputs_of, with_pending, with_all, outcome_of, fate_of, StandsIn, WorkerStands}
use Rattle.vx_worker.specs.declared.intake.Intake.{Intake}
use Rattle.vx_worker.specs.declared.tree.Tree.{Tree}
use Rattle.vx_worker.specs.declared.worker.Worker.{Worker}
use Rattle.vx_worker.specs.declared.worker.WorkerOutcome.{WorkerOutcome}
use Rattle.vx_worker.specs.declared.worker.WorkerOutcome.TheVariants as worker_outcome
use Rattle.vx_worker.specs.declared.worker.WorkerState.{WorkerState}
use Rattle.vx_worker.specs.declared.worker.WorkerState.TheVariants.{Running, Failing, Draining, Well, Failed}
use Rattle.vx_worker.specs.declared.worker.StepOutcome.TheVariants as step_outcome
use Rattle.vx_exec_steps.specs.Agrees.{trace_at}
use Rattle.vx_exec_steps.specs.Following.{Steps}
use Rattle.vx_exec_steps.specs.LinksView.{LinksView, queue_at, closed_at, PortIsClosed, Misses, Does}
use Rattle.vx_exec_steps.specs.Queues.{queue_in}
use Rattle.vx_exec_steps.specs.Ready.{Ready, IsRested}
use Rattle.vx_exec_steps.specs.Roles.{no_role, role_at, IsRoot, RolesBelow, Wired}
use Rattle.vx_exec_steps.specs.Runs.{RoutesAll, roles_of, Stand}
use Rattle.vx_exec_steps.specs.Verdicts.{EndsAt}
use Rattle.vx_exec_steps.proofs.Beginning.{idle-agrees, empty-at, fresh-zip}
use Rattle.vx_exec_steps.proofs.Build.{crew-count, crew-root, crew-below, crew-wired, crew-idle}
use Rattle.vx_exec_steps.proofs.Events.{with-here, with-other}
use Rattle.vx_exec_steps.proofs.Feeding.{Works, works}
use Rattle.vx_exec_steps.proofs.Followed.{step-advances}
use Rattle.vx_exec_steps.proofs.OpenPorts.{PortsStand, ports-begin, ports-stepped}
use Rattle.vx_exec_steps.proofs.RunSteps.{zip-at, get-map, map-length, route-at, stepped-stand}
use Rattle.vx_exec_steps.proofs.Settling.{wired-same, honest-in}

-- nothing before a packet of a stream closes it
stream-open : (front back : List PacketView) (p : PacketView) → is_stream (front ++ p ∷ back) ≡ true → is_closed front ≡ false
stream-open [] back p h = refl
stream-open (x ∷ front) back p h =
    go (closes x.content) (is_empty (front ++ p ∷ back)) (is_stream (front ++ p ∷ back)) (is_closed front) (some front) (stream-open front back p) h
  where
    some : (xs : List PacketView) → is_empty (xs ++ p ∷ back) ≡ false
    some [] = refl
    some (y ∷ ys) = refl

    go : (a e s c : Bool) → e ≡ false → (s ≡ true → c ≡ false) → ((not a || e) && s) ≡ true → (a || c) ≡ false
    go true true s c f g h = absurd (true≢false f)
    go true false s c f g h = absurd (true≢false (sym h))
    go false e s c f g h = g h

some-behind : (front back : List PacketView) (p : PacketView) → front ++ p ∷ back ≡ [] → ⊥
some-behind [] back p e = cc
some-behind (x ∷ front) back p e = cc

-- where a packet goes to someone he is a consumer, and nothing before it closed his stream
open-before : (n : ℕ) (g : ℕ → List PacketView) (to : ℕ) (front back : List PacketView) (p : PacketView) → AreStreams n g → g to ≡ front ++ p ∷ back
    → (to < n) × (is_closed front ≡ false)
open-before n g to front back p h e = (
  elim (cases_lt to n) [ inl l ↦ l | inr ge ↦ absurd (some-behind front back p (sym e ∙ h.nothing to ge)) ],
  stream-open front back p (let P : List PacketView → Type 0 = λ z. is_stream z ≡ true in subst P e (h.streams to)),
)

-- what is put behind the packets for one consumer
more-behind : (g : ℕ → List PacketView) (ps : List PacketView) (to : ℕ) → (back : List PacketView) × (with_all g ps to ≡ g to ++ back)
more-behind g [] to = ([], sym (append-nil (g to)))
more-behind g (p ∷ ps) to =
    let h = more-behind g ps to in
    elim (cases_eq to p.to) [
      | inl e ↦ (h.0 ++ p ∷ [], with-here (with_all g ps) p.to p to e ∙ ap (λ z. z ++ p ∷ []) h.1 ∙ append_assoc (g to) h.0 (p ∷ []))
      | inr ne ↦ (h.0, with-other (with_all g ps) p.to p to ne ∙ h.1)
    ]

-- what came is all that was sent, where nothing is on its way
all-came : (sent came queue : List PacketView) → sent ≡ came ++ queue → queue ≡ [] → is_closed sent ≡ true → is_closed came ≡ true
all-came sent came queue e none h =
    let same : sent ≡ came = e ∙ ap (λ z. came ++ z) none ∙ append-nil came in
    sym (ap is_closed same) ∙ h

came-at : (ts : List Trace) (a b x k : ℕ) → a ≡ b → is_closed ((trace_at ts a).came x k) ≡ true → is_closed ((trace_at ts b).came x k) ≡ true
came-at ts a b x k e h = subst (λ z. is_closed ((trace_at ts z).came x k) ≡ true) e h

-- what holds of the image of each element holds wherever the list of images is read
image-at : {A B : Type 0} (P : B → Type 0) (f : A → B) (xs : List A) (d : B) → ((k : ℕ) (e : A) → k < length xs → P (f (get_or xs k e))) → (a : ℕ) → a < length xs → P (get_or (map f xs) a d)
image-at P f [] d h a l = absurd (omega (arith, l))
image-at P f (x ∷ xs) d h zero l = h 0 x l
image-at P f (x ∷ xs) d h (suc a) l = image-at P f xs d (λ k e n. h (suc k) e (omega (arith, n))) a (omega (arith, l))

none-some : (o : WorkerOutcome) → None ≡ Some o → ⊥
none-some o e = cc

none-is : IsSome {T = WorkerOutcome} None → ⊥
none-is e = cc

module _ {O S : Type 0} (OS : O → Ledger → Type 0) (want : O → Want) (op : O → Op) (most idle_turns : O → Coming → ℕ) (SS : S → Routing → Stream → (ℕ → List PacketView) → Type 0) (task : S → Task) (post : S → Post)
    (bounds : S → List Val) (held : S → ℕ → ℕ) (unclosed : S → ℕ)
    (hash : List ℕ → Row → ℕ → ℕ) (m : ℕ → ℕ → List Row) where
  -- these are the workers of a plan at some time of its run, with the board that connects them and with their traces
  pub record IsCrewAt (W : RunModel) (p : Plan) (vs : List (Worker O S)) (v : LinksView) (ts : List Trace) : Type 0 where
    pub count : length vs ≡ crew_size W.sizes p
    pub root : IsRoot W p (role_at (roles_of OS op SS task post bounds hash m vs) 0)
    pub below : RolesBelow W (role_at (roles_of OS op SS task post bounds hash m vs)) p 1
    pub wired : Wired W v p 0 1
    pub routes : RoutesAll (roles_of OS op SS task post bounds hash m vs) hash (goes W)
    pub takes : (a x k : ℕ) → a < length vs → let r = role_at (roles_of OS op SS task post bounds hash m vs) a in Contains r.inputs (x, k) → TakesFrom x k r.frag
    pub stand : Stand OS op SS task post bounds hash m (goes W) vs v ts
    pub ports : PortsStand (role_at (roles_of OS op SS task post bounds hash m vs)) v ts

  -- those of a run that is ready, to which nothing came
  pub crew-begins : (W : RunModel) (p : Plan) (ws : List (Worker O S)) (w : LinksView) → Ready OS op SS task post bounds hash m W p ws w
      → All (λ x. IsRested op most idle_turns post held unclosed x) ws → IsCrewAt W p ws w (map (λ (x : Worker O S). empty_trace) ws)
  crew-begins W p ws w ready rested =
      let roles = roles_of OS op SS task post bounds hash m ws in
      let none : List Trace = map (λ (x : Worker O S). empty_trace) ws in
      record {
        count = sym (map-length (role_of op post bounds) ws) ∙ crew-count W p roles w ready.crew;
        root = crew-root W p roles w ready.crew;
        below = crew-below W p roles w ready.crew;
        wired = crew-wired W p roles w ready.crew;
        routes = ready.routes;
        takes = λ a x k l.
            let Takes : Role → Type 0 = λ r. Contains r.inputs (x, k) → TakesFrom x k r.frag in
            image-at Takes (role_of op post bounds) ws no_role (λ b d n. (rested b d n).takes x k) a l;
        stand = record {
          workers = fresh-zip (WorkerStands OS op SS task (goes W) m) ws ready.fresh;
          agrees = idle-agrees w none (crew-idle W p roles w ready.crew) (empty-at ws);
        };
        ports = ports-begin W p roles w none ready.crew (empty-at ws);
      }

  -- and after each step
  pub crew-steps : (W : RunModel) (p : Plan) (i : ℕ) (ws vs : List (Worker O S)) (w v : LinksView) (ts : List Trace) → IsCrewAt W p ws w ts
      → (step : Steps OS want op most idle_turns SS task post bounds held unclosed hash m i ws w vs v) → IsCrewAt W p vs v (set ts i (added (trace_at ts i) step.event))
  crew-steps W p i ws vs w v ts h step =
      let on = step-advances OS want op most idle_turns SS task post bounds held unclosed hash m i ws vs w v step in
      let same : length vs ≡ length ws =
      sym (map-length (role_of op post bounds) vs) ∙ ap (λ (z : List Role). length z) on.roles ∙ map-length (role_of op post bounds) ws
      in
      record {
        count = same ∙ h.count;
        root = subst (λ z. IsRoot W p (role_at z 0)) (sym on.roles) h.root;
        below = subst (λ z. RolesBelow W (role_at z) p 1) (sym on.roles) h.below;
        wired = wired-same W w v p 0 1 on.same h.wired;
        routes = subst (λ z. RoutesAll z hash (goes W)) (sym on.roles) h.routes;
        takes = λ a x k l.
            subst (λ z. Contains (role_at z a).inputs (x, k) → TakesFrom x k (role_at z a).frag) (sym on.roles) (h.takes a x k (subst (λ z. a < z) same l));
        stand = stepped-stand OS op SS task post bounds hash m want most idle_turns held unclosed (goes W) i ws w vs v ts h.routes step h.stand;
        ports = ports-stepped OS want op most idle_turns SS task post bounds held unclosed hash m (goes W) i ws vs w v ts h.stand h.ports step;
      }

  module _ (at : (s : S) → IsAt (post s) (task s)) (streams : (s : S) (goes : Routing) (a : Stream) (g : ℕ → List PacketView) → SS s goes a g → AreStreams (consumers_of (post s)) g) where
    -- a worker that has ended closed its port to each consumer
    ended-closed : (goes : Routing) (w : Worker O S) (t : Trace) → WorkerStands OS op SS task goes m w t → IsSome (outcome_of w) → (j : ℕ) → j < consumers_of (post (sender_of w))
        → is_closed (t.sent j) ≡ true
    ended-closed goes w t h ended j l = go (outcome_of w) refl ended
      where
        honest : (o : WorkerOutcome) → HonestBy m goes (shape op (tree_of w)) (task (sender_of w)) (fate_of o) t → is_closed (t.sent j) ≡ true
        honest worker_outcome.Well k = finished-closed goes (post (sender_of w)) (task (sender_of w)) k.out.rows t.sent (at (sender_of w)) k.finished j l
        honest (worker_outcome.Failed f) k = stopped-closed goes (post (sender_of w)) (task (sender_of w)) k.out.rows t.sent (at (sender_of w)) k.stopped j l

        go : (o : Option WorkerOutcome) → outcome_of w ≡ o → IsSome o → is_closed (t.sent j) ≡ true
        go None e k = absurd (none-is k)
        go (Some o) e k = honest o (honest-in OS op SS task post bounds hash m goes w t w.phase o e h.1)

    -- where a worker that sends holds a packet, it is for a consumer to which its port is open
    holds-open : (goes : Routing) (w : Worker O S) (t : Trace) (f : WorkerState) → IsSending f → StandsIn OS op SS task goes m f w t → (to : ℕ) (packet : PacketView)
        → w.pending ≡ Some (to, packet) → (to < consumers_of (post (sender_of w))) × (is_closed (t.sent to) ≡ false)
    holds-open goes w t Running sending h to packet e =
        let n = consumers_of (post (sender_of w)) in
        let all : AreStreams n (with_pending t.sent (Some (to, packet))) = subst (λ z. AreStreams n (with_pending t.sent z)) e (streams (sender_of w) goes h.out (with_pending t.sent w.pending) h.sender) in
        open-before n (with_pending t.sent (Some (to, packet))) to (t.sent to) [] packet all (with-here t.sent to packet to refl)
    holds-open goes w t (Failing f) sending h to packet e =
        let n = consumers_of (post (sender_of w)) in
        let put = with_packet t.sent to (Some packet) in
        let stopped = stopped-streams goes (post (sender_of w)) (task (sender_of w)) h.0.out.rows (with_all (with_pending t.sent w.pending) w.closing.items) (at (sender_of w)) h.0.stopped in
        let all : AreStreams n (with_all put w.closing.items) = subst (λ z. AreStreams n (with_all (with_pending t.sent z) w.closing.items)) e stopped in
        let more = more-behind put w.closing.items to in
        open-before n (with_all put w.closing.items) to (t.sent to) more.0 packet all
        (more.1 ∙ ap (λ z. z ++ more.0) (with-here t.sent to packet to refl) ∙ append_assoc (t.sent to) (packet ∷ []) more.0)
    holds-open goes w t (Draining f) sending h to packet e = absurd sending
    holds-open goes w t Well sending h to packet e = absurd sending
    holds-open goes w t (Failed f) sending h to packet e = absurd sending

    module _ (W : RunModel) (p : Plan) (fit : is_fit W.relation_of p ≡ true) (some : 0 < workers W.sizes (size p)) (i : ℕ) (vs us : List (Worker O S)) (v u : LinksView) (ts : List Trace)
        (crew : IsCrewAt W p vs v ts) (step : Steps OS want op most idle_turns SS task post bounds held unclosed hash m i vs v us u)
        (later : (k : ℕ) → i < k → k < length vs → EndsAt vs k) where
      abbrev roles : ℕ → Role
      roles a = role_at (roles_of OS op SS task post bounds hash m vs) a

      abbrev serving : LinksView
      serving = record v { turn = i }

      abbrev stands-as : Worker O S → Trace → Type 0
      stands-as w t = WorkerStands OS op SS task (goes W) m w t

      role : roles i ≡ role_of op post bounds step.before
      role = get-map (role_of op post bounds) vs i step.before no_role step.within ∙ ap (role_of op post bounds) (step.here step.before)

      stands : stands-as step.before (trace_at ts i)
      stands = subst (λ z. stands-as z (trace_at ts i)) (step.here step.before) (zip-at stands-as vs ts i step.before empty_trace step.within crew.stand.workers)

      working : Works v roles (length vs) i
      working = subst (λ z. Works v roles z i) (sym crew.count)
          (works W v roles (crew_size W.sizes p) p fit some crew.wired crew.root crew.below (omega arith) i (subst (λ z. i < z) crew.count step.within))

      -- a producer from which it takes, and which has not closed, has a packet for it
      none-there : (x k : ℕ) → step.event ≡ took_one x k None → ⊥
      none-there x k e =
          let t = trace_at ts i in
          let formed : IsFormed (shape op (tree_of step.before)) = subst (λ (z : Role). IsFormed z.frag) role working.formed in
          let fits : EventFits (shape op (tree_of step.before)) (inputs_of step.before) t (took_one x k None) =
          subst (λ z. EventFits (shape op (tree_of step.before)) (inputs_of step.before) t z) e (step.spends (goes W) t formed stands).event
          in
          let takes : TakesFrom x k (roles i).frag =
          ⊎_elim (λ a. subst (λ (z : Role). TakesFrom x k z.frag) (sym role) a) (λ c. crew.takes i x k step.within (subst (λ (z : Role). Contains z.inputs (x, k)) (sym role) c)) fits.0
          in
          let f = working.fed x k takes in
          let a = f.below + k in
          let misses : Misses serving x k u = subst (λ z. Does serving z u) e step.does in
          let queue : queue_at v a f.place ≡ [] = elim (cases_lt a (length v.queues)) [
            | inl l ↦ misses.empty a f.place (record { below = f.below; above = f.above; station = f.station; producer = refl; sends = f.sends; within = l; consumer = f.consumer })
            | inr ge ↦ ap (λ z. queue_in z f.place) (get_or_past v.queues a [] ge)
          ]
          in
          let producer = get_or vs a step.before in
          let sender : roles a ≡ role_of op post bounds producer = get-map (role_of op post bounds) vs a step.before no_role f.within in
          let reaches : f.place < consumers_of (post (sender_of producer)) = subst (λ (z : Role). f.place < consumers_of z.post) sender f.reaches in
          let closed = ended-closed (goes W) producer (trace_at ts a) (zip-at stands-as vs ts a step.before empty_trace f.within crew.stand.workers) (later a f.later f.within step.before) f.place reaches in
          let consumer = f.above + f.place in
          let flow : (trace_at ts a).sent f.place ≡ (trace_at ts consumer).came x k ++ queue_at v a f.place =
          crew.stand.agrees.flows x f.below f.above k f.place f.station f.sends
          in
          let came : is_closed ((trace_at ts consumer).came x k) ≡ true = all-came ((trace_at ts a).sent f.place) ((trace_at ts consumer).came x k) (queue_at v a f.place) flow queue closed in
          let here : is_closed (t.came x k) ≡ true = came-at ts consumer i x k f.consumer came in
          true≢false (sym here ∙ fits.1)

      -- none of its ports is full
      full-there : (to : ℕ) (packet : PacketView) → IsSending (step.after).phase → (step.after).pending ≡ Some (to, packet) → PortIsClosed serving to → step.event ≡ idle → ⊥
      full-there to packet sending pending refuses e =
          let t = trace_at ts i in
          let mine = route-at OS op SS task post bounds hash m (goes W) vs i step.before (sym (step.here step.before)) step.within crew.routes in
          let after : stands-as step.after t = subst (λ z. stands-as step.after (added t z)) e (step.stands (goes W) mine t stands) in
          let holds = holds-open (goes W) step.after t (step.after).phase sending after.1 to packet pending in
          let same : role_of op post bounds step.after ≡ roles i = step.role ∙ sym role in
          let reaches : to < consumers_of (roles i).post = subst (λ (z : Role). to < consumers_of z.post) same holds.0 in
          let says : closed_at v i to ≡ is_closed (t.sent to) = crew.ports.closed i to reaches in
          true≢false (sym refuses ∙ says ∙ holds.1)

      waits-never : (phase : WorkerState) (tree : Tree O) (intake : Intake) → Waits want (PortIsClosed serving) ⊥ phase tree intake step.after step.event → ⊥
      waits-never phase tree intake (none_came x k q r e) = none-there x k e
      waits-never phase tree intake (none_drains f x k q r e) = none-there x k e
      waits-never phase tree intake (is_full to packet sending pending refuses e) = full-there to packet sending pending refuses e
      waits-never phase tree intake (no_memory f q lacks e) = absurd lacks

      pub goes-on : step.answer ≡ step_outcome.Waiting → ⊥
      goes-on e =
          waits-never (step.before).phase (step.before).tree (step.before).intake (subst (λ z. Answered OS want (PortIsClosed serving) ⊥ step.before step.after step.event z) e step.answered)
