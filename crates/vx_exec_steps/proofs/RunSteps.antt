-- One step of one of many workers.
use Rattle.std.proofs.Common.{ℕ, ◌≡◌, ◌<◌, List, [], ◌∷◌, length, map, refl, sym, ap, ◌∙◌, subst, arith, zero, suc}
use Rattle.std.proofs.Math.ListN.{get_or, set}
use Rattle.std.proofs.Math.Seq.{map-set_same}
use Rattle.std.specs.List.{AllZip}
use Rattle.vx_rows_values.specs.Values.{Val, Row}
use Rattle.vx_plan_nodes.specs.Routes.{Routing}
use Rattle.vx_ports.specs.Packets.{PacketView}
use Rattle.vx_ops.specs.Ledger.{Stream, Ledger, Op}
use Rattle.vx_exchange_ends.specs.Tasks.{Task, Post}
use Rattle.vx_exchange_ends.specs.Sending.{RoutesAs}
use Rattle.vx_ops.specs.Turn.{Coming}
use Rattle.vx_ops.specs.declared.turn.Want.{Want}
use Rattle.vx_worker.specs.Trace.{Trace, Event, added, empty_trace}
use Rattle.vx_worker.specs.Worker.{Role, role_of, WorkerStands}
use Rattle.vx_worker.specs.declared.worker.Worker.{Worker}
use Rattle.vx_exec_steps.specs.LinksView.{LinksView, Does}
use Rattle.vx_exec_steps.specs.Agrees.{trace_at, Agrees}
use Rattle.vx_exec_steps.specs.Same.{SameBoard}
use Rattle.vx_exec_steps.specs.Runs.{RoutesAll, roles_of, Stand, Advances}
use Rattle.vx_exec_steps.specs.Following.{Steps}
use Rattle.vx_exec_steps.proofs.Events.{agrees-on}
use Rattle.vx_exec_steps.proofs.Steady.{same-self, same-then, same-does}

pub zip-at : {A B : Type 0} (R : A → B → Type 0) (xs : List A) (ys : List B) (i : ℕ) (d : A) (f : B) → i < length xs → AllZip R xs ys → R (get_or xs i d) (get_or ys i f)
zip-at R [] ys i d f lt h = absurd (omega (arith, lt))
zip-at R (x ∷ xs) [] i d f lt h = elim h [ ]
zip-at R (x ∷ xs) (y ∷ ys) zero d f lt h = h.0
zip-at R (x ∷ xs) (y ∷ ys) (suc i) d f lt h = zip-at R xs ys i d f (omega (arith, lt)) h.1

pub zip-length : {A B : Type 0} (R : A → B → Type 0) (xs : List A) (ys : List B) → AllZip R xs ys → length xs ≡ length ys
zip-length R [] [] h = refl
zip-length R [] (y ∷ ys) h = elim h [ ]
zip-length R (x ∷ xs) [] h = elim h [ ]
zip-length R (x ∷ xs) (y ∷ ys) h = ap suc (zip-length R xs ys h.1)

zip-set : {A B : Type 0} (R : A → B → Type 0) (xs : List A) (ys : List B) (i : ℕ) (x : A) (y : B) → R x y → AllZip R xs ys → AllZip R (set xs i x) (set ys i y)
zip-set R [] [] i x y r h = h
zip-set R [] (b ∷ ys) i x y r h = elim h [ ]
zip-set R (a ∷ xs) [] i x y r h = elim h [ ]
zip-set R (a ∷ xs) (b ∷ ys) zero x y r h = (r, h.1)
zip-set R (a ∷ xs) (b ∷ ys) (suc i) x y r h = (h.0, zip-set R xs ys i x y r h.1)

pub get-map : {A B : Type 0} (f : A → B) (xs : List A) (i : ℕ) (d : A) (e : B) → i < length xs → get_or (map f xs) i e ≡ f (get_or xs i d)
get-map f [] i d e lt = absurd (omega (arith, lt))
get-map f (x ∷ xs) zero d e lt = refl
get-map f (x ∷ xs) (suc i) d e lt = get-map f xs i d e (omega (arith, lt))

pub map-length : {A B : Type 0} (f : A → B) (xs : List A) → length (map f xs) ≡ length xs
map-length f [] = refl
map-length f (x ∷ xs) = ap suc (map-length f xs)

module _ {O S : Type 0} (OS : O → Ledger → Type 0) (op : O → Op) (SS : S → Routing → Stream → (ℕ → List PacketView) → Type 0) (task : S → Task) (post : S → Post) (bounds : S → List Val)
    (hash : List ℕ → Row → ℕ → ℕ) (m : ℕ → ℕ → List Row) where
  pub advances-then : (ws vs us : List (Worker O S)) (w v u : LinksView) → Advances OS op SS task post bounds hash m ws w vs v → Advances OS op SS task post bounds hash m vs v us u
      → Advances OS op SS task post bounds hash m ws w us u
  advances-then ws vs us w v u a b = record {
    roles = b.roles ∙ a.roles;
    same = same-then w v u a.same b.same;
    traces = λ goes routes ts h.
        let x = a.traces goes routes ts h in
        b.traces goes (subst (λ z. RoutesAll z hash goes) (sym a.roles) routes) x.0 x.1;
  }

  -- where traces stand, they stand with one event more after a step of worker i by it
  stand-on : (goes : Routing) (ws : List (Worker O S)) (i : ℕ) (a b : Worker O S) (w v : LinksView) (e : Event) (ts : List Trace) → a ≡ get_or ws i a → i < length ws
      → Does (record w { turn = i }) e v → ((t : Trace) → WorkerStands OS op SS task goes m a t → WorkerStands OS op SS task goes m b (added t e))
      → Stand OS op SS task post bounds hash m goes ws w ts → Stand OS op SS task post bounds hash m goes (set ws i b) v (set ts i (added (trace_at ts i) e))
  stand-on goes ws i a b w v e ts at lt does stands h =
      let R = WorkerStands OS op SS task goes m in
      let old : R a (trace_at ts i) = subst (λ z. R z (trace_at ts i)) (sym at) (zip-at R ws ts i a empty_trace lt h.workers) in
      let here : i < length ts = subst (λ z. i < z) (zip-length R ws ts h.workers) lt in
      let serving : LinksView = record w { turn = i } in
      let before : Agrees serving ts = record { flows = h.agrees.flows; draws = h.agrees.draws } in
      record {
        workers = zip-set R ws ts i b (added (trace_at ts i) e) (stands (trace_at ts i) old) h.workers;
        agrees = agrees-on serving v e ts before here does;
      }

  -- the routes of all workers are those of each
  pub route-at : (goes : Routing) (ws : List (Worker O S)) (i : ℕ) (a : Worker O S) → a ≡ get_or ws i a → i < length ws
      → RoutesAll (roles_of OS op SS task post bounds hash m ws) hash goes → RoutesAs (role_of op post bounds a).post (role_of op post bounds a).bounds hash goes
  route-at goes ws i a at lt routes =
      let r = role_of op post bounds a in
      let lm : i < length (map (role_of op post bounds) ws) = subst (λ z. i < z) (sym (map-length (role_of op post bounds) ws)) lt in
      subst (λ (z : Role). RoutesAs z.post z.bounds hash goes) (get-map (role_of op post bounds) ws i a r lt ∙ ap (role_of op post bounds) (sym at)) (routes i r lm)

  -- the traces after one of the steps that are told apart
  pub stepped-stand : (want : O → Want) (most idle_turns : O → Coming → ℕ) (held : S → ℕ → ℕ) (unclosed : S → ℕ) (goes : Routing) (i : ℕ) (ws : List (Worker O S)) (w : LinksView)
      (vs : List (Worker O S)) (v : LinksView) (ts : List Trace) → RoutesAll (roles_of OS op SS task post bounds hash m ws) hash goes
      → (step : Steps OS want op most idle_turns SS task post bounds held unclosed hash m i ws w vs v) → Stand OS op SS task post bounds hash m goes ws w ts
      → Stand OS op SS task post bounds hash m goes vs v (set ts i (added (trace_at ts i) step.event))
  stepped-stand want most idle_turns held unclosed goes i ws w vs v ts routes step h =
      let at : step.before ≡ get_or ws i step.before = sym (step.here step.before) in
      let mine = route-at goes ws i step.before at step.within routes in
      subst (λ z. Stand OS op SS task post bounds hash m goes z v (set ts i (added (trace_at ts i) step.event))) (sym step.now)
      (stand-on goes ws i step.before step.after w v step.event ts at step.within step.does (step.stands goes mine) h)

  -- worker i made a step, of whose trace this is known
  pub stepped : (ws : List (Worker O S)) (i : ℕ) (a b : Worker O S) (w v : LinksView) → a ≡ get_or ws i a → i < length ws
      → role_of op post bounds b ≡ role_of op post bounds a
      → ((e : Event) × Does (record w { turn = i }) e v × ((goes : Routing) → RoutesAs (role_of op post bounds a).post (role_of op post bounds a).bounds hash goes
      → (t : Trace) → WorkerStands OS op SS task goes m a t → WorkerStands OS op SS task goes m b (added t e)))
      → Advances OS op SS task post bounds hash m ws w (set ws i b) v
  stepped ws i a b w v at lt role step =
      let serving : LinksView = record w { turn = i } in
      let same : SameBoard w serving = record { sends = refl; stations = (same-self w).stations } in
      record {
        roles = map-set_same (role_of op post bounds) ws i b a (role ∙ ap (role_of op post bounds) at);
        same = same-then w serving v same (same-does serving v step.0 step.1);
        traces = λ goes routes ts h. (
          set ts i (added (trace_at ts i) step.0),
          stand-on goes ws i a b w v step.0 ts at lt step.1 (step.2 goes (route-at goes ws i a at lt routes)) h,
        );
      }
