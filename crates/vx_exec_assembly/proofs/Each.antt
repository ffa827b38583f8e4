-- From what is honest of each worker to the traces of all (our own).
use Rattle.std.proofs.Common.{arith, true, false, ℕ, zero, suc, ◌<◌, Option, IsSome, ◌≡◌, List, [], ◌∷◌, map, length, Some, refl, sym, ap, ◌∙◌, subst, slice_get}
use Rattle.std.specs.List.{AllZip, slice_index_or}
use Rattle.std.proofs.lemmas.Option.{same_Some, none-some}
use Rattle.vx_rows_values.specs.Values.{Val, Row}
use Rattle.vx_plan_nodes.specs.Routes.{Routing}
use Rattle.vx_ports.specs.Packets.{PacketView}
use Rattle.vx_ops.specs.Ledger.{Stream, Ledger, Op}
use Rattle.vx_exchange_ends.specs.Tasks.{Task, Post}
use Rattle.vx_exchange_ends.specs.Sending.{RoutesAs}
use Rattle.vx_worker.specs.Trace.{Trace, empty_trace}
use Rattle.vx_worker.specs.Worker.{Role, role_of, sender_of, WorkerStands}
use Rattle.vx_worker.specs.declared.worker.Worker.{Worker}
use Rattle.vx_worker.specs.declared.worker.WorkerOutcome.{WorkerOutcome}
use Rattle.vx_exec_steps.specs.Verdicts.{GoesOn, HasEnded}
use Rattle.vx_exec_steps.specs.Agrees.{trace_at}
use Rattle.vx_exec_steps.specs.Runs.{roles_of}
use Rattle.vx_exec_threads.specs.Carrying.{hold_of}
use Rattle.vx_exec_threads.specs.Holds.{Hold, Bears, SameEnds}
use Rattle.vx_exec_threads.specs.Joined.{AllBear}
use Rattle.vx_exec_threads.specs.Paired.{AllSame}
use Rattle.vx_exec_threads.specs.Ran.{trace_with}
use Rattle.vx_exec_spawn.specs.declared.member.CrewMember.{CrewMember}
use Rattle.vx_exec_spawn.specs.declared.member.Joined.{Joined}
use Rattle.vx_exec_spawn.specs.Each.{EachHonest}
use Rattle.vx_exec_assembly.specs.Parts.{worker_in, held_in}

pub map-length : {A B : Type 0} (f : A → B) (xs : List A) → length (map f xs) ≡ length xs
map-length f [] = refl
map-length f (x ∷ xs) = ap suc (map-length f xs)

-- one worker, and what its thread held, before it ran
abbrev pub worker_before : {O S : Type 0} → CrewMember O S → Worker O S
worker_before c = c.worker

abbrev pub held_before : {O S : Type 0} → CrewMember O S → Hold
held_before c = hold_of c.ends

module _ {O S : Type 0} (OS : O → Ledger → Type 0) (op : O → Op) (SS : S → Routing → Stream → (ℕ → List PacketView) → Type 0) (task : S → Task)
    (post : S → Post) (bounds : S → List Val) (hash : List ℕ → Row → ℕ → ℕ) (m : ℕ → ℕ → List Row) where
  pub same-count : (ps : List (CrewMember O S)) (js : List (Joined O S)) → EachHonest OS op SS task post bounds hash m ps js → length js ≡ length ps
  same-count [] [] h = refl
  same-count [] (j ∷ js) h = absurd h
  same-count (p ∷ ps) [] h = absurd h
  same-count (p ∷ ps) (j ∷ js) h = ap suc (same-count ps js h.1)

  -- each keeps its role
  pub same-roles : (ps : List (CrewMember O S)) (js : List (Joined O S)) → EachHonest OS op SS task post bounds hash m ps js
      → roles_of OS op SS task post bounds hash m (map worker_before ps) ≡ roles_of OS op SS task post bounds hash m (map worker_in js)
  same-roles [] [] h = refl
  same-roles [] (j ∷ js) h = absurd h
  same-roles (p ∷ ps) [] h = absurd h
  same-roles (p ∷ ps) (j ∷ js) h =
      ap (λ (r : Role). r ∷ roles_of OS op SS task post bounds hash m (map worker_before ps)) (sym h.0.ran.role)
      ∙ ap (λ (rs : List Role). role_of op post bounds j.worker ∷ rs) (same-roles ps js h.1)

  -- each has ended
  pub all-ended : (ps : List (CrewMember O S)) (js : List (Joined O S)) → EachHonest OS op SS task post bounds hash m ps js
      → (k : ℕ) (d : Worker O S) → k < length (map worker_in js) → HasEnded (slice_index_or (map worker_in js) k d)
  all-ended [] [] h k d l = absurd (omega (arith, l))
  all-ended [] (j ∷ js) h k d l = absurd h
  all-ended (p ∷ ps) [] h k d l = absurd h
  all-ended (p ∷ ps) (j ∷ js) h zero d l = h.0.ended
  all-ended (p ∷ ps) (j ∷ js) h (suc k) d l = all-ended ps js h.1 k d (omega (arith, l))

  -- so none goes on
  pub none-goes-on : (ps : List (CrewMember O S)) (js : List (Joined O S)) → EachHonest OS op SS task post bounds hash m ps js
      → GoesOn (map worker_in js) → ⊥
  none-goes-on ps [] h on = let l = on.within in omega (arith, l)
  none-goes-on ps (j ∷ js) h on =
      let ended = all-ended ps (j ∷ js) h on.number j.worker on.within in
      none-ended (subst (λ (o : Option WorkerOutcome). IsSome o) (on.here j.worker) ended)
    where
      none-ended : false ≡ true → ⊥
      none-ended e = cc

  -- each thread gave back its ends
  pub same-ends : (ps : List (CrewMember O S)) (js : List (Joined O S)) → EachHonest OS op SS task post bounds hash m ps js
      → AllSame (map held_before ps) (map held_in js)
  same-ends [] js h a x e = absurd (none-some x e)
  same-ends (p ∷ ps) [] h a x e = absurd h
  same-ends (p ∷ ps) (j ∷ js) h zero x e =
      (held_in j, refl, subst (λ (z : Hold). SameEnds z (held_in j)) (same_Some (held_before p) x e) h.0.ran.same)
  same-ends (p ∷ ps) (j ∷ js) h (suc a) x e = same-ends ps js h.1 a x e

  -- and each worker has a trace that stands for it, which these ends carried
  pub traces-of : (go : Routing) (ps : List (CrewMember O S)) (js : List (Joined O S)) → EachHonest OS op SS task post bounds hash m ps js
      → ((a : ℕ) (c : CrewMember O S) → slice_get ps a ≡ Some c → WorkerStands OS op SS task go m c.worker empty_trace)
      → ((a : ℕ) (c : CrewMember O S) → slice_get ps a ≡ Some c → RoutesAs (post (sender_of c.worker)) (bounds (sender_of c.worker)) hash go)
      → ((a : ℕ) (h : Hold) → slice_get (map held_before ps) a ≡ Some h → Bears h empty_trace)
      → (us : List Trace) × AllZip (WorkerStands OS op SS task go m) (map worker_in js) us × AllBear (map held_in js) (trace_at us)
  traces-of go [] [] h stands routes fresh = ([], tt, λ a x e. absurd (none-some x e))
  traces-of go [] (j ∷ js) h stands routes fresh = absurd h
  traces-of go (p ∷ ps) [] h stands routes fresh = absurd h
  traces-of go (p ∷ ps) (j ∷ js) h stands routes fresh =
      let first = trace_with empty_trace h.0.ran.steps in
      let one = h.0.ran.traces go (routes 0 p refl) empty_trace (stands 0 p refl) (fresh 0 (held_before p) refl) in
      let rest = traces-of go ps js h.1 (λ a c e. stands (suc a) c e) (λ a c e. routes (suc a) c e) (λ a x e. fresh (suc a) x e) in
      (first ∷ rest.0, (one.0, rest.1), bear first rest.0 one.1 rest.2)
    where
      bear : (u : Trace) (us : List Trace) → Bears (held_in j) u → AllBear (map held_in js) (trace_at us)
          → AllBear (map held_in (j ∷ js)) (trace_at (u ∷ us))
      bear u us b all zero x e = subst (λ (z : Hold). Bears z u) (same_Some (held_in j) x e) b
      bear u us b all (suc a) x e = all a x e
