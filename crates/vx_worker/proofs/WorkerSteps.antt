-- The steps of a worker: what stands before one stands after it.
use Rattle.std.proofs.Common.{ℕ, ◌≡◌, ◌⊎◌, inl, inr, refl, sym, ap, ◌∙◌, subst, List, [], Option, Some, None, Bool, true, false, Ok}
use Rattle.std.specs.List.{All}
use Rattle.std.specs.Prelude.{IfSome}
use Rattle.vx_rows_values.specs.Values.{Row}
use Rattle.vx_rows_values.specs.declared.value.ColType.{ColType}
use Rattle.vx_plan_nodes.specs.Routes.{Routing}
use Rattle.vx_ports.specs.Packets.{PacketView, closes}
use Rattle.vx_ops.specs.Ledger.{Stream, Ledger, Op, Abides, fresh}
use Rattle.vx_ops.specs.Turn.{Shape, heard}
use Rattle.vx_ops.specs.declared.fault.Fault.{Fault}
use Rattle.vx_ops.specs.declared.fault.StreamState.TheVariants as stream_state
use Rattle.vx_ops.specs.declared.turn.Want.{Want}
use Rattle.vx_ops.specs.declared.turn.Got.{Got}
use Rattle.vx_ops.specs.declared.turn.Polled.{Polled}
use Rattle.vx_ops.specs.declared.turn.Polled.TheVariants as polled
use Rattle.vx_exchange_ends.specs.Tasks.{Task, Post, post_types, Finished, BeganSending, IsAt}
use Rattle.vx_exchange_ends.proofs.Parts.{begun-without-last, fault-stops}
use Rattle.vx_worker.specs.Fragment.{Frag, Reads, FragAbides}
use Rattle.vx_worker.specs.Trace.{Event, idle, drew_one, took_one, put_one, Trace, added, empty_trace, ReadsBeginOf, IsNoMemory, HasFailedBy}
use Rattle.vx_worker.specs.Trees.{shape, TreeStands}
use Rattle.vx_worker.specs.Wishes.{Numbered, tree_want, read, fresh_reads, tree_types, TreeTyped}
use Rattle.vx_worker.specs.Intake.{IsRead, IsTake, IntakeStands, Answers, Fetches, has_met_end}
use Rattle.vx_worker.specs.Worker.{with_pending, with_all, closing_of, outcome_in, outcome_of, IsReady, IsReadyIn, IsGoing, IsClosing, OperatorsStand, EndedWell, IsRunning, StandsIn, WorkerStands, EndsAs}
use Rattle.vx_worker.specs.declared.tree.Tree.{Tree}
use Rattle.vx_worker.specs.declared.wish.Wish.{Wish}
use Rattle.vx_worker.specs.declared.intake.Intake.{Intake}
use Rattle.vx_worker.specs.declared.worker.Worker.{Worker}
use Rattle.vx_worker.specs.declared.worker.WorkerOutcome.{WorkerOutcome}
use Rattle.vx_worker.specs.declared.worker.WorkerOutcome.TheVariants as worker_outcome
use Rattle.vx_worker.specs.declared.worker.WorkerState.{WorkerState}
use Rattle.vx_worker.specs.declared.worker.WorkerState.TheVariants.{Running, Failing, Draining, Well, Failed}
use Rattle.vx_worker.proofs.Trees.{tree-abides}
use Rattle.vx_worker.proofs.Reading.{reads-more, ended-more, reads-whole, reads-before, reads-later}
use Rattle.vx_worker.proofs.Stopping.{with-closing, closing-closes}

-- a draw or a take leaves what was put
pub sent-same : (k : Intake) (t : Trace) (e : Event) → IsRead k e → (added t e).sent ≡ t.sent
sent-same k t idle h = refl
sent-same k t (drew_one n d) h = refl
sent-same k t (took_one x i o) h = refl
sent-same k t (put_one j p) h = elim h [ ]

take-same : (t : Trace) (e : Event) → IsTake e → (added t e).sent ≡ t.sent
take-same t idle h = refl
take-same t (drew_one n d) h = elim h [ ]
take-same t (took_one x i o) h = refl
take-same t (put_one j p) h = elim h [ ]

-- a worker that failed did so also after it took and dropped one more packet
pub failed-later : (m : ℕ → ℕ → List Row) (goes : Routing) (f : Frag) (task : Task) (x : Fault) (t : Trace) (e : Event) → IsTake e → HasFailedBy m goes f task x t
    → HasFailedBy m goes f task x (added t e)
failed-later m goes f task x t e is h = record {
  reads = h.reads;
  reads_begin = reads-later m t h.reads e is h.reads_begin;
  out = h.out;
  abides = h.abides;
  why = h.why;
  stopped = subst (λ put. Rattle.vx_exchange_ends.specs.Tasks.Stopped goes task h.out.rows put) (sym (take-same t e is)) h.stopped;
}

-- and its operators stand as they did
pub operators-later : {O : Type 0} (OS : O → Ledger → Type 0) (m : ℕ → ℕ → List Row) (tree : Tree O) (t : Trace) (e : Event) → IsTake e → OperatorsStand OS m tree t → OperatorsStand OS m tree (added t e)
operators-later OS m tree t e is h = record { reads = h.reads; reads_begin = reads-later m t h.reads e is h.reads_begin; out = h.out; tree_stands = h.tree_stands }

-- it holds packets that close, and nothing else
pub closing-fails : {O S : Type 0} (w : Worker O S) (p : Post) → w.pending ≡ None → w.closing.items ≡ closing_of p → IsClosing w
closing-fails w p pending closing = record {
  closing = subst (λ ps. All (λ (q : PacketView). closes q.content ≡ true) ps) (sym closing) (closing-closes p);
  pending = λ x e. let none : None ≡ Some x = sym pending ∙ e in cc;
}

module _ {O S : Type 0} (types : O → Shape) (post : S → Post) (is_open has_closed : S → Bool) (m : ℕ → List ColType) where
  pub going-of : (w : Worker O S) → w.phase ≡ Running → IsReady types post is_open has_closed m w → IsGoing post is_open has_closed w
  going-of w phase h = subst (λ x. IsReadyIn post is_open has_closed x w) phase h.phase

  -- a worker that begins to fail is ready to close its ports
  pub ready-fails : (w v : Worker O S) (f : Fault) (tree : Tree O) (s : S) → v.phase ≡ Failing f → v.pending ≡ None → v.closing.items ≡ w.closing.items → v.tree ≡ tree → v.sender ≡ s
      → TreeTyped types m tree → tree_types types tree ≡ tree_types types w.tree → post s ≡ post w.sender
      → IsGoing post is_open has_closed w → tree_types types w.tree ≡ post_types (post w.sender) → IsReady types post is_open has_closed m v
  ready-fails w v f tree s phase pending closing here sender typed same posts going sends = record {
    typed = subst (λ z. TreeTyped types m z) (sym here) typed;
    sends = ap (tree_types types) here ∙ same ∙ sends ∙ sym (ap post_types (ap post sender ∙ posts));
    phase = subst (λ x. IsReadyIn post is_open has_closed x v) (sym phase) (closing-fails v (post w.sender) pending (closing ∙ going.closing));
  }

  -- one that goes on is ready to go on
  pub ready-runs : (w v : Worker O S) → v.phase ≡ Running → v.pending ≡ None → v.closing.items ≡ w.closing.items
      → TreeTyped types m v.tree → tree_types types v.tree ≡ tree_types types w.tree → post v.sender ≡ post w.sender → (v.is_over ≡ false → is_open v.sender ≡ true)
      → IsGoing post is_open has_closed w → tree_types types w.tree ≡ post_types (post w.sender) → IsReady types post is_open has_closed m v
  ready-runs w v phase pending closing typed same posts opens going sends = record {
    typed = typed;
    sends = same ∙ sends ∙ sym (ap post_types posts);
    phase = subst (λ x. IsReadyIn post is_open has_closed x v) (sym phase) (record {
      opens = opens;
      closing = closing ∙ going.closing ∙ ap closing_of (sym posts);
      pending = λ x e. let none : None ≡ Some x = sym pending ∙ e in cc;
    });
  }

module _ {O S : Type 0} (OS : O → Ledger → Type 0) (op : O → Op) (SS : S → Routing → Stream → (ℕ → List PacketView) → Type 0) (task : S → Task) (goes : Routing) (m : ℕ → ℕ → List Row) where
  -- of a worker that has not failed
  pub running : (w : Worker O S) (t : Trace) → w.phase ≡ Running → WorkerStands OS op SS task goes m w t → IsRunning OS op SS task goes m w t
  running w t phase h = subst (λ x. StandsIn OS op SS task goes m x w t) phase h.1

  -- nothing was read, and nothing put
  pub begins : (w : Worker O S) (low high : ℕ) → w.phase ≡ Running → w.pending ≡ None → w.is_over ≡ false → IntakeStands w.intake empty_trace → Numbered low high w.tree
      → TreeStands OS w.tree fresh_reads fresh → SS w.sender goes fresh (λ _. []) → WorkerStands OS op SS task goes m w empty_trace
  begins w low high phase pending over intake numbered tree sender = (
    intake,
    subst (λ x. StandsIn OS op SS task goes m x w empty_trace) (sym phase) (record {
      reads = fresh_reads;
      reads_are = record { scanned = λ n. record { rows = refl; ended = λ e. cc; never_fails = λ f e. cc }; came = λ n. refl };
      ended = λ n e. cc;
      low = low;
      high = high;
      numbered = numbered;
      out = fresh;
      tree = tree;
      sender = subst (λ x. SS w.sender goes fresh (with_pending (λ _. []) x)) (sym pending) sender;
      is_over = λ e. let off : false ≡ true = sym over ∙ e in cc;
    }),
  )

  -- a worker that begins to fail: what it read before is a beginning of what was drawn and taken, and what it put a beginning of what its rows send
  pub fails : (w : Worker O S) (f : Fault) (p : Post) (t : Trace) (reads : Reads) (out : Stream)
      → w.phase ≡ Failing f → w.pending ≡ None → w.closing.items ≡ closing_of p → IsAt p (task w.sender)
      → IntakeStands w.intake t → ReadsBeginOf m t reads → FragAbides (shape op w.tree) reads out → (out.over ≡ stream_state.Failed f) ⊎ IsNoMemory f
      → BeganSending goes (task w.sender) out.rows t.sent → OperatorsStand OS m w.tree t → WorkerStands OS op SS task goes m w t
  fails w f p t reads out phase pending closing at intake begin abides why begun operators = (
    intake,
    subst (λ x. StandsIn OS op SS task goes m x w t) (sym phase) (
      record {
        reads = reads;
        reads_begin = record { scanned = begin.scanned; came = begin.came };
        out = out;
        abides = abides;
        why = why;
        stopped = fault-stops goes (task w.sender) out.rows t.sent (with_all (with_pending t.sent w.pending) w.closing.items)
            (λ j. ap (λ (x : Option (ℕ × PacketView)). with_all (with_pending t.sent x) w.closing.items j) pending ∙ ap (λ ps. with_all t.sent ps j) closing
            ∙ with-closing p (task w.sender) at t.sent j)
            begun;
      },
      operators,
    ),
  )

  -- the operators did not see the draw or the take
  pub unturned : (w : Worker O S) (tree : Tree O) (t : Trace) (e : Event) → tree ≡ w.tree → IsRead w.intake e → IsRunning OS op SS task goes m w t → OperatorsStand OS m tree (added t e)
  unturned w tree t e same is h = record {
    reads = h.reads;
    reads_begin = reads-before m w.intake t h.reads e is h.ended h.reads_are;
    out = h.out;
    tree_stands = subst (λ x. TreeStands OS x h.reads h.out) (sym same) h.tree;
  }

  -- they saw it, and took a turn
  pub turned : {E : Type 0} → (want : O → Want) → (w : Worker O S) (k : Intake) (tree next : Tree O) (t : Trace) (e : Event) (x : Wish) (g : Got) (a : Polled)
      → tree ≡ next → x ≡ tree_want want w.tree → Fetches {E = E} m w.intake k x (Ok g) e → IntakeStands w.intake t
      → ((low high : ℕ) (r : Reads) (out : Stream) → Numbered low high w.tree → TreeStands OS w.tree r out → TreeStands OS next (read r (tree_want want w.tree) g) (heard out a))
      → IsRunning OS op SS task goes m w t → OperatorsStand OS m tree (added t e)
  turned want w k tree next t e x g a same wish fetched intake stands h =
      let y = tree_want want w.tree in
      let answers : Answers m w.intake k y g e = subst (λ z. Answers m w.intake k z g e) wish fetched.answers in
      record {
        reads = read h.reads y g;
        reads_begin = reads-whole m (added t e) (read h.reads y g) (reads-more m w.intake k t h.reads y g e answers intake.scans h.reads_are);
        out = heard h.out a;
        tree_stands = subst (λ z. TreeStands OS z (read h.reads y g) (heard h.out a)) (sym same) (stands h.low h.high h.reads h.out h.numbered h.tree);
      }

  -- memory was refused after a draw or a take that the tree did not see
  pub loses : ((o : O) (l : Ledger) → OS o l → Abides (op o) l) → (w v : Worker O S) (f : Fault) (p : Post) (t : Trace) (e : Event)
      → v.phase ≡ Failing f → v.pending ≡ None → v.closing.items ≡ closing_of p → IsAt p (task v.sender) → shape op v.tree ≡ shape op w.tree → IsNoMemory f
      → IntakeStands v.intake (added t e) → IsRead w.intake e → w.pending ≡ None
      → ((a : Stream) (g : ℕ → List PacketView) → SS w.sender goes a g → BeganSending goes (task v.sender) a.rows g)
      → (IsRunning OS op SS task goes m w t → OperatorsStand OS m v.tree (added t e))
      → IsRunning OS op SS task goes m w t → WorkerStands OS op SS task goes m v (added t e)
  loses abides w v f p t e phase pending closing at same why intake is empty begun operators h =
      fails v f p (added t e) h.reads h.out phase pending closing at intake (reads-before m w.intake t h.reads e is h.ended h.reads_are)
      (subst (λ x. FragAbides x h.reads h.out) (sym same) (tree-abides OS op abides w.tree h.reads h.out h.tree)) (inr why)
      (subst (λ g. BeganSending goes (task v.sender) h.out.rows g) (ap (λ (x : Option (ℕ × PacketView)). with_pending t.sent x) empty ∙ sym (sent-same w.intake t e is))
      (begun h.out (with_pending t.sent w.pending) h.sender)) (operators h)

  -- memory was refused to a put
  pub refused : ((o : O) (l : Ledger) → OS o l → Abides (op o) l) → (w v : Worker O S) (f : Fault) (p : Post) (t : Trace) (to : ℕ) (packet : PacketView)
      → v.phase ≡ Failing f → v.pending ≡ None → v.closing.items ≡ closing_of p → IsAt p (task v.sender) → v.tree ≡ w.tree → IsNoMemory f
      → IntakeStands v.intake t → w.pending ≡ Some (to, packet)
      → ((a : Stream) (g : ℕ → List PacketView) → SS w.sender goes a g → BeganSending goes (task v.sender) a.rows g)
      → IsRunning OS op SS task goes m w t → WorkerStands OS op SS task goes m v t
  refused abides w v f p t to packet phase pending closing at same why intake here begun h =
      fails v f p t h.reads h.out phase pending closing at intake (reads-whole m t h.reads h.reads_are)
      (subst (λ x. FragAbides (shape op x) h.reads h.out) (sym same) (tree-abides OS op abides w.tree h.reads h.out h.tree)) (inr why)
      (begun-without-last goes (task v.sender) h.out.rows t.sent to packet
      (subst (λ x. BeganSending goes (task v.sender) h.out.rows (with_pending t.sent x)) here (begun h.out (with_pending t.sent w.pending) h.sender)))
      (record {
        reads = h.reads;
        reads_begin = reads-whole m t h.reads h.reads_are;
        out = h.out;
        tree_stands = subst (λ x. TreeStands OS x h.reads h.out) (sym same) h.tree;
      })

  -- the tree's top gave a fault
  pub gives-fault : {E : Type 0} → ((o : O) (l : Ledger) → OS o l → Abides (op o) l) → (want : O → Want) → (w v : Worker O S) (k : Intake) (tree : Tree O) (f : Fault) (p : Post) (t : Trace) (e : Event)
      (x : Wish) (g : Got) → v.phase ≡ Failing f → v.pending ≡ None → v.closing.items ≡ closing_of p → IsAt p (task v.sender) → v.tree ≡ tree → v.intake ≡ k
      → x ≡ tree_want want w.tree → Fetches {E = E} m w.intake k x (Ok g) e → IntakeStands w.intake t
      → ((low high : ℕ) (r : Reads) (out : Stream) → Numbered low high w.tree → TreeStands OS w.tree r out
      → TreeStands OS tree (read r (tree_want want w.tree) g) (heard out (polled.Fault f)))
      → w.pending ≡ None → ((a : Stream) (g : ℕ → List PacketView) → SS w.sender goes a g → BeganSending goes (task v.sender) a.rows g)
      → IsRunning OS op SS task goes m w t → WorkerStands OS op SS task goes m v (added t e)
  gives-fault abides want w v k tree f p t e x g phase pending closing at same sameIntake wish fetched intake stands empty begun h =
      let y = tree_want want w.tree in
      let answers : Answers m w.intake k y g e = subst (λ z. Answers m w.intake k z g e) wish fetched.answers in
      fails v f p (added t e) (read h.reads y g) (heard h.out (polled.Fault f)) phase pending closing at
      (subst (λ z. IntakeStands z (added t e)) (sym sameIntake) (fetched.stands t intake))
      (reads-whole m (added t e) (read h.reads y g) (reads-more m w.intake k t h.reads y g e answers intake.scans h.reads_are))
      (subst (λ z. FragAbides (shape op z) (read h.reads y g) (heard h.out (polled.Fault f))) (sym same)
      (tree-abides OS op abides tree (read h.reads y g) (heard h.out (polled.Fault f)) (stands h.low h.high h.reads h.out h.numbered h.tree))) (inl refl)
      (subst (λ g. BeganSending goes (task v.sender) h.out.rows g) (ap (λ (x : Option (ℕ × PacketView)). with_pending t.sent x) empty ∙ sym (sent-same w.intake t e fetched.is_read))
      (begun h.out (with_pending t.sent w.pending) h.sender)) (turned want w k v.tree tree t e x g (polled.Fault f) same wish fetched intake stands h)

  -- the tree turned, and the sending end accepted what its top gave
  pub turns : {E : Type 0} → (want : O → Want) → (w v : Worker O S) (t : Trace) (e : Event) (x : Wish) (g : Got) (a : Polled)
      → v.phase ≡ Running → v.pending ≡ None → x ≡ tree_want want w.tree → Fetches {E = E} m w.intake v.intake x (Ok g) e → IntakeStands w.intake t
      → ((low high : ℕ) → Numbered low high w.tree → Numbered low high v.tree)
      → ((low high : ℕ) (r : Reads) (out : Stream) → Numbered low high w.tree → TreeStands OS w.tree r out → TreeStands OS v.tree (read r (tree_want want w.tree) g) (heard out a))
      → w.pending ≡ None → ((s : Stream) (put : ℕ → List PacketView) → SS w.sender goes s put → SS v.sender goes (heard s a) put)
      → ((s : Stream) → v.is_over ≡ true → (heard s a).over ≡ stream_state.Ended)
      → IsRunning OS op SS task goes m w t → WorkerStands OS op SS task goes m v (added t e)
  turns want w v t e x g a phase pending wish fetched intake numbered stands empty accepts ends h =
      let y = tree_want want w.tree in
      let answers : Answers m w.intake v.intake y g e = subst (λ z. Answers m w.intake v.intake z g e) wish fetched.answers in (
        fetched.stands t intake,
        subst (λ z. StandsIn OS op SS task goes m z v (added t e)) (sym phase) (record {
          reads = read h.reads y g;
          reads_are = reads-more m w.intake v.intake t h.reads y g e answers intake.scans h.reads_are;
          ended = ended-more m w.intake v.intake h.reads y g e answers fetched.ended h.ended;
          low = h.low;
          high = h.high;
          numbered = numbered h.low h.high h.numbered;
          out = heard h.out a;
          tree = stands h.low h.high h.reads h.out h.numbered h.tree;
          sender = subst (λ put. SS v.sender goes (heard h.out a) put)
              (ap (λ (z : Option (ℕ × PacketView)). with_pending t.sent z) empty ∙ sym (sent-same w.intake t e fetched.is_read)
              ∙ ap (λ (z : Option (ℕ × PacketView)). with_pending (added t e).sent z) (sym pending))
              (accepts h.out (with_pending t.sent w.pending) h.sender);
          is_over = ends h.out;
        }),
      )

  -- the sending end was asked: what was put and what is here is what it gave
  pub asked : (w v : Worker O S) (t : Trace) → w.phase ≡ Running → v.phase ≡ Running → v.tree ≡ w.tree → v.is_over ≡ w.is_over → v.intake ≡ w.intake
      → ((s : Stream) → SS w.sender goes s (with_pending t.sent w.pending) → SS v.sender goes s (with_pending t.sent v.pending))
      → WorkerStands OS op SS task goes m w t → WorkerStands OS op SS task goes m v t
  asked w v t runs phase tree over intake sends h =
      let r = running w t runs h in (
        subst (λ k. IntakeStands k t) (sym intake) h.0,
        subst (λ x. StandsIn OS op SS task goes m x v t) (sym phase) (record {
          reads = r.reads;
          reads_are = r.reads_are;
          ended = λ n o. subst (λ k. has_met_end k n ≡ true) (sym intake) (r.ended n o);
          low = r.low;
          high = r.high;
          numbered = subst (λ z. Numbered r.low r.high z) (sym tree) r.numbered;
          out = r.out;
          tree = subst (λ z. TreeStands OS z r.reads r.out) (sym tree) r.tree;
          sender = sends r.out r.sender;
          is_over = λ e. r.is_over (sym over ∙ e);
        }),
      )

  -- nothing is left to put after the end
  pub ends-well : ((o : O) (l : Ledger) → OS o l → Abides (op o) l) → (w : Worker O S) (s : S) (t : Trace) → w.pending ≡ None → w.is_over ≡ true
      → ((a : Stream) (g : ℕ → List PacketView) → SS w.sender goes a g → a.over ≡ stream_state.Ended → Finished goes (task s) a.rows g)
      → IsRunning OS op SS task goes m w t → EndedWell OS op goes m w.tree (task s) t
  ends-well abides w s t empty o drained h = (
    record {
      reads = h.reads;
      reads_are = h.reads_are;
      out = h.out;
      abides = tree-abides OS op abides w.tree h.reads h.out h.tree;
      ended = h.is_over o;
      finished = subst (λ x. Finished goes (task s) h.out.rows (with_pending t.sent x)) empty (drained h.out (with_pending t.sent w.pending) h.sender (h.is_over o));
    },
    h.tree,
  )

  -- a worker that has ended did so as its trace says
  ended-in : (w : Worker O S) (t : Trace) (x : WorkerState) (o : WorkerOutcome) → Some o ≡ outcome_in x → StandsIn OS op SS task goes m x w t → EndsAs op task goes m o w t
  ended-in w t Running o e h = let none : Some o ≡ None = e in cc
  ended-in w t (Failing f) o e h = let none : Some o ≡ None = e in cc
  ended-in w t (Draining f) o e h = let none : Some o ≡ None = e in cc
  ended-in w t Well o e h = let same : o ≡ worker_outcome.Well = cc in subst (λ z. EndsAs op task goes m z w t) (sym same) h.0
  ended-in w t (Failed f) o e h = let same : o ≡ worker_outcome.Failed f = cc in subst (λ z. EndsAs op task goes m z w t) (sym same) (h.0, h.2)

  pub ended : (w : Worker O S) (t : Trace) (o : WorkerOutcome) → Some o ≡ outcome_of w → WorkerStands OS op SS task goes m w t → EndsAs op task goes m o w t
  ended w t o e h = ended-in w t w.phase o e h.1

-- the same of how it ended, if it has
pub ended-if : {O S : Type 0} (OS : O → Ledger → Type 0) (op : O → Op) (SS : S → Routing → Stream → (ℕ → List PacketView) → Type 0) (task : S → Task) (m : ℕ → ℕ → List Row) (w : Worker O S) (o : Option WorkerOutcome)
    → o ≡ outcome_of w → IfSome o (λ x. (goes : Routing) (t : Trace) → WorkerStands OS op SS task goes m w t → EndsAs op task goes m x w t)
ended-if OS op SS task m w None e = tt
ended-if OS op SS task m w (Some x) e = λ goes t h. ended OS op SS task goes m w t x e h
