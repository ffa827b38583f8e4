-- What was drawn or taken as a tree wished, and what a turn with it costs.
use Rattle.std.proofs.Common.{ℕ, ◌≡◌, ◌+◌, ◌≤◌, ◌==◌, cond, inl, inr, refl, sym, ap, ◌∙◌, subst, arith, le_refl, List, length, Option, Some, None}
use Rattle.std.proofs.lemmas.Bool.Decides.{eqb_tells}
use Rattle.vx_rows_values.specs.Values.{Row}
use Rattle.vx_plan_nodes.specs.Routes.{Routing}
use Rattle.vx_ports.specs.Packets.{PacketView, is_closed}
use Rattle.vx_ops.specs.Ledger.{Stream, Ledger, Op}
use Rattle.vx_ops.specs.Turn.{Coming, IsWithin, Pays, own_turn, packet_rows, with_more}
use Rattle.vx_ops.specs.declared.turn.Want.{Want}
use Rattle.vx_ops.specs.declared.turn.Got.{Got}
use Rattle.vx_ops.specs.declared.turn.Got.TheVariants as got
use Rattle.vx_ops.specs.declared.turn.Polled.{Polled}
use Rattle.vx_ops.specs.declared.turn.Polled.TheVariants as polled
use Rattle.vx_ops.proofs.Costs.{pays-within}
use Rattle.vx_exchange_ends.specs.Tasks.{Task}
use Rattle.vx_worker.specs.Fragment.{Frag, Reads}
use Rattle.vx_worker.specs.Trace.{Event, idle, drew_one, took_one, Trace, ReadsAreOf}
use Rattle.vx_worker.specs.Trees.{shape, TreeStands, IsFormed, ScansAt, TakesFrom, LeavesComing, IsWithinLeaves, tree_most, tree_idle}
use Rattle.vx_worker.specs.Wishes.{WishOpen, tree_want, with_read}
use Rattle.vx_worker.specs.Intake.{IsWished, Answers}
use Rattle.vx_worker.specs.Worker.{WorkerStands}
use Rattle.vx_worker.specs.Remaining.{before_event, arrivals, EventFits}
use Rattle.vx_worker.specs.declared.intake.Intake.{Intake}
use Rattle.vx_worker.specs.declared.tree.Tree.{Tree}
use Rattle.vx_worker.specs.declared.wish.Wish.{Wish}
use Rattle.vx_worker.specs.declared.wish.Wish.TheVariants as wish
use Rattle.vx_worker.specs.declared.worker.Worker.{Worker}
use Rattle.vx_worker.specs.declared.worker.WorkerState.TheVariants.{Running}
use Rattle.vx_worker.proofs.TreeCosts.{more-than, within-self, tree-most-grows, tree-idle-grows}
use Rattle.vx_worker.proofs.WorkerSteps.{running}

-- what a tree that runs wishes for is open
wish-fits : (m : ℕ → ℕ → List Row) (f : Frag) (inputs : List (ℕ × ℕ)) (t : Trace) (r : Reads) (x : Wish) (e : Event) → IsWished x e → WishOpen x f r → ReadsAreOf m t r → EventFits f inputs t e
wish-fits m f inputs t r x idle h o reads = tt
wish-fits m f inputs t r (wish.Morsel k) (drew_one j d) h o reads = subst (λ z. ScansAt z f) (sym h) o.0
wish-fits m f inputs t r (wish.Packet k i) (took_one j from p) h o reads = (
  inl (subst (λ z. TakesFrom z from f) (sym h.0) (subst (λ z. TakesFrom k z f) (sym h.1) o.0)),
  ap (λ z. is_closed (t.came z from)) h.0 ∙ ap (λ z. is_closed (t.came k z)) h.1 ∙ ap (λ (g : ℕ → List PacketView). is_closed (g i)) (sym (reads.came k)) ∙ o.1,
  h.2,
)
wish-fits m f inputs t r x e h o reads = elim h [ ]

pub pull-fits : {O S : Type 0} (OS : O → Ledger → Type 0) (op : O → Op) (SS : S → Routing → Stream → (ℕ → List PacketView) → Type 0) (task : S → Task) (goes : Routing) (m : ℕ → ℕ → List Row)
    (w : Worker O S) (inputs : List (ℕ × ℕ)) (t : Trace) (x : Wish) (e : Event) → w.phase ≡ Running → IsWished x e
    → ((r : Reads) (out : Stream) → IsFormed (shape op w.tree) → TreeStands OS w.tree r out → WishOpen x (shape op w.tree) r)
    → IsFormed (shape op w.tree) → WorkerStands OS op SS task goes m w t → EventFits (shape op w.tree) inputs t e
pull-fits OS op SS task goes m w inputs t x e runs wished open' formed h =
    let r = running OS op SS task goes m w t runs h in wish-fits m (shape op w.tree) inputs t r.reads x e wished (open' r.reads r.out formed r.tree) r.reads_are

no-more : (k j : ℕ) (f : ℕ → ℕ) → with_more k 0 f j ≤ f j
no-more k j f = elim (eqb_tells j k) [ inl e ↦ rw e.0 (omega arith) | inr e ↦ rw e.0 (omega arith) ]

-- what was given came by the event
before-within : (m : ℕ → ℕ → List Row) (old new : Intake) (x : Wish) (g : Got) (e : Event) → Answers m old new x g e → (c : LeavesComing) → IsWithinLeaves (with_read x g c) (before_event m e c)
before-within m old new wish.Nothing got.Nothing idle a c = within-self c
before-within m old new (wish.Morsel k) (got.Input polled.End) idle a c = record { scanned = λ j. no-more k j c.scanned; came = λ j i. le_refl (c.came j i) }
before-within m old new (wish.Morsel k) (got.Input polled.End) (drew_one j None) a c = record { scanned = λ i. no-more k i c.scanned; came = λ i z. le_refl (c.came i z) }
before-within m old new (wish.Morsel k) (got.Input (polled.Gave t)) (drew_one j (Some n)) a c = record {
  scanned = λ i.
      let q : with_more k (length t.rows) c.scanned i ≡ with_more j (length (m j n)) c.scanned i =
      ap (λ z. with_more k (length z) c.scanned i) a.1 ∙ ap (λ z. with_more z (length (m z n)) c.scanned i) (sym a.0) in
      omega (arith, q);
  came = λ i z. le_refl (c.came i z);
}
before-within m old new (wish.Morsel k) (got.Input polled.Waiting) (drew_one j (Some n)) a c = record {
  scanned = λ i. let p = no-more k i c.scanned in let q = more-than j (length (m j n)) i c.scanned in omega (arith, p, q);
  came = λ i z. le_refl (c.came i z);
}
before-within m old new (wish.Packet k i) (got.Packet o) (took_one j h p) a c = record {
  scanned = λ i. le_refl (c.scanned i);
  came = λ y z.
      let f : ℕ → ℕ → Option PacketView → ℕ = λ u v s. cond (y == u) (with_more v (packet_rows s) (c.came y)) (c.came y) z in
      let q : f k i o ≡ f j h p = ap (λ u. f u i o) (sym a.0) ∙ ap (λ u. f j u o) (sym a.1) ∙ ap (λ u. f j h u) (sym a.2) in
      omega (arith, q);
}
before-within m old new x g e a c = elim a [ ]

-- something came, or the turn is the tree's own
pub came-or-own : (m : ℕ → ℕ → List Row) (old new : Intake) (x : Wish) (g : Got) (e : Event) → Answers m old new x g e → (g ≡ got.Packet None → ⊥) → 1 ≤ own_turn g + arrivals e
came-or-own m old new wish.Nothing got.Nothing idle a some = omega arith
came-or-own m old new (wish.Morsel k) (got.Input polled.End) idle a some = omega arith
came-or-own m old new (wish.Morsel k) (got.Input polled.End) (drew_one j None) a some = omega arith
came-or-own m old new (wish.Morsel k) (got.Input (polled.Gave t)) (drew_one j (Some n)) a some = omega arith
came-or-own m old new (wish.Morsel k) (got.Input polled.Waiting) (drew_one j (Some n)) a some = omega arith
came-or-own m old new (wish.Packet k i) (got.Packet None) (took_one j h p) a some = absurd (some refl)
came-or-own m old new (wish.Packet k i) (got.Packet (Some q)) (took_one j h p) a some = rw a.2 (le_refl 1)
came-or-own m old new x g e a some = elim a [ ]

module _ {O : Type 0} (most idle_turns : O → Coming → ℕ) (most-grows : (o : O) (a b : Coming) → IsWithin a b → most o a ≤ most o b)
    (idle-grows : (o : O) (a b : Coming) → IsWithin a b → idle_turns o a ≤ idle_turns o b) where
  -- a turn is paid by what might have come before its event
  pub turn-pays : (want : O → Want) (m : ℕ → ℕ → List Row) (old new : Intake) (x : Wish) (g : Got) (e : Event) (a : Polled) (t t' : Tree O) → x ≡ tree_want want t → Answers m old new x g e
      → ((c : LeavesComing) → Pays (own_turn g) (tree_most most t (with_read (tree_want want t) g c)) (tree_idle most idle_turns t (with_read (tree_want want t) g c))
      (tree_most most t' c) (tree_idle most idle_turns t' c) a)
      → (c : LeavesComing) → Pays (own_turn g) (tree_most most t (before_event m e c)) (tree_idle most idle_turns t (before_event m e c)) (tree_most most t' c) (tree_idle most idle_turns t' c) a
  turn-pays want m old new x g e a t t' same answers pays c =
      let y = tree_want want t in
      let d = with_read y g c in
      let b = before_event m e c in
      let within = before-within m old new y g e (subst (λ z. Answers m old new z g e) same answers) c in
      pays-within (own_turn g) (own_turn g) (tree_most most t b) (tree_idle most idle_turns t b) (tree_most most t d) (tree_idle most idle_turns t d) (tree_most most t' c) (tree_idle most idle_turns t' c) a
      (le_refl (own_turn g)) (tree-most-grows most idle_turns most-grows t d b within) (tree-idle-grows most idle_turns most-grows idle-grows t d b within) (pays c)
