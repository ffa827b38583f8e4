-- The rows that a worker has given so far meet the facts of its node, also where workers were cut short.
use Rattle.std.proofs.Common.{◌≡◌, ℕ, ◌<◌, ◌==◌, Bool, true, false, cond, ◌&&◌, List, [], ◌∷◌, map, length, sym, ap, subst, arith}
use Rattle.std.specs.List.{AllByRecursion}
use Rattle.vx_rows_values.specs.Values.{Row}
use Rattle.vx_plan_nodes.specs.Plan.{Size, target, Plan, scan, unary, binary, exchange, size, size_eq}
use Rattle.vx_plan_nodes.specs.Types.{width}
use Rattle.vx_plan_nodes.specs.Numbering.{is_fit}
use Rattle.vx_plan_nodes.specs.Streams.{workers, bearing}
use Rattle.vx_plan_facts.specs.RowFacts.{all_inputs_fit, inputs_fit, EachMeets, EachWide, MeetsAt}
use Rattle.vx_plan_facts.proofs.RowFacts.{fits-wide, scan-meets, unary-meets, binary-meets, exchange-meets}
use Rattle.vx_plan_facts.proofs.EachRow.{each-front, each-shuffled}
use Rattle.vx_check_rules.specs.Claims.{Given}
use Rattle.vx_ports.specs.Packets.{PacketView, rows_of}
use Rattle.vx_ops.specs.Ledger.{Stream, scan_op}
use Rattle.vx_rows.specs.Lists.{IsBeginning}
use Rattle.vx_worker.specs.Fragment.{goes, RunModel, Reads, alone, fragment, FragAbides}
use Rattle.vx_worker.specs.Trace.{Trace, ReadsBegin, Ends}
use Rattle.vx_exec_laws.specs.RunOf.{RunOf}
use Rattle.vx_exec_laws.specs.DerivedFaults.{RowsSoFarMeet}
use Rattle.vx_exec_laws.proofs.Bags.{and-left, and-right}
use Rattle.vx_exec_laws.proofs.Parts.{size_eq-is}
use Rattle.vx_exec_laws.proofs.Settings.{set-given}
use Rattle.vx_exec_laws.proofs.Decks.{Drawn, dispatched-drawn}
use Rattle.vx_exec_laws.proofs.DerivedStreams.{sent-each}
use Rattle.vx_exec_laws.proofs.Tidy.{came-so, scan-so}

pub each-begins : (P : Row → Type 0) (xs zs : List Row) → IsBeginning xs zs → AllByRecursion P zs → AllByRecursion P xs
each-begins P xs zs b h = each-front P xs b.rest (subst (AllByRecursion P) (sym b.joined) h)

pub each-bearing : (P : Row → Type 0) (i : ℕ) (ts : List (ℕ × Row)) → AllByRecursion P (map (λ t. t.1) ts) → AllByRecursion P (bearing i ts)
each-bearing P i [] h = h
each-bearing P i (t ∷ ts) h = go (t.0 == i) (each-bearing P i ts h.1)
  where
    go : (b : Bool) → AllByRecursion P (bearing i ts) → AllByRecursion P (cond b (t.1 ∷ bearing i ts) (bearing i ts))
    go true r = (h.0, r)
    go false r = r

module _ (S : RunModel) (giv : Given S.catalog S.db S.sizes (goes S)) where
  -- what one worker of a plan has given so far
  abbrev Meeting : Plan → (ℕ → Trace) → ℕ → Type 0
  Meeting p ts w = (reads : Reads) → ReadsBegin S (ts w) reads → (out : Stream) → FragAbides (fragment S w p) reads out → EachMeets S.catalog p out.rows

  scan-wide : (n r i : ℕ) (t : Trace) → (S.relation_of n == r) ≡ true → Drawn S.morsel (S.db r) i (t.drew n).numbers
      → (reads : Reads) → ReadsBegin S t reads → (out : Stream) → FragAbides (alone n scan_op) reads out → EachWide (length (S.catalog r).types) out.rows
  scan-wide n r i t fit d reads begin out h =
      let W : Row → Type 0 = λ row. length row ≡ length (S.catalog r).types in
      scan-so S giv (AllByRecursion W) (each-begins W) (each-bearing W) n r i t fit (fits-wide (S.catalog r).types (S.db r) (giv.meets r).fit) d reads begin out h

  pub meeting : (p : Plan) → is_fit S.relation_of p ≡ true → all_inputs_fit S.catalog p ≡ true
      → (ts : ℕ → Trace) → RunOf S (Ends S) p ts → (w : ℕ) → w < workers S.sizes (size p) → Meeting p ts w
  meeting (scan n c r true z) fit ins ts run w l reads begin out h =
      scan-meets S.catalog n c r true z out.rows
      (scan-wide n r w (ts w) fit (dispatched-drawn S.morsel (S.db r) _ (workers S.sizes z) (λ v. (ts v).drew n) run w l) reads begin out h)
  meeting (scan n c r false z) fit ins ts run w l reads begin out h =
      scan-meets S.catalog n c r false z out.rows
      (scan-wide n r 0 (ts w) fit (dispatched-drawn S.morsel (S.db r) _ 1 (λ v. (ts w).drew n) (run w l) 0 (omega arith)) reads begin out h)
  meeting (unary n c op p) fit ins ts run w l reads begin out h =
      let P : Row → Type 0 = MeetsAt S.catalog p in
      let N : Row → Type 0 = MeetsAt S.catalog (unary n c op p) in
      let k = h.2.before in
      let input = each-begins P k.inputs.left.rows h.0.left.rows k.begins.left (meeting p fit ins ts run w l reads begin h.0.left h.1) in
      let Q : Stream → Type 0 = λ s. AllByRecursion N s.rows in
      subst Q h.3 (each-begins N h.0.gave.rows k.whole k.gave (unary-meets S.catalog n c op p k.inputs.left.rows k.whole k.makes input))
  meeting (binary n c op p q) fit ins ts run w l reads begin out h =
      let fp : Bool = all_inputs_fit S.catalog p in
      let fq : Bool = all_inputs_fit S.catalog q in
      let here : Bool = inputs_fit (width S.catalog p) (width S.catalog q) op in
      let later = and-right fp (fq && here) ins in
      let same : size p ≡ size q = size_eq-is (size p) (size q) (and-left (size_eq (size p) (size q)) _ fit) in
      let fits = and-right (size_eq (size p) (size q)) (is_fit S.relation_of p && is_fit S.relation_of q) fit in
      let L : Size → Type 0 = λ z. w < workers S.sizes z in
      let left = meeting p (and-left (is_fit S.relation_of p) (is_fit S.relation_of q) fits) (and-left fp (fq && here) ins) ts run.0 w l reads begin h.0.left h.1 in
      let right = meeting q (and-right (is_fit S.relation_of p) (is_fit S.relation_of q) fits) (and-left fq here later) ts run.1 w (subst L same l) reads begin h.0.right h.2 in
      let k = h.3.before in
      let ls = k.inputs.left.rows in
      let rs = k.inputs.right.rows in
      let N : Row → Type 0 = MeetsAt S.catalog (binary n c op p q) in
      let whole = subst (AllByRecursion N) k.makes
      (binary-meets S.catalog n c op p q (and-right fq here later) ls rs
      (each-begins (MeetsAt S.catalog p) ls h.0.left.rows k.begins.left left) (each-begins (MeetsAt S.catalog q) rs h.0.right.rows k.begins.right right)) in
      let Q : Stream → Type 0 = λ s. AllByRecursion N s.rows in
      subst Q h.4 (each-begins N h.0.gave.rows k.whole k.gave whole)
  meeting (exchange n c k merge p) fit ins ts run w l reads begin out h =
      let P : Row → Type 0 = MeetsAt S.catalog p in
      let b = h.2.before in
      let lists : (i : ℕ) → i < workers S.sizes (size p) → AllByRecursion P (rows_of (b.inputs.came i)) = λ i a.
      let seen : h.0.came i ≡ reads.came n i = ap (λ (g : ℕ → List PacketView). g i) h.1.came in
      let R : List PacketView → Type 0 = λ ps. AllByRecursion P (rows_of ps) in
      let came = came-so S giv (AllByRecursion P) (each-begins P) n i k p (run.0 i) (ts w) (run.2 i a) w l
      (λ r begins o abides sent x. sent-each P (goes S) k (workers S.sizes (target k)) o.rows sent x (meeting p fit ins run.0 run.1 i a r begins o abides) w l)
      (run.3 i w a l) (reads.came n i) (begin.came n i) in
      each-begins P (rows_of (b.inputs.came i)) (rows_of (h.0.came i)) (b.begins.came i) (subst R (sym seen) came) in
      let whole = exchange-meets S.catalog n c k merge p b.whole (each-shuffled P (workers S.sizes (size p)) b.whole (λ i. rows_of (b.inputs.came i)) b.makes.0 lists) in
      let N : Row → Type 0 = MeetsAt S.catalog (exchange n c k merge p) in
      let Q : Stream → Type 0 = λ s. AllByRecursion N s.rows in
      subst Q h.3 (each-begins N h.0.gave.rows b.whole b.gave whole)

pub rows-so-far-meet : RowsSoFarMeet
rows-so-far-meet S set p fit ins ts run w l = meeting S (set-given S set) p fit ins ts run w l
