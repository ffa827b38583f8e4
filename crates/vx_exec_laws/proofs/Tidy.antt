-- What a node has given so far is as wide as its columns, and sorted on its claimed order.
use Rattle.vx_rows_values.specs.declared.order.OrderEntry.{OrderEntry}
use Rattle.vx_worker.specs.Fragment.{goes, RunModel, Reads, alone, fragment, FragAbides}
use Rattle.std.proofs.Common.{◌≡◌, ℕ, ◌<◌, ◌==◌, Bool, true, false, ◌&&◌, List, [], ◌∷◌, ◌++◌, map, length, refl, sym, ap, ◌∙◌, subst, arith, append-nil, append_assoc, eqb-true, is_le, ◌||◌}
use Rattle.std.specs.List.{list_all, list_any}
use Rattle.vx_rows_values.specs.Values.{Row, pick}
use Rattle.vx_rows_values.specs.Order.{compare_on, sorted}
use Rattle.vx_plan_nodes.specs.Plan.{Size, ExchangeKind, route_to, round, broadcast, gather, target, Claim, Plan, scan, unary, binary, exchange, size, claim, is_one, size_eq, Part, any, all, concat}
use Rattle.vx_plan_nodes.specs.Types.{width, unary_width, well_formed, names_columns}
use Rattle.vx_plan_nodes.specs.Serial.{binary_rows}
use Rattle.vx_check_rules.specs.Rules.{is_front, allowed, allowed_here, has}
use Rattle.vx_check_rules.specs.Behaviour.{way, bare, over, gives, behaviour}
use Rattle.vx_plan_nodes.specs.Describe.{whole_rows, described}
use Rattle.vx_plan_nodes.specs.Parts.{kind_part}
use Rattle.vx_plan_nodes.specs.Streams.{Streams, workers, bearing, Dealt}
use Rattle.vx_plan_nodes.specs.Routes.{Routing, Sends}
use Rattle.vx_check_rules.specs.Claims.{Given}
use Rattle.vx_ports.specs.Packets.{PacketView, rows_of, Flows}
use Rattle.vx_worker.specs.Morsels.{morsel_of, morsels}
use Rattle.vx_ops.specs.Ledger.{Stream, scan_op}
use Rattle.vx_rows.specs.Lists.{IsBeginning}
use Rattle.vx_exchange_ends.specs.Ship.{Ship, end_to_end, packet_at, IsCutPort}
use Rattle.vx_worker.specs.Trace.{Trace, ReadsBegin, Fate, well, failed, Honest, Ends}
use Rattle.vx_exchange_ends.specs.Tasks.{send}
use Rattle.vx_exec_laws.specs.RunOf.{ship_of, RunOf}
use Rattle.vx_plan_nodes.specs.Numbering.{is_fit}
use Rattle.vx_exec_laws.proofs.Bags.{and-left, and-right, and-both, against, against-none, none-against, Dealt-total, across-ext, across-zero}
use Rattle.vx_exec_laws.proofs.Parts.{size_eq-is, one-worker, list_all-always}
use Rattle.vx_exec_laws.proofs.Orders.{list_all-bearing, list_all-filter, sorted-bearing, sorted-front, Dealt-one}
use Rattle.vx_exec_laws.proofs.Wide.{fit-wide, both-wide}
use Rattle.vx_exec_laws.proofs.JoinOrder.{all-front, wide}
use Rattle.vx_exec_laws.proofs.Operators.{keeps, unary-ordered}
use Rattle.vx_exec_laws.proofs.Places.{at_place, Placed, had-place, shown-placed, unary-places, both-places, both-ordered, made-gives}
use Rattle.vx_exec_laws.proofs.Exchange.{sends-sorted, filter-all}
use Rattle.vx_exec_laws.proofs.OneInput.{tests}
use Rattle.vx_exec_laws.proofs.WellFormed.{well-under, well-both, names}
use Rattle.vx_exec_laws.proofs.Packets.{rows_of-append, rows_of-packets, port-rows}
use Rattle.vx_exec_laws.proofs.Decks.{Drawn, dispatched-drawn}
use Rattle.vx_exec_laws.proofs.Overflows.{reads-begin}
use Rattle.vx_exec_laws.proofs.Concat.{ranged, goes-on-is, exchange-sorted}

abbrev pub Tidy : ℕ → List OrderEntry → List Row → Type 0
Tidy w order xs = (wide w xs ≡ true) × (sorted order xs ≡ true)

pub sorted-left : (order : List OrderEntry) (xs ys : List Row) → sorted order (xs ++ ys) ≡ true → sorted order xs ≡ true
sorted-left order [] ys h = refl
sorted-left order (x ∷ xs) ys h =
    let le : Row → Bool = λ y. is_le (compare_on order x y) in
    and-both (list_all le xs) (sorted order xs) (all-front le xs ys (and-left (list_all le (xs ++ ys)) (sorted order (xs ++ ys)) h))
    (sorted-left order xs ys (and-right (list_all le (xs ++ ys)) (sorted order (xs ++ ys)) h))

pub tidy-left : (w : ℕ) (order : List OrderEntry) (xs ys zs : List Row) → xs ++ ys ≡ zs → Tidy w order zs → Tidy w order xs
tidy-left w order xs ys zs e h =
    let P : List Row → Type 0 = λ l. wide w l ≡ true in
    let Q : List Row → Type 0 = λ l. sorted order l ≡ true in
    (all-front (λ row. length row == w) xs ys (subst P (sym e) h.0), sorted-left order xs ys (subst Q (sym e) h.1))

pub tidy-begins : (w : ℕ) (order : List OrderEntry) (xs zs : List Row) → IsBeginning xs zs → Tidy w order zs → Tidy w order xs
tidy-begins w order xs zs b h = tidy-left w order xs b.rest zs b.joined h

tidy-bearing : (w : ℕ) (order : List OrderEntry) (i : ℕ) (ts : List (ℕ × Row)) → Tidy w order (map (λ t. t.1) ts) → Tidy w order (bearing i ts)
tidy-bearing w order i ts h = (list_all-bearing (λ row. length row == w) i ts h.0, sorted-bearing order i ts h.1)

morsels-append : (f : ℕ → List Row) (ks js : List ℕ) → morsels f (ks ++ js) ≡ morsels f ks ++ morsels f js
morsels-append f [] js = refl
morsels-append f (k ∷ ks) js = ap (λ xs. f k ++ xs) (morsels-append f ks js) ∙ sym (append_assoc (f k) (morsels f ks) (morsels f js))

-- what is sent of rows that all pass a test passes it
pub sends-all : (goes : Routing) (k : ExchangeKind) (n : ℕ) (xs : List Row) (sent : Streams) → Sends goes k n xs sent → (q : Row → Bool) → list_all q xs ≡ true → (j : ℕ) → j < n → list_all q (sent j) ≡ true
sends-all goes (route_to z r cols) n xs sent h q a j l = let P : List Row → Type 0 = λ ys. list_all q ys ≡ true in subst P (h j l) (list_all-filter q _ xs a)
sends-all goes (round z) n xs sent h q a j l =
    let P : List Row → Type 0 = λ ys. list_all q ys ≡ true in subst P (h.lists_are j l) (list_all-bearing q j h.numbered (subst P (sym h.whole) a))
sends-all goes (broadcast z) n xs sent h q a j l = let P : List Row → Type 0 = λ ys. list_all q ys ≡ true in subst P (h j l) a
sends-all goes gather n xs sent h q a j l = let P : List Row → Type 0 = λ ys. list_all q ys ≡ true in subst P (h j l) a
sends-all goes concat n xs sent h q a j l = let P : List Row → Type 0 = λ ys. list_all q ys ≡ true in subst P (h j l) a

dealt-all : (m : ℕ) (xs : List Row) (ls : Streams) → Dealt m xs ls → (q : Row → Bool) → ((i : ℕ) → i < m → list_all q (ls i) ≡ true) → list_all q xs ≡ true
dealt-all m xs ls d q h = none-against q xs (Dealt-total d (against q) ∙ across-ext m _ (λ i. 0) (λ i l. against-none q (ls i) (h i l)) ∙ across-zero m)

pub begins-rows : (ps qs : List PacketView) → IsBeginning ps qs → IsBeginning (rows_of ps) (rows_of qs)
begins-rows ps qs b = record { rest = rows_of b.rest; joined = sym (rows_of-append ps b.rest) ∙ ap rows_of b.joined }

cut-rows : (s : Ship) (j : ℕ) (xs : List Row) (ps : List PacketView) → (h : IsCutPort s j xs ps) → rows_of ps ≡ end_to_end h.parts
cut-rows s j xs ps h =
    ap rows_of (sym h.closed) ∙ rows_of-append (map (packet_at s j) h.parts) _ ∙ append-nil (rows_of (map (packet_at s j) h.parts)) ∙ rows_of-packets s j h.parts

-- what a kind of exchange sends to a consumer stands there
sends-place : (goes : Routing) (k : ExchangeKind) (n : ℕ) (xs : List Row) (sent : Streams) → Sends goes k n xs sent → (j : ℕ) → j < n → Placed goes (kind_part k) n j (sent j)
sends-place goes (route_to z r cols) n xs sent h j l =
    let P : List Row → Type 0 = λ ys. list_all (λ row. goes r (pick cols row) n == j) ys ≡ true in subst P (h j l) (filter-all (λ row. goes r (pick cols row) n == j) xs)
sends-place goes (round z) n xs sent h j l = list_all-always (λ row. true) (λ row. refl) (sent j)
sends-place goes (broadcast z) n xs sent h j l = list_all-always (λ row. true) (λ row. refl) (sent j)
sends-place goes gather n xs sent h j l = list_all-always (λ row. true) (λ row. refl) (sent j)
sends-place goes concat n xs sent h j l = list_all-always (λ row. true) (λ row. refl) (sent j)

-- wide, sorted, and each row at its place
abbrev pub Neat : Routing → Claim → (wd n w : ℕ) → List Row → Type 0
Neat goes c wd n w xs = Tidy wd c.order xs × Placed goes c.part n w xs

pub all-begins : (q : Row → Bool) (xs zs : List Row) → IsBeginning xs zs → list_all q zs ≡ true → list_all q xs ≡ true
all-begins q xs zs b h = let P : List Row → Type 0 = λ l. list_all q l ≡ true in all-front q xs b.rest (subst P (sym b.joined) h)

neat-begins : (goes : Routing) (c : Claim) (wd n w : ℕ) (xs zs : List Row) → IsBeginning xs zs → Neat goes c wd n w zs → Neat goes c wd n w xs
neat-begins goes c wd n w xs zs b h = (tidy-begins wd c.order xs zs b h.0, all-begins (at_place goes c.part n w) xs zs b h.1)

module _ (S : RunModel) (giv : Given S.catalog S.db S.sizes (goes S)) where
  abbrev IsTidy : Plan → (w : ℕ) → List Row → Type 0
  IsTidy p w xs = Neat (goes S) (claim p) (width S.catalog p) (workers S.sizes (size p)) w xs

  -- what one worker of a plan has given so far
  abbrev Gives : Plan → (ℕ → Trace) → ℕ → Type 0
  Gives p ts w = (reads : Reads) → ReadsBegin S (ts w) reads → (out : Stream) → FragAbides (fragment S w p) reads out → IsTidy p w out.rows

  -- what holds of all that a producer sends a consumer, and of each beginning of it, holds of what the consumer has read so far
  pub came-so : (P : List Row → Type 0) → ((xs zs : List Row) → IsBeginning xs zs → P zs → P xs) → (n i : ℕ) (k : ExchangeKind) (p : Plan) (u t : Trace) → Ends S (fragment S i p) (send (ship_of S n i k p)) u
      → (j : ℕ) → j < workers S.sizes (target k)
      → ((reads : Reads) → ReadsBegin S u reads → (out : Stream) → FragAbides (fragment S i p) reads out → (sent : Streams) → Sends (goes S) k (workers S.sizes (target k)) out.rows sent → P (sent j))
      → Flows (u.sent j) (t.came n i) → (seen : List PacketView) → IsBeginning seen (t.came n i) → P (rows_of seen)
  came-so P begins n i k p u t e j b sends f seen s =
      begins (rows_of seen) (rows_of (t.came n i)) (begins-rows seen (t.came n i) s)
      (begins (rows_of (t.came n i)) (rows_of (u.sent j)) (begins-rows (t.came n i) (u.sent j) (record { rest = f.rest; joined = f.begins })) (go e.0 e.1))
    where
      go : (fate : Fate) → Honest S (fragment S i p) (send (ship_of S n i k p)) fate u → P (rows_of (u.sent j))
      go well h =
          subst P (sym (port-rows (ship_of S n i k p) j (h.finished.sent j) (u.sent j) (h.finished.ports j b)))
          (sends h.reads (reads-begin S u h.reads h.reads_are) h.out h.abides h.finished.sent h.finished.sends)
      go (failed x) h =
          let c = h.stopped.ports j b in
          subst P (sym (cut-rows (ship_of S n i k p) j (h.stopped.sent j) (u.sent j) c))
          (begins (end_to_end c.parts) (h.stopped.sent j) c.begins (sends h.reads h.reads_begin h.out h.abides h.stopped.sent h.stopped.sends))

  -- what a consumer has read of a producer so far is as tidy as there, and stands where the exchange sends it
  pub came-tidy : (n : ℕ) (i : ℕ) (k : ExchangeKind) (p : Plan) (us ts : ℕ → Trace) → Gives p us i → Ends S (fragment S i p) (send (ship_of S n i k p)) (us i)
      → (j : ℕ) → j < workers S.sizes (target k) → Flows ((us i).sent j) ((ts j).came n i) → (seen : List PacketView) → IsBeginning seen ((ts j).came n i)
      → IsTidy p i (rows_of seen) × Placed (goes S) (kind_part k) (workers S.sizes (target k)) j (rows_of seen)
  came-tidy n i k p us ts gives e j b f seen s =
      let m : ℕ = workers S.sizes (target k) in
      came-so (λ xs. IsTidy p i xs × Placed (goes S) (kind_part k) m j xs)
      (λ xs zs g h. (neat-begins (goes S) (claim p) (width S.catalog p) (workers S.sizes (size p)) i xs zs g h.0, all-begins (at_place (goes S) (kind_part k) m j) xs zs g h.1))
      n i k p (us i) (ts j) e j b
      (λ reads r out a sent h.
      let t = gives reads r out a in (
        (
          (sends-all (goes S) k m out.rows sent h (λ row. length row == width S.catalog p) t.0.0 j b, sends-sorted (goes S) k m out.rows sent h (claim p).order t.0.1 j b),
          sends-all (goes S) k m out.rows sent h (at_place (goes S) (claim p).part (workers S.sizes (size p)) i) t.1 j b,
        ),
        sends-place (goes S) k m out.rows sent h j b,
      ))
      f seen s

  -- a part that is made where it is
  made-place : (z : Size) (p q : Part) (w : ℕ) → w < workers S.sizes z → (xs : List Row) → Placed (goes S) p (workers S.sizes z) w xs
      → (is_one z || list_any (λ v. gives v q) (way whole_rows (bare p ∷ []) ∷ [])) ≡ true → Placed (goes S) q (workers S.sizes z) w xs
  made-place z p q w l xs at e = had-place (goes S) giv.in_range (is_one z) p q (workers S.sizes z) w (one-worker S.sizes z) l xs at (made-gives (is_one z) p q e)

  -- what holds of a relation, of each beginning of it and of the rows that are dealt to each worker, holds of what a scan has given so far
  pub scan-so : (P : List Row → Type 0) → ((xs zs : List Row) → IsBeginning xs zs → P zs → P xs) → ((i : ℕ) (ts : List (ℕ × Row)) → P (map (λ t. t.1) ts) → P (bearing i ts))
      → (n r i : ℕ) (t : Trace) → (S.relation_of n == r) ≡ true → P (S.db r) → Drawn S.morsel (S.db r) i (t.drew n).numbers
      → (reads : Reads) → ReadsBegin S t reads → (out : Stream) → FragAbides (alone n scan_op) reads out → P out.rows
  scan-so P begins dealt n r i t fit has d reads begin out h =
      let drawn : P (morsels (morsel_of S.morsel (S.db r)) (t.drew n).numbers) = subst P d.drawn (dealt i d.tags (begins (map (λ t. t.1) d.tags) (S.db r) (record { rest = d.rest; joined = d.begins }) has)) in
      let b = begin.scanned n in
      let f : ℕ → List Row = morsel_of S.morsel (S.db r) in
      let R : ℕ → Type 0 = λ k. (reads.scanned n).rows ≡ morsels (morsel_of S.morsel (S.db k)) b.numbers in
      let heard : h.0.left.rows ≡ morsels f b.numbers = ap (λ (s : Stream). s.rows) h.1.scanned ∙ subst R (eqb-true (S.relation_of n) r fit) b.rows in
      let some : P (morsels f b.numbers) = begins (morsels f b.numbers) (morsels f (t.drew n).numbers)
      (record { rest = morsels f b.begins.rest; joined = sym (morsels-append f b.numbers b.begins.rest) ∙ ap (morsels f) b.begins.joined }) drawn in
      let k = h.2.before in
      let input : P k.inputs.left.rows = begins k.inputs.left.rows h.0.left.rows k.begins.left (subst P (sym heard) some) in
      let Q : Stream → Type 0 = λ s. P s.rows in
      subst Q h.3 (begins h.0.gave.rows k.whole k.gave (subst P (sym k.makes) input))

  scan-tidy : (n : ℕ) (c : Claim) (r : ℕ) (m : Bool) (z : Size) → (S.relation_of n == r) ≡ true → is_front c.order (S.catalog r).order ≡ true
      → (w i : ℕ) (t : Trace) → Drawn S.morsel (S.db r) i (t.drew n).numbers
      → (reads : Reads) → ReadsBegin S t reads → (out : Stream) → FragAbides (fragment S w (scan n c r m z)) reads out → Tidy (length (S.catalog r).types) c.order out.rows
  scan-tidy n c r m z fit up w i t d reads begin out h =
      let wd : ℕ = length (S.catalog r).types in
      scan-so (Tidy wd c.order) (tidy-begins wd c.order) (tidy-bearing wd c.order) n r i t fit
      (fit-wide (S.catalog r).types (S.db r) (giv.meets r).fit, sorted-front c.order (S.catalog r).order up (S.db r) (giv.meets r).order) d reads begin out h

  pub tidy : (p : Plan) → is_fit S.relation_of p ≡ true → well_formed S.catalog p ≡ true → allowed S.catalog p ≡ true
      → (ts : ℕ → Trace) → RunOf S (Ends S) p ts → (w : ℕ) → w < workers S.sizes (size p) → Gives p ts w
  tidy (scan n c r true z) fit wf ok ts run w l reads begin out h =
      let t = tests S.catalog (scan n c r true z) ok in
      (scan-tidy n c r true z fit t.5 w w (ts w) (dispatched-drawn S.morsel (S.db r) _ (workers S.sizes z) (λ v. (ts v).drew n) run w l) reads begin out h, made-place z any c.part w l out.rows (list_all-always (λ row. true) (λ row. refl) out.rows) t.4)
  tidy (scan n c r false z) fit wf ok ts run w l reads begin out h =
      let t = tests S.catalog (scan n c r false z) ok in
      (scan-tidy n c r false z fit t.5 w 0 (ts w) (dispatched-drawn S.morsel (S.db r) _ 1 (λ v. (ts w).drew n) (run w l) 0 (omega arith)) reads begin out h, made-place z all c.part w l out.rows (list_all-always (λ row. true) (λ row. refl) out.rows) t.4)
  tidy (unary n c op p) fit wf ok ts run w l reads begin out h =
      let here : Bool = allowed_here S.catalog (unary n c op p) in
      let wd : ℕ = width S.catalog p in
      let t = tests S.catalog (unary n c op p) (and-right (allowed S.catalog p) here ok) in
      let left = tidy p fit (well-under S.catalog n c op p wf).0 (and-left (allowed S.catalog p) here ok) ts run w l reads begin h.0.left h.1 in
      let k = h.2.before in
      let n0 : ℕ = workers S.sizes (size p) in
      let input = neat-begins (goes S) (claim p) wd n0 w k.inputs.left.rows h.0.left.rows k.begins.left left in
      let whole : Neat (goes S) c (unary_width op wd) n0 w k.whole
      = (
        ((keeps op).wide_as wd k.inputs.left.rows k.whole k.makes input.0.0, unary-ordered S.catalog n c op p t.5 k.inputs.left.rows k.whole k.makes input.0.1),
        shown-placed (goes S) giv.in_range (is_one (size p)) (over (described op) p).ways c.part n0 w (one-worker S.sizes (size p)) l k.whole
            (unary-places (goes S) op p n0 w k.inputs.left.rows k.whole k.makes
            (λ q e. had-place (goes S) giv.in_range (is_one (size p)) (claim p).part q n0 w (one-worker S.sizes (size p)) l k.inputs.left.rows input.1 e)) t.4,
      ) in
      let Q : Stream → Type 0 = λ s. Neat (goes S) c (unary_width op wd) n0 w s.rows in
      subst Q h.3 (neat-begins (goes S) c (unary_width op wd) n0 w h.0.gave.rows k.whole k.gave whole)
  tidy (binary n c op p q) fit wf ok ts run w l reads begin out h =
      let here : Bool = allowed_here S.catalog (binary n c op p q) in
      let rest = and-right (allowed S.catalog p) (allowed S.catalog q && here) ok in
      let same : size p ≡ size q = size_eq-is (size p) (size q) (and-left (size_eq (size p) (size q)) _ fit) in
      let fits = and-right (size_eq (size p) (size q)) (is_fit S.relation_of p && is_fit S.relation_of q) fit in
      let P : Size → Type 0 = λ z. w < workers S.sizes z in
      let wp = (well-both S.catalog n c op p q wf).0 in
      let t = tests S.catalog (binary n c op p q) (and-right (allowed S.catalog q) here rest) in
      let nm = names S.catalog p wp in
      let n0 : ℕ = workers S.sizes (size p) in
      let left = tidy p (and-left (is_fit S.relation_of p) (is_fit S.relation_of q) fits) wp (and-left (allowed S.catalog p) (allowed S.catalog q && here) ok) ts run.0 w l reads begin h.0.left h.1 in
      let right = tidy q (and-right (is_fit S.relation_of p) (is_fit S.relation_of q) fits) (well-both S.catalog n c op p q wf).1 (and-left (allowed S.catalog q) here rest) ts run.1 w (subst P same l) reads begin h.0.right h.2 in
      let k = h.3.before in
      let ls = neat-begins (goes S) (claim p) (width S.catalog p) (workers S.sizes (size p)) w k.inputs.left.rows h.0.left.rows k.begins.left left in
      let rs = neat-begins (goes S) (claim q) (width S.catalog q) (workers S.sizes (size q)) w k.inputs.right.rows h.0.right.rows k.begins.right right in
      let R : List Row → Type 0 = λ xs. IsTidy (binary n c op p q) w xs in
      let Q : Stream → Type 0 = λ s. IsTidy (binary n c op p q) w s.rows in
      subst Q h.4 (neat-begins (goes S) c (width S.catalog (binary n c op p q)) (workers S.sizes (size p)) w h.0.gave.rows k.whole k.gave
      (subst R k.makes (
        (
          both-wide S.catalog n c op p q wf k.inputs.left.rows k.inputs.right.rows ls.0.0 rs.0.0,
          both-ordered S.catalog n c op p q nm t.5 k.inputs.left.rows k.inputs.right.rows ls.0.0 ls.0.1,
        ),
        shown-placed (goes S) giv.in_range (is_one (size p)) (behaviour S.catalog (binary n c op p q)).ways c.part n0 w (one-worker S.sizes (size p)) l (binary_rows op k.inputs.left.rows k.inputs.right.rows)
            (both-places (goes S) S.catalog n c op p q n0 w k.inputs.left.rows k.inputs.right.rows nm ls.0.0 ls.1 (here_too same k.inputs.right.rows rs.1)
            (at_left k.inputs.left.rows ls.1) (at_right same k.inputs.right.rows rs.1)) t.4,
      )))
    where
      at_left : (ls : List Row) → Placed (goes S) (claim p).part (workers S.sizes (size p)) w ls → (x : Part) → has p x ≡ true → Placed (goes S) x (workers S.sizes (size p)) w ls
      at_left ls a x e = had-place (goes S) giv.in_range (is_one (size p)) (claim p).part x (workers S.sizes (size p)) w (one-worker S.sizes (size p)) l ls a e

      here_too : size p ≡ size q → (rs : List Row) → Placed (goes S) (claim q).part (workers S.sizes (size q)) w rs → Placed (goes S) (claim q).part (workers S.sizes (size p)) w rs
      here_too same rs b = let P : Size → Type 0 = λ z. Placed (goes S) (claim q).part (workers S.sizes z) w rs in subst P (sym same) b

      at_right : size p ≡ size q → (rs : List Row) → Placed (goes S) (claim q).part (workers S.sizes (size q)) w rs → (x : Part) → has q x ≡ true → Placed (goes S) x (workers S.sizes (size p)) w rs
      at_right same rs b x e =
          had-place (goes S) giv.in_range (is_one (size q)) (claim q).part x (workers S.sizes (size p)) w (λ o. ap (workers S.sizes) same ∙ one-worker S.sizes (size q) o) l rs (here_too same rs b) e
  tidy (exchange n c k merge p) fit wf ok ts run w l reads begin out h =
      let here : Bool = allowed_here S.catalog (exchange n c k merge p) in
      let m : ℕ = workers S.sizes (size p) in
      let wd : ℕ = width S.catalog p in
      let t = tests S.catalog (exchange n c k merge p) (and-right (allowed S.catalog p) here ok) in
      let b = h.2.before in
      let n0 : ℕ = workers S.sizes (target k) in
      let lists : (i : ℕ) → i < m → IsTidy p i (rows_of (b.inputs.came i)) × Placed (goes S) (kind_part k) n0 w (rows_of (b.inputs.came i)) = λ i a.
      let seen : h.0.came i ≡ reads.came n i = ap (λ (g : ℕ → List PacketView). g i) h.1.came in
      let P : List PacketView → Type 0 = λ ps. IsTidy p i (rows_of ps) × Placed (goes S) (kind_part k) n0 w (rows_of ps) in
      let came = subst P (sym seen) (came-tidy n i k p run.0 ts
      (tidy p fit (and-left (well_formed S.catalog p) (names_columns (width S.catalog p) c) wf) (and-left (allowed S.catalog p) here ok) run.0 run.1 i a)
      (run.2 i a) w l (run.3 i w a l) (reads.came n i) (begin.came n i)) in (
        neat-begins (goes S) (claim p) wd m i (rows_of (b.inputs.came i)) (rows_of (h.0.came i)) (b.begins.came i) came.0,
        all-begins (at_place (goes S) (kind_part k) n0 w) (rows_of (b.inputs.came i)) (rows_of (h.0.came i)) (b.begins.came i) came.1,
      ) in
      let whole_wide : wide wd b.whole ≡ true = dealt-all m b.whole (λ i. rows_of (b.inputs.came i)) b.makes.0 (λ row. length row == wd) (λ i a. (lists i a).0.0.0) in
      let whole_place : Placed (goes S) c.part n0 w b.whole
      = made-place (target k) (kind_part k) c.part w l b.whole (dealt-all m b.whole (λ i. rows_of (b.inputs.came i)) b.makes.0 (at_place (goes S) (kind_part k) n0 w) (λ i a. (lists i a).1)) t.4 in
      let whole_sorted : sorted c.order b.whole ≡ true = exchange-sorted p k merge c.order b.whole t.5 b.makes.1
      (λ o.
      let e = one-worker S.sizes (size p) o in
      let D : ℕ → Type 0 = λ a. Dealt a b.whole (λ i. rows_of (b.inputs.came i)) in
      let N : ℕ → Type 0 = λ a. 0 < a in
      let is : b.whole ≡ rows_of (b.inputs.came 0) = Dealt-one (subst D e b.makes.0) in
      let Q : List Row → Type 0 = λ xs. sorted (claim p).order xs ≡ true in
      subst Q (sym is) (lists 0 (subst N (sym e) (omega arith))).0.0.1)
      (λ g.
      let r = goes-on-is k (claim p) g in
      let Q : List Row → Type 0 = λ xs. sorted (claim p).order xs ≡ true in
      subst Q (b.makes.2 r.0) (ranged (goes S) giv.rising (claim p).part (claim p).order m (λ i. rows_of (b.inputs.came i)) r.1 (λ i a. (lists i a).0.0.1) (λ i a. (lists i a).0.1))) in
      let Q : Stream → Type 0 = λ s. Neat (goes S) c wd n0 w s.rows in
      subst Q h.3 (neat-begins (goes S) c wd n0 w h.0.gave.rows b.whole b.gave ((whole_wide, whole_sorted), whole_place))
