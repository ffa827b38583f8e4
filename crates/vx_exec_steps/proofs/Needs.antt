-- At any moment of a run: how many rows, morsels and packets came to each worker at most, and so how many steps all workers needed.
use Rattle.std.proofs.Common.{ℕ, zero, suc, ◌≡◌, ◌<◌, ◌≤◌, ◌+◌, ◌-◌, ◌*◌, ◌==◌, ◌&&◌, Bool, true, false, cond, List, [], ◌∷◌, ◌++◌, length, drop, sym, ap, ◌∙◌, subst, arith, length-append, length-take, length-drop, le_refl, eqb-true}
use Rattle.std.proofs.Math.Path.{fun_ext}
use Rattle.std.proofs.Math.Nat.{mul-le-mul_left, mul-le-mul_right, mul-div-le}
use Rattle.std.proofs.lemmas.Nat.{mul-le}
use Rattle.vx_rows_values.specs.declared.order.OrderEntry.{OrderEntry}
use Rattle.vx_rows_values.specs.Values.{Row}
use Rattle.vx_plan_nodes.specs.Plan.{ExchangeKind, Claim, Plan, scan, unary, binary, exchange, Binary, union, join, semi_join, size, size_eq, target}
use Rattle.vx_plan_nodes.specs.Streams.{workers}
use Rattle.vx_plan_nodes.specs.Workers.{workers_below, crew_size}
use Rattle.vx_plan_nodes.specs.Numbering.{is_fit}
use Rattle.vx_ports.specs.Packets.{rows_of, is_closed}
use Rattle.vx_morsel.specs.Draws.{Draws, Rises}
use Rattle.vx_ops.specs.Ledger.{two_op}
use Rattle.vx_ops.specs.Turn.{sum_below}
use Rattle.vx_exchange_ends.specs.Queued.{consumers_of}
use Rattle.vx_worker.specs.Morsels.{morsel_of, morsel_count, morsels}
use Rattle.vx_worker.specs.Fragment.{RunModel, IsSet, Frag, both, fragment}
use Rattle.vx_worker.specs.Trace.{Trace, scan_morsels}
use Rattle.vx_worker.specs.Trees.{LeavesComing}
use Rattle.vx_worker.specs.Worker.{Role}
use Rattle.vx_worker.specs.Remaining.{frag_most, frag_idle}
use Rattle.vx_exec_layout.specs.Needed.{most_rows, most_turns, worker_steps, steps_below, rounds_needed}
use Rattle.vx_exec_steps.specs.Scans.{hand_in}
use Rattle.vx_exec_steps.specs.LinksView.{LinksView, station_at, queue_at}
use Rattle.vx_exec_steps.specs.Agrees.{trace_at, AllUnder, HasDealt, Agrees}
use Rattle.vx_exec_steps.specs.Roles.{IsRoot, RolesBelow, IsShared, IsWhole, Wired}
use Rattle.vx_exec_steps.specs.declared.station.Station.{Station}
use Rattle.vx_exec_steps.specs.declared.station.Station.TheVariants.{Inner, Exchange, Shared, Whole}
use Rattle.vx_exec_laws.proofs.Bags.{and-left, and-right}
use Rattle.vx_exec_steps.proofs.Arrivals.{after_trace, arrived, AreFewPackets, rows-both}
use Rattle.vx_exec_steps.proofs.FlatRuns.{le-left, le-right, lt-first}
use Rattle.vx_exec_steps.proofs.Origins.{same-size}

-- a morsel is full, or it is the last of the relation's rows
morsel-length : (m : ℕ) (xs : List Row) (k : ℕ) → length (morsel_of m xs k) ≤ m
morsel-length m xs k = let a = length-take m (drop (k * m) xs) in omega (arith, a)

morsel-rest : (m : ℕ) (xs : List Row) (k : ℕ) → length (morsel_of m xs k) ≤ length xs - k * m
morsel-rest m xs k = let a = length-take m (drop (k * m) xs) in let b = length-drop (k * m) xs in omega (arith, a, b)

-- rows of morsels whose numbers rise are no more than the relation has from the first of them on
rising-rows : (m : ℕ) (xs : List Row) (k : ℕ) (ks : List ℕ) → Rises (k ∷ ks) → length (morsels (morsel_of m xs) (k ∷ ks)) ≤ length xs - k * m
rising-rows m xs k [] h =
    let a = length-append (morsel_of m xs k) [] in
    let b = morsel-rest m xs k in
    omega (arith, a, b)
rising-rows m xs k (j ∷ ks) h =
    let a = length-append (morsel_of m xs k) (morsels (morsel_of m xs) (j ∷ ks)) in
    let b = morsel-rest m xs k in
    let c = morsel-length m xs k in
    let d = rising-rows m xs j ks h.1 in
    let above : k < j = h.0.0 in
    let e : (k + 1) * m ≤ j * m = mul-le-mul_right m (omega (arith, above)) in
    omega (arith, a, b, c, d, e)

drawn-rows : (m : ℕ) (xs : List Row) (ks : List ℕ) → Rises ks → length (morsels (morsel_of m xs) ks) ≤ length xs
drawn-rows m xs [] h = omega arith
drawn-rows m xs (k ∷ ks) h = let a = rising-rows m xs k ks h in omega (arith, a)

-- each morsel has a row
some-row : (m : ℕ) (xs : List Row) (k : ℕ) → 0 < m → k < morsel_count m (length xs) → 0 < length (morsel_of m xs k)
some-row m xs k some l =
    let a = length-take m (drop (k * m) xs) in
    let b = length-drop (k * m) xs in
    let c : m * (k + 1) ≤ m * morsel_count m (length xs) = mul-le-mul_left m (omega (arith, l)) in
    let d = mul-div-le (length xs + (m - 1)) m in
    omega (arith, a, b, c, d, some)

drawn-few : (m : ℕ) (xs : List Row) (ks : List ℕ) → 0 < m → AllUnder (morsel_count m (length xs)) ks → length ks ≤ length (morsels (morsel_of m xs) ks)
drawn-few m xs [] some h = le_refl 0
drawn-few m xs (k ∷ ks) some h =
    let a = length-append (morsel_of m xs k) (morsels (morsel_of m xs) ks) in
    let b = some-row m xs k some h.0 in
    let c = drawn-few m xs ks some h.1 in
    omega (arith, a, b, c)

under-more : (n m : ℕ) (ys : List ℕ) → n ≤ m → AllUnder n ys → AllUnder m ys
under-more n m [] l h = tt
under-more n m (y ∷ ys) l h = let a = h.0 in (omega (arith, l, a), under-more n m ys l h.1)

-- what one worker drew of so many morsels
record DrewOf (m : ℕ) (d : Draws) : Type 0 where
  rise : Rises d.numbers
  under : AllUnder m d.numbers

shared-drew : (st : Station) (top count m : ℕ) (drew : ℕ → Draws) → IsShared top count m st → HasDealt st drew → (i : ℕ) → i < count → DrewOf m (drew (top + i))
shared-drew Inner top count m drew s h i l = absurd s
shared-drew (Exchange x y) top count m drew s h i l = absurd s
shared-drew (Whole z) top count m drew s h i l = absurd s
shared-drew (Shared z) top count m drew s h i l =
    let within : i < z.workers = subst (λ k. i < k) (sym s.1) l in
    let P : ℕ → Type 0 = λ k. DrewOf m (drew (k + i)) in
    subst P s.0 (record {
      rise = h.rise i within;
      under = under-more z.deck.next m (drew (z.first + i)).numbers (subst (λ k. z.deck.next ≤ k) s.2 h.most) (h.under i within);
    })

whole-drew : (st : Station) (top count m : ℕ) (drew : ℕ → Draws) → IsWhole top count m st → HasDealt st drew → (i : ℕ) → i < count → DrewOf m (drew (top + i))
whole-drew Inner top count m drew s h i l = absurd s
whole-drew (Exchange x y) top count m drew s h i l = absurd s
whole-drew (Shared z) top count m drew s h i l = absurd s
whole-drew (Whole z) top count m drew s h i l =
    let within : i < length z.hands = subst (λ k. i < k) (sym s.1) l in
    let P : ℕ → Type 0 = λ k. DrewOf m (drew (k + i)) in
    let d = (h i within).drew in
    subst P s.0 (record {
      rise = d.rise 0 (omega arith);
      under = under-more (hand_in z.hands i).next m (drew (z.first + i)).numbers (subst (λ k. (hand_in z.hands i).next ≤ k) (s.2 i l) d.most) (d.under 0 (omega arith));
    })

-- sums of numbers that have a bound, and of the numbers of two parts
sum-most : (n : ℕ) (f : ℕ → ℕ) (k : ℕ) → ((i : ℕ) → i < n → f i ≤ k) → sum_below n f ≤ n * k
sum-most zero f k h = omega arith
sum-most (suc n) f k h =
    let a = sum-most n f k (λ i l. h i (omega (arith, l))) in
    let b = h n (omega arith) in
    omega (arith, a, b)

sum-parts : (a b : ℕ) (f : ℕ → ℕ) → sum_below (a + b) f ≡ sum_below a f + sum_below b (λ i. f (a + i))
sum-parts a zero f = let e : a + 0 ≡ a = omega arith in ap (λ z. sum_below z f) e ∙ (let s : sum_below a f ≡ sum_below a f + 0 = omega arith in s)
sum-parts a (suc b) f =
    let e : a + suc b ≡ suc (a + b) = omega arith in
    let s = sum-parts a b f in
    ap (λ z. sum_below z f) e ∙ (let t : sum_below (a + b) f + f (a + b) ≡ sum_below a f + (sum_below b (λ i. f (a + i)) + f (a + b)) = omega (arith, s) in t)

sum-behind : (a b next : ℕ) (f : ℕ → ℕ) → sum_below (a + b) (λ i. f (next + i)) ≡ sum_below a (λ i. f (next + i)) + sum_below b (λ i. f (next + a + i))
sum-behind a b next f =
    sum-parts a b (λ i. f (next + i))
    ∙ ap (λ (g : ℕ → ℕ). sum_below a (λ i. f (next + i)) + sum_below b g) (fun_ext (λ i. ap f (let e : next + (a + i) ≡ next + a + i = omega arith in e)))

one-most : (b : Bool) → cond b 1 0 ≤ 1
one-most true = omega arith
one-most false = omega arith

-- nothing more may come
abbrev pub no-more : LeavesComing
no-more = record { scanned = λ k. 0; came = λ x i. 0 }

-- what came to a fragment of the plan p is no more than the plan lets come
pub record IsWithinNeeds (S : RunModel) (m : ℕ → ℕ → List Row) (p : Plan) (f : Frag) (t : Trace) : Type 0 where
  pub rows : frag_most f (after_trace m t no-more) ≤ most_rows S.db S.sizes p
  pub turns : frag_idle f (after_trace m t no-more) + arrived f t ≤ most_turns S.db S.sizes p

-- a scan, of which these morsels were drawn
scan-needs : (S : RunModel) (m : ℕ → ℕ → List Row) (n r : ℕ) (d : Draws) → m ≡ scan_morsels S → 0 < S.morsel → (S.relation_of n == r) ≡ true
    → DrewOf (morsel_count S.morsel (length (S.db r))) d → (length (morsels (m n) d.numbers) ≤ length (S.db r)) × (length d.numbers ≤ length (S.db r))
scan-needs S m n r d em some fit h =
    let xs = S.db r in
    let f : m n ≡ morsel_of S.morsel xs = ap (λ z. z n) em ∙ ap (λ z. morsel_of S.morsel (S.db z)) (eqb-true (S.relation_of n) r fit) in
    let a = drawn-rows S.morsel xs d.numbers h.rise in
    let b = drawn-few S.morsel xs d.numbers some h.under in
    (subst (λ z. length (morsels z d.numbers) ≤ length xs) (sym f) a, omega (arith, a, b))

-- an operator over two inputs
two-needs : (S : RunModel) (m : ℕ → ℕ → List Row) (n : ℕ) (c : Claim) (op : Binary) (p q : Plan) (f h : Frag) (t : Trace) → IsWithinNeeds S m p f t → IsWithinNeeds S m q h t
    → IsWithinNeeds S m (binary n c op p q) (both (two_op n op) f h) t
two-needs S m n c op p q f h t a b = record { rows = rows op; turns = turns }
  where
    rows : (op : Binary) → frag_most (both (two_op n op) f h) (after_trace m t no-more) ≤ most_rows S.db S.sizes (binary n c op p q)
    rows union = let x = a.rows in let y = b.rows in omega (arith, x, y)
    rows (join method on) = mul-le (frag_most f (after_trace m t no-more)) (frag_most h (after_trace m t no-more)) (most_rows S.db S.sizes p) (most_rows S.db S.sizes q) a.rows b.rows
    rows (semi_join matched on conditions) = a.rows

    turns : frag_idle (both (two_op n op) f h) (after_trace m t no-more) + arrived (both (two_op n op) f h) t ≤ most_turns S.db S.sizes (binary n c op p q)
    turns =
        let x = a.rows in
        let y = b.rows in
        let u = a.turns in
        let v = b.turns in
        omega (arith, x, y, u, v)

-- traces that agree with the board, of workers that have these roles, took few packets, and put no more rows than their operators may return
module _ (S : RunModel) (set : IsSet S) (m : ℕ → ℕ → List Row) (em : m ≡ scan_morsels S) (w : LinksView) (ts : List Trace) (agrees : Agrees w ts) (roles : ℕ → Role) (total : ℕ)
    (few : (a : ℕ) → a < total → (x i : ℕ) → AreFewPackets ((trace_at ts a).came x i))
    (sends : (a : ℕ) → a < total → (j : ℕ) → length (rows_of ((trace_at ts a).sent j)) ≤ frag_most (roles a).frag (after_trace m (trace_at ts a) no-more)) where
  -- what came to a consumer end, where this came to the producers below it
  exchange-needs : (n : ℕ) (c : Claim) (k : ExchangeKind) (merge : List OrderEntry) (p : Plan) (top next i : ℕ) → Wired S w (exchange n c k merge p) top next → RolesBelow S roles (exchange n c k merge p) next
      → next + (workers S.sizes (size p) + workers_below S.sizes p) ≤ total → top + i < total
      → ((j : ℕ) → j < workers S.sizes (size p) → IsWithinNeeds S m p (fragment S j p) (trace_at ts (next + j)))
      → IsWithinNeeds S m (exchange n c k merge p) (fragment S i (exchange n c k merge p)) (trace_at ts (top + i))
  exchange-needs n c k merge p top next i wired rb le here below = record {
    rows = sum-most (workers S.sizes (size p)) (λ j. 0 + length (rows_of ((trace_at ts (top + i)).came n j))) (most_rows S.db S.sizes p) (λ j l. let a = rows j l in omega (arith, a));
    turns = let a = sum-most (workers S.sizes (size p)) (λ j. length ((trace_at ts (top + i)).came n j)) (most_rows S.db S.sizes p + 1) packets in omega (arith, a);
  }
    where
      -- from one producer
      rows : (j : ℕ) → j < workers S.sizes (size p) → length (rows_of ((trace_at ts (top + i)).came n j)) ≤ most_rows S.db S.sizes p
      rows j l =
          let t = trace_at ts (top + i) in
          let u = trace_at ts (next + j) in
          let at = lt-first next (workers S.sizes (size p)) (workers_below S.sizes p) total j le l in
          let put : length (rows_of (u.sent i)) ≤ frag_most (fragment S j p) (after_trace m u no-more) =
          subst (λ z. length (rows_of (u.sent i)) ≤ frag_most z (after_trace m u no-more)) (rb.0 j l).frag (sends (next + j) at i)
          in
          let most = (below j l).rows in
          let flow : length (rows_of (u.sent i)) ≡ length (rows_of (t.came n j ++ queue_at w (next + j) i)) =
          ap (λ z. length (rows_of z)) (agrees.flows n next top j i wired.0 (wired.1 j l))
          in
          let parts = rows-both (t.came n j) (queue_at w (next + j) i) in
          omega (arith, put, most, flow, parts)

      packets : (j : ℕ) → j < workers S.sizes (size p) → length ((trace_at ts (top + i)).came n j) ≤ most_rows S.db S.sizes p + 1
      packets j l =
          let a = rows j l in
          let b = few (top + i) here n j in
          let c = one-most (is_closed ((trace_at ts (top + i)).came n j)) in
          omega (arith, a, b, c)

  -- what came to a worker of the plan's top fragment
  needs : (p : Plan) (top next : ℕ) → is_fit S.relation_of p ≡ true → Wired S w p top next → RolesBelow S roles p next → next + workers_below S.sizes p ≤ total
      → (i : ℕ) → i < workers S.sizes (size p) → top + i < total → IsWithinNeeds S m p (fragment S i p) (trace_at ts (top + i))
  needs (scan n c r true z) top next fit wired rb le i li here =
      let d = shared-drew (station_at w n) top (workers S.sizes z) (morsel_count S.morsel (length (S.db r))) (λ a. (trace_at ts a).drew n) wired (agrees.draws n) i li in
      let x = scan-needs S m n r ((trace_at ts (top + i)).drew n) em set.some_morsel fit d in
      let a = x.0 in
      let b = x.1 in
      record { rows = omega (arith, a); turns = omega (arith, b) }
  needs (scan n c r false z) top next fit wired rb le i li here =
      let d = whole-drew (station_at w n) top (workers S.sizes z) (morsel_count S.morsel (length (S.db r))) (λ a. (trace_at ts a).drew n) wired (agrees.draws n) i li in
      let x = scan-needs S m n r ((trace_at ts (top + i)).drew n) em set.some_morsel fit d in
      let a = x.0 in
      let b = x.1 in
      record { rows = omega (arith, a); turns = omega (arith, b) }
  needs (unary n c op p) top next fit wired rb le i li here =
      let h = needs p top next fit wired rb le i li here in
      let a = h.rows in
      let b = h.turns in
      record { rows = a; turns = omega (arith, a, b) }
  needs (binary n c op p q) top next fit wired rb le i li here =
      let fits = and-right (size_eq (size p) (size q)) (is_fit S.relation_of p && is_fit S.relation_of q) fit in
      let same = same-size S.sizes (size p) (size q) (and-left (size_eq (size p) (size q)) (is_fit S.relation_of p && is_fit S.relation_of q) fit) in
      two-needs S m n c op p q (fragment S i p) (fragment S i q) (trace_at ts (top + i))
      (needs p top next (and-left (is_fit S.relation_of p) (is_fit S.relation_of q) fits) wired.0 rb.0 (le-left next (workers_below S.sizes p) (workers_below S.sizes q) total le) i li here)
      (needs q top (next + workers_below S.sizes p) (and-right (is_fit S.relation_of p) (is_fit S.relation_of q) fits) wired.1 rb.1
      (le-right next (workers_below S.sizes p) (workers_below S.sizes q) total le) i (subst (λ k. i < k) same li) here)
  needs (exchange n c k merge p) top next fit wired rb le i li here =
      exchange-needs n c k merge p top next i wired rb le here
      (λ j l. needs p next (next + workers S.sizes (size p)) fit wired.2 rb.1 (le-right next (workers S.sizes (size p)) (workers_below S.sizes p) total le) j l
      (lt-first next (workers S.sizes (size p)) (workers_below S.sizes p) total j le l))

  -- so many steps for each worker: those that it has at first with what came to it, and one for each morsel and packet of this
  module _ (uses : ℕ → ℕ)
      (used : (a : ℕ) → a < total →
      let n = consumers_of (roles a).post in
      let c = after_trace m (trace_at ts a) no-more in
      uses a ≤ (n + 1) * frag_most (roles a).frag c + frag_idle (roles a).frag c + (2 * n + 4) + arrived (roles a).frag (trace_at ts a)) where
    -- those of one worker
    one-uses : (p : Plan) (n a : ℕ) (f : Frag) → a < total → (roles a).frag ≡ f → consumers_of (roles a).post ≡ n → IsWithinNeeds S m p f (trace_at ts a) → uses a ≤ worker_steps S.db S.sizes n p
    one-uses p n a f l ef en h =
        let c = after_trace m (trace_at ts a) no-more in
        let P : ℕ → Frag → Type 0 = λ k g. uses a ≤ (k + 1) * frag_most g c + frag_idle g c + (2 * k + 4) + arrived g (trace_at ts a) in
        let u : P n f = subst (λ k. P k f) en (subst (λ g. P (consumers_of (roles a).post) g) ef (used a l)) in
        let rows : (n + 1) * frag_most f c ≤ (n + 1) * most_rows S.db S.sizes p = mul-le-mul_left (n + 1) h.rows in
        let turns = h.turns in
        omega (arith, u, rows, turns)

    -- those of all workers below the top fragment
    uses-below : (p : Plan) (top next : ℕ) → is_fit S.relation_of p ≡ true → Wired S w p top next → RolesBelow S roles p next → next + workers_below S.sizes p ≤ total
        → sum_below (workers_below S.sizes p) (λ i. uses (next + i)) ≤ steps_below S.db S.sizes p
    uses-below (scan n c r z s) top next fit wired rb le = le_refl 0
    uses-below (unary n c op p) top next fit wired rb le = uses-below p top next fit wired rb le
    uses-below (binary n c op p q) top next fit wired rb le =
        let fits = and-right (size_eq (size p) (size q)) (is_fit S.relation_of p && is_fit S.relation_of q) fit in
        let a = workers_below S.sizes p in
        let b = workers_below S.sizes q in
        let x = uses-below p top next (and-left (is_fit S.relation_of p) (is_fit S.relation_of q) fits) wired.0 rb.0 (le-left next a b total le) in
        let y = uses-below q top (next + a) (and-right (is_fit S.relation_of p) (is_fit S.relation_of q) fits) wired.1 rb.1 (le-right next a b total le) in
        let s = sum-behind a b next uses in
        omega (arith, x, y, s)
    uses-below (exchange n c k merge p) top next fit wired rb le =
        let a = workers S.sizes (size p) in
        let b = workers_below S.sizes p in
        let y = uses-below p next (next + a) fit wired.2 rb.1 (le-right next a b total le) in
        let x = sum-most a (λ i. uses (next + i)) (worker_steps S.db S.sizes (workers S.sizes (target k)) p) (λ i l.
        let at = lt-first next a b total i le l in
        one-uses p (workers S.sizes (target k)) (next + i) (fragment S i p) at (rb.0 i l).frag (ap consumers_of (rb.0 i l).post)
        (needs p next (next + a) fit wired.2 rb.1 (le-right next a b total le) i l at)) in
        let s = sum-behind a b next uses in
        omega (arith, x, y, s)

    -- those of all workers
    pub uses-all : (p : Plan) → is_fit S.relation_of p ≡ true → 0 < workers S.sizes (size p) → Wired S w p 0 1 → IsRoot S p (roles 0) → RolesBelow S roles p 1 → crew_size S.sizes p ≤ total
        → sum_below (crew_size S.sizes p) uses ≤ rounds_needed S.db S.sizes p
    uses-all p fit some wired root rb le =
        let here : 0 + 0 < total = omega (arith, le) in
        let h : IsWithinNeeds S m p (fragment S 0 p) (trace_at ts 0) = needs p 0 1 fit wired rb le 0 some here in
        let first = one-uses p 0 0 (fragment S 0 p) (omega (arith, le)) root.frag (ap consumers_of root.post) h in
        let rest = uses-below p 0 1 fit wired rb le in
        let s = sum-parts 1 (workers_below S.sizes p) uses in
        let one : sum_below 1 uses ≡ uses 0 = omega arith in
        omega (arith, first, rest, s, one)
