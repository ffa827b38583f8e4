-- Two rows that workers of a node have given so far agree in what the columns determine in which they agree, and are one row where they agree on a claimed key.
use Rattle.std.proofs.Common.{◌≡◌, inl, inr, ⊎_elim, ℕ, ◌<◌, ◌==◌, Bool, true, false, cond, ◌||◌, List, [], ◌∷◌, ◌++◌, length, refl, sym, ap, ◌∙◌, subst, arith, true≢false, eqb-true, Some, nat_le, zero, suc, ◌+◌, take, leb-true, ◌≤◌}
use Rattle.std.specs.List.{list_all}
use Rattle.std.proofs.lemmas.Bool.{eqb-false}
use Rattle.vx_rows_values.specs.Values.{Row, row_eq, value_at, pick}
use Rattle.vx_rows_values.specs.Bags.{count}
use Rattle.vx_rows_values.specs.Keys.{HasKey}
use Rattle.vx_rows_values.proofs.Compare.{row_eq-refl, row_eq-same}
use Rattle.vx_plan_nodes.specs.Plan.{Part, one, any, all, routed, Claim, Unary, select, project, distinct, sort, group, Phase, plain, partial, final, Aggregate, union, join, Plan, scan, unary, binary, exchange, claim, size, is_one, limit, semi_join}
use Rattle.vx_plan_nodes.specs.Types.{width}
use Rattle.vx_plan_nodes.specs.Serial.{group_keys, group_fits, group_rows, unary_rows}
use Rattle.vx_plan_nodes.specs.Streams.{workers}
use Rattle.vx_plan_nodes.specs.Routes.{Routing}
use Rattle.vx_plan_facts.specs.Equal.{Equality, equal_at}
use Rattle.vx_plan_facts.specs.Fixed.{fixed_at}
use Rattle.vx_plan_facts.specs.Determined.{Columns, determined}
use Rattle.vx_plan_facts.specs.DeterminedFacts.{AgreeOn}
use Rattle.vx_plan_facts.specs.Following.{set_of}
use Rattle.vx_plan_facts.specs.FollowLaws.{Occurs, AgreeIn}
use Rattle.vx_plan_facts.specs.RowFacts.{HasEqual}
use Rattle.vx_plan_facts.proofs.Columns.{value-left}
use Rattle.vx_plan_facts.proofs.Meaning.{keys-same}
use Rattle.vx_check_rules.specs.Rules.{has, within, numbers_below, routed_within}
use Rattle.vx_check_rules.specs.Derived.{routed_within_equally}
use Rattle.vx_check_rules.specs.Claims.{Given}
use Rattle.vx_check_rules.proofs.Bools.{or-left}
use Rattle.vx_ports.specs.Packets.{rows_of}
use Rattle.vx_ops.specs.Ledger.{Stream, IsAllGiven}
use Rattle.vx_worker.specs.Fragment.{goes, RunModel}
use Rattle.vx_worker.specs.Trace.{Trace, Ends}
use Rattle.vx_exec_laws.specs.RunOf.{RunOf}
use Rattle.vx_exec_laws.specs.CutRows.{Output, AreOneOrApart, RowsAgree}
use Rattle.vx_exec_laws.proofs.Parts.{or-cases, one-worker}
use Rattle.vx_exec_laws.proofs.Unary.{some-is}
use Rattle.vx_exec_laws.proofs.Widths.{length-pick, some-of}
use Rattle.vx_exec_laws.proofs.Apart.{rows-equal, below-contains, same-route}
use Rattle.vx_exec_laws.proofs.Groups.{groups, groups-key}
use Rattle.vx_exec_laws.proofs.Places.{at_place}
use Rattle.vx_exec_laws.proofs.DerivedPairs.{PairOf, agree-past, equal-picks}
use Rattle.vx_exec_laws.proofs.DerivedSerial.{occurs-counted}
use Rattle.vx_exec_laws.proofs.DerivedOpen.{derived-tests}
use Rattle.vx_exec_laws.proofs.DerivedParts.{within-equal}
use Rattle.vx_exec_laws.proofs.CutPairs.{all-member, all-among, Agreed, Tells, AreGiven, scan-agreed, unary-agreed, union-agreed, join-agreed, exchange-agreed, semi-join-agreed}
use Rattle.vx_exec_laws.proofs.CutOrigins.{under, on-left, on-right, same-size, producer, put-occurs, exchange-comes, unary-comes, joined-comes, scan-comes, matched-so-far, occurs-begins}
use Rattle.vx_exec_laws.proofs.CutPlaces.{Meeting, Fine, fine-under, fine-left, fine-right, fine-below, here, row-meets, stands, same-row}
use Rattle.vx_exec_laws.proofs.CutWhole.{bags, same-whole, limit-alone}

-- ---- groups

-- the groups of one list have one row a key
one-list : (by : List ℕ) (aggregates : List Aggregate) (xs ys : List Row) → group_rows by aggregates xs ≡ Some ys → (a b : Row) → Occurs a ys → Occurs b ys
    → Tells (λ k. within (numbers_below (length by)) k) a b
one-list by aggregates xs ys e a b oa ob k t g =
    let is : groups by aggregates xs ≡ ys = (some-of (list_all (group_fits by aggregates xs) (group_keys by xs)) (groups by aggregates xs) ys e).1 in
    let P : List Row → Type 0 = λ l. HasKey k l in
    keys-same (set_of k) (k ∷ []) ys a b (subst P is (groups-key by k aggregates xs t), tt) (occurs-counted a ys oa) (occurs-counted b ys ob) g
    (or-left (list_all (set_of k) k) false (all-among k))

-- groups that agree on their keys come of rows with one key
one-key : (by : List ℕ) (a b x y u v : Row) → a ≡ pick by x ++ u → b ≡ pick by y ++ v → (k : List ℕ) → within (numbers_below (length by)) k ≡ true → AgreeOn (set_of k) a b
    → pick by x ≡ pick by y
one-key by a b x y u v ea eb k t g =
    let lx : length (pick by x) ≡ length by = length-pick by x in
    let ly : length (pick by y) ≡ length by = length-pick by y in
    rows-equal (pick by x) (pick by y) (lx ∙ sym ly)
    (λ c l.
    let near : c < length by = omega (arith, l, lx) in
    sym (value-left (pick by x) u c l)
    ∙ (ap (λ r. value_at r c) (sym ea) ∙ (g c (all-member (set_of k) (numbers_below (length by)) t c (below-contains (length by) c near))
    ∙ (ap (λ r. value_at r c) eb ∙ value-left (pick by y) v c (omega (arith, near, ly))))))

-- rows with one key are at one worker where they are routed by columns of it, or by columns that are equal to some of it
one-place : (goes : Routing) (q : Part) (by : List ℕ) (n i j : ℕ) (x y : Row) → routed_within q by ≡ true → pick by x ≡ pick by y
    → at_place goes q n i x ≡ true → at_place goes q n j y ≡ true → i ≡ j
one-place goes one by n i j x y t e hx hy = absurd (true≢false (sym t))
one-place goes any by n i j x y t e hx hy = absurd (true≢false (sym t))
one-place goes all by n i j x y t e hx hy = absurd (true≢false (sym t))
one-place goes (routed r cols) by n i j x y t e hx hy =
    let P : Row → Type 0 = λ z. row_eq (pick by x) z ≡ true in
    same-route goes r cols by n i j (pick by x) x y t (row_eq-refl (pick by x)) (subst P e (row_eq-refl (pick by x))) hx hy

one-place-equally : (goes : Routing) (e : Equality) (q : Part) (by : List ℕ) (n i j : ℕ) (x y : Row) → routed_within_equally e q by ≡ true → pick by x ≡ pick by y
    → HasEqual e x → HasEqual e y → at_place goes q n i x ≡ true → at_place goes q n j y ≡ true → i ≡ j
one-place-equally goes e one by n i j x y t k ex ey hx hy = absurd (true≢false (sym t))
one-place-equally goes e any by n i j x y t k ex ey hx hy = absurd (true≢false (sym t))
one-place-equally goes e all by n i j x y t k ex ey hx hy = absurd (true≢false (sym t))
one-place-equally goes e (routed r cols) by n i j x y t k ex ey hx hy =
    let w = within-equal e cols by t in
    one-place goes (routed r w.0) by n i j x y w.1 k
    (same-row goes r w.0 cols n i x x (sym (equal-picks e x ex cols w.0 w.2)) hx) (same-row goes r w.0 cols n j y y (sym (equal-picks e y ey cols w.0 w.2)) hy)

-- two rows of a list of one row
one-taken : (m : ℕ) (xs : List Row) (a b : Row) → m ≤ 1 → Occurs a (take m xs) → Occurs b (take m xs) → a ≡ b
one-taken zero xs a b few oa ob = absurd (omega (arith, oa))
one-taken (suc m) [] a b few oa ob = absurd (omega (arith, oa))
one-taken (suc zero) (x ∷ xs) a b few oa ob = alone a oa ∙ sym (alone b ob)
  where
    alone : (r : Row) → Occurs r (x ∷ []) → r ≡ x
    alone r o = go (row_eq r x) refl o
      where
        go : (k : Bool) → row_eq r x ≡ k → 0 < cond k 1 0 + 0 → r ≡ x
        go true e l = row_eq-same r x e
        go false e l = absurd (omega (arith, l))
one-taken (suc (suc m)) (x ∷ xs) a b few oa ob = absurd (omega (arith, few))

taken : (m : ℕ) (xs ys : List Row) (a b : Row) → nat_le m 1 ≡ true → unary_rows (limit m) xs ≡ Some ys → Occurs a ys → Occurs b ys → a ≡ b
taken m xs ys a b few e oa ob =
    let is : take m xs ≡ ys = some-is (take m xs) ys e in
    let P : Row → List Row → Type 0 = λ r l. Occurs r l in
    one-taken m xs a b (leb-true m 1 few) (subst (P a) (sym is) oa) (subst (P b) (sym is) ob)

-- ---- workers

module _ (S : RunModel) (giv : Given S.catalog S.db S.sizes (goes S)) (some_rows : 0 < S.morsel) (meet : Meeting S) where
  -- a group that has given a row gave all that it makes of an input that has ended
  all-given : (n : ℕ) (c : Claim) (phase : Phase) (by : List ℕ) (aggregates : List Aggregate) (p : Plan) (ts : ℕ → Trace) (x : Output S (unary n c (group phase by aggregates) p) ts) (a : Row)
      → Occurs a x.out.rows → IsAllGiven (group phase by aggregates) x.abides.0 × Occurs a x.abides.0.gave.rows
  all-given n c phase by aggregates p ts x a o =
      let G : Stream → Type 0 = λ s. Occurs a s.rows in
      let N : List Row → Type 0 = λ l. Occurs a l in
      let gave : Occurs a x.abides.0.gave.rows = subst G (sym x.abides.3) o in
      (⊎_elim (λ h. h) (λ e. let none : Occurs a [] = subst N e gave in absurd (omega (arith, none))) x.abides.2.holds_back, gave)

  -- two rows of groups, where rows with one key are at one worker, or the input is on each of them
  groups-tell : (n : ℕ) (c : Claim) (phase : Phase) (by : List ℕ) (aggregates : List Aggregate) (p : Plan) → Fine S (unary n c (group phase by aggregates) p)
      → ((xs ys : List Row) → unary_rows (group phase by aggregates) xs ≡ Some ys → group_rows by aggregates xs ≡ Some ys)
      → ((is_one (size p) || (has p all || routed_within (claim p).part by)) || routed_within_equally (equal_at S.catalog p) (claim p).part by) ≡ true
      → (ts : ℕ → Trace) → RunOf S (Ends S) p ts → (x y : Output S (unary n c (group phase by aggregates) p) ts) → AreOneOrApart S (unary n c (group phase by aggregates) p) ts x y
      → (a b : Row) → Occurs a x.out.rows → Occurs b y.out.rows → Tells (λ k. within (numbers_below (length by)) k) a b
  groups-tell n c phase by aggregates p f plainly t ts run x y (inl e) a b oa ob k w g =
      let node : Plan = unary n c (group phase by aggregates) p in
      let P : Output S node ts → Type 0 = λ z. Occurs b z.out.rows in
      let ga = all-given n c phase by aggregates p ts x a oa in
      let gb = all-given n c phase by aggregates p ts x b (subst P (sym e) ob) in
      one-list by aggregates x.abides.0.left.rows x.abides.0.gave.rows (plainly x.abides.0.left.rows x.abides.0.gave.rows ga.0.1) a b ga.1 gb.1 k w g
  groups-tell n c phase by aggregates p f plainly t ts run x y (inr apart) a b oa ob k w g =
      let op : Unary = group phase by aggregates in
      let node : Plan = unary n c op p in
      let fp : Fine S p = fine-under S n c op p f in
      let m : ℕ = workers S.sizes (size p) in
      let ux : Output S p ts = under S n c op p ts x in
      let uy : Output S p ts = under S n c op p ts y in
      let sx = unary-comes S n c op p ts x a oa in
      let sy = unary-comes S n c op p ts y b ob in
      let key : pick by sx.0 ≡ pick by sy.0 = one-key by a b sx.0 sy.0 sx.2.0 sy.2.0 sx.2.1 sy.2.1 k w g in
      let at_x = stands S giv meet p fp ts run ux sx.0 sx.1 in
      let at_y = stands S giv meet p fp ts run uy sy.0 sy.1 in
      ⊎_elim
      (λ h. ⊎_elim
      (λ o.
      let n1 : m ≡ 1 = one-worker S.sizes (size p) o in
      let lx = x.below in
      let ly = y.below in
      absurd (apart (omega (arith, n1, lx, ly))))
      (λ h. ⊎_elim
      (λ i.
      let ga = all-given n c phase by aggregates p ts x a oa in
      let gb = all-given n c phase by aggregates p ts y b ob in
      let inputs = same-whole S some_rows p fp ts run ux uy apart i ga.0.0 gb.0.0 in
      let outs = bags (goes S) op refl ux.out.rows uy.out.rows x.abides.0.gave.rows y.abides.0.gave.rows inputs ga.0.1 gb.0.1 in
      let same : count (row_eq b) x.abides.0.gave.rows ≡ count (row_eq b) y.abides.0.gave.rows = outs.totals (λ r. cond (row_eq b r) 1 0) in
      let ob_there = gb.1 in
      one-list by aggregates x.abides.0.left.rows x.abides.0.gave.rows (plainly x.abides.0.left.rows x.abides.0.gave.rows ga.0.1) a b ga.1 (omega (arith, same, ob_there)) k w g)
      (λ i. absurd (apart (one-place (goes S) (claim p).part by m x.place y.place sx.0 sy.0 i key at_x at_y)))
      (or-cases (has p all) (routed_within (claim p).part by) h))
      (or-cases (is_one (size p)) (has p all || routed_within (claim p).part by) h))
      (λ h. absurd (apart (one-place-equally (goes S) (equal_at S.catalog p) (claim p).part by m x.place y.place sx.0 sy.0 h key
      (row-meets S giv meet p fp ts run ux sx.0 sx.1).alike (row-meets S giv meet p fp ts run uy sy.0 sy.1).alike at_x at_y)))
      (or-cases (is_one (size p) || (has p all || routed_within (claim p).part by)) (routed_within_equally (equal_at S.catalog p) (claim p).part by) t)

  -- a limit has one worker, and of a limit to one row there is one at most
  first-row : (n : ℕ) (c : Claim) (m : ℕ) (p : Plan) → is_one (size p) ≡ true → (ts : ℕ → Trace) → (x y : Output S (unary n c (limit m) p) ts) → AreOneOrApart S (unary n c (limit m) p) ts x y
      → (a b : Row) → Occurs a x.out.rows → Occurs b y.out.rows → nat_le m 1 ≡ true → a ≡ b
  first-row n c m p single ts x y (inl e) a b oa ob few =
      let G : Stream → Type 0 = λ s. Occurs a s.rows in
      let H : Stream → Type 0 = λ s. Occurs b s.rows in
      let O : Output S (unary n c (limit m) p) ts → Type 0 = λ z. Occurs b z.out.rows in
      let b0 = x.abides.2.before in
      let gave : List Row = x.abides.0.gave.rows in
      taken m b0.inputs.left.rows b0.whole a b few b0.makes (occurs-begins a gave b0.whole b0.gave (subst G (sym x.abides.3) oa))
      (occurs-begins b gave b0.whole b0.gave (subst H (sym x.abides.3) (subst O (sym e) ob)))
  first-row n c m p single ts x y (inr apart) a b oa ob few =
      let n1 : workers S.sizes (size p) ≡ 1 = one-worker S.sizes (size p) single in
      let lx = x.below in
      let ly = y.below in
      absurd (apart (omega (arith, n1, lx, ly)))

  are-given : (n : ℕ) (c : Claim) (op : Unary) (p : Plan) → Fine S (unary n c op p) → (ts : ℕ → Trace) → RunOf S (Ends S) p ts
      → (x y : Output S (unary n c op p) ts) → AreOneOrApart S (unary n c op p) ts x y → (a b : Row) → Occurs a x.out.rows → Occurs b y.out.rows → AreGiven S.catalog op a b
  are-given n c (select fs) p f ts run x y alike a b oa ob = tt
  are-given n c (project es) p f ts run x y alike a b oa ob = tt
  are-given n c (distinct cols) p f ts run x y alike a b oa ob = tt
  are-given n c (sort of_parts order) p f ts run x y alike a b oa ob = tt
  are-given n c (group plain by aggregates) p f ts run x y alike a b oa ob =
      let node : Plan = unary n c (group plain by aggregates) p in
      groups-tell n c plain by aggregates p f (λ xs ys e. e) (derived-tests S.catalog node (here S node f)).2 ts run x y alike a b oa ob
  are-given n c (group partial by aggregates) p f ts run x y alike a b oa ob = tt
  are-given n c (group final by aggregates) p f ts run x y alike a b oa ob =
      let node : Plan = unary n c (group final by aggregates) p in
      groups-tell n c final by aggregates p f (λ xs ys e. e) (derived-tests S.catalog node (here S node f)).2 ts run x y alike a b oa ob
  are-given n c (limit m) p f ts run x y alike a b oa ob =
      let node : Plan = unary n c (limit m) p in
      first-row n c m p (limit-alone S.catalog n c m p (derived-tests S.catalog node (here S node f)).7) ts x y alike a b oa ob

  -- ---- all nodes

  agreed : (p : Plan) → Fine S p → (ts : ℕ → Trace) → RunOf S (Ends S) p ts → (x y : Output S p ts) → AreOneOrApart S p ts x y
      → (a b : Row) → Occurs a x.out.rows → Occurs b y.out.rows → Agreed S.catalog p a b
  agreed (scan n c r m z) f ts run x y alike a b oa ob =
      let node : Plan = scan n c r m z in
      scan-agreed S.catalog n c r m z (S.db r) a b (giv.meets r).keys
      (occurs-counted a (S.db r) (scan-comes S giv n c r m z ts f.fit run x a oa)) (occurs-counted b (S.db r) (scan-comes S giv n c r m z ts f.fit run y b ob))
      (row-meets S giv meet node f ts run x a oa) (row-meets S giv meet node f ts run y b ob) (derived-tests S.catalog node f.allowed).6
  agreed (unary n c op p) f ts run x y alike a b oa ob =
      let node : Plan = unary n c op p in
      let fp : Fine S p = fine-under S n c op p f in
      let sx = unary-comes S n c op p ts x a oa in
      let sy = unary-comes S n c op p ts y b ob in
      let below : AreOneOrApart S p ts (under S n c op p ts x) (under S n c op p ts y) = ⊎_elim (λ e. inl (ap (under S n c op p ts) e)) (λ d. inr d) alike in
      unary-agreed S.catalog n c op p a b sx.0 sy.0 (row-meets S giv meet node f ts run x a oa) (row-meets S giv meet node f ts run y b ob) (derived-tests S.catalog node (here S node f)).6
      (agreed p fp ts run (under S n c op p ts x) (under S n c op p ts y) below sx.0 sy.0 sx.1 sy.1) sx.2 sy.2 (are-given n c op p f ts run x y alike a b oa ob)
  agreed (binary n c union p q) f ts run x y alike a b oa ob =
      let node : Plan = binary n c union p q in
      union-agreed S.catalog n c p q a b (row-meets S giv meet node f ts run x a oa) (row-meets S giv meet node f ts run y b ob) (derived-tests S.catalog node (here S node f)).6
  agreed (binary n c (join m on) p q) f ts run x y alike a b oa ob =
      let node : Plan = binary n c (join m on) p q in
      let same : size p ≡ size q = same-size S n c (join m on) p q f.fit in
      let fp : Fine S p = fine-left S n c (join m on) p q f in
      let fq : Fine S q = fine-right S n c (join m on) p q f in
      let left : Output S node ts → Output S p ts = on-left S n c (join m on) p q ts in
      let right : Output S node ts → Output S q ts = on-right S n c (join m on) p q ts same in
      let sx = joined-comes S n c m on p q ts same x a oa in
      let sy = joined-comes S n c m on p q ts same y b ob in
      let lefts : AreOneOrApart S p ts (left x) (left y) = ⊎_elim (λ e. inl (ap left e)) (λ d. inr d) alike in
      let rights : AreOneOrApart S q ts (right x) (right y) = ⊎_elim (λ e. inl (ap right e)) (λ d. inr d) alike in
      join-agreed S.catalog on n c m p q a b sx.0 sx.1 sy.0 sy.1 (row-meets S giv meet node f ts run x a oa) (row-meets S giv meet node f ts run y b ob) (derived-tests S.catalog node (here S node f)).6
      (agreed p fp ts run.0 (left x) (left y) lefts sx.0 sy.0 sx.2 sy.2) (agreed q fq ts run.1 (right x) (right y) rights sx.1 sy.1 sx.3 sy.3)
      (record { is = sx.4; met = sx.5; wide = (row-meets S giv meet p fp ts run.0 (left x) sx.0 sx.2).wide })
      (record { is = sy.4; met = sy.5; wide = (row-meets S giv meet p fp ts run.0 (left y) sy.0 sy.2).wide })
  agreed (binary n c (semi_join matched on conditions) p q) f ts run x y alike a b oa ob =
      let node : Plan = binary n c (semi_join matched on conditions) p q in
      let fp : Fine S p = fine-left S n c (semi_join matched on conditions) p q f in
      let left : Output S node ts → Output S p ts = on-left S n c (semi_join matched on conditions) p q ts in
      let lefts : AreOneOrApart S p ts (left x) (left y) = ⊎_elim (λ e. inl (ap left e)) (λ d. inr d) alike in
      semi-join-agreed S.catalog n c matched on conditions p q a b (row-meets S giv meet node f ts run x a oa) (row-meets S giv meet node f ts run y b ob)
      (derived-tests S.catalog node (here S node f)).6
      (agreed p fp ts run.0 (left x) (left y) lefts a b (matched-so-far S n c matched on conditions p q ts x a oa) (matched-so-far S n c matched on conditions p q ts y b ob))
  agreed (exchange n c k merge p) f ts run x y alike a b oa ob =
      let node : Plan = exchange n c k merge p in
      let fp : Fine S p = fine-below S n c k merge p f in
      let us : ℕ → Trace = run.0 in
      let sx = exchange-comes S n c k merge p ts run x a oa in
      let sy = exchange-comes S n c k merge p ts run y b ob in
      let px : Output S p us = producer S n sx.0 k p us sx.1 (run.2 sx.0 sx.1) in
      let ax : Occurs a px.out.rows = (put-occurs S n sx.0 k p us sx.1 (run.2 sx.0 sx.1) x.place x.below a sx.2).0 in
      exchange-agreed S.catalog n c k merge p a b (row-meets S giv meet node f ts run x a oa) (row-meets S giv meet node f ts run y b ob) (derived-tests S.catalog node (here S node f)).6
      (by sx.0 sy.0 (sx.0 == sy.0) refl
      (λ e.
      let put : ℕ → Type 0 = λ i. Occurs b (rows_of ((us i).sent y.place)) in
      agreed p fp us run.1 px px (inl refl) a b ax (put-occurs S n sx.0 k p us sx.1 (run.2 sx.0 sx.1) y.place y.below b (subst put (sym e) sy.2)).0)
      (λ d. agreed p fp us run.1 px (producer S n sy.0 k p us sy.1 (run.2 sy.0 sy.1)) (inr d) a b ax (put-occurs S n sy.0 k p us sy.1 (run.2 sy.0 sy.1) y.place y.below b sy.2).0))
    where
      by : (i j : ℕ) (e : Bool) → (i == j) ≡ e → (i ≡ j → Agreed S.catalog p a b) → ((i ≡ j → ⊥) → Agreed S.catalog p a b) → Agreed S.catalog p a b
      by i j true e h g = h (eqb-true i j e)
      by i j false e h g = g (eqb-false i j e)

  -- two rows as a pair: what is known of each, and that they agree in what is determined
  pub pairs-so-far : (p : Plan) → Fine S p → (ts : ℕ → Trace) → RunOf S (Ends S) p ts → (x y : Output S p ts) → AreOneOrApart S p ts x y
      → (a b : Row) → Occurs a x.out.rows → Occurs b y.out.rows → PairOf (width S.catalog p) (equal_at S.catalog p) (fixed_at S.catalog p) (determined S.catalog p) a b
  pairs-so-far p f ts run x y alike a b oa ob =
      let ma = row-meets S giv meet p f ts run x a oa in
      let mb = row-meets S giv meet p f ts run y b ob in
      let wa : length a ≡ width S.catalog p = ma.wide in
      let wb : length b ≡ width S.catalog p = mb.wide in
      record {
        short_left = omega (arith, wa);
        short_right = omega (arith, wb);
        equal_left = ma.alike;
        equal_right = mb.alike;
        fixed_left = ma.fixed;
        fixed_right = mb.fixed;
        agree = (agreed p f ts run x y alike a b oa ob).determined_in;
      }

  pub rows-agree : (p : Plan) → Fine S p → (ts : ℕ → Trace) → RunOf S (Ends S) p ts → (x y : Output S p ts) → AreOneOrApart S p ts x y
      → (a b : Row) → Occurs a x.out.rows → Occurs b y.out.rows → RowsAgree S.catalog p a b
  rows-agree p f ts run x y alike a b oa ob =
      let w : ℕ = width S.catalog p in
      let h = agreed p f ts run x y alike a b oa ob in
      let k = pairs-so-far p f ts run x y alike a b oa ob in
      let all_of : (s : Columns) → AgreeIn w s a b → AgreeOn s a b = λ s g. agree-past w w s a b k.short_left k.short_right (omega arith) g in
      record {
        determined = λ s g c l e. h.determined_in s (all_of s g) c e;
        keyed = λ s g e. h.keyed s (all_of s g) e;
      }
