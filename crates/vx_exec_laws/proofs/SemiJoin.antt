-- Semi and anti joins: the left rows that some right row matches, or that none does.
use Rattle.std.proofs.Common.{◌≡◌, ◌≢◌, ℕ, ◌+◌, ◌<◌, ◌≤◌, ◌==◌, nat_lt, Bool, true, false, cond, not, ◌&&◌, ◌||◌, List, [], ◌∷◌, ◌++◌, filter, refl, sym, ap, ◌∙◌, subst, arith, true≢false, eqb-true, lt-ltb}
use Rattle.std.specs.List.{list_all, list_any}
use Rattle.vx_rows_values.specs.declared.order.OrderEntry.{OrderEntry}
use Rattle.vx_rows_values.specs.Values.{Row, pick}
use Rattle.vx_rows_values.specs.Order.{agree, sorted}
use Rattle.vx_rows_values.specs.Bags.{total, count, SameRows}
use Rattle.vx_rows_values.specs.Keys.{HasKey}
use Rattle.vx_catalog_relations.specs.Relation.{KeysHold}
use Rattle.vx_plan_nodes.specs.Plan.{Route, Part, one, any, all, routed, Condition}
use Rattle.vx_plan_nodes.specs.Serial.{passes, matches, is_matched, matched_rows}
use Rattle.vx_plan_nodes.specs.Streams.{Streams, joined}
use Rattle.vx_plan_nodes.specs.Routes.{Routing}
use Rattle.vx_check_rules.specs.Rules.{part_gives, route_eq, all_pairs, routed_alike, covers}
use Rattle.vx_check_rules.specs.Claims.{PartHolds, InItsStream}
use Rattle.vx_exec_laws.proofs.Bags.{and-left, and-right, when, total-filter, total-ext, total-zero, total-joined, across-ext}
use Rattle.vx_exec_laws.proofs.Parts.{route_eq-is}
use Rattle.vx_exec_laws.proofs.Orders.{list_all-filter, sorted-filter}
use Rattle.vx_exec_laws.proofs.Keys.{count-filter, covers-key}
use Rattle.vx_exec_laws.proofs.Join.{total-all-ext, across-only, match-pick}

-- ---- which rows are kept

-- a right row matches a left one
abbrev pub meets_row : List (ℕ × ℕ) → List Condition → Row → Row → Bool
meets_row on conditions l r = matches on l r && passes conditions (l ++ r)

-- a left row is kept
abbrev pub is_kept : Bool → List (ℕ × ℕ) → List Condition → List Row → Row → Bool
is_kept true on conditions rs = is_matched on conditions rs
is_kept false on conditions rs = λ l. not (is_matched on conditions rs l)

pub matched-filter : (m : Bool) (on : List (ℕ × ℕ)) (conditions : List Condition) (ls rs : List Row) → filter (is_kept m on conditions rs) ls ≡ matched_rows m on conditions ls rs
matched-filter true on conditions ls rs = refl
matched-filter false on conditions ls rs = refl

-- what holds of each left row holds of those that are kept
pub matched-all : (q : Row → Bool) (m : Bool) (on : List (ℕ × ℕ)) (conditions : List Condition) (ls rs : List Row) → list_all q ls ≡ true → list_all q (matched_rows m on conditions ls rs) ≡ true
matched-all q m on conditions ls rs h =
    let P : List Row → Type 0 = λ xs. list_all q xs ≡ true in
    subst P (matched-filter m on conditions ls rs) (list_all-filter q (is_kept m on conditions rs) ls h)

-- they stand in the left rows' order
pub matched-sorted : (order : List OrderEntry) (m : Bool) (on : List (ℕ × ℕ)) (conditions : List Condition) (ls rs : List Row) → sorted order ls ≡ true → sorted order (matched_rows m on conditions ls rs) ≡ true
matched-sorted order m on conditions ls rs h =
    let P : List Row → Type 0 = λ xs. sorted order xs ≡ true in
    subst P (matched-filter m on conditions ls rs) (sorted-filter order (is_kept m on conditions rs) ls h)

-- and have the left rows' keys
pub matched-count : (p : Row → Bool) (m : Bool) (on : List (ℕ × ℕ)) (conditions : List Condition) (ls rs : List Row) → count p (matched_rows m on conditions ls rs) ≤ count p ls
matched-count p m on conditions ls rs =
    let P : List Row → Type 0 = λ xs. count p xs ≤ count p ls in
    subst P (matched-filter m on conditions ls rs) (count-filter p (is_kept m on conditions rs) ls)

pub matched-key : (keys : List (List ℕ)) (x : List ℕ) (m : Bool) (on : List (ℕ × ℕ)) (conditions : List Condition) (ls rs : List Row) → covers keys x ≡ true → KeysHold keys ls
    → HasKey x (matched_rows m on conditions ls rs)
matched-key keys x m on conditions ls rs h ks row =
    let a = matched-count (agree x row) m on conditions ls rs in
    let b = covers-key keys x h ls ks row in
    omega (arith, a, b)

-- ---- lists of the same rows

-- some element passes a test where one counts
any-counts : {X : Type 0} (f : X → Bool) (xs : List X) → list_any f xs ≡ nat_lt 0 (count f xs)
any-counts f [] = refl
any-counts f (x ∷ xs) = go (f x) (any-counts f xs)
  where
    go : (b : Bool) → list_any f xs ≡ nat_lt 0 (count f xs) → (b || list_any f xs) ≡ nat_lt 0 (cond b 1 0 + count f xs)
    go true e = sym (lt-ltb 0 (1 + count f xs) (omega arith))
    go false e = let z : count f xs ≡ 0 + count f xs = omega arith in e ∙ ap (λ k. nat_lt 0 k) z

-- whether a left row is kept depends on how many right rows match it
pub kept-same : (m : Bool) (on : List (ℕ × ℕ)) (conditions : List Condition) (rs us : List Row) (l : Row)
    → count (meets_row on conditions l) rs ≡ count (meets_row on conditions l) us → is_kept m on conditions rs l ≡ is_kept m on conditions us l
kept-same m on conditions rs us l e = go m
  where
    same : is_matched on conditions rs l ≡ is_matched on conditions us l
    same = any-counts (meets_row on conditions l) rs ∙ (ap (λ k. nat_lt 0 k) e ∙ sym (any-counts (meets_row on conditions l) us))

    go : (m : Bool) → is_kept m on conditions rs l ≡ is_kept m on conditions us l
    go true = same
    go false = ap not same

pub matched-total : (m : Bool) (on : List (ℕ × ℕ)) (conditions : List Condition) (f : Row → ℕ) (ls rs : List Row)
    → total f (matched_rows m on conditions ls rs) ≡ total (λ l. when (is_kept m on conditions rs l) (f l)) ls
matched-total m on conditions f ls rs = ap (total f) (sym (matched-filter m on conditions ls rs)) ∙ total-filter f (is_kept m on conditions rs) ls

pub matched-same : (m : Bool) (on : List (ℕ × ℕ)) (conditions : List Condition) (ls ls' rs rs' : List Row) → SameRows ls ls' → SameRows rs rs'
    → SameRows (matched_rows m on conditions ls rs) (matched_rows m on conditions ls' rs')
matched-same m on conditions ls ls' rs rs' a b = record {
  totals = λ f.
      let kept : List Row → Row → ℕ = λ us l. when (is_kept m on conditions us l) (f l) in
      matched-total m on conditions f ls rs
      ∙ (total-ext (kept rs) (kept rs')
      (λ l. ap (λ k. when k (f l)) (kept-same m on conditions rs rs' l (b.totals (λ r. cond (meets_row on conditions l r) 1 0)))) ls
      ∙ (a.totals (kept rs') ∙ sym (matched-total m on conditions f ls' rs')));
}

-- ---- streams

-- where each worker has the right rows whole
pub matched-whole : (m : Bool) (on : List (ℕ × ℕ)) (conditions : List Condition) (n : ℕ) (s t s' : Streams) (base rbase : List Row)
    → ((w : ℕ) → w < n → matched_rows m on conditions (s w) (t w) ≡ s' w) → ((w : ℕ) → w < n → SameRows (t w) rbase)
    → SameRows (joined n s) base → SameRows (joined n s') (matched_rows m on conditions base rbase)
matched-whole m on conditions n s t s' base rbase run same left = record {
  totals = λ f.
      let kept : List Row → Row → ℕ = λ us l. when (is_kept m on conditions us l) (f l) in
      total-joined f n s'
      ∙ (across-ext n (λ i. total f (s' i)) (λ i. total (kept rbase) (s i))
      (λ i k. ap (total f) (sym (run i k)) ∙ (matched-total m on conditions f (s i) (t i)
      ∙ total-ext (kept (t i)) (kept rbase)
      (λ l. ap (λ b. when b (f l)) (kept-same m on conditions (t i) rbase l ((same i k).totals (λ r. cond (meets_row on conditions l r) 1 0)))) (s i)))
      ∙ (sym (total-joined (kept rbase) n s)
      ∙ (left.totals (kept rbase) ∙ sym (matched-total m on conditions f base rbase))));
}

-- a right row of another worker than the left row's does not match
pub elsewhere : (goes : Routing) (rt : Route) (on : List (ℕ × ℕ)) (as' bs : List ℕ) (n i j : ℕ) (l r : Row)
    → all_pairs on as' bs ≡ true → j ≢ i → (goes rt (pick as' l) n == i) ≡ true → (goes rt (pick bs r) n == j) ≡ true → matches on l r ≡ false
elsewhere goes rt on as' bs n i j l r e ne hl hr = cases (matches on l r) refl
  where
    cases : (b : Bool) → matches on l r ≡ b → b ≡ false
    cases true m =
        let k : pick as' l ≡ pick bs r = match-pick on as' bs l r m e in
        let a : goes rt (pick as' l) n ≡ i = eqb-true _ i hl in
        let b : goes rt (pick bs r) n ≡ j = eqb-true _ j hr in
        let c : goes rt (pick as' l) n ≡ goes rt (pick bs r) n = ap (λ v. goes rt v n) k in
        let d : j ≡ i = cc in
        absurd (ne d)
    cases false m = refl

-- the right rows that match a left row of a worker are all with it
pub all-with-it : (goes : Routing) (rt : Route) (on : List (ℕ × ℕ)) (conditions : List Condition) (as' bs : List ℕ) (n : ℕ) (t : Streams) (rbase : List Row) → all_pairs on as' bs ≡ true
    → SameRows (joined n t) rbase → InItsStream goes rt bs n t → (i : ℕ) → i < n → (l : Row) → (goes rt (pick as' l) n == i) ≡ true
    → count (meets_row on conditions l) (t i) ≡ count (meets_row on conditions l) rbase
all-with-it goes rt on conditions as' bs n t rbase e right rs i k l h =
    let g : Row → ℕ = λ r. cond (meets_row on conditions l r) 1 0 in
    sym (across-only n i (λ j. total g (t j)) k (λ j kj ne.
    total-all-ext (λ row. goes rt (pick bs row) n == j) g (λ r. 0)
    (λ r hr. ap (λ b. cond (b && passes conditions (l ++ r)) 1 0) (elsewhere goes rt on as' bs n i j l r e ne h hr)) (t j) (rs j kj)
    ∙ total-zero (t j)))
    ∙ (sym (total-joined g n t) ∙ right.totals g)

-- where both inputs are routed alike
pub matched-alike : (goes : Routing) (rt : Route) (m : Bool) (on : List (ℕ × ℕ)) (conditions : List Condition) (as' bs : List ℕ) (n : ℕ) (s t s' : Streams) (base rbase : List Row)
    → all_pairs on as' bs ≡ true
    → ((w : ℕ) → w < n → matched_rows m on conditions (s w) (t w) ≡ s' w)
    → SameRows (joined n s) base → InItsStream goes rt as' n s
    → SameRows (joined n t) rbase → InItsStream goes rt bs n t
    → SameRows (joined n s') (matched_rows m on conditions base rbase)
matched-alike goes rt m on conditions as' bs n s t s' base rbase e run left ls right rs = record {
  totals = λ f.
      let kept : List Row → Row → ℕ = λ us l. when (is_kept m on conditions us l) (f l) in
      total-joined f n s'
      ∙ (across-ext n (λ i. total f (s' i)) (λ i. total (kept rbase) (s i))
      (λ i k. ap (total f) (sym (run i k)) ∙ (matched-total m on conditions f (s i) (t i)
      ∙ total-all-ext (λ row. goes rt (pick as' row) n == i) (kept (t i)) (kept rbase)
      (λ l h. ap (λ b. when b (f l)) (kept-same m on conditions (t i) rbase l (all-with-it goes rt on conditions as' bs n t rbase e right rs i k l h))) (s i) (ls i k)))
      ∙ (sym (total-joined (kept rbase) n s)
      ∙ (left.totals (kept rbase) ∙ sym (matched-total m on conditions f base rbase))));
}

-- inputs that are routed alike: left rows and the right rows that match them meet, and the left input has not all rows on each worker
pub matched-met : (goes : Routing) (m : Bool) (on : List (ℕ × ℕ)) (conditions : List Condition) (pp qp : Part) (n : ℕ) (s t s' : Streams) (base rbase : List Row)
    → routed_alike on pp qp ≡ true → ((w : ℕ) → w < n → matched_rows m on conditions (s w) (t w) ≡ s' w) → PartHolds goes pp n s base → PartHolds goes qp n t rbase
    → SameRows (joined n s') (matched_rows m on conditions base rbase) × (part_gives pp all ≡ false)
matched-met goes m on conditions one qp n s t s' base rbase ra run hp hq = absurd (true≢false (sym ra))
matched-met goes m on conditions any qp n s t s' base rbase ra run hp hq = absurd (true≢false (sym ra))
matched-met goes m on conditions all qp n s t s' base rbase ra run hp hq = absurd (true≢false (sym ra))
matched-met goes m on conditions (routed r ls) one n s t s' base rbase ra run hp hq = absurd (true≢false (sym ra))
matched-met goes m on conditions (routed r ls) any n s t s' base rbase ra run hp hq = absurd (true≢false (sym ra))
matched-met goes m on conditions (routed r ls) all n s t s' base rbase ra run hp hq = absurd (true≢false (sym ra))
matched-met goes m on conditions (routed r ls) (routed u rs) n s t s' base rbase ra run hp hq =
    let U : Route → Type 0 = λ k. InItsStream goes k rs n t in
    let same : r ≡ u = route_eq-is r u (and-left (route_eq r u) (all_pairs on ls rs) ra) in
    (matched-alike goes r m on conditions ls rs n s t s' base rbase (and-right (route_eq r u) (all_pairs on ls rs) ra) run hp.0 hp.1 hq.0 (subst U (sym same) hq.1), refl)
