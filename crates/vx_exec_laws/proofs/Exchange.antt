-- Scans and exchanges keep what the rule table says.
use Rattle.std.proofs.Common.{◌≡◌, ℕ, ◌<◌, ◌==◌, Bool, true, false, cond, List, [], ◌∷◌, filter, refl, sym, ap, ◌∙◌, subst, arith}
use Rattle.std.specs.List.{list_all}
use Rattle.vx_rows_values.specs.declared.order.OrderEntry.{OrderEntry}
use Rattle.vx_rows_values.specs.Values.{Row, pick}
use Rattle.vx_rows_values.specs.Order.{sorted}
use Rattle.vx_rows_values.specs.Bags.{total, SameRows}
use Rattle.vx_plan_nodes.specs.Plan.{Size, Route, ExchangeKind, route_to, round, broadcast, gather, concat}
use Rattle.vx_plan_nodes.specs.Streams.{Streams, joined, Dealt, across}
use Rattle.vx_plan_nodes.specs.Routes.{Routing, Sends}
use Rattle.vx_plan_nodes.specs.Runs.{Exchanges}
use Rattle.vx_check_rules.specs.Claims.{InItsStream}
use Rattle.vx_exec_laws.proofs.Bags.{and-both, Dealt-total, total-joined, total-filter, total-ext, across-ext, across-swap, across-zero, across-total, across-one, when, against, against-none, none-against}
use Rattle.vx_exec_laws.proofs.Parts.{InRange}
use Rattle.vx_exec_laws.proofs.Orders.{Dealt-sorted, Dealt-one, sorted-filter}

-- the streams of a list that is dealt out have its rows
pub Dealt-same : {n : ℕ} {xs : List Row} {s : Streams} → Dealt n xs s → SameRows (joined n s) xs
Dealt-same {n} {xs} {s} d = record { totals = λ f. total-joined f n s ∙ sym (Dealt-total d f) }

-- rows that are routed go to one consumer each
pub routed-total : (goes : Routing) → InRange goes → (r : Route) (cols : List ℕ) (n : ℕ) → 0 < n → (f : Row → ℕ) (xs : List Row)
    → across n (λ j. total f (filter (λ row. goes r (pick cols row) n == j) xs)) ≡ total f xs
routed-total goes law r cols n some f xs =
    across-ext n _ _ (λ j l. total-filter f (λ row. goes r (pick cols row) n == j) xs)
    ∙ (across-total n (λ j row. when (goes r (pick cols row) n == j) (f row)) xs
    ∙ total-ext _ f (λ row. across-one n (goes r (pick cols row) n) (f row) (law r (pick cols row) n some)) xs)

-- what a producer sends to all consumers together; a broadcast sends everything to each
pub sends-total : (goes : Routing) → InRange goes → (k : ExchangeKind) (n : ℕ) (xs : List Row) (sent : Streams) → Sends goes k n xs sent
    → 0 < n → (f : Row → ℕ) → ((z : Size) → k ≡ broadcast z → n ≡ 1) → (k ≡ gather → n ≡ 1) → (k ≡ concat → n ≡ 1)
    → across n (λ j. total f (sent j)) ≡ total f xs
sends-total goes law (route_to z r cols) n xs sent h some f b g o =
    across-ext n _ _ (λ j l. ap (total f) (sym (h j l))) ∙ routed-total goes law r cols n some f xs
sends-total goes law (round z) n xs sent h some f b g o = sym (Dealt-total h f)
sends-total goes law (broadcast z) n xs sent h some f b g o = one-consumer n xs sent f (b z refl) h
  where
    one-consumer : (n : ℕ) (xs : List Row) (sent : Streams) (f : Row → ℕ) → n ≡ 1 → ((j : ℕ) → j < n → xs ≡ sent j) → across n (λ j. total f (sent j)) ≡ total f xs
    one-consumer n xs sent f e h =
        let a : across n (λ j. total f (sent j)) ≡ across 1 (λ j. total f (sent j)) = ap (λ m. across m (λ j. total f (sent j))) e in
        let c : total f xs ≡ total f (sent 0) = ap (total f) (h 0 (omega arith)) in
        omega (arith, a, c)
sends-total goes law gather n xs sent h some f b g o =
    let e : n ≡ 1 = g refl in
    let a : across n (λ j. total f (sent j)) ≡ across 1 (λ j. total f (sent j)) = ap (λ m. across m (λ j. total f (sent j))) e in
    let c : total f xs ≡ total f (sent 0) = ap (total f) (h 0 (omega arith)) in
    omega (arith, a, c)
sends-total goes law concat n xs sent h some f b g o =
    let e : n ≡ 1 = o refl in
    let a : across n (λ j. total f (sent j)) ≡ across 1 (λ j. total f (sent j)) = ap (λ m. across m (λ j. total f (sent j))) e in
    let c : total f xs ≡ total f (sent 0) = ap (total f) (h 0 (omega arith)) in
    omega (arith, a, c)

-- the streams of all consumers have the rows of all producers, where nothing is sent twice
pub exchange-any : (goes : Routing) → InRange goes → (k : ExchangeKind) (merge : List OrderEntry) (m n : ℕ) (s s' : Streams) (base : List Row)
    → Exchanges goes k merge m n s s' → 0 < n → ((z : Size) → k ≡ broadcast z → n ≡ 1) → (k ≡ gather → n ≡ 1) → (k ≡ concat → n ≡ 1)
    → SameRows (joined m s) base → SameRows (joined n s') base
exchange-any goes law k merge m n s s' base x some b g o same = record {
  totals = λ f.
      total-joined f n s'
      ∙ (across-ext n (λ j. total f (s' j)) (λ j. across m (λ i. total f (x.sent i j))) (λ j l. Dealt-total (x.gets j l) f)
      ∙ (across-swap n m (λ j i. total f (x.sent i j))
      ∙ (across-ext m (λ i. across n (λ j. total f (x.sent i j))) (λ i. total f (s i)) (λ i l. sends-total goes law k n (s i) (x.sent i) (x.sends i l) some f b g o)
      ∙ (sym (total-joined f m s) ∙ same.totals f))));
}

-- a broadcast gives each consumer all rows
pub broadcast-all : (goes : Routing) (z : Size) (merge : List OrderEntry) (m n : ℕ) (s s' : Streams) (base : List Row)
    → Exchanges goes (broadcast z) merge m n s s' → SameRows (joined m s) base → (j : ℕ) → j < n → SameRows (s' j) base
broadcast-all goes z merge m n s s' base x same j l = record {
  totals = λ f.
      Dealt-total (x.gets j l) f
      ∙ (across-ext m (λ i. total f (x.sent i j)) (λ i. total f (s i)) (λ i k. ap (total f) (sym (x.sends i k j l)))
      ∙ (sym (total-joined f m s) ∙ same.totals f));
}

pub filter-all : {X : Type 0} (p : X → Bool) (xs : List X) → list_all p (filter p xs) ≡ true
filter-all p [] = refl
filter-all p (x ∷ xs) = cases (p x) refl (filter-all p xs)
  where
    cases : (b : Bool) → p x ≡ b → list_all p (filter p xs) ≡ true → list_all p (cond b (x ∷ filter p xs) (filter p xs)) ≡ true
    cases true e r = and-both _ _ e r
    cases false e r = r

-- each row of a consumer was sent to it
pub routed-in-stream : (goes : Routing) (z : Size) (r : Route) (cols : List ℕ) (merge : List OrderEntry) (m n : ℕ) (s s' : Streams)
    → Exchanges goes (route_to z r cols) merge m n s s' → InItsStream goes r cols n s'
routed-in-stream goes z r cols merge m n s s' x j l =
    let p : Row → Bool = λ row. goes r (pick cols row) n == j in
    none-against p (s' j)
    (Dealt-total (x.gets j l) (against p)
    ∙ (across-ext m (λ i. total (against p) (x.sent i j)) (λ i. 0) (λ i k.
    ap (total (against p)) (sym (x.sends i k j l)) ∙ against-none p _ (filter-all p (s i)))
    ∙ across-zero m))

-- what one producer sends in order stays in order
pub sends-sorted : (goes : Routing) (k : ExchangeKind) (n : ℕ) (xs : List Row) (sent : Streams) → Sends goes k n xs sent
    → (order : List OrderEntry) → sorted order xs ≡ true → (j : ℕ) → j < n → sorted order (sent j) ≡ true
sends-sorted goes (route_to z r cols) n xs sent h order up j l =
    let P : List Row → Type 0 = λ ys. sorted order ys ≡ true in subst P (h j l) (sorted-filter order _ xs up)
sends-sorted goes (round z) n xs sent h order up j l = Dealt-sorted h order up j l
sends-sorted goes (broadcast z) n xs sent h order up j l = let P : List Row → Type 0 = λ ys. sorted order ys ≡ true in subst P (h j l) up
sends-sorted goes gather n xs sent h order up j l = let P : List Row → Type 0 = λ ys. sorted order ys ≡ true in subst P (h j l) up
sends-sorted goes concat n xs sent h order up j l = let P : List Row → Type 0 = λ ys. sorted order ys ≡ true in subst P (h j l) up

pub single-sorted : (goes : Routing) (k : ExchangeKind) (merge : List OrderEntry) (m n : ℕ) (s s' : Streams) → Exchanges goes k merge m n s s' → m ≡ 1
    → (order : List OrderEntry) → sorted order (s 0) ≡ true → (j : ℕ) → j < n → sorted order (s' j) ≡ true
single-sorted goes k merge m n s s' x e order up j l =
    let D : ℕ → Type 0 = λ a. Dealt a (s' j) (λ i. x.sent i j) in
    let same : s' j ≡ x.sent 0 j = Dealt-one (subst D e (x.gets j l)) in
    let P : List Row → Type 0 = λ ys. sorted order ys ≡ true in
    subst P (sym same) (sends-sorted goes k n (s 0) (x.sent 0) (x.sends 0 (omega arith)) order up j l)
