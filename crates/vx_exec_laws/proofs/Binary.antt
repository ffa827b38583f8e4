-- Union and join keep the parts that the rule table shows.
use Rattle.std.proofs.Common.{◌≡◌, ℕ, ◌+◌, ◌-◌, ◌<◌, nat_lt, nat_le, Bool, true, false, cond, List, [], ◌∷◌, ◌++◌, map, refl, sym, ap, ◌∙◌, subst, arith, true≢false, Some, None, ltb-true, lt-ltb}
use Rattle.std.specs.List.{list_all}
use Rattle.vx_rows_values.specs.declared.order.OrderEntry.{OrderEntry}
use Rattle.vx_rows_values.specs.Values.{Row}
use Rattle.vx_rows_values.specs.Order.{order_columns, entry_eq}
use Rattle.vx_rows_values.specs.Bags.{total, SameRows}
use Rattle.vx_plan_nodes.specs.Plan.{Route, Part, one, any, all, routed}
use Rattle.vx_catalog_relations.specs.Catalog.{all_below}
use Rattle.vx_plan_nodes.specs.Serial.{join_rows}
use Rattle.vx_plan_nodes.specs.Streams.{Streams, joined, across}
use Rattle.vx_plan_nodes.specs.Routes.{Routing}
use Rattle.vx_check_rules.specs.Rules.{part_gives, route_eq, all_pairs, routed_alike, right_columns, left_columns, is_front}
use Rattle.vx_check_rules.specs.Claims.{PartHolds, InItsStream}
use Rattle.vx_exec_laws.proofs.Bags.{and-left, and-right, and-both, total-append, total-joined, across-ext, across-add, stream-all, SameRows-all, SameRows-sym}
use Rattle.vx_exec_laws.proofs.Parts.{route_eq-is}
use Rattle.vx_exec_laws.proofs.OrderFacts.{entry-same}
use Rattle.vx_exec_laws.proofs.Join.{join-alike}

-- what holds of the serial rows holds of each stream's
pub streams-all : (goes : Routing) (q : Part) (n : ℕ) (s : Streams) (base : List Row) → PartHolds goes q n s base
    → (p : Row → Bool) → list_all p base ≡ true → (w : ℕ) → w < n → list_all p (s w) ≡ true
streams-all goes one n s base h p k w l = stream-all n s base h.1 p k w l
streams-all goes any n s base h p k w l = stream-all n s base h p k w l
streams-all goes all n s base h p k w l = SameRows-all (SameRows-sym (h w l)) p k
streams-all goes (routed r cols) n s base h p k w l = stream-all n s base h.0 p k w l

-- union
pub union-any : (n : ℕ) (s t s' : Streams) (base rbase : List Row) → ((w : ℕ) → w < n → (s w ++ t w) ≡ s' w)
    → SameRows (joined n s) base → SameRows (joined n t) rbase → SameRows (joined n s') (base ++ rbase)
union-any n s t s' base rbase run a b = record {
  totals = λ f.
      total-joined f n s'
      ∙ (across-ext n (λ i. total f (s' i)) (λ i. total f (s i) + total f (t i)) (λ i l. ap (total f) (sym (run i l)) ∙ total-append f (s i) (t i))
      ∙ (across-add n (λ i. total f (s i)) (λ i. total f (t i))
      ∙ (let x : total f (joined n s) ≡ across n (λ i. total f (s i)) = total-joined f n s in
      let y : total f (joined n t) ≡ across n (λ i. total f (t i)) = total-joined f n t in
      let u : total f (joined n s) ≡ total f base = a.totals f in
      let v : total f (joined n t) ≡ total f rbase = b.totals f in
      let z : total f (base ++ rbase) ≡ total f base + total f rbase = total-append f base rbase in
      omega (arith, x, y, u, v, z))));
}

pub append-same : {xs xs' ys ys' : List Row} → SameRows xs xs' → SameRows ys ys' → SameRows (xs ++ ys) (xs' ++ ys')
append-same {xs} {xs'} {ys} {ys'} a b = record {
  totals = λ f.
      let x = total-append f xs ys in
      let y = total-append f xs' ys' in
      let u = a.totals f in
      let v = b.totals f in
      omega (arith, x, y, u, v);
}

-- join
pub right_columns-is : (w : ℕ) (cols cs : List ℕ) → right_columns w cols ≡ Some cs → (list_all (λ c. nat_le w c) cols ≡ true) × (map (λ c. c - w) cols ≡ cs)
right_columns-is w cols cs e = go (list_all (λ c. nat_le w c) cols) e
  where
    go : (b : Bool) → cond b (Some (map (λ c. c - w) cols)) None ≡ Some cs → (b ≡ true) × (map (λ c. c - w) cols ≡ cs)
    go true e = (refl, cc)
    go false e = cc

pub left_columns-is : (w : ℕ) (cols cs : List ℕ) → left_columns w cols ≡ Some cs → (all_below w cols ≡ true) × (cols ≡ cs)
left_columns-is w cols cs e = go (all_below w cols) e
  where
    go : (b : Bool) → cond b (Some cols) None ≡ Some cs → (b ≡ true) × (cols ≡ cs)
    go true e = (refl, cc)
    go false e = cc

-- inputs that are routed alike: rows that are paired meet, and neither input has all rows on each worker
pub join-met : (goes : Routing) (on : List (ℕ × ℕ)) (pp qp : Part) (n : ℕ) (s t s' : Streams) (base rbase : List Row)
    → routed_alike on pp qp ≡ true → ((w : ℕ) → w < n → join_rows on (s w) (t w) ≡ s' w) → PartHolds goes pp n s base → PartHolds goes qp n t rbase
    → SameRows (joined n s') (join_rows on base rbase) × (part_gives pp all ≡ false) × (part_gives qp all ≡ false)
join-met goes on one qp n s t s' base rbase ra run hp hq = absurd (true≢false (sym ra))
join-met goes on any qp n s t s' base rbase ra run hp hq = absurd (true≢false (sym ra))
join-met goes on all qp n s t s' base rbase ra run hp hq = absurd (true≢false (sym ra))
join-met goes on (routed r ls) one n s t s' base rbase ra run hp hq = absurd (true≢false (sym ra))
join-met goes on (routed r ls) any n s t s' base rbase ra run hp hq = absurd (true≢false (sym ra))
join-met goes on (routed r ls) all n s t s' base rbase ra run hp hq = absurd (true≢false (sym ra))
join-met goes on (routed r ls) (routed u rs) n s t s' base rbase ra run hp hq =
    let U : Route → Type 0 = λ k. InItsStream goes k rs n t in
    let same : r ≡ u = route_eq-is r u (and-left (route_eq r u) (all_pairs on ls rs) ra) in
    (join-alike goes r on ls rs n s t s' base rbase (and-right (route_eq r u) (all_pairs on ls rs) ra) run hp.0 hp.1 hq.0 (subst U (sym same) hq.1), refl, refl)

pub front-below : (w : ℕ) (cs ds : List OrderEntry) → is_front cs ds ≡ true → all_below w (order_columns ds) ≡ true → all_below w (order_columns cs) ≡ true
front-below w [] ds f h = refl
front-below w (c ∷ cs) [] f h = absurd (true≢false (sym f))
front-below w (c ∷ cs) (d ∷ ds) f h =
    let e : c.column ≡ d.column = ap (λ (v : OrderEntry). v.column) (entry-same c d (and-left (entry_eq c d) (is_front cs ds) f)) in
    let b : d.column < w = ltb-true d.column w (and-left (nat_lt d.column w) (all_below w (order_columns ds)) h) in
    and-both (nat_lt c.column w) (all_below w (order_columns cs)) (lt-ltb c.column w (omega (arith, e, b)))
    (front-below w cs ds (and-right (entry_eq c d) (is_front cs ds) f) (and-right (nat_lt d.column w) (all_below w (order_columns ds)) h))
