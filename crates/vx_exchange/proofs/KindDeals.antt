-- What each kind of exchange deals to the lanes.
use Rattle.std.proofs.Common.{ℕ, suc, ◌≡◌, ◌==◌, ◌<◌, ◌∙◌, List, [], ◌∷◌, length, map, cond, refl, sym, ap, arith, All, string_bytes}
use Rattle.std.specs.Prelude.{zip}
use Rattle.std.specs.List.{AllByRecursion}
use Rattle.vx_rows_values.specs.Values.{Row, pick}
use Rattle.vx_rows.proofs.Below.{all_at}
use Rattle.vx_plan_nodes.specs.Plan.{Size, route_to, round, broadcast, gather, concat, by_hash, by_range}
use Rattle.vx_plan_nodes.specs.Routes.{Routing}
use Rattle.vx_plan_nodes.specs.Streams.{bearing}
use Rattle.vx_exchange_ends.specs.Sending.{KindRoutesAs}
use Rattle.vx_exchange.specs.LaneView.{LaneView}
use Rattle.vx_exchange.specs.Routed.{key_route, key_columns, key_bounds, routed_to}
use Rattle.vx_exchange.specs.Lanes.{in_turn, Deals, CutsEach}
use Rattle.vx_exchange.specs.declared.routes.KeyRoute.{KeyRoute}
use Rattle.vx_exchange.specs.declared.routes.KeyRoute.TheVariants.{Hash, Range}
use Rattle.vx_exchange.proofs.LaneLists.{cuts-same}
use Rattle.vx_exchange.proofs.Turns.{turns-dealt, filter-bearing}

pub route-deals : (hash : List ℕ → Row → ℕ → ℕ) (goes : Routing) (z : Size) (r : KeyRoute) (next : ℕ) (rows : List Row) (old new : List LaneView) → 0 < length old
    → KindRoutesAs (route_to z (key_route r) (key_columns r)) (key_bounds r) hash goes → CutsEach (λ j. bearing j (zip (map (routed_to hash r (length old)) rows) rows)) old new
    → Deals goes (route_to z (key_route r) (key_columns r)) next rows old new
route-deals hash goes z (Hash name cols) next rows old new some routes cuts =
    let n = length old in
    let f : Row → ℕ = routed_to hash (Hash name cols) n in
    record {
      more = λ j. bearing j (zip (map f rows) rows);
      sends = λ j l. filter-bearing f (λ row. goes (by_hash (string_bytes name)) (pick cols.items row) n) j rows (λ x. routes (pick cols.items x) n some);
      turns = tt;
      cuts = cuts;
    }
route-deals hash goes z (Range k bounds c) next rows old new some routes cuts =
    let n = length old in
    let f : Row → ℕ = routed_to hash (Range k bounds c) n in
    record {
      more = λ j. bearing j (zip (map f rows) rows);
      sends = λ j l. filter-bearing f (λ row. goes (by_range k) (pick (c ∷ []) row) n) j rows (λ x. routes (pick (c ∷ []) x) n some);
      turns = tt;
      cuts = cuts;
    }

pub round-deals : (goes : Routing) (z : Size) (next : ℕ) (rows : List Row) (old new : List LaneView) → 0 < length old → CutsEach (λ j. bearing j (in_turn (length old) next rows)) old new
    → Deals goes (round z) next rows old new
round-deals goes z next rows old new some cuts =
    record { more = λ j. bearing j (in_turn (length old) next rows); sends = turns-dealt (length old) next rows some; turns = λ j l. refl; cuts = cuts }

pub broadcast-deals : (goes : Routing) (z : Size) (next : ℕ) (rows : List Row) (old new : List LaneView) → CutsEach (λ j. rows) old new → Deals goes (broadcast z) next rows old new
broadcast-deals goes z next rows old new cuts = record { more = λ j. rows; sends = λ j l. refl; turns = tt; cuts = cuts }

pub gather-deals : (goes : Routing) (next : ℕ) (rows : List Row) (old new : List LaneView) → CutsEach (λ j. rows) old new → Deals goes gather next rows old new
gather-deals goes next rows old new cuts = record { more = λ j. rows; sends = λ j l. refl; turns = tt; cuts = cuts }

pub concat-deals : (goes : Routing) (next : ℕ) (rows : List Row) (old new : List LaneView) → CutsEach (λ j. rows) old new → Deals goes concat next rows old new
concat-deals goes next rows old new cuts = record { more = λ j. rows; sends = λ j l. refl; turns = tt; cuts = cuts }

-- a route sends each row to one of the consumers
pub routed-below : (hash : List ℕ → Row → ℕ → ℕ) → ((name : List ℕ) (key : Row) (n : ℕ) → 0 < n → hash name key n < n)
    → (r : KeyRoute) (n : ℕ) (row : Row) → 0 < n → routed_to hash r n row < n
routed-below hash law (Hash name cols) n row some = law (string_bytes name) (pick cols.items row) n some
routed-below hash law (Range k bounds c) n row some = omega arith

each-below : (f : Row → ℕ) (n : ℕ) (rows : List Row) → ((x : Row) → f x < n) → AllByRecursion (λ k. k < n) (map f rows)
each-below f n [] h = tt
each-below f n (x ∷ xs) h = (h x, each-below f n xs h)

pub map-below : (f : Row → ℕ) (n : ℕ) (rows : List Row) → ((x : Row) → f x < n) → All (λ k. k < n) (map f rows)
map-below f n rows h = all_at (λ k. k < n) (map f rows) (each-below f n rows h)

-- where there is one consumer, it gets all rows
pub all-to-one : (ks : List ℕ) (rows : List Row) → length ks ≡ length rows → All (λ k. k < 1) ks → bearing 0 (zip ks rows) ≡ rows
all-to-one [] [] long all = refl
all-to-one [] (x ∷ rows) long all = absurd (omega (arith, long))
all-to-one (k ∷ ks) [] long all = absurd (omega (arith, long))
all-to-one (k ∷ ks) (x ∷ rows) long all =
    let small = all 0 0 (omega arith) in
    let zero : k ≡ 0 = omega (arith, small) in
    let rest = bearing 0 (zip ks rows) in
    ap (λ i. cond (i == 0) (x ∷ rest) rest) zero ∙ ap (λ xs. x ∷ xs) (all-to-one ks rows (omega (arith, long)) (λ i d l. all (suc i) d (omega (arith, l))))

-- so all rows to the one lane are what was dealt to it
pub cuts-one_lane : (ks : List ℕ) (rows : List Row) (old new : List LaneView) → length old ≡ 1 → length ks ≡ length rows → All (λ k. k < 1) ks → CutsEach (λ j. rows) old new
    → CutsEach (λ j. bearing j (zip ks rows)) old new
cuts-one_lane ks rows old new one long all cuts =
    cuts-same (λ j. rows) (λ j. bearing j (zip ks rows)) old new (λ j l.
    let zero : 0 ≡ j = omega (arith, l, one) in
    sym (all-to-one ks rows long all) ∙ ap (λ i. bearing i (zip ks rows)) zero) cuts
