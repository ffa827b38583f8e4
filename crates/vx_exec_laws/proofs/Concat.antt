-- Lists one after the other are sorted where a range routed their rows.
use Rattle.std.proofs.Common.{⊎_elim, ◌&&◌, ◌||◌, ◌≡◌, ℕ, zero, suc, ◌<◌, ◌≤◌, ◌==◌, nat_lt, Bool, true, true≢false, List, [], ◌∷◌, ◌++◌, refl, sym, subst, ap, ◌∙◌, arith, eqb-true, ltb-true, lt-ltb, is_le, Ordering, Less, Equal, Greater}
use Rattle.std.specs.List.{list_all}
use Rattle.std.specs.Ordering.{ordering_then, ordering_reverse}
use Rattle.vx_rows_values.specs.declared.order.OrderEntry.{OrderEntry}
use Rattle.vx_rows_values.specs.Values.{Row, val_cmp, value_at, pick}
use Rattle.vx_rows_values.specs.Order.{compare_on, sorted}
use Rattle.vx_plan_nodes.specs.Plan.{Plan, claim, size, is_one, Claim, Part, one, any, all, routed, by_hash, by_range, ExchangeKind, route_to, round, broadcast, gather, concat}
use Rattle.vx_plan_nodes.specs.Runs.{is_concat}
use Rattle.vx_check_rules.specs.Rules.{is_front, rises_by, goes_on}
use Rattle.vx_plan_nodes.specs.Streams.{Streams, joined}
use Rattle.vx_plan_nodes.specs.Routes.{Routing}
use Rattle.vx_rows_values.proofs.Compare.{val_cmp_total}
use Rattle.vx_exec_laws.proofs.Bags.{and-left, and-right, and-both}
use Rattle.vx_exec_laws.proofs.Parts.{list_all-weaken, or-cases}
use Rattle.vx_exec_laws.proofs.Orders.{sorted-front}
use Rattle.vx_exec_laws.proofs.OrderFacts.{rise, entry-same}
use Rattle.vx_exec_laws.proofs.JoinOrder.{all-append}
use Rattle.vx_exec_laws.proofs.Groups.{joined-all}
use Rattle.vx_exec_laws.proofs.Places.{Placed}

-- two sorted lists, of which no row of the second is smaller than one of the first
pub sorted-two : (order : List OrderEntry) (xs ys : List Row) → sorted order xs ≡ true → sorted order ys ≡ true
    → list_all (λ x. list_all (λ y. is_le (compare_on order x y)) ys) xs ≡ true → sorted order (xs ++ ys) ≡ true
sorted-two order [] ys h k b = k
sorted-two order (x ∷ xs) ys h k b =
    let le : Row → Bool = λ y. is_le (compare_on order x y) in
    let rest : Bool = list_all (λ x. list_all (λ y. is_le (compare_on order x y)) ys) xs in
    and-both (list_all le (xs ++ ys)) (sorted order (xs ++ ys))
    (all-append le xs ys (and-left (list_all le xs) (sorted order xs) h) (and-left (list_all le ys) rest b))
    (sorted-two order xs ys (and-right (list_all le xs) (sorted order xs) h) k (and-right (list_all le ys) rest b))

abbrev pub Rising : Routing → Type 0
Rising goes = (k : ℕ) (a b : Row) (n : ℕ) → is_le (val_cmp (value_at a 0) (value_at b 0)) ≡ true → goes (by_range k) a n ≤ goes (by_range k) b n

module _ (goes : Routing) (rising : Rising goes) (k c : ℕ) (order : List OrderEntry) (n : ℕ) where
  abbrev place : Row → ℕ
  place row = goes (by_range k) (pick (c ∷ []) row) n

  -- a row with a smaller place is smaller
  below : (x y : Row) → place x < place y → is_le (compare_on (rise c ∷ order) x y) ≡ true
  below x y l = go (val_cmp (value_at x c) (value_at y c)) (val_cmp (value_at y c) (value_at x c)) (val_cmp_total.antisymm (value_at y c) (value_at x c)) refl
    where
      go : (o p : Ordering) → p ≡ ordering_reverse o → val_cmp (value_at y c) (value_at x c) ≡ p → is_le (ordering_then o (compare_on order x y)) ≡ true
      go Less p e f = refl
      go Equal p e f = absurd (let r = rising k (pick (c ∷ []) y) (pick (c ∷ []) x) n (ap is_le (f ∙ e)) in omega (arith, l, r))
      go Greater p e f = absurd (let r = rising k (pick (c ∷ []) y) (pick (c ∷ []) x) n (ap is_le (f ∙ e)) in omega (arith, l, r))

  -- streams of which each row stands where the range sends it, one after the other
  pub joined-sorted : (m : ℕ) (s : Streams) → ((w : ℕ) → w < m → list_all (λ row. place row == w) (s w) ≡ true) → ((w : ℕ) → w < m → sorted (rise c ∷ order) (s w) ≡ true)
      → sorted (rise c ∷ order) (joined m s) ≡ true
  joined-sorted zero s at up = refl
  joined-sorted (suc m) s at up =
      let before : list_all (λ row. nat_lt (place row) m) (joined m s) ≡ true
      = joined-all (λ row. nat_lt (place row) m) m s (λ w l. list_all-weaken (λ row. place row == w) (λ row. nat_lt (place row) m) (λ row e. let q : place row ≡ w = eqb-true (place row) w e in lt-ltb (place row) m (omega (arith, q, l))) (s w) (at w (omega arith))) in
      let last : list_all (λ row. place row == m) (s m) ≡ true = at m (omega arith) in
      sorted-two (rise c ∷ order) (joined m s) (s m) (joined-sorted m s (λ w l. at w (omega arith)) (λ w l. up w (omega arith))) (up m (omega arith))
      (list_all-weaken (λ row. nat_lt (place row) m) (λ x. list_all (λ y. is_le (compare_on (rise c ∷ order) x y)) (s m))
      (λ x e. list_all-weaken (λ row. place row == m) (λ y. is_le (compare_on (rise c ∷ order) x y))
      (λ y f. let a : place x < m = ltb-true (place x) m e in let b : place y ≡ m = eqb-true (place y) m f in below x y (omega (arith, a, b))) (s m) last)
      (joined m s) before)

-- lists whose rows stand where a range on the first column of their order, which rises, routes them are in order one after the other
pub ranged : (goes : Routing) → Rising goes → (q : Part) (order : List OrderEntry) (m : ℕ) (s : Streams) → rises_by q order ≡ true
    → ((i : ℕ) → i < m → sorted order (s i) ≡ true) → ((i : ℕ) → i < m → Placed goes q m i (s i)) → sorted order (joined m s) ≡ true
ranged goes rising one order m s e up at = absurd (true≢false (sym e))
ranged goes rising any order m s e up at = absurd (true≢false (sym e))
ranged goes rising all order m s e up at = absurd (true≢false (sym e))
ranged goes rising (routed (by_hash name) cols) order m s e up at = absurd (true≢false (sym e))
ranged goes rising (routed (by_range k) []) order m s e up at = absurd (true≢false (sym e))
ranged goes rising (routed (by_range k) (a ∷ b ∷ cols)) order m s e up at = absurd (true≢false (sym e))
ranged goes rising (routed (by_range k) (a ∷ [])) [] m s e up at = absurd (true≢false (sym e))
ranged goes rising (routed (by_range k) (a ∷ [])) (d ∷ order) m s e up at =
    let Q : OrderEntry → Type 0 = λ v. ((i : ℕ) → i < m → sorted (v ∷ order) (s i) ≡ true) → sorted (v ∷ order) (joined m s) ≡ true in
    subst Q (entry-same (rise a) d e) (λ ups. joined-sorted goes rising k a order m m s at ups) up

-- an order goes on only in a concat of such lists
pub goes-on-is : (k : ExchangeKind) (c : Claim) → goes_on k c ≡ true → (is_concat k ≡ true) × (rises_by c.part c.order ≡ true)
goes-on-is (route_to z r cols) c e = absurd (true≢false (sym e))
goes-on-is (round z) c e = absurd (true≢false (sym e))
goes-on-is (broadcast z) c e = absurd (true≢false (sym e))
goes-on-is gather c e = absurd (true≢false (sym e))
goes-on-is concat c e = (refl, e)

-- what an exchange puts out is in the order that it shows: the one that it merges by, or the input's from one worker, or that of a concat that goes on
pub exchange-sorted : (p : Plan) (kind : ExchangeKind) (merge order : List OrderEntry) (out : List Row)
    → (is_front order merge || ((is_one (size p) || goes_on kind (claim p)) && is_front order (claim p).order)) ≡ true → sorted merge out ≡ true
    → (is_one (size p) ≡ true → sorted (claim p).order out ≡ true) → (goes_on kind (claim p) ≡ true → sorted (claim p).order out ≡ true) → sorted order out ≡ true
exchange-sorted p kind merge order out h by_merge from_one on_it_goes = ⊎_elim
    (λ e. sorted-front order merge e out by_merge)
    (λ e.
    let there : Bool = is_one (size p) || goes_on kind (claim p) in
    sorted-front order (claim p).order (and-right there (is_front order (claim p).order) e) out
    (⊎_elim from_one on_it_goes (or-cases (is_one (size p)) (goes_on kind (claim p)) (and-left there (is_front order (claim p).order) e))))
    (or-cases (is_front order merge) ((is_one (size p) || goes_on kind (claim p)) && is_front order (claim p).order) h)
