-- Open nodes, by what stands below their exchanges and sorts of parts, and closed ones.
use Rattle.std.proofs.Common.{◌≡◌, ℕ, ◌==◌, Bool, true, false, cond, List, map, length, refl, sym, ap, ◌∙◌, subst, true≢false, Option, Some, None}
use Rattle.std.specs.List.{list_all}
use Rattle.vx_rows_values.specs.declared.order.OrderEntry.{OrderEntry}
use Rattle.vx_rows_values.specs.Values.{Row, pick}
use Rattle.vx_rows_values.specs.Order.{order_columns, sort_on}
use Rattle.vx_rows_values.specs.Bags.{SameRows}
use Rattle.vx_catalog_relations.specs.Catalog.{all_below}
use Rattle.vx_plan_nodes.specs.Plan.{Aggregate, Plan, scan, unary, binary, exchange}
use Rattle.vx_plan_nodes.specs.Phases.{first_columns, merged, aggregates_eq, columns_eq, is_open, opens, phase_fits, phased, Parts, spoken, Gives, listed}
use Rattle.vx_plan_nodes.specs.Serial.{group_keys, group_row, group_rows, group_fits, aggregate_of, of_key, SerialResult, rows, overflow, or_overflow, after, serial}
use Rattle.vx_plan_nodes.proofs.PhaseEqual.{aggregates_eq-is, columns_eq-is}
use Rattle.vx_exec_laws.proofs.Bags.{and-left, and-right, SameRows-all, SameRows-refl, SameRows-trans, SameRows-sym}
use Rattle.vx_exec_laws.proofs.Linear.{sort-total}
use Rattle.vx_exec_laws.proofs.Join.{pick-left}
use Rattle.vx_exec_laws.proofs.JoinOrder.{wide}
use Rattle.vx_exec_laws.proofs.Widths.{firsts-all, picks-wide}
use Rattle.vx_exec_laws.proofs.Phased.{by-phase}
use Rattle.vx_exec_laws.proofs.Pieces.{Parts-order, columns-long, final-again}
use Rattle.vx_exec_laws.proofs.Groups.{extended-sort}

-- ---- closed nodes

-- what is said of a closed node's own serial rows is said of those that its claim speaks of, where phases fit
pub closed : (db : ℕ → List Row) (p : Plan) → phased p ≡ true → is_open p ≡ false → (P : SerialResult → (List Row → List Row → Type 0) → (List Row → List Row) → Type 0)
    → P (serial db p) (λ base xs. SameRows xs base) (λ base. base) → P (serial db (spoken p)) (Gives p) (listed p)
closed db (scan n c r m z) fit e P h = h
closed db (unary n c op p) fit e P h = by-phase
    (λ op f. f.fits p ≡ true → f.open_over (is_open p) ≡ false → P (serial db (unary n c op p)) (λ base xs. SameRows xs base) (λ base. base)
    → P (serial db (f.spoken_of p (spoken p) (unary n c op p))) (f.gives_of (Gives p)) (f.listed_of (listed p)))
    (λ op w k e h. h) (λ by aggregates k e h. absurd (true≢false e)) (λ cols k e h. absurd (true≢false (sym k ∙ e))) (λ by aggregates k e h. h)
    op (and-right (phased p) (phase_fits op p) fit) e h
closed db (binary n c op p q) fit e P h = h
closed db (exchange n c k m p) fit e P h = closed db p fit e P h

pub closed-spoken : (db : ℕ → List Row) (p : Plan) → phased p ≡ true → is_open p ≡ false → serial db (spoken p) ≡ serial db p
closed-spoken db p fit e = closed db p fit e (λ o gives_of listed_of. o ≡ serial db p) refl

-- ---- open nodes

-- the groups of these rows in the order of these keys, or none where one does not fit
abbrev pub listed_rows : List ℕ → List Aggregate → (List Row → List Row) → List Row → Option (List Row)
listed_rows by aggregates listed_of xs = cond (list_all (group_fits by aggregates xs) (group_keys by xs)) (Some (map (group_row by aggregates xs) (listed_of xs))) None

-- rows of a plan that are put together by these columns and aggregates: those of a partial, whose serial input is given, in the order of its keys that is claimed
pub record OpenedOf (keys : List ℕ) (puts : List Aggregate) (here spoken_is : (ℕ → List Row) → SerialResult) (gives_of : List Row → List Row → Type 0) (listed_of : List Row → List Row) : Type 0 where
  pub by : List ℕ
  pub aggregates : List Aggregate
  pub keys_are : keys ≡ first_columns (length by)
  pub puts_are : puts ≡ merged (length by) aggregates
  pub node : ℕ
  pub serial_is : (db : ℕ → List Row) → here db ≡ after (spoken_is db) (λ xs. or_overflow node (listed_rows by aggregates listed_of xs))
  pub gives : (base xs : List Row) → gives_of base xs → Parts by aggregates base xs
  pub listed_same : (base : List Row) → SameRows (listed_of base) (group_keys by base)

abbrev pub Opened : List ℕ → List Aggregate → Plan → Type 0
Opened keys puts p = OpenedOf keys puts (λ db. serial db p) (λ db. serial db (spoken p)) (Gives p) (listed p)

-- each of the keys has a value for each column
pub listed-wide : (by : List ℕ) (ks base : List Row) → SameRows ks (group_keys by base) → wide (length by) ks ≡ true
listed-wide by ks base s =
    SameRows-all (SameRows-sym s) (λ row. length row == length by) (firsts-all (λ row. length row == length by) (map (pick by) base) (picks-wide by base))

-- a sort of the groups on their keys is one of the keys
sorted-rows : (by : List ℕ) (order : List OrderEntry) (aggregates : List Aggregate) → all_below (length by) (order_columns order) ≡ true → (base ks : List Row) → SameRows ks (group_keys by base)
    → sort_on order (map (group_row by aggregates base) ks) ≡ map (group_row by aggregates base) (sort_on order ks)
sorted-rows by order aggregates below base ks s = extended-sort order (length by) (group_row by aggregates base)
    (λ key l. pick-left (length by) (order_columns order) key (map (λ a. aggregate_of a (of_key by key base)) aggregates) below l) ks (listed-wide by ks base s)

sorted-after : (by : List ℕ) (order : List OrderEntry) (aggregates : List Aggregate) (listed_of : List Row → List Row) (j n : ℕ) → all_below (length by) (order_columns order) ≡ true
    → ((base : List Row) → SameRows (listed_of base) (group_keys by base)) → (u : SerialResult)
    → after (after u (λ xs. or_overflow j (listed_rows by aggregates listed_of xs))) (λ ys. or_overflow n (Some (sort_on order ys)))
    ≡ after u (λ xs. or_overflow j (listed_rows by aggregates (λ base. sort_on order (listed_of base)) xs))
sorted-after by order aggregates listed_of j n below same (overflow m) = refl
sorted-after by order aggregates listed_of j n below same (rows base) = go (list_all (group_fits by aggregates base) (group_keys by base))
  where
    go : (b : Bool) → after (or_overflow j (cond b (Some (map (group_row by aggregates base) (listed_of base))) None)) (λ ys. or_overflow n (Some (sort_on order ys)))
        ≡ or_overflow j (cond b (Some (map (group_row by aggregates base) (sort_on order (listed_of base)))) None)
    go true = ap rows (sorted-rows by order aggregates below base (listed_of base) (same base))
    go false = refl

pub opened : (keys : List ℕ) (puts : List Aggregate) (p : Plan) → opens keys puts p ≡ true → Opened keys puts p
opened keys puts (scan n c r m z) e = absurd (true≢false (sym e))
opened keys puts (unary n c op p) e = by-phase
    (λ op f. f.is_of keys puts (opens keys puts p) ≡ true → OpenedOf keys puts (λ db. serial db (unary n c op p)) (λ db. serial db (f.spoken_of p (spoken p) (unary n c op p)))
    (f.gives_of (Gives p)) (f.listed_of (listed p)))
    (λ op w e. absurd (true≢false (sym e)))
    (λ by aggregates e. record {
      by = by;
      aggregates = aggregates;
      keys_are = columns_eq-is keys (first_columns (length by)) (and-left (columns_eq keys (first_columns (length by))) (aggregates_eq puts (merged (length by) aggregates)) e);
      puts_are = aggregates_eq-is puts (merged (length by) aggregates) (and-right (columns_eq keys (first_columns (length by))) (aggregates_eq puts (merged (length by) aggregates)) e);
      node = n;
      serial_is = λ db. refl;
      gives = λ base xs h. h;
      listed_same = λ base. SameRows-refl (group_keys by base);
    })
    (λ order e.
    let cols : List ℕ = order_columns order in
    let o = opened keys puts p (and-right (all_below (length keys) cols) (opens keys puts p) e) in
    let P : ℕ → Type 0 = λ v. all_below v cols ≡ true in
    let below : all_below (length o.by) cols ≡ true
    = subst P (ap length o.keys_are ∙ columns-long 0 (length o.by)) (and-left (all_below (length keys) cols) (opens keys puts p) e) in
    record {
      by = o.by;
      aggregates = o.aggregates;
      keys_are = o.keys_are;
      puts_are = o.puts_are;
      node = o.node;
      serial_is = λ db. ap (λ u. after u (λ ys. or_overflow n (Some (sort_on order ys)))) (o.serial_is db)
          ∙ sorted-after o.by order o.aggregates (listed p) o.node n below o.listed_same (serial db (spoken p));
      gives = o.gives;
      listed_same = λ base. SameRows-trans (record { totals = λ f. sort-total f order (listed p base) }) (o.listed_same base);
    })
    (λ by aggregates e. absurd (true≢false (sym e))) op e
opened keys puts (binary n c op p q) e = absurd (true≢false (sym e))
opened keys puts (exchange n c k m p) e = opened keys puts p e

-- what is said of the final of the partial is said of these columns and aggregates
pub opened-as : (keys : List ℕ) (puts : List Aggregate) (p : Plan) (o : Opened keys puts p) (T : List ℕ → List Aggregate → Type 0) → T (first_columns (length o.by)) (merged (length o.by) o.aggregates) → T keys puts
opened-as keys puts p o T h =
    let A : List ℕ → Type 0 = λ v. T v puts in
    let B : List Aggregate → Type 0 = λ v. T (first_columns (length o.by)) v in
    subst A (sym o.keys_are) (subst B (sym o.puts_are) h)

-- what stands for the serial rows does so in any order
pub Gives-order : (p : Plan) (base xs ys : List Row) → SameRows xs ys → Gives p base xs → Gives p base ys
Gives-order (scan n c r m z) base xs ys s h = SameRows-trans (SameRows-sym s) h
Gives-order (unary n c op p) base xs ys s h = by-phase (λ op f. f.gives_of (Gives p) base xs → f.gives_of (Gives p) base ys)
    (λ op w h. SameRows-trans (SameRows-sym s) h) (λ by aggregates h. Parts-order by aggregates base xs ys s h) (λ order h. Gives-order p base xs ys s h)
    (λ by aggregates h. SameRows-trans (SameRows-sym s) h) op h
Gives-order (binary n c op p q) base xs ys s h = SameRows-trans (SameRows-sym s) h
Gives-order (exchange n c k m p) base xs ys s h = Gives-order p base xs ys s h

-- a final over the groups of all rows, sorted or not, gives them again
pub final-serial : (db : ℕ → List Row) (keys : List ℕ) (puts : List Aggregate) (p : Plan) → opens keys puts p ≡ true
    → (xs : List Row) → serial db p ≡ rows xs → group_rows keys puts xs ≡ Some xs
final-serial db keys puts p e xs h =
    let o = opened keys puts p e in
    opened-as keys puts p o (λ a b. group_rows a b xs ≡ Some xs) (go o.by o.aggregates o.node o.listed_same (serial db (spoken p)) (sym (o.serial_is db) ∙ h))
  where
    go : (by : List ℕ) (aggregates : List Aggregate) (j : ℕ) → ((base : List Row) → SameRows (listed p base) (group_keys by base)) → (u : SerialResult)
        → after u (λ ys. or_overflow j (listed_rows by aggregates (listed p) ys)) ≡ rows xs
        → group_rows (first_columns (length by)) (merged (length by) aggregates) xs ≡ Some xs
    go by aggregates j same (overflow m) h = cc
    go by aggregates j same (rows base) h = fit (list_all (group_fits by aggregates base) (group_keys by base)) refl h
      where
        fit : (b : Bool) → list_all (group_fits by aggregates base) (group_keys by base) ≡ b → or_overflow j (cond b (Some (map (group_row by aggregates base) (listed p base))) None) ≡ rows xs
            → group_rows (first_columns (length by)) (merged (length by) aggregates) xs ≡ Some xs
        fit true f g =
            let s : map (group_row by aggregates base) (listed p base) ≡ xs = cc in
            let P : List Row → Type 0 = λ l. group_rows (first_columns (length by)) (merged (length by) aggregates) l ≡ Some l in
            subst P s (final-again by aggregates base (listed p base) (same base) f)
        fit false f g = cc
