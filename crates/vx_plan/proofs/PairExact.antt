-- An operator over two inputs, and an exchange: what is found says the names that were asked for, and is found again by them.
use Rattle.std.proofs.Common.{◌≡◌, ℕ, ◌+◌, nat_lt, nat_le, List, [], ◌∷◌, ◌++◌, Bool, true, false, not, ◌&&◌, Ok, map, length, bytes_eq, refl, sym, ap, ◌∙◌, subst, length-append, arith, true≢false, eqb-true}
use Rattle.std.specs.Prelude.{⊤}
use Rattle.std.specs.List.{list_all}
use Rattle.vx_catalog_json.specs.Look.{OrderText}
use Rattle.vx_rows_values.specs.declared.order.OrderEntry.{OrderEntry}
use Rattle.vx_rows_values.specs.Order.{order_columns}
use Rattle.vx_catalog_relations.specs.Naming.{order_text}
use Rattle.vx_plan.proofs.OrderFacts.{order-said, order-again, order_once-again}
use Rattle.vx_rows_values.specs.Types.{type_at}
use Rattle.vx_rows_values.specs.Lists.{is_some_list}
use Rattle.vx_rows_values.specs.Values.{Name}
use Rattle.vx_rows_values.proofs.Booleans.{and-left, and-right, and-both}
use Rattle.vx_catalog_relations.specs.Catalog.{all_below, are_distinct, are_distinct_names}
use Rattle.vx_plan_nodes.specs.Plan.{Condition, Size, by_hash, by_range, JoinMethod, by_hashing, by_merging, Binary, ExchangeKind, route_to}
use Rattle.vx_plan_nodes.specs.Plan as plan
use Rattle.vx_plan_nodes.specs.Types.{binary_types}
use Rattle.vx_plan_nodes.specs.Typed.{are_columns, type_eq, types_eq, is_condition, is_pair, are_distinct_pairs, has_directions, is_binary, is_size, is_routed, is_kind}
use Rattle.vx_plan_nodes.specs.Outline.{Columns}
use Rattle.vx_plan_nodes.specs.Names.{Names, scope_of}
use Rattle.vx_plan_json.specs.Document.{ConditionForm, BinaryForm, KindForm}
use Rattle.vx_plan_json.specs.Document as form
use Rattle.vx_plan_json.specs.Fault.{◌>>=◌}
use Rattle.vx_plan.specs.Lookup.{walk_onto, find_column, find_columns, find_order, test_distinct, test_distinct_pairs, test_match, find_size, find_range}
use Rattle.vx_plan.specs.Resolve.{find_conditions, find_pair, find_pairs, both_columns, test_join, join_pairs, find_matches, join_matches, method_of, Joint, binary_shape, find_kind, kind_names, kind_fits, exchange_columns, test_exchange, exchange_shape}
use Rattle.vx_plan.specs.ByName.{names_at, condition_by_name, pair_by_name, is_merging, binary_by_name, kind_by_name}
use Rattle.vx_plan.specs.Exact.{binary_names, is_first_condition, has_first_columns, is_rising, merges_rising}
use Rattle.vx_plan.proofs.Apart.{apart}
use Rattle.vx_plan.proofs.Each.{ok_then, ok_last, each-walked, each-said, walk-each, each-again}
use Rattle.vx_plan.proofs.Passed.{test_distinct-passes, test_distinct_pairs-passes}
use Rattle.vx_plan.proofs.Looked.{AreDeclared, column-said, columns-said, range-said, size-said, column-again, columns-again, range-again, size-again, columns_once-again, is_pair_below, pairs-once}
use Rattle.vx_plan.proofs.ClaimExact.{test_match-again, along, none-once, range-fits}
use Rattle.vx_plan.proofs.UnarySaid.{test_distinct-distinct}
use Rattle.vx_plan.proofs.MatchExact.{conditions-first, conditions-said, conditions-again}
use Rattle.vx_plan.proofs.UnaryAgain.{columns-same, test_width-again}

-- ---- two inputs: what was found

pub record IsJointSaid (left right : Columns) (f : BinaryForm) (o : Joint) : Type 0 where
  pub says : binary_by_name left.names right.names o.op ≡ f
  pub named : o.columns.names ≡ binary_names o.op left.names right.names
  pub distinct : are_distinct_names o.columns.names ≡ true
  pub firsts : has_first_columns o.op left.names right.names ≡ true
  pub rising : merges_rising o.op ≡ true

pair-said : (node : ℕ) (left right : List Name) (p : Name × Name) (q : ℕ × ℕ) → find_pair node left right p ≡ Ok q → pair_by_name left right q ≡ p
unfolding find_pair
pair-said node left right p q h =
    let t = ok_then _ (find_column node left p.0) q h in
    let u = ok_last (λ (r : ℕ). (t.0, r)) (find_column node right p.1) q t.2 in
    rw (← u.2) (rw ((column-said node left p.0 t.0 t.1).named, (column-said node right p.1 u.0 u.1).named) refl)

-- the pairs of a join that were found
pairs-said : (node : ℕ) (left right : List Name) (on : List (Name × Name)) (ps : List (ℕ × ℕ)) → find_pairs node left right on ≡ Ok ps → map (pair_by_name left right) ps ≡ on
unfolding find_pairs
pairs-said node left right on ps h = each-said (find_pair node left right) (pair_by_name left right) (pair-said node left right) on ps (each-walked (find_pair node left right) on ps h)

record AreMatchesSaid (left right : Columns) (on : List (Name × Name)) (cs : List ConditionForm) (g : List (ℕ × ℕ) × List Condition) : Type 0 where
  pairs : map (pair_by_name left.names right.names) g.0 ≡ on
  conditions : map (condition_by_name (left.names ++ right.names)) g.1 ≡ cs
  firsts : list_all (is_first_condition (left.names ++ right.names)) g.1 ≡ true

matches-said : (node : ℕ) (left right : Columns) (on : List (Name × Name)) (cs : List ConditionForm) (g : List (ℕ × ℕ) × List Condition) → join_matches node left right on cs ≡ Ok g → AreMatchesSaid left right on cs g
unfolding join_matches find_matches
matches-said node left right on cs g h =
    let both : List Name = left.names ++ right.names in
    let t = ok_then _ (find_pairs node left.names right.names on >>= λ ps. find_conditions node both cs >>= λ ks. Ok (ps, ks)) g h in
    let p = ok_then _ (find_pairs node left.names right.names on) t.0 t.1 in
    let k = ok_last (λ (ks : List Condition). (p.0, ks)) (find_conditions node both cs) t.0 p.2 in
    let u = ok_then _ (test_distinct_pairs node on) g t.2 in
    let v = ok_last (λ (w : ⊤). t.0) (test_match node (list_all (is_pair left.types right.types) t.0.0 && list_all (is_condition (left.types ++ right.types)) t.0.1)) g u.2 in
    let P : List (ℕ × ℕ) × List Condition → Type 0 = λ g. AreMatchesSaid left right on cs g in
    subst P (k.2 ∙ v.2) (record { pairs = pairs-said node left.names right.names on p.0 p.1; conditions = conditions-said node both cs k.0 k.1; firsts = conditions-first node both cs k.0 k.1 })

-- a join by merging says that it merges, and merges on rising columns
method-said : (merging : Bool) (on : List (ℕ × ℕ)) → is_merging (method_of merging on) ≡ merging
method-said false on = refl
method-said true on = refl

none-fall : (on : List (ℕ × ℕ)) → list_all not (map (λ (p : ℕ × ℕ). false) on) ≡ true
none-fall [] = refl
none-fall (p ∷ on) = none-fall on

method-rises : (merging : Bool) (on : List (ℕ × ℕ)) → is_rising (method_of merging on) ≡ true
method-rises false on = refl
method-rises true on = none-fall on

pub joint-said : (node : ℕ) (left right : Columns) (f : BinaryForm) (o : Joint) → are_distinct_names left.names ≡ true → binary_shape node left right f ≡ Ok o → IsJointSaid left right f o
unfolding binary_shape join_pairs test_join
joint-said node left right form.union o d h =
    let t = ok_last (λ (w : ⊤). record { op = plan.union; columns = left }) (test_match node (types_eq left.types right.types)) o h in
    let P : Joint → Type 0 = λ o. IsJointSaid left right form.union o in
    subst P t.2 (record { says = refl; named = refl; distinct = d; firsts = refl; rising = refl })
joint-said node left right (form.join merging on) o d h =
    let t = ok_last (λ (ps : List (ℕ × ℕ)). record { op = plan.join (method_of merging ps) ps; columns = both_columns left right }) (join_pairs node left right on) o h in
    let a = ok_then _ (find_pairs node left.names right.names on) t.0 t.1 in
    let b = ok_then _ (test_join node (left.names ++ right.names) on) t.0 a.2 in
    let c = ok_then _ (test_distinct node (left.names ++ right.names)) b.0 b.1 in
    let e = ok_last (λ (w : ⊤). a.0) (test_match node (list_all (is_pair left.types right.types) a.0)) t.0 b.2 in
    let said = pairs-said node left.names right.names on a.0 a.1 in
    let P : Joint → Type 0 = λ o. IsJointSaid left right (form.join merging on) o in
    subst P t.2 (record {
      says = ap (λ m. form.join m (map (pair_by_name left.names right.names) t.0)) (method-said merging t.0) ∙ ap (λ l. form.join merging l) (ap (map (pair_by_name left.names right.names)) (sym e.2) ∙ said);
      named = refl;
      distinct = test_distinct-distinct node (left.names ++ right.names) c.0 c.1;
      firsts = refl;
      rising = method-rises merging t.0;
    })
joint-said node left right (form.semi_join matched on cs) o d h =
    let t = ok_last (λ (g : List (ℕ × ℕ) × List Condition). record { op = plan.semi_join matched g.0 g.1; columns = left }) (join_matches node left right on cs) o h in
    let g = matches-said node left right on cs t.0 t.1 in
    let P : Joint → Type 0 = λ o. IsJointSaid left right (form.semi_join matched on cs) o in
    subst P t.2 (record { says = rw (g.pairs, g.conditions) refl; named = refl; distinct = d; firsts = g.firsts; rising = refl })

-- ---- two inputs: what is found again

pair-again : (node : ℕ) (left right : List Name) (q : ℕ × ℕ) → apart bytes_eq left ≡ true → apart bytes_eq right ≡ true → is_pair_below left right q ≡ true → find_pair node left right (pair_by_name left right q) ≡ Ok q
unfolding find_pair
pair-again node left right q a b h =
    let l = column-again node left q.0 a (and-left (nat_lt q.0 (length left)) (nat_lt q.1 (length right)) h) in
    let r = column-again node right q.1 b (and-right (nat_lt q.0 (length left)) (nat_lt q.1 (length right)) h) in
    rw (l, r) refl

-- typed pairs are of columns there are
pairs-below : (left right : Columns) (on : List (ℕ × ℕ)) → length left.names ≡ length left.types → length right.names ≡ length right.types → list_all (is_pair left.types right.types) on ≡ true → list_all (is_pair_below left.names right.names) on ≡ true
pairs-below left right [] e f h = refl
pairs-below left right (p ∷ on) e f h =
    let same : Bool = type_eq (type_at left.types p.0) (type_at right.types p.1) in
    let one = and-left (is_pair left.types right.types p) (list_all (is_pair left.types right.types) on) h in
    let rest = and-right (nat_lt p.0 (length left.types)) (nat_lt p.1 (length right.types) && same) one in
    let P : ℕ → Type 0 = λ n. nat_lt p.0 n ≡ true in
    let Q : ℕ → Type 0 = λ n. nat_lt p.1 n ≡ true in
    and-both (is_pair_below left.names right.names p) (list_all (is_pair_below left.names right.names) on)
    (and-both (nat_lt p.0 (length left.names)) (nat_lt p.1 (length right.names)) (subst P (sym e) (and-left (nat_lt p.0 (length left.types)) (nat_lt p.1 (length right.types) && same) one))
    (subst Q (sym f) (and-left (nat_lt p.1 (length right.types)) same rest)))
    (pairs-below left right on e f (and-right (is_pair left.types right.types p) (list_all (is_pair left.types right.types) on) h))

-- two inputs with names of their own, and the output that the operator gives
pub record IsJoin (left right : Columns) (op : Binary) (output : Columns) : Type 0 where
  pub own_left : apart bytes_eq left.names ≡ true
  pub own_right : apart bytes_eq right.names ≡ true
  pub wide_left : length left.names ≡ length left.types
  pub wide_right : length right.names ≡ length right.types
  pub fits : is_binary left.types right.types op ≡ true
  pub named : output.names ≡ binary_names op left.names right.names
  pub typed : output.types ≡ binary_types op left.types right.types
  pub long : length output.names ≡ length output.types
  pub few : nat_le (length output.types) 64 ≡ true
  pub distinct : apart bytes_eq output.names ≡ true
  pub firsts : has_first_columns op left.names right.names ≡ true
  pub rising : merges_rising op ≡ true

-- typed pairs are found again
pairs-again : (node : ℕ) (left right : Columns) (on : List (ℕ × ℕ)) → apart bytes_eq left.names ≡ true → apart bytes_eq right.names ≡ true → list_all (is_pair_below left.names right.names) on ≡ true
    → find_pairs node left.names right.names (map (pair_by_name left.names right.names) on) ≡ Ok on
unfolding find_pairs
pairs-again node left right on a b below =
    walk-each (find_pair node left.names right.names) (map (pair_by_name left.names right.names) on) [] on
    (each-again (find_pair node left.names right.names) (pair_by_name left.names right.names) (is_pair_below left.names right.names) (λ q h. pair-again node left.names right.names q a b h) on below)

-- directions that all rise, one for each pair
falls-again : (falls : List Bool) (on : List (ℕ × ℕ)) → length falls ≡ length on → list_all not falls ≡ true → map (λ (p : ℕ × ℕ). false) on ≡ falls
falls-again [] [] e h = refl
falls-again [] (p ∷ on) e h = absurd (omega (arith, e))
falls-again (f ∷ falls) [] e h = absurd (omega (arith, e))
falls-again (true ∷ falls) (p ∷ on) e h = absurd (true≢false (sym h))
falls-again (false ∷ falls) (p ∷ on) e h = ap (λ (l : List Bool). false ∷ l) (falls-again falls on (omega (arith, e)) h)

method-again : (method : JoinMethod) (on : List (ℕ × ℕ)) → has_directions method on ≡ true → is_rising method ≡ true → method_of (is_merging method) on ≡ method
method-again by_hashing on e h = refl
method-again (by_merging falls) on e h = ap (λ (l : List Bool). by_merging l) (falls-again falls on (eqb-true (length falls) (length on) e) h)

pub joint-again : (node : ℕ) (left right : Columns) (op : Binary) (output : Columns) → IsJoin left right op output → binary_shape node left right (binary_by_name left.names right.names op) ≡ Ok (record { op = op; columns = output })
unfolding binary_shape join_pairs test_join find_matches join_matches
joint-again node left right plan.union output o =
    rw (test_match-again node (types_eq left.types right.types) o.fits, columns-same output left o.named o.typed) refl
joint-again node left right (plan.join method on) output o =
    let pairs : Bool = list_all (is_pair left.types right.types) on in
    let rest = and-right (is_some_list on) (pairs && (are_distinct_pairs on && has_directions method on)) o.fits in
    let typed = and-left pairs (are_distinct_pairs on && has_directions method on) rest in
    let last = and-right pairs (are_distinct_pairs on && has_directions method on) rest in
    let below = pairs-below left right on o.wide_left o.wide_right typed in
    let found = pairs-again node left right on o.own_left o.own_right below in
    let Q : List Name → Type 0 = λ ns. apart bytes_eq ns ≡ true in
    let R : ℕ → Type 0 = λ n. nat_le n 64 ≡ true in
    let one = test_distinct-passes node (left.names ++ right.names) (subst Q o.named o.distinct) in
    let two = test_distinct_pairs-passes node (map (pair_by_name left.names right.names) on)
    (pairs-once left.names right.names on o.own_left o.own_right below (and-left (are_distinct_pairs on) (has_directions method on) last)) in
    let three = test_width-again node (length (left.names ++ right.names)) (subst R (sym o.long ∙ ap length o.named) o.few) in
    let four = method-again method on (and-right (are_distinct_pairs on) (has_directions method on) last) o.rising in
    rw (found, one, two, three, test_match-again node pairs typed, four, columns-same output (both_columns left right) o.named o.typed) refl
joint-again node left right (plan.semi_join matched on cs) output o =
    let pairs : Bool = list_all (is_pair left.types right.types) on in
    let fits : Bool = list_all (is_condition (left.types ++ right.types)) cs in
    let rest = and-right (is_some_list on) (pairs && (are_distinct_pairs on && fits)) o.fits in
    let typed = and-left pairs (are_distinct_pairs on && fits) rest in
    let last = and-right pairs (are_distinct_pairs on && fits) rest in
    let below = pairs-below left right on o.wide_left o.wide_right typed in
    let wide : length (left.names ++ right.names) ≡ length (left.types ++ right.types) =
    length-append left.names right.names ∙ (ap (λ n. n + length right.names) o.wide_left ∙ (ap (λ n. length left.types + n) o.wide_right ∙ sym (length-append left.types right.types))) in
    let found = pairs-again node left right on o.own_left o.own_right below in
    let kept = conditions-again node (left.names ++ right.names) (left.types ++ right.types) cs wide (and-right (are_distinct_pairs on) fits last) o.firsts in
    let once = test_distinct_pairs-passes node (map (pair_by_name left.names right.names) on) (pairs-once left.names right.names on o.own_left o.own_right below (and-left (are_distinct_pairs on) fits last)) in
    rw (found, kept, once, test_match-again node (pairs && fits) (and-both pairs fits typed (and-right (are_distinct_pairs on) fits last)), columns-same output left o.named o.typed) refl

-- ---- exchanges

kind-said : (s : Names) (node : ℕ) (names : List Name) (f : KindForm) (k : ExchangeKind) → find_kind s node names f ≡ Ok k → kind_by_name s names k ≡ f
unfolding find_kind
kind-said s node names (form.hash size route cols) k h =
    let t = ok_then _ (find_size s size) k h in
    let u = ok_last (λ (ps : List ℕ). route_to t.0 (by_hash route) ps) (find_columns node names cols) k t.2 in
    rw (← u.2) (rw (size-said s size t.0 t.1, columns-said node names cols u.0 u.1) refl)
kind-said s node names (form.range size range col) k h =
    let t = ok_then _ (find_size s size) k h in
    let u = ok_then _ (find_range s node range) k t.2 in
    let v = ok_last (λ (p : ℕ). route_to t.0 (by_range u.0) (p ∷ [])) (find_column node names col) k u.2 in
    rw (← v.2) (rw (size-said s size t.0 t.1, range-said s node range u.0 u.1, (column-said node names col v.0 v.1).named) refl)
kind-said s node names (form.round size) k h =
    let t = ok_last (λ (z : Size). plan.round z) (find_size s size) k h in
    rw (← t.2) (ap (λ n. form.round n) (size-said s size t.0 t.1))
kind-said s node names (form.broadcast size) k h =
    let t = ok_last (λ (z : Size). plan.broadcast z) (find_size s size) k h in
    rw (← t.2) (ap (λ n. form.broadcast n) (size-said s size t.0 t.1))
kind-said s node names form.gather k h = let e : plan.gather ≡ k = cc in rw (← e) refl
kind-said s node names form.concat k h = let e : plan.concat ≡ k = cc in rw (← e) refl

pub record IsExchangeSaid (s : Names) (names : List Name) (f : KindForm) (merge : List OrderText) (x : ExchangeKind × List OrderEntry) : Type 0 where
  pub kind : kind_by_name s names x.0 ≡ f
  pub merged : order_text names x.1 ≡ merge

pub exchange-said : (s : Names) (node : ℕ) (cols : Columns) (f : KindForm) (merge : List OrderText) (x : ExchangeKind × List OrderEntry) → exchange_shape s node cols f merge ≡ Ok x → IsExchangeSaid s cols.names f merge x
unfolding exchange_shape exchange_columns
exchange-said s node cols f merge x h =
    let t = ok_then _ (find_kind s node cols.names f >>= λ k. find_order node cols.names merge >>= λ ms. Ok (k, ms)) x h in
    let k = ok_then _ (find_kind s node cols.names f) t.0 t.1 in
    let m = ok_last (λ (ms : List OrderEntry). (k.0, ms)) (find_order node cols.names merge) t.0 k.2 in
    let u = ok_then _ (test_exchange node f merge) x t.2 in
    let v = ok_last (λ (w : ⊤). t.0) (test_match node (kind_fits s cols.types t.0.0)) x u.2 in
    let P : ExchangeKind × List OrderEntry → Type 0 = λ x. IsExchangeSaid s cols.names f merge x in
    subst P (m.2 ∙ v.2) (record { kind = kind-said s node cols.names f k.0 k.1; merged = order-said node cols.names merge m.0 m.1 })

record KindFound (s : Names) (node : ℕ) (cols : Columns) (k : ExchangeKind) : Type 0 where
  found : find_kind s node cols.names (kind_by_name s cols.names k) ≡ Ok k
  alone : test_distinct node (kind_names (kind_by_name s cols.names k)) ≡ Ok tt
  fits : kind_fits s cols.types k ≡ true

kind-again : (s : Names) (node : ℕ) (cols : Columns) (k : ExchangeKind) → AreDeclared s → apart bytes_eq cols.names ≡ true → length cols.names ≡ length cols.types → is_kind (scope_of s) cols.types k ≡ true → KindFound s node cols k
unfolding find_kind
kind-again s node cols (route_to z (by_hash route) ps) d a e h =
    let w : ℕ = length cols.types in
    let routed = is_some_list route && (is_some_list ps && are_columns w ps) in
    let size = size-again s z d (and-left (is_size (length s.sizes) z) routed h) in
    let are = along cols.names cols.types ps e (and-right (is_some_list ps) (are_columns w ps) (and-right (is_some_list route) (is_some_list ps && are_columns w ps) (and-right (is_size (length s.sizes) z) routed h))) in
    record {
      found = rw (size, columns-again node cols.names ps a (and-left (all_below (length cols.names) ps) (are_distinct ps) are)) refl;
      alone = columns_once-again node cols.names ps a are;
      fits = refl;
    }
kind-again s node cols (route_to z (by_range k) ps) d a e h =
    let size = size-again s z d (and-left (is_size (length s.sizes) z) (is_routed (scope_of s) cols.types (by_range k) ps) h) in
    let t = range-fits s cols.types k ps (and-right (is_size (length s.sizes) z) (is_routed (scope_of s) cols.types (by_range k) ps) h) in
    let P : ℕ → Type 0 = λ n. nat_lt t.0 n ≡ true in
    record {
      found = rw (t.1, size, range-again s node k d t.2, column-again node cols.names t.0 a (subst P (sym e) t.3)) refl;
      alone = none-once node;
      fits = t.4;
    }
kind-again s node cols (plan.round z) d a e h = record { found = rw (size-again s z d h) refl; alone = none-once node; fits = refl }
kind-again s node cols (plan.broadcast z) d a e h = record { found = rw (size-again s z d h) refl; alone = none-once node; fits = refl }
kind-again s node cols plan.gather d a e h = record { found = refl; alone = none-once node; fits = refl }
kind-again s node cols plan.concat d a e h = record { found = refl; alone = none-once node; fits = refl }

pub exchange-again : (s : Names) (node : ℕ) (cols : Columns) (k : ExchangeKind) (merge : List OrderEntry) → AreDeclared s → apart bytes_eq cols.names ≡ true → length cols.names ≡ length cols.types → is_kind (scope_of s) cols.types k ≡ true
    → are_columns (length cols.types) (order_columns merge) ≡ true → exchange_shape s node cols (kind_by_name s cols.names k) (order_text cols.names merge) ≡ Ok (k, merge)
unfolding exchange_shape exchange_columns test_exchange
exchange-again s node cols k merge d a e h m =
    let one = kind-again s node cols k d a e h in
    let are = along cols.names cols.types (order_columns merge) e m in
    let found = order-again node cols.names merge a are in
    let alone = order_once-again node cols.names merge a are in
    rw (one.found, found, one.alone, alone, test_match-again node (kind_fits s cols.types k) one.fits) refl
