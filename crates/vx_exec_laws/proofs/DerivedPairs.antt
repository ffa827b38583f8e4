-- Two rows of a node: each has values that are equal in equal columns, and where they agree in some columns they agree in what these determine. Of lists of
-- such rows: orders, keys and columns that follow.
use Rattle.std.proofs.Common.{◌≡◌, ℕ, suc, ◌+◌, ◌≤◌, nat_lt, true, ◌&&◌, ◌||◌, ⊎_elim, List, [], ◌∷◌, length, refl, sym, ap, ap₂, ◌∙◌, arith, true≢false, lt-ltb, Option, Some, None}
use Rattle.std.proofs.lemmas.Bool.{cases_lt}
use Rattle.std.specs.List.{list_all, list_any}
use Rattle.vx_rows_values.specs.declared.order.OrderEntry.{OrderEntry}
use Rattle.vx_rows_values.specs.Lists.{is_some_list}
use Rattle.vx_rows_values.specs.Values.{Row, value_at, pick}
use Rattle.vx_rows_values.specs.Order.{order_columns, sorted}
use Rattle.vx_rows_values.specs.Keys.{HasKey}
use Rattle.vx_catalog_relations.specs.Catalog.{all_below}
use Rattle.vx_catalog_relations.specs.Relation.{KeysHold}
use Rattle.vx_plan_nodes.specs.Phases.{first_columns}
use Rattle.vx_plan_nodes.specs.Describe.{Copying, source}
use Rattle.vx_plan_facts.specs.Equal.{Equality}
use Rattle.vx_plan_facts.specs.Fixed.{Values}
use Rattle.vx_plan_facts.specs.Determined.{Columns, column_in, is_copy_of, sources_in, by_input, by_rows, closure}
use Rattle.vx_plan_facts.specs.DeterminedFacts.{AgreeOn}
use Rattle.vx_plan_facts.specs.Following.{equal_lists, begins_equally, short, order_follows, key_follows}
use Rattle.vx_plan_facts.specs.FollowLaws.{Occurs, AgreeIn, Agreeing}
use Rattle.vx_plan_facts.specs.RowFacts.{HasEqual, HasFixed}
use Rattle.vx_plan_facts.proofs.Columns.{HasCopies}
use Rattle.vx_plan_facts.proofs.Tests.{or-cases, any-first}
use Rattle.vx_plan_facts.proofs.Meaning.{first-value, repeated-agrees, is-copy, past-end}
use Rattle.vx_plan_facts.proofs.FollowFacts.{order-follows, begins-follow, key-follows}
use Rattle.vx_exec_laws.proofs.Bags.{and-left, and-right, and-both}

-- two rows of no more than w columns: what is known of each, and that they agree in what columns determine in which they agree.
-- Columns past the end count too: there the number 0 stands
pub record PairOf (w : ℕ) (e : Equality) (f : Values) (det : Columns → Columns) (a b : Row) : Type 0 where
  pub short_left : length a ≤ w
  pub short_right : length b ≤ w
  pub equal_left : HasEqual e a
  pub equal_right : HasEqual e b
  pub fixed_left : HasFixed f a
  pub fixed_right : HasFixed f b
  pub agree : (s : Columns) → AgreeOn s a b → AgreeOn (det s) a b

-- each two rows of a list
abbrev pub Pairs : ℕ → Equality → Values → (Columns → Columns) → List Row → Type 0
Pairs w e f det xs = (a b : Row) → Occurs a xs → Occurs b xs → PairOf w e f det a b

pub pairs-among : (w : ℕ) (e : Equality) (f : Values) (det : Columns → Columns) (some xs : List Row) → ((row : Row) → Occurs row some → Occurs row xs)
    → Pairs w e f det xs → Pairs w e f det some
pairs-among w e f det some xs among h a b oa ob = h a b (among a oa) (among b ob)

-- rows that agree in the first columns agree in all
pub agree-past : (w v : ℕ) (s : Columns) (a b : Row) → length a ≤ w → length b ≤ w → w ≤ v → AgreeIn v s a b → AgreeOn s a b
agree-past w v s a b la lb more h c e =
    ⊎_elim (λ l. h c l e) (λ g. past-end a c (omega (arith, g, la, more)) ∙ sym (past-end b c (omega (arith, g, lb, more)))) (cases_lt c v)

pub agreeing : (w : ℕ) (e : Equality) (f : Values) (det : Columns → Columns) (xs : List Row) → Pairs w e f det xs → (v : ℕ) → w ≤ v → Agreeing v e det xs
agreeing w e f det xs h v more = record {
  equal = λ row o c d l m t. (h row row o o).equal_left c d t;
  determined = λ a b oa ob s g c l t. let k = h a b oa ob in k.agree s (agree-past w v s a b k.short_left k.short_right more g) c t;
}

-- ---- what follows

-- a width that has all these columns
abbrev enough : List ℕ → ℕ
enough [] = 0
enough (c ∷ cs) = suc c + enough cs

enough-below : (cs : List ℕ) (v : ℕ) → enough cs ≤ v → all_below v cs ≡ true
enough-below [] v h = refl
enough-below (c ∷ cs) v h =
    let more : suc c + enough cs ≤ v = h in
    and-both (nat_lt c v) (all_below v cs) (lt-ltb c v (omega (arith, more))) (enough-below cs v (omega (arith, more)))

abbrev all-enough : List (List ℕ) → ℕ
all-enough [] = 0
all-enough (k ∷ ks) = enough k + all-enough ks

all-enough-below : (ks : List (List ℕ)) (v : ℕ) → all-enough ks ≤ v → list_all (all_below v) ks ≡ true
all-enough-below [] v h = refl
all-enough-below (k ∷ ks) v h =
    let more : enough k + all-enough ks ≤ v = h in
    and-both (all_below v k) (list_all (all_below v) ks) (enough-below k v (omega (arith, more))) (all-enough-below ks v (omega (arith, more)))

pub order-from : (w : ℕ) (e : Equality) (f : Values) (det : Columns → Columns) (xs : List Row) → Pairs w e f det xs
    → (given order : List OrderEntry) → order_follows e det given order ≡ true → sorted given xs ≡ true → sorted order xs ≡ true
order-from w e f det xs h given order t up =
    let v : ℕ = w + (enough (order_columns given) + enough (order_columns order)) in
    order-follows v e det xs (agreeing w e f det xs h v (omega arith)) given order (enough-below (order_columns given) v (omega arith)) (enough-below (order_columns order) v (omega arith)) t up

pub begins-from : (w : ℕ) (e : Equality) (f : Values) (det : Columns → Columns) (xs : List Row) → Pairs w e f det xs
    → (given order : List OrderEntry) → begins_equally e order (short det given) ≡ true → sorted given xs ≡ true → sorted order xs ≡ true
begins-from w e f det xs h given order t up =
    let v : ℕ = w + (enough (order_columns given) + enough (order_columns order)) in
    begins-follow v e det xs (agreeing w e f det xs h v (omega arith)) given order (enough-below (order_columns given) v (omega arith)) (enough-below (order_columns order) v (omega arith)) t up

pub key-from : (w : ℕ) (e : Equality) (f : Values) (det : Columns → Columns) (xs : List Row) → Pairs w e f det xs
    → (keys : List (List ℕ)) → KeysHold keys xs → (cols : List ℕ) → key_follows det keys cols ≡ true → HasKey cols xs
key-from w e f det xs h keys k cols t =
    let v : ℕ = w + all-enough keys in
    key-follows v e det xs (agreeing w e f det xs h v (omega arith)) keys (all-enough-below keys v (omega arith)) k cols t

-- lists of equal columns have the same values
pub equal-picks : (e : Equality) (row : Row) → HasEqual e row → (cs ds : List ℕ) → equal_lists e cs ds ≡ true → pick cs row ≡ pick ds row
equal-picks e row h [] [] t = refl
equal-picks e row h [] (d ∷ ds) t = absurd (true≢false (sym t))
equal-picks e row h (c ∷ cs) [] t = absurd (true≢false (sym t))
equal-picks e row h (c ∷ cs) (d ∷ ds) t =
    ap₂ (λ v vs. v ∷ vs) (h c d (and-left (e c d) (equal_lists e cs ds) t)) (equal-picks e row h cs ds (and-right (e c d) (equal_lists e cs ds) t))

-- ---- steps

-- rows agree in the columns of which copies agree
pub sources-pair : (w : ℕ) (k : Copying) (a b x y : Row) → HasCopies k x a → HasCopies k y b → (s : Columns) → AgreeOn s a b → AgreeOn (sources_in w k s) x y
sources-pair w k a b x y ca cb s g d e =
    let r = any-first (λ i. s i && is_copy_of d (source k i)) w e in
    let from = is-copy d (source k r.0) (and-right (s r.0) (is_copy_of d (source k r.0)) r.2) in
    sym (ca r.0 d from) ∙ (g r.0 (and-left (s r.0) (is_copy_of d (source k r.0)) r.2) ∙ cb r.0 d from)

-- by what an input determines
pub input-pair : (w : ℕ) (k : Copying) (below : Columns → Columns) (a b x y : Row) → HasCopies k x a → HasCopies k y b
    → ((t : Columns) → AgreeOn t x y → AgreeOn (below t) x y) → (s : Columns) → AgreeOn s a b → AgreeOn (by_input w k below s) a b
input-pair w k below a b x y ca cb holds s g c t = go (source k c) refl t
  where
    go : (o : Option ℕ) → source k c ≡ o → column_in (below (sources_in w k s)) o ≡ true → value_at a c ≡ value_at b c
    go None e f = absurd (true≢false (sym f))
    go (Some d) e f = ca c d e ∙ (holds (sources_in w k s) (sources-pair w k a b x y ca cb s g) d f ∙ sym (cb c d e))

-- all steps
pub closure-pair : (w : ℕ) (e : Equality) (f : Values) (keys : List (List ℕ)) (inputs : Columns → Columns) (a b : Row)
    → HasEqual e a → HasEqual e b → HasFixed f a → HasFixed f b → ((t : Columns) → AgreeOn t a b → list_any (list_all t) keys ≡ true → a ≡ b)
    → ((t : Columns) → AgreeOn t a b → AgreeOn (inputs t) a b)
    → (s : Columns) → AgreeOn s a b → AgreeOn (closure w e f keys inputs s) a b
closure-pair w e f keys inputs a b ea eb fa fb keyed by s g =
    let step : Columns → Columns = λ t c. by_rows w e f keys t c || inputs t c in
    repeated-agrees w step a b (λ t k c q. ⊎_elim (λ r. rows t k c r) (λ r. by t k c r) (or-cases (by_rows w e f keys t c) (inputs t c) q)) s g
  where
    rows : (s : Columns) → AgreeOn s a b → AgreeOn (by_rows w e f keys s) a b
    rows s g c t =
        let equals = list_any (λ d. s d && e d c) (first_columns w) in
        let key = list_any (list_all s) keys in
        ⊎_elim
        (λ held. g c held)
        (λ r. ⊎_elim
        (λ one. let v = first-value (f c) one in fa c v.0 v.1 ∙ sym (fb c v.0 v.1))
        (λ q. ⊎_elim
        (λ same.
        let d = any-first (λ d. s d && e d c) w same in
        let held = and-left (s d.0) (e d.0 c) d.2 in
        let both = and-right (s d.0) (e d.0 c) d.2 in
        sym (ea d.0 c both) ∙ (g d.0 held ∙ eb d.0 c both))
        (λ l. ap (λ row. value_at row c) (keyed s g l))
        (or-cases equals key q))
        (or-cases (is_some_list (f c)) (equals || key) r))
        (or-cases (s c) (is_some_list (f c) || (equals || key)) t)
