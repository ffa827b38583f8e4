-- Two rows of a node's serial list that agree in some columns agree in all that these determine.
use Rattle.std.proofs.Common.{◌≡◌, ℕ, zero, suc, pos, ◌≤◌, true, not, ◌&&◌, ◌||◌, ⊎_elim, List, [], ◌∷◌, length, refl, sym, ap, ◌∙◌, subst, arith, true≢false, Option, Some, None, eqb-true, is_eq}
use Rattle.std.specs.List.{list_any, list_all}
use Rattle.std.proofs.lemmas.Bool.{cases_lt}
use Rattle.std.proofs.lemmas.List.{get_or_past}
use Rattle.std.proofs.lemmas.Cmp.{eq_by_cmp_equiv}
use Rattle.vx_rows_values.specs.Values.{Val, num, Row, val_cmp, row_eq, value_at, pick}
use Rattle.vx_rows_values.specs.Order.{agree}
use Rattle.vx_rows_values.specs.Lists.{is_some_list}
use Rattle.vx_rows_values.specs.Keys.{is_key}
use Rattle.vx_rows_values.proofs.Booleans.{and-left, and-right}
use Rattle.vx_rows_values.proofs.Compare.{val_cmp_total, row_eq-refl, row_eq-same}
use Rattle.vx_rows_values.proofs.KeyFacts.{from-key}
use Rattle.vx_catalog_relations.specs.Relation.{Relation, KeysHold}
use Rattle.vx_plan_nodes.specs.Plan.{Plan, scan, unary, binary, exchange, union, join, semi_join}
use Rattle.vx_plan_nodes.specs.Phases.{first_columns}
use Rattle.vx_plan_nodes.specs.Types.{width}
use Rattle.vx_plan_nodes.specs.Describe.{Copying, whole_rows, left_of, right_of, source, described}
use Rattle.vx_plan_nodes.specs.Serial.{serial}
use Rattle.vx_plan_facts.specs.Equal.{Equality, equal_at}
use Rattle.vx_plan_facts.specs.Fixed.{Values, has_value, fixed_at}
use Rattle.vx_plan_facts.specs.RowFacts.{MeetsFacts}
use Rattle.vx_plan_facts.specs.Determined.{Columns, column_in, is_copy_of, sources_in, by_input, by_rows, repeated, closure, by_none, by_both, determined}
use Rattle.vx_plan_facts.specs.DeterminedFacts.{occurs, AgreeOn, AgreeOnFirst, FactsAt, FactsHold, DeterminedHolds}
use Rattle.vx_plan_facts.proofs.Tests.{or-cases, any-first}
use Rattle.vx_plan_facts.proofs.Stems.{IsCopyOf, unary-stem, copy-itself, copy-left, copy-right, join-stem, matched-stem, unary-made, binary-made}

-- ---- columns past the end

pub past-end : (row : Row) (c : ℕ) → length row ≤ c → value_at row c ≡ num (pos 0)
past-end row c h = get_or_past row c (num (pos 0)) h

-- rows agree past the end of both
all-agree : (w : ℕ) (s : Columns) (a b : Row) → length a ≤ w → length b ≤ w → AgreeOnFirst w s a b → AgreeOn s a b
all-agree w s a b short other h c e =
    ⊎_elim (λ l. h c l e) (λ g. past-end a c (omega (arith, g, short)) ∙ sym (past-end b c (omega (arith, g, other)))) (cases_lt c w)

-- the facts of a row that may have fewer columns, as one of an open node without its aggregates
pub record ShortFacts (w : ℕ) (e : Equality) (f : Values) (row : Row) : Type 0 where
  pub short : length row ≤ w
  pub alike : (c d : ℕ) → e c d ≡ true → value_at row c ≡ value_at row d
  pub fixed : (c : ℕ) (v : Val) → has_value (f c) v ≡ true → value_at row c ≡ v

pub short-facts : {w : ℕ} {e : Equality} {f : Values} {row : Row} → MeetsFacts w e f row → ShortFacts w e f row
short-facts h = let wide = h.wide in record { short = omega (arith, wide); alike = h.alike; fixed = h.fixed }

-- ---- keys

pub pick-agrees : (s : Columns) (cols : List ℕ) (a b : Row) → list_all s cols ≡ true → AgreeOn s a b → pick cols a ≡ pick cols b
pick-agrees s [] a b e h = refl
pick-agrees s (c ∷ cols) a b e h =
    let u : value_at a c ≡ value_at b c = h c (and-left (s c) (list_all s cols) e) in
    let v : pick cols a ≡ pick cols b = pick-agrees s cols a b (and-right (s c) (list_all s cols) e) h in
    cc

pub agree-of : (cols : List ℕ) (a b : Row) → pick cols a ≡ pick cols b → agree cols a b ≡ true
agree-of cols a b e = ap (λ r. row_eq (pick cols a) r) (sym e) ∙ row_eq-refl (pick cols a)

-- no row of the list agrees with this one, so one that does is not there
not-there : (cols : List ℕ) (x y : Row) (xs : List Row) → list_all (λ z. not (agree cols x z)) xs ≡ true → occurs y xs ≡ true → pick cols x ≡ pick cols y → x ≡ y
not-there cols x y [] h o e = absurd (true≢false (sym o))
not-there cols x y (z ∷ xs) h o e =
    ⊎_elim
    (λ same.
    let yes : agree cols x z ≡ true = agree-of cols x z (e ∙ ap (λ r. pick cols r) (row_eq-same y z same)) in
    let no : not (agree cols x z) ≡ true = and-left (not (agree cols x z)) (list_all (λ r. not (agree cols x r)) xs) h in
    absurd (true≢false (sym no ∙ ap not yes)))
    (λ later. not-there cols x y xs (and-right (not (agree cols x z)) (list_all (λ r. not (agree cols x r)) xs) h) later e)
    (or-cases (row_eq y z) (occurs y xs) o)

-- rows that occur and agree on a key are one
key-same : (cols : List ℕ) (xs : List Row) (a b : Row) → is_key cols xs ≡ true → occurs a xs ≡ true → occurs b xs ≡ true → pick cols a ≡ pick cols b → a ≡ b
key-same cols [] a b h o u e = absurd (true≢false (sym o))
key-same cols (x ∷ xs) a b h o u e =
    let apart = and-left (list_all (λ y. not (agree cols x y)) xs) (is_key cols xs) h in
    ⊎_elim
    (λ l.
    let ax = row_eq-same a x l in
    ⊎_elim
    (λ m. ax ∙ sym (row_eq-same b x m))
    (λ m. ax ∙ not-there cols x b xs apart m (sym (ap (λ r. pick cols r) ax) ∙ e))
    (or-cases (row_eq b x) (occurs b xs) u))
    (λ l.
    ⊎_elim
    (λ m.
    let bx = row_eq-same b x m in
    sym (bx ∙ not-there cols x a xs apart l (sym (ap (λ r. pick cols r) bx) ∙ sym e)))
    (λ m. key-same cols xs a b (and-right (list_all (λ y. not (agree cols x y)) xs) (is_key cols xs) h) l m e)
    (or-cases (row_eq b x) (occurs b xs) u))
    (or-cases (row_eq a x) (occurs a xs) o)

pub keys-same : (s : Columns) (keys : List (List ℕ)) (xs : List Row) (a b : Row) → KeysHold keys xs → occurs a xs ≡ true → occurs b xs ≡ true → AgreeOn s a b
    → list_any (list_all s) keys ≡ true → a ≡ b
keys-same s [] xs a b h o u g e = absurd (true≢false (sym e))
keys-same s (k ∷ keys) xs a b h o u g e =
    ⊎_elim
    (λ l. key-same k xs a b (from-key k xs h.0) o u (pick-agrees s k a b l g))
    (λ l. keys-same s keys xs a b h.1 o u g l)
    (or-cases (list_all s k) (list_any (list_all s) keys) e)

-- ---- a step by the rows themselves

pub first-value : (vs : List Val) → is_some_list vs ≡ true → (v : Val) × (has_value vs v ≡ true)
first-value [] h = absurd (true≢false (sym h))
first-value (v ∷ vs) h = (v, ap (λ b. b || list_any (λ u. is_eq (val_cmp u v)) vs) ((eq_by_cmp_equiv val_cmp_total).refl v))

rows-agree : (w : ℕ) (e : Equality) (f : Values) (keys : List (List ℕ)) (xs : List Row) (a b : Row)
    → ShortFacts w e f a → ShortFacts w e f b → KeysHold keys xs → occurs a xs ≡ true → occurs b xs ≡ true
    → (s : Columns) → AgreeOn s a b → AgreeOn (by_rows w e f keys s) a b
rows-agree w e f keys xs a b fa fb h o u s g c t =
    let equals = list_any (λ d. s d && e d c) (first_columns w) in
    let keyed = list_any (list_all s) keys in
    ⊎_elim
    (λ held. g c held)
    (λ r. ⊎_elim
    (λ one. let v = first-value (f c) one in fa.fixed c v.0 v.1 ∙ sym (fb.fixed c v.0 v.1))
    (λ q. ⊎_elim
    (λ same.
    let d = any-first (λ d. s d && e d c) w same in
    let held = and-left (s d.0) (e d.0 c) d.2 in
    let both = and-right (s d.0) (e d.0 c) d.2 in
    sym (fa.alike d.0 c both) ∙ (g d.0 held ∙ fb.alike d.0 c both))
    (λ key. ap (λ row. value_at row c) (keys-same s keys xs a b h o u g key))
    (or-cases equals keyed q))
    (or-cases (is_some_list (f c)) (equals || keyed) r))
    (or-cases (s c) (is_some_list (f c) || (equals || keyed)) t)

-- ---- a step by an input

-- what a node determines holds of these two rows of it
abbrev pub HoldsOf : ℕ → (Columns → Columns) → Row → Row → Type 0
HoldsOf v below x y = (t : Columns) → AgreeOnFirst v t x y → AgreeOn (below t) x y

pub is-copy : (x : ℕ) (o : Option ℕ) → is_copy_of x o ≡ true → o ≡ Some x
is-copy x None e = absurd (true≢false (sym e))
is-copy x (Some d) e = ap Some (eqb-true d x e)

pub input-agrees : (w v : ℕ) (k : Copying) (below : Columns → Columns) (a b x y : Row) → IsCopyOf w k a x → IsCopyOf w k b y → HoldsOf v below x y
    → (s : Columns) → AgreeOn s a b → AgreeOnFirst w (by_input w k below s) a b
input-agrees w v k below a b x y ca cb holds s g c l t = go (source k c) refl t
  where
    sources-agree : AgreeOnFirst v (sources_in w k s) x y
    sources-agree d m e =
        let r = any-first (λ i. s i && is_copy_of d (source k i)) w e in
        let from = is-copy d (source k r.0) (and-right (s r.0) (is_copy_of d (source k r.0)) r.2) in
        sym (ca r.0 d r.1 from) ∙ (g r.0 (and-left (s r.0) (is_copy_of d (source k r.0)) r.2) ∙ cb r.0 d r.1 from)

    go : (o : Option ℕ) → source k c ≡ o → column_in (below (sources_in w k s)) o ≡ true → value_at a c ≡ value_at b c
    go None e f = absurd (true≢false (sym f))
    go (Some d) e f = ca c d l e ∙ (holds (sources_in w k s) sources-agree d f ∙ sym (cb c d l e))

-- ---- all steps

pub repeated-agrees : (n : ℕ) (step : Columns → Columns) (a b : Row) → ((t : Columns) → AgreeOn t a b → AgreeOn (step t) a b)
    → (s : Columns) → AgreeOn s a b → AgreeOn (repeated n step s) a b
repeated-agrees zero step a b h s g = g
repeated-agrees (suc n) step a b h s g = repeated-agrees n step a b h (step s) (h s g)

pub closure-agrees : (w : ℕ) (e : Equality) (f : Values) (keys : List (List ℕ)) (inputs : Columns → Columns) (xs : List Row) (a b : Row)
    → ShortFacts w e f a → ShortFacts w e f b → KeysHold keys xs → occurs a xs ≡ true → occurs b xs ≡ true
    → ((t : Columns) → AgreeOn t a b → AgreeOnFirst w (inputs t) a b)
    → HoldsOf w (closure w e f keys inputs) a b
closure-agrees w e f keys inputs xs a b fa fb h o u by s g =
    let step : Columns → Columns = λ t c. by_rows w e f keys t c || inputs t c in
    repeated-agrees w step a b
    (λ t k. all-agree w (step t) a b fa.short fb.short (λ c l q.
    ⊎_elim (λ r. rows-agree w e f keys xs a b fa fb h o u t k c r) (λ r. by t k c l r) (or-cases (by_rows w e f keys t c) (inputs t c) q)))
    s (all-agree w s a b fa.short fb.short g)

-- ---- all nodes

pub facts-here : (catalog : ℕ → Relation) (db : ℕ → List Row) (p : Plan) → FactsHold catalog db p → FactsAt catalog db p
facts-here catalog db (scan n c r m z) h = h
facts-here catalog db (unary n c op p) h = h.0
facts-here catalog db (binary n c op p q) h = h.0
facts-here catalog db (exchange n c k m p) h = h.0

pub determined-holds : DeterminedHolds
determined-holds catalog db (scan n c r m z) facts keys xs e a b o u =
    closure-agrees (width catalog (scan n c r m z)) (equal_at catalog (scan n c r m z)) (fixed_at catalog (scan n c r m z)) c.keys by_none xs a b
    (short-facts (facts xs e a o)) (short-facts (facts xs e b u)) (keys xs e) o u (λ t g d l q. absurd (true≢false (sym q)))
determined-holds catalog db (unary n c op p) facts keys ys e a b o u =
    let w = width catalog (unary n c op p) in
    let k = (described op).copying in
    let made = unary-made db n op p ys e in
    let x = unary-stem w op made.0 ys made.2 a o in
    let y = unary-stem w op made.0 ys made.2 b u in
    closure-agrees w (equal_at catalog (unary n c op p)) (fixed_at catalog (unary n c op p)) c.keys (by_input w k (determined catalog p)) ys a b
    (short-facts (facts.0 ys e a o)) (short-facts (facts.0 ys e b u)) (keys.0 ys e) o u
    (input-agrees w (width catalog p) k (determined catalog p) a b x.0 y.0 x.2 y.2
    (determined-holds catalog db p facts.1 keys.1 made.0 made.1 x.0 y.0 x.1 y.1))
determined-holds catalog db (binary n c union p q) facts keys zs e a b o u =
    closure-agrees (width catalog (binary n c union p q)) (equal_at catalog (binary n c union p q)) (fixed_at catalog (binary n c union p q)) c.keys by_none zs a b
    (short-facts (facts.0 zs e a o)) (short-facts (facts.0 zs e b u)) (keys.0 zs e) o u (λ t g d l r. absurd (true≢false (sym r)))
determined-holds catalog db (binary n c (join m on) p q) facts keys zs e a b o u =
    let node = binary n c (join m on) p q in
    let v = width catalog p in
    let w = width catalog node in
    let left = determined catalog p in
    let right = determined catalog q in
    let made = binary-made (join m on) (serial db p) (serial db q) zs e in
    let P : Row → List Row → Type 0 = λ row l. occurs row l ≡ true in
    let x = join-stem on made.0 made.1 a (subst (P a) (sym made.4) o) in
    let y = join-stem on made.0 made.1 b (subst (P b) (sym made.4) u) in
    let xw = (facts-here catalog db p facts.1 made.0 made.2 x.0 x.2).wide in
    let yw = (facts-here catalog db p facts.1 made.0 made.2 y.0 y.2).wide in
    closure-agrees w (equal_at catalog node) (fixed_at catalog node) c.keys (by_both v w (join m on) left right) zs a b
    (short-facts (facts.0 zs e a o)) (short-facts (facts.0 zs e b u)) (keys.0 zs e) o u
    (λ t g d l r.
    ⊎_elim
    (λ s. input-agrees w v (left_of v) left a b x.0 y.0 (copy-left v w a x.0 x.1 x.4 xw) (copy-left v w b y.0 y.1 y.4 yw)
    (determined-holds catalog db p facts.1 keys.1 made.0 made.2 x.0 y.0 x.2 y.2) t g d l s)
    (λ s. input-agrees w (width catalog q) (right_of v) right a b x.1 y.1 (copy-right v w a x.0 x.1 x.4 xw) (copy-right v w b y.0 y.1 y.4 yw)
    (determined-holds catalog db q facts.2 keys.2 made.1 made.3 x.1 y.1 x.3 y.3) t g d l s)
    (or-cases (by_input w (left_of v) left t d) (by_input w (right_of v) right t d) r))
determined-holds catalog db (binary n c (semi_join matched on conditions) p q) facts keys zs e a b o u =
    let w = width catalog p in
    let op = semi_join matched on conditions in
    let node = binary n c op p q in
    let made = binary-made op (serial db p) (serial db q) zs e in
    let P : Row → List Row → Type 0 = λ row l. occurs row l ≡ true in
    let x = matched-stem matched on conditions made.0 made.1 a (subst (P a) (sym made.4) o) in
    let y = matched-stem matched on conditions made.0 made.1 b (subst (P b) (sym made.4) u) in
    closure-agrees w (equal_at catalog node) (fixed_at catalog node) c.keys (by_input w whole_rows (determined catalog p)) zs a b
    (short-facts (facts.0 zs e a o)) (short-facts (facts.0 zs e b u)) (keys.0 zs e) o u
    (input-agrees w w whole_rows (determined catalog p) a b a b (copy-itself w a) (copy-itself w b)
    (determined-holds catalog db p facts.1 keys.1 made.0 made.2 a b x y))
determined-holds catalog db (exchange n c k m p) facts keys xs e a b o u =
    let w = width catalog p in
    closure-agrees w (equal_at catalog p) (fixed_at catalog p) c.keys (by_input w whole_rows (determined catalog p)) xs a b
    (short-facts (facts.0 xs e a o)) (short-facts (facts.0 xs e b u)) (keys.0 xs e) o u
    (input-agrees w w whole_rows (determined catalog p) a b a b (copy-itself w a) (copy-itself w b)
    (determined-holds catalog db p facts.1 keys.1 xs e a b o u))
