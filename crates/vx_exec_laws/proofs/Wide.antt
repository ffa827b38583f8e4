-- Each serial row has a value for each output column.
use Rattle.std.proofs.Common.{◌∙◌, ◌≡◌, ℕ, ◌+◌, ◌==◌, true, List, [], ◌∷◌, ◌++◌, length, refl, sym, ap, subst, arith, Option, Some, None, eqb-true, eq-eqb, length-append}
use Rattle.std.specs.List.{AllByRecursion}
use Rattle.vx_rows_values.specs.declared.value.ColType.{ColType}
use Rattle.vx_rows_values.specs.Types.{Fits, type_of}
use Rattle.vx_rows_values.specs.Values.{Row}
use Rattle.vx_plan_nodes.specs.Plan.{Claim, Binary, union, join, semi_join, Plan, scan, unary, binary, exchange}
use Rattle.vx_catalog_relations.specs.Relation.{Relation, Meets}
use Rattle.vx_plan_nodes.specs.Types.{width, unary_width, well_formed, names_columns}
use Rattle.vx_plan_nodes.specs.Serial.{unary_rows, binary_rows, join_rows, SerialResult, rows, overflow, or_overflow, after, serial}
use Rattle.vx_exec_laws.proofs.Bags.{and-left, and-both}
use Rattle.vx_exec_laws.proofs.WellFormed.{well-under, well-both, union-widths}
use Rattle.vx_exec_laws.proofs.JoinOrder.{wide, join-all, all-append}
use Rattle.vx_exec_laws.proofs.Widths.{length-values}
use Rattle.vx_exec_laws.proofs.SemiJoin.{matched-all}
use Rattle.vx_exec_laws.proofs.Operators.{keeps}

-- rows that fit types have a value for each
pub fit-wide : (types : List ColType) (xs : List Row) → AllByRecursion (Fits types) xs → wide (length types) xs ≡ true
fit-wide types [] h = refl
fit-wide types (x ∷ xs) h =
    let e : length x ≡ length types = sym (length-values type_of x) ∙ ap length h.0.types_are in
    and-both (length x == length types) (wide (length types) xs) (eq-eqb (length x) (length types) e) (fit-wide types xs h.1)

pub join-wide : (on : List (ℕ × ℕ)) (v w : ℕ) (ls rs : List Row) → wide v ls ≡ true → wide w rs ≡ true → wide (v + w) (join_rows on ls rs) ≡ true
join-wide on v w ls rs h k = join-all (λ l. length l == v) (λ r. length r == w) (λ x. length x == (v + w)) on ls rs
    (λ l r a b.
    let x : length l ≡ v = eqb-true _ v a in
    let y : length r ≡ w = eqb-true _ w b in
    let z : length (l ++ r) ≡ length l + length r = length-append l r in
    eq-eqb _ _ (omega arith)) h k

pub both-wide : (catalog : ℕ → Relation) (k : ℕ) (c : Claim) (op : Binary) (p q : Plan) → well_formed catalog (binary k c op p q) ≡ true → (ls rs : List Row)
    → wide (width catalog p) ls ≡ true → wide (width catalog q) rs ≡ true → wide (width catalog (binary k c op p q)) (binary_rows op ls rs) ≡ true
both-wide catalog k c union p q wf ls rs a b =
    let P : ℕ → Type 0 = λ w. wide w rs ≡ true in all-append (λ row. length row == width catalog p) ls rs a (subst P (sym (union-widths catalog k c p q wf)) b)
both-wide catalog k c (join m on) p q wf ls rs a b = join-wide on (width catalog p) (width catalog q) ls rs a b
both-wide catalog k c (semi_join matched on conditions) p q wf ls rs a b = matched-all (λ row. length row == width catalog p) matched on conditions ls rs a

module _ (catalog : ℕ → Relation) (db : ℕ → List Row) (meets : (r : ℕ) → Meets (catalog r) (db r)) where
  pub serial-wide : (p : Plan) (xs : List Row) → well_formed catalog p ≡ true → serial db p ≡ rows xs → wide (width catalog p) xs ≡ true
  serial-wide (scan n c r m z) xs ok e =
      let k : db r ≡ xs = cc in
      let P : List Row → Type 0 = λ l. wide (length (catalog r).types) l ≡ true in subst P k (fit-wide (catalog r).types (db r) (meets r).fit)
  serial-wide (unary n c op p) xs ok e =
      go (serial db p) (λ ys. serial-wide p ys (well-under catalog n c op p ok).0) e
    where
      done : (o : Option (List Row)) (ys : List Row) → wide (width catalog p) ys ≡ true → unary_rows op ys ≡ o → or_overflow n o ≡ rows xs → wide (unary_width op (width catalog p)) xs ≡ true
      done (Some zs) ys h k e =
          let a : zs ≡ xs = cc in
          let P : List Row → Type 0 = λ l. wide (unary_width op (width catalog p)) l ≡ true in
          subst P a ((keeps op).wide_as (width catalog p) ys zs k h)
      done None ys h k e = cc

      go : (o : SerialResult) → ((ys : List Row) → o ≡ rows ys → wide (width catalog p) ys ≡ true) → after o (λ ys. or_overflow n (unary_rows op ys)) ≡ rows xs
          → wide (unary_width op (width catalog p)) xs ≡ true
      go (rows ys) ih e = done (unary_rows op ys) ys (ih ys refl) refl e
      go (overflow m) ih e = cc
  serial-wide (binary n c op p q) xs ok e =
      let well = well-both catalog n c op p q ok in
      go (serial db p) (serial db q) (λ ys. serial-wide p ys well.0) (λ ys. serial-wide q ys well.1) e
    where
      go : (o u : SerialResult) → ((ys : List Row) → o ≡ rows ys → wide (width catalog p) ys ≡ true) → ((ys : List Row) → u ≡ rows ys → wide (width catalog q) ys ≡ true)
          → after o (λ ys. after u (λ zs. rows (binary_rows op ys zs))) ≡ rows xs → wide (width catalog (binary n c op p q)) xs ≡ true
      go (rows ys) (rows zs) ih jh e =
          let a : binary_rows op ys zs ≡ xs = cc in
          let P : List Row → Type 0 = λ l. wide (width catalog (binary n c op p q)) l ≡ true in
          subst P a (both-wide catalog n c op p q ok ys zs (ih ys refl) (jh zs refl))
      go (rows ys) (overflow m) ih jh e = cc
      go (overflow m) u ih jh e = cc
  serial-wide (exchange n c k m p) xs ok e = serial-wide p xs (and-left (well_formed catalog p) (names_columns (width catalog p) c) ok) e
