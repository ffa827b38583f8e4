-- The rows of a node's serial list are such pairs, where the claimed keys of it and of those below it hold.
use Rattle.std.proofs.Common.{◌≡◌, ℕ, ◌+◌, ◌<◌, Bool, true, false, cond, ◌&&◌, ◌||◌, List, [], ◌∷◌, length, refl, sym, arith, true≢false}
use Rattle.vx_rows_values.specs.Values.{Row, row_eq}
use Rattle.vx_rows_values.specs.Bags.{count}
use Rattle.vx_catalog_relations.specs.Relation.{Relation, Meets}
use Rattle.vx_plan_nodes.specs.Plan.{Claim, Plan, scan, unary, binary, exchange}
use Rattle.vx_plan_nodes.specs.Types.{width}
use Rattle.vx_plan_nodes.specs.Serial.{rows, serial}
use Rattle.vx_plan_facts.specs.Equal.{equal_at}
use Rattle.vx_plan_facts.specs.Fixed.{fixed_at}
use Rattle.vx_plan_facts.specs.Determined.{Columns, determined, determined_aside}
use Rattle.vx_plan_facts.specs.DeterminedFacts.{occurs, AgreeOn, AgreeOnFirst, FactsAt, FactsHold, KeysAt, ClaimedKeysHold}
use Rattle.vx_plan_facts.specs.FollowLaws.{Occurs}
use Rattle.vx_plan_facts.specs.RowFacts.{MeetsAt, EachMeets, all_inputs_fit, inputs_fit}
use Rattle.vx_plan_facts.proofs.EachRow.{each-has}
use Rattle.vx_plan_facts.proofs.RowFacts.{fits-wide, serial-meets}
use Rattle.vx_plan_facts.proofs.Meaning.{determined-holds}
use Rattle.vx_check_rules.proofs.Bools.{or-left, or-right}
use Rattle.vx_exec_laws.proofs.Bags.{and-left, and-right}
use Rattle.vx_exec_laws.proofs.DerivedPairs.{Pairs}

pub occurs-counted : (row : Row) (xs : List Row) → Occurs row xs → occurs row xs ≡ true
occurs-counted row [] h = absurd (omega (arith, h))
occurs-counted row (x ∷ xs) h = go (row_eq row x) refl h (λ l. occurs-counted row xs l)
  where
    go : (b : Bool) → row_eq row x ≡ b → 0 < cond b 1 0 + count (row_eq row) xs → (Occurs row xs → occurs row xs ≡ true) → (row_eq row x || occurs row xs) ≡ true
    go true e l more = or-left (row_eq row x) (occurs row xs) e
    go false e l more = or-right (row_eq row x) (occurs row xs) (more (omega (arith, l)))

pub counted-occurs : (row : Row) (xs : List Row) → occurs row xs ≡ true → Occurs row xs
counted-occurs row [] h = absurd (true≢false (sym h))
counted-occurs row (x ∷ xs) h = go (row_eq row x) h (λ l. counted-occurs row xs l)
  where
    go : (b : Bool) → (b || occurs row xs) ≡ true → (occurs row xs ≡ true → Occurs row xs) → 0 < cond b 1 0 + count (row_eq row) xs
    go true l more = omega arith
    go false l more = let m = more l in omega (arith, m)

-- ---- keys

-- the claimed keys of the nodes below
abbrev pub KeysBelow : (ℕ → List Row) → Plan → Type 0
KeysBelow db (scan n c r m z) = Unit {0}
KeysBelow db (unary n c op p) = ClaimedKeysHold db p
KeysBelow db (binary n c op p q) = ClaimedKeysHold db p × ClaimedKeysHold db q
KeysBelow db (exchange n c k m p) = ClaimedKeysHold db p

pub keys-with : (db : ℕ → List Row) (p : Plan) → KeysAt db p → KeysBelow db p → ClaimedKeysHold db p
keys-with db (scan n c r m z) h below = h
keys-with db (unary n c op p) h below = (h, below)
keys-with db (binary n c op p q) h below = (h, below.0, below.1)
keys-with db (exchange n c k m p) h below = (h, below)

pub keys-here : (db : ℕ → List Row) (p : Plan) → ClaimedKeysHold db p → KeysAt db p
keys-here db (scan n c r m z) h = h
keys-here db (unary n c op p) h = h.0
keys-here db (binary n c op p q) h = h.0
keys-here db (exchange n c k m p) h = h.0

pub keys-under : (db : ℕ → List Row) (p : Plan) → ClaimedKeysHold db p → KeysBelow db p
keys-under db (scan n c r m z) h = tt
keys-under db (unary n c op p) h = h.1
keys-under db (binary n c op p q) h = (h.1, h.2)
keys-under db (exchange n c k m p) h = h.1

module _ (catalog : ℕ → Relation) (db : ℕ → List Row) (meets : (r : ℕ) → Meets (catalog r) (db r)) where
  pub serial-each : (p : Plan) (xs : List Row) → all_inputs_fit catalog p ≡ true → serial db p ≡ rows xs → EachMeets catalog p xs
  serial-each p xs fit e = serial-meets catalog db (λ r. fits-wide (catalog r).types (db r) (meets r).fit) p xs fit e

  facts-at : (p : Plan) → all_inputs_fit catalog p ≡ true → FactsAt catalog db p
  facts-at p fit xs e row o =
      each-has (MeetsAt catalog p) row xs (serial-each p xs fit e) (counted-occurs row xs o)

  pub facts-hold : (p : Plan) → all_inputs_fit catalog p ≡ true → FactsHold catalog db p
  facts-hold (scan n c r m z) fit = facts-at (scan n c r m z) fit
  facts-hold (unary n c op p) fit = (facts-at (unary n c op p) fit, facts-hold p fit)
  facts-hold (binary n c op p q) fit =
      let fp : Bool = all_inputs_fit catalog p in
      let fq : Bool = all_inputs_fit catalog q in
      let here : Bool = inputs_fit (width catalog p) (width catalog q) op in (
        facts-at (binary n c op p q) fit,
        facts-hold p (and-left fp (fq && here) fit),
        facts-hold q (and-left fq here (and-right fp (fq && here) fit)),
      )
  facts-hold (exchange n c k m p) fit = (facts-at (exchange n c k m p) fit, facts-hold p fit)

  -- the law of what is determined with the node's own keys left aside: that of the node without keys
  abbrev no-keys : Claim → Claim
  no-keys c = record { part = c.part; order = c.order; keys = [] }

  abbrev Determines : Plan → (Columns → Columns) → Type 0
  Determines p det = (xs : List Row) → serial db p ≡ rows xs → (a b : Row) → occurs a xs ≡ true → occurs b xs ≡ true
      → (s : Columns) → AgreeOnFirst (width catalog p) s a b → AgreeOn (det s) a b

  aside-holds : (p : Plan) → all_inputs_fit catalog p ≡ true → KeysBelow db p → Determines p (determined_aside catalog p)
  aside-holds (scan n c r m z) fit below = determined-holds catalog db (scan n (no-keys c) r m z) (facts-hold (scan n (no-keys c) r m z) fit) (λ xs e. tt)
  aside-holds (unary n c op p) fit below = determined-holds catalog db (unary n (no-keys c) op p) (facts-hold (unary n (no-keys c) op p) fit) ((λ xs e. tt), below)
  aside-holds (binary n c op p q) fit below =
      determined-holds catalog db (binary n (no-keys c) op p q) (facts-hold (binary n (no-keys c) op p q) fit) ((λ xs e. tt), below.0, below.1)
  aside-holds (exchange n c k m p) fit below = determined-holds catalog db (exchange n (no-keys c) k m p) (facts-hold (exchange n (no-keys c) k m p) fit) ((λ xs e. tt), below)

  pairs-by : (p : Plan) (det : Columns → Columns) → all_inputs_fit catalog p ≡ true → Determines p det → (xs : List Row) → serial db p ≡ rows xs
      → Pairs (width catalog p) (equal_at catalog p) (fixed_at catalog p) det xs
  pairs-by p det fit holds xs e a b oa ob =
      let each = serial-each p xs fit e in
      let ta = each-has (MeetsAt catalog p) a xs each oa in
      let tb = each-has (MeetsAt catalog p) b xs each ob in
      let wa : length a ≡ width catalog p = ta.wide in
      let wb : length b ≡ width catalog p = tb.wide in
      record {
        short_left = omega (arith, wa);
        short_right = omega (arith, wb);
        equal_left = ta.alike;
        equal_right = tb.alike;
        fixed_left = ta.fixed;
        fixed_right = tb.fixed;
        agree = λ s g. holds xs e a b (occurs-counted a xs oa) (occurs-counted b xs ob) s (λ c l t. g c t);
      }

  pub serial-pairs : (p : Plan) → all_inputs_fit catalog p ≡ true → ClaimedKeysHold db p → (xs : List Row) → serial db p ≡ rows xs
      → Pairs (width catalog p) (equal_at catalog p) (fixed_at catalog p) (determined catalog p) xs
  serial-pairs p fit keys = pairs-by p (determined catalog p) fit (determined-holds catalog db p (facts-hold p fit) keys)

  pub aside-pairs : (p : Plan) → all_inputs_fit catalog p ≡ true → KeysBelow db p → (xs : List Row) → serial db p ≡ rows xs
      → Pairs (width catalog p) (equal_at catalog p) (fixed_at catalog p) (determined_aside catalog p) xs
  aside-pairs p fit below = pairs-by p (determined_aside catalog p) fit (aside-holds p fit below)
