-- Orders of an output that copies columns: what begins the input's order there follows from the copies of what is left of it.
use Rattle.std.proofs.Common.{◌≡◌, ◌∙◌, ℕ, ◌<◌, ◌==◌, Bool, true, false, cond, ⊎_elim, List, [], ◌∷◌, Option, Some, None, refl, sym, ap, arith, true≢false, eqb-true, eq-eqb}
use Rattle.vx_rows_values.specs.declared.order.OrderEntry.{OrderEntry}
use Rattle.vx_rows_values.specs.Order.{order_columns}
use Rattle.vx_rows_values.proofs.Booleans.{and-both}
use Rattle.vx_catalog_relations.specs.Catalog.{all_below}
use Rattle.vx_plan_nodes.specs.Describe.{Copying, source}
use Rattle.vx_plan_facts.specs.Equal.{Equality, both_equal}
use Rattle.vx_plan_facts.specs.Determined.{Columns, column_in}
use Rattle.vx_plan_facts.specs.Following.{begins_equally, short, order_follows}
use Rattle.vx_plan_facts.proofs.Tests.{or-cases, or-left, or-right}
use Rattle.vx_check_rules.specs.Derived.{copy_of, copies_then, front_copies}
use Rattle.vx_check_rules.proofs.CopySteps.{copies-below}
use Rattle.vx_check_rules.proofs.Shortening.{Closes, with_one, short_past, short-starts}
use Rattle.vx_check_shown.proofs.Entries.{one_way, way-itself}
use Rattle.vx_check_shown.proofs.Equivalent.{IsEquivalence}
use Rattle.vx_check_shown.proofs.Standing.{first-is, has-first}
use Rattle.vx_check_shown.proofs.ShortOrders.{none_of, column-below, rest-below, both-go}

-- the columns are copies of the first of these, in order and in the same directions
abbrev pub AreCopies : Copying → List OrderEntry → List OrderEntry → Type 0
AreCopies k [] xs = Unit {0}
AreCopies k (c ∷ order) [] = ⊥
AreCopies k (c ∷ order) (x ∷ xs) = (source k c.column ≡ Some x.column) × (c.falling ≡ x.falling) × AreCopies k order xs

-- each column of an input's set has a copy that the output's set determines
abbrev pub Held : (v w : ℕ) → Copying → (Columns → Columns) → (s t : Columns) → Type 0
Held v w k more s t = (x : ℕ) → x < v → t x ≡ true → (c : ℕ) × (c < w) × (source k c ≡ Some x) × (more s c ≡ true)

-- then the copies of what that set determines are determined too
abbrev pub GoesUp : (v w : ℕ) → Copying → (det more : Columns → Columns) → Type 0
GoesUp v w k det more =
    (s t : Columns) → Held v w k more s t → (c x : ℕ) → c < w → source k c ≡ Some x → det t x ≡ true → more s c ≡ true

-- a column that is a copy of one that is equal to this one
pub record IsCopyOf (w : ℕ) (k : Copying) (e : Equality) (x d : ℕ) : Type 0 where
  pub here : copy_of w k e x ≡ Some d
  pub below : d < w
  pub from : ℕ
  pub source_is : source k d ≡ Some from
  pub equal : e from x ≡ true

column-of : (o : Option ℕ) (p : ℕ → Bool) → column_in p o ≡ true → (y : ℕ) × (o ≡ Some y) × (p y ≡ true)
column-of None p h = absurd (true≢false (sym h))
column-of (Some y) p h = (y, refl, h)

-- a column that has a copy has a first one
copy-found : (w : ℕ) (k : Copying) (e : Equality) → IsEquivalence e → (c x : ℕ) → c < w → source k c ≡ Some x → (d : ℕ) × IsCopyOf w k e x d
copy-found w k e is c x l there =
    let test : ℕ → Bool = λ d. column_in (λ y. e y x) (source k d) in
    let r = has-first test 0 w c (ap (column_in (λ y. e y x)) there ∙ is.itself x) (omega (arith, l)) (omega arith) in
    let le = r.1 in
    let y = column-of (source k r.0) (λ y. e y x) r.2.passes in (
      r.0,
      record { here = first-is test 0 w r.0 r.2 (omega (arith, le, l)); below = omega (arith, le, l); from = y.0; source_is = y.1; equal = y.2 },
    )

module _ (v w : ℕ) (k : Copying) (e f : Equality) (det more : Columns → Columns) (input : Closes v e det) (output : Closes w f more) (is : IsEquivalence e)
    (lifts : (a b : ℕ) → both_equal e (source k a) (source k b) ≡ true → f a b ≡ true) (up : GoesUp v w k det more) where
  -- with a column and its copy it is so still
  held-one : (s t : Columns) → Held v w k more s t → (c x : ℕ) → c < w → source k c ≡ Some x → Held v w k more (with_one s c) (with_one t x)
  held-one s t held c x l there z m h = ⊎_elim
      (λ old.
      let r = held z m old in
      (r.0, r.1, r.2, output.again s (with_one s c) (λ a n o. output.holds (with_one s c) a n (or-left (s a) (a == c) o)) r.0 r.1 r.3))
      (λ (new : (z == x) ≡ true). (
        c,
        l,
        there ∙ ap Some (sym (eqb-true z x new)),
        output.holds (with_one s c) c l (or-right (s c) (c == c) (eq-eqb c c refl)),
      ))
      (or-cases (t z) (z == x) h)

  carried : (order xs : List OrderEntry) → AreCopies k order xs → all_below w (order_columns order) ≡ true → all_below v (order_columns xs) ≡ true → (s t : Columns) → Held v w k more s t
      → begins_equally f (short_past more s order) (short_past more s (front_copies w k e (short_past det t xs))) ≡ true
  carried [] xs copies l m s t held = refl
  carried (c ∷ order) [] copies l m s t held = absurd copies
  carried (c ∷ order) (x ∷ xs) copies l m s t held =
      let below = column-below w c order l in
      let rest = rest-below w c order l in
      let others = rest-below v x xs m in
      go (det t x.column) refl (carried order xs copies.2 rest others s t held)
      (carried order xs copies.2 rest others (with_one s c.column) (with_one t x.column) (held-one s t held c.column x.column below copies.0))
    where
      found : (d : ℕ) × IsCopyOf w k e x.column d
      found = copy-found w k e is c.column x.column (column-below w c order l) copies.0

      go : (b : Bool) → det t x.column ≡ b
          → begins_equally f (short_past more s order) (short_past more s (front_copies w k e (short_past det t xs))) ≡ true
          → begins_equally f (short_past more (with_one s c.column) order)
          (short_past more (with_one s c.column) (front_copies w k e (short_past det (with_one t x.column) xs))) ≡ true
          → begins_equally f (short_past more s (c ∷ order))
          (short_past more s (front_copies w k e (cond b (short_past det t xs) (x ∷ short_past det (with_one t x.column) xs)))) ≡ true
      go true h passed goes =
          let given : List OrderEntry = front_copies w k e (short_past det t xs) in
          ap (λ b. begins_equally f (cond b (short_past more s order) (c ∷ short_past more (with_one s c.column) order)) (short_past more s given))
          (up s t held c.column x.column (column-below w c order l) copies.0 h) ∙ passed
      go false h passed goes =
          let ys : List OrderEntry = short_past det (with_one t x.column) xs in
          let d : ℕ = found.0 in
          let copy = found.1 in
          let put : OrderEntry = record { column = d; falling = x.falling } in
          let same : f c.column d ≡ true =
          lifts c.column d (ap (both_equal e (source k c.column)) copy.source_is ∙ ap (λ o. both_equal e o (Some copy.from)) copies.0 ∙ is.swap copy.from x.column copy.equal) in
          let way : one_way c.falling x.falling ≡ true = ap (one_way c.falling) (sym copies.1) ∙ way-itself c.falling in
          ap (λ o. begins_equally f (short_past more s (c ∷ order)) (short_past more s (copies_then o x.falling (front_copies w k e ys)))) copy.here
          ∙ both-go w f more output s c put order (front_copies w k e ys) (column-below w c order l) copy.below (rest-below w c order l) (copies-below w k e ys)
          (and-both (f c.column d) (one_way c.falling x.falling) same way) goes

  none-held : (s : Columns) → Held v w k more s none_of
  none-held s x m h = absurd (true≢false (sym h))

  -- an order of copies of what begins the input's order follows from the one that the output has
  pub copies-follow : (order xs : List OrderEntry) → AreCopies k order xs → all_below w (order_columns order) ≡ true → all_below v (order_columns xs) ≡ true
      → order_follows f more (front_copies w k e (short det xs)) order ≡ true
  copies-follow order xs copies l m =
      let given : List OrderEntry = front_copies w k e (short det xs) in
      ap (λ ys. begins_equally f ys (short more given)) (short-starts w f more output none_of order (λ c. refl) l)
      ∙ ap (begins_equally f (short_past more none_of order)) (short-starts w f more output none_of given (λ c. refl) (copies-below w k e (short det xs)))
      ∙ ap (λ ys. begins_equally f (short_past more none_of order) (short_past more none_of (front_copies w k e ys))) (short-starts v e det input none_of xs (λ c. refl) m)
      ∙ carried order xs copies l m none_of none_of (none-held none_of)
