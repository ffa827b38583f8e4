-- Entries of orders: the same ones, and equal columns in the same direction.
use Rattle.std.proofs.Common.{◌≡◌, ℕ, zero, suc, ◌<◌, ◌==◌, nat_lt, Bool, true, false, cond, not, List, [], ◌∷◌, length, get_or, refl, sym, ap₂, arith, true≢false, eqb-true, ltb-true}
use Rattle.vx_rows_values.specs.declared.order.OrderEntry.{OrderEntry}
use Rattle.vx_rows_values.specs.Order.{order_columns, entry_eq}
use Rattle.vx_rows_values.proofs.Booleans.{and-left, and-right, and-both}
use Rattle.vx_catalog_relations.specs.Catalog.{all_below}
use Rattle.vx_plan_facts.specs.Equal.{Equality}
use Rattle.vx_plan_facts.specs.Following.{equal_entries}

-- ---- directions

-- both rise, or both fall
abbrev pub one_way : Bool → Bool → Bool
one_way a b = cond a b (not b)

pub way-itself : (a : Bool) → one_way a a ≡ true
way-itself true = refl
way-itself false = refl

pub way-is : (a b : Bool) → one_way a b ≡ true → a ≡ b
way-is true b h = sym h
way-is false true h = absurd (true≢false (sym h))
way-is false false h = refl

pub way-chain : (a b c : Bool) → one_way a b ≡ true → one_way b c ≡ true → one_way a c ≡ true
way-chain true true c h k = k
way-chain true false c h k = absurd (true≢false (sym h))
way-chain false true c h k = absurd (true≢false (sym h))
way-chain false false c h k = k

-- ---- entries

-- a column in a direction
abbrev pub entry_of : ℕ → Bool → OrderEntry
entry_of c f = record { column = c; falling = f }

-- the column, rising
abbrev pub rise : ℕ → OrderEntry
rise c = entry_of c false

pub entry-same : (x y : OrderEntry) → entry_eq x y ≡ true → x ≡ y
entry-same x y h =
    ap₂ entry_of (eqb-true x.column y.column (and-left (x.column == y.column) (one_way x.falling y.falling) h))
    (way-is x.falling y.falling (and-right (x.column == y.column) (one_way x.falling y.falling) h))

pub entry-itself : (e : Equality) → ((c : ℕ) → e c c ≡ true) → (x : OrderEntry) → equal_entries e x x ≡ true
entry-itself e itself x = and-both (e x.column x.column) (one_way x.falling x.falling) (itself x.column) (way-itself x.falling)

pub entry-chain : (e : Equality) → ((a b c : ℕ) → e a b ≡ true → e b c ≡ true → e a c ≡ true) → (x y z : OrderEntry) → equal_entries e x y ≡ true → equal_entries e y z ≡ true
    → equal_entries e x z ≡ true
entry-chain e chain x y z h k =
    and-both (e x.column z.column) (one_way x.falling z.falling)
    (chain x.column y.column z.column (and-left (e x.column y.column) (one_way x.falling y.falling) h) (and-left (e y.column z.column) (one_way y.falling z.falling) k))
    (way-chain x.falling y.falling z.falling (and-right (e x.column y.column) (one_way x.falling y.falling) h)
    (and-right (e y.column z.column) (one_way y.falling z.falling) k))

-- the column of each entry is there
pub entry-there : (w : ℕ) (order : List OrderEntry) (k : ℕ) (d : OrderEntry) → all_below w (order_columns order) ≡ true → k < length order → (get_or order k d).column < w
entry-there w [] k d h l = absurd (omega (arith, l))
entry-there w (e ∷ order) zero d h l = ltb-true e.column w (and-left (nat_lt e.column w) (all_below w (order_columns order)) h)
entry-there w (e ∷ order) (suc k) d h l = entry-there w order k d (and-right (nat_lt e.column w) (all_below w (order_columns order)) h) (omega (arith, l))
