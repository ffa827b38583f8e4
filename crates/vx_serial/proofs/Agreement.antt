-- What is evaluated is the serial meaning, but where a grouping is too long.
use Rattle.std.proofs.Common.{◌≡◌, ℕ, ◌<◌, nat_lt, Bool, true, false, cond, List, length, None, refl, ap, subst, ltb-true, ◌⊎◌, inl, inr}
use Rattle.vx_rows_values.specs.Values.{Row}
use Rattle.vx_plan_nodes.specs.Plan.{Aggregate, Unary, select, project, distinct, sort, group, limit, Binary, Plan, scan, unary, binary, exchange}
use Rattle.vx_plan_nodes.specs.Serial.{group_rows, unary_rows, binary_rows, SerialResult, rows, overflow, or_overflow, after, serial, IsTooLong, HasTooLong}
use Rattle.vx_serial.specs.Evaluated.{evaluated_rows, evaluated}

-- the first outcome is the second, or it is an overflow and something is too long
abbrev pub Agrees : Type 0 → SerialResult → SerialResult → Type 0
Agrees T (rows xs) o = o ≡ rows xs
Agrees T (overflow n) o = (o ≡ overflow n) ⊎ T

itself : (U : Type 0) (o : SerialResult) → Agrees U o o
itself U (rows ys) = refl
itself U (overflow k) = inl refl

one-group : (T : Type 0) (n : ℕ) (by : List ℕ) (aggregates : List Aggregate) (xs : List Row) (b : Bool) → nat_lt 4611686018427387904 (length xs) ≡ b
    → Agrees (T ⊎ (4611686018427387904 < length xs)) (or_overflow n (cond b None (group_rows by aggregates xs))) (or_overflow n (group_rows by aggregates xs))
one-group T n by aggregates xs true e = inr (inr (ltb-true 4611686018427387904 (length xs) e))
one-group T n by aggregates xs false e = itself (T ⊎ (4611686018427387904 < length xs)) (or_overflow n (group_rows by aggregates xs))

one-operator : (T : Type 0) (n : ℕ) (op : Unary) (xs : List Row)
    → Agrees (T ⊎ IsTooLong op (rows xs)) (or_overflow n (evaluated_rows op xs)) (or_overflow n (unary_rows op xs))
one-operator T n (select fs) xs = itself (T ⊎ ⊥) (or_overflow n (unary_rows (select fs) xs))
one-operator T n (project es) xs = itself (T ⊎ ⊥) (or_overflow n (unary_rows (project es) xs))
one-operator T n (distinct cols) xs = refl
one-operator T n (sort of_parts order) xs = refl
one-operator T n (limit m) xs = refl
one-operator T n (group phase by aggregates) xs = one-group T n by aggregates xs (nat_lt 4611686018427387904 (length xs)) refl

above-one : (T : Type 0) (n : ℕ) (op : Unary) (e o : SerialResult) → Agrees T e o
    → Agrees (T ⊎ IsTooLong op o) (after e (λ xs. or_overflow n (evaluated_rows op xs))) (after o (λ xs. or_overflow n (unary_rows op xs)))
above-one T n op (rows xs) o h = rw h (one-operator T n op xs)
above-one T n op (overflow k) o h = elim h [
  | inl e ↦ inl (ap (λ z. after z (λ xs. or_overflow n (unary_rows op xs))) e)
  | inr t ↦ inr (inl t)
]

above-two : (T U : Type 0) (op : Binary) (e o d q : SerialResult) → Agrees T e o → Agrees U d q
    → Agrees (T ⊎ U) (after e (λ xs. after d (λ ys. rows (binary_rows op xs ys)))) (after o (λ xs. after q (λ ys. rows (binary_rows op xs ys))))
above-two T U op (overflow k) o d q h g = elim h [
  | inl e ↦ inl (ap (λ z. after z (λ xs. after q (λ ys. rows (binary_rows op xs ys)))) e)
  | inr t ↦ inr (inl t)
]
above-two T U op (rows xs) o (rows ys) q h g = rw (h, g) refl
above-two T U op (rows xs) o (overflow k) q h g = elim g [
  | inl e ↦ inl (rw (h, e) refl)
  | inr t ↦ inr (inr t)
]

agrees : (db : ℕ → List Row) (p : Plan) → Agrees (HasTooLong db p) (evaluated db p) (serial db p)
agrees db (scan n c r m z) = refl
agrees db (unary n c op p) = above-one (HasTooLong db p) n op (evaluated db p) (serial db p) (agrees db p)
agrees db (binary n c op p q) =
    above-two (HasTooLong db p) (HasTooLong db q) op (evaluated db p) (serial db p) (evaluated db q) (serial db q) (agrees db p) (agrees db q)
agrees db (exchange n c k m p) = agrees db p

pub rows-are-serial : (db : ℕ → List Row) (p : Plan) (xs : List Row) → evaluated db p ≡ rows xs → serial db p ≡ rows xs
rows-are-serial db p xs e = let P : SerialResult → Type 0 = λ o. Agrees (HasTooLong db p) o (serial db p) in subst P e (agrees db p)

pub overflow-is-real : (db : ℕ → List Row) (p : Plan) (n : ℕ) → evaluated db p ≡ overflow n → (serial db p ≡ overflow n) ⊎ HasTooLong db p
overflow-is-real db p n e = let P : SerialResult → Type 0 = λ o. Agrees (HasTooLong db p) o (serial db p) in subst P e (agrees db p)
