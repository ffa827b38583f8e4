-- What a plan means over rows, and how many rounds it needs, depends on the relations that it scans alone.
use Rattle.std.proofs.Common.{◌≡◌, ◌∙◌, ℕ, ◌+◌, ◌*◌, List, length, Bool, true, false, cond, refl, ap, subst, inl, inr, arith}
use Rattle.std.specs.Prelude.{◌==◌, ◌||◌}
use Rattle.vx_rows_values.specs.Values.{Row}
use Rattle.vx_exec_layout.specs.Needed.{most_rows, most_turns, worker_steps, steps_below, rounds_needed}
use Rattle.vx_plan_nodes.specs.Plan.{Plan, scan, unary, binary, exchange, Unary, Binary, union, join, semi_join, size, target}
use Rattle.vx_plan_nodes.specs.Runs.{Runs}
use Rattle.vx_plan_nodes.specs.Routes.{Routing}
use Rattle.vx_plan_nodes.specs.Streams.{workers, Streams, Dealt}
use Rattle.vx_plan_nodes.specs.Serial.{serial, after, or_overflow, unary_rows, binary_rows, rows, SerialResult, HasTooLong, HasLargePart, IsTooLong, HasLargeInput}
use Rattle.vx_plan_nodes.specs.Erase.{erase, erase_from, nodes_left, at_once, no_claim}
use Rattle.vx_plan_nodes.specs.Phases.{is_final}
use Rattle.volcano_tables.specs.Filled.{scans}

-- these rows are the same for each relation that the plan scans
abbrev pub SameSeen : (ℕ → List Row) → (ℕ → List Row) → Plan → Type 0
SameSeen f g p = (i : ℕ) → scans p i ≡ true → f i ≡ g i

left : (a b : Bool) → a ≡ true → (a || b) ≡ true
left true b h = refl
left false b h = cc

right : (a b : Bool) → b ≡ true → (a || b) ≡ true
right true b h = refl
right false b h = h

same_number : (i : ℕ) → (i == i) ≡ true
same_number i = grind arith

pub serial_same : (f g : ℕ → List Row) (p : Plan) → SameSeen f g p → serial f p ≡ serial g p
serial_same f g (scan n c r m z) same = ap rows (same r (same_number r))
serial_same f g (unary n c op p) same = ap (λ x. after x (λ xs. or_overflow n (unary_rows op xs))) (serial_same f g p same)
serial_same f g (binary n c op p q) same =
    ap (λ x. after x (λ xs. after (serial f q) (λ ys. rows (binary_rows op xs ys)))) (serial_same f g p (λ i h. same i (left (scans p i) (scans q i) h)))
    ∙ ap (λ y. after (serial g p) (λ xs. after y (λ ys. rows (binary_rows op xs ys)))) (serial_same f g q (λ i h. same i (right (scans p i) (scans q i) h)))
serial_same f g (exchange n c k m p) same = serial_same f g p same

in_left : (f g : ℕ → List Row) (p q : Plan) → ((i : ℕ) → (scans p i || scans q i) ≡ true → f i ≡ g i) → SameSeen f g p
in_left f g p q same = λ i h. same i (left (scans p i) (scans q i) h)

in_right : (f g : ℕ → List Row) (p q : Plan) → ((i : ℕ) → (scans p i || scans q i) ≡ true → f i ≡ g i) → SameSeen f g q
in_right f g p q same = λ i h. same i (right (scans p i) (scans q i) h)

either_same : (f g : ℕ → List Row) (b : Bool) (p q : Plan) → serial f p ≡ serial g p → serial f q ≡ serial g q → serial f (cond b p q) ≡ serial g (cond b p q)
either_same f g true p q one two = one
either_same f g false p q one two = two

unary_same : (f g : ℕ → List Row) (n : ℕ) (op : Unary) (p : Plan) → serial f p ≡ serial g p
    → after (serial f p) (λ xs. or_overflow n (unary_rows op xs)) ≡ after (serial g p) (λ xs. or_overflow n (unary_rows op xs))
unary_same f g n op p h = ap (λ x. after x (λ xs. or_overflow n (unary_rows op xs))) h

binary_same : (f g : ℕ → List Row) (op : Binary) (p q : Plan) → serial f p ≡ serial g p → serial f q ≡ serial g q
    → after (serial f p) (λ xs. after (serial f q) (λ ys. rows (binary_rows op xs ys))) ≡ after (serial g p) (λ xs. after (serial g q) (λ ys. rows (binary_rows op xs ys)))
binary_same f g op p q one two =
    ap (λ x. after x (λ xs. after (serial f q) (λ ys. rows (binary_rows op xs ys)))) one ∙ ap (λ y. after (serial g p) (λ xs. after y (λ ys. rows (binary_rows op xs ys)))) two

pub serial_seen_from : (f g : ℕ → List Row) (i : ℕ) (p : Plan) → SameSeen f g p → serial f (erase_from i p) ≡ serial g (erase_from i p)
serial_seen_from f g i (scan n c r m z) same = ap rows (same r (same_number r))
serial_seen_from f g i (unary n c op p) same =
    either_same f g (is_final op) (erase_from i p) (unary i no_claim (at_once op) (erase_from (i + 1) p)) (serial_seen_from f g i p same)
    (unary_same f g i (at_once op) (erase_from (i + 1) p) (serial_seen_from f g (i + 1) p same))
serial_seen_from f g i (binary n c op p q) same =
    binary_same f g op (erase_from (i + 1) p) (erase_from (i + 1 + nodes_left p) q) (serial_seen_from f g (i + 1) p (in_left f g p q same)) (serial_seen_from f g (i + 1 + nodes_left p) q (in_right f g p q same))
serial_seen_from f g i (exchange n c k m p) same = serial_seen_from f g i p same

pub serial_seen : (f g : ℕ → List Row) (p : Plan) → SameSeen f g p → serial f (erase p) ≡ serial g (erase p)
serial_seen f g p same = serial_seen_from f g 0 p same

pub too_long_seen : (f g : ℕ → List Row) (p : Plan) → SameSeen f g p → HasTooLong f p → HasTooLong g p
too_long_seen f g (scan n c r m z) same h = h
too_long_seen f g (unary n c op p) same (inl h) = inl (too_long_seen f g p same h)
too_long_seen f g (unary n c op p) same (inr h) = let P : SerialResult → Type 0 = λ x. IsTooLong op x in inr (subst P (serial_same f g p same) h)
too_long_seen f g (binary n c op p q) same (inl h) = inl (too_long_seen f g p (in_left f g p q same) h)
too_long_seen f g (binary n c op p q) same (inr h) = inr (too_long_seen f g q (in_right f g p q same) h)
too_long_seen f g (exchange n c k m p) same h = too_long_seen f g p same h

pub large_part_seen : (f g : ℕ → List Row) (p : Plan) → SameSeen f g p → HasLargePart f p → HasLargePart g p
large_part_seen f g (scan n c r m z) same h = h
large_part_seen f g (unary n c op p) same (inl h) = inl (large_part_seen f g p same h)
large_part_seen f g (unary n c op p) same (inr h) = let P : SerialResult → Type 0 = λ x. HasLargeInput op x in inr (subst P (serial_same f g p same) h)
large_part_seen f g (binary n c op p q) same (inl h) = inl (large_part_seen f g p (in_left f g p q same) h)
large_part_seen f g (binary n c op p q) same (inr h) = inr (large_part_seen f g q (in_right f g p q same) h)
large_part_seen f g (exchange n c k m p) same h = large_part_seen f g p same h

pub runs_seen : (f g : ℕ → List Row) (sizes : ℕ → ℕ) (goes : Routing) (p : Plan) (s : Streams) → SameSeen f g p → Runs f sizes goes p s → Runs g sizes goes p s
runs_seen f g sizes goes (scan n c r true z) s same h = let P : List Row → Type 0 = λ xs. Dealt (workers sizes z) xs s in subst P (same r (same_number r)) h
runs_seen f g sizes goes (scan n c r false z) s same h = λ w l. h w l ∙ same r (same_number r)
runs_seen f g sizes goes (unary n c op p) s same h = (h.0, runs_seen f g sizes goes p h.0 same h.1, h.2)
runs_seen f g sizes goes (binary n c op p q) s same h =
    (h.0, h.1, runs_seen f g sizes goes p h.0 (in_left f g p q same) h.2, runs_seen f g sizes goes q h.1 (in_right f g p q same) h.3, h.4)
runs_seen f g sizes goes (exchange n c k m p) s same h = (h.0, runs_seen f g sizes goes p h.0 same h.1, h.2)

rows_seen : (f g : ℕ → List Row) (sizes : ℕ → ℕ) (p : Plan) → SameSeen f g p → most_rows f sizes p ≡ most_rows g sizes p
rows_seen f g sizes (scan n c r m z) same = ap length (same r (same_number r))
rows_seen f g sizes (unary n c op p) same = rows_seen f g sizes p same
rows_seen f g sizes (binary n c union p q) same = rw (rows_seen f g sizes p (in_left f g p q same), rows_seen f g sizes q (in_right f g p q same))
rows_seen f g sizes (binary n c (join method on) p q) same = rw (rows_seen f g sizes p (in_left f g p q same), rows_seen f g sizes q (in_right f g p q same))
rows_seen f g sizes (binary n c (semi_join matched on conditions) p q) same = rows_seen f g sizes p (in_left f g p q same)
rows_seen f g sizes (exchange n c k m p) same = ap (λ x. workers sizes (size p) * x) (rows_seen f g sizes p same)

turns_seen : (f g : ℕ → List Row) (sizes : ℕ → ℕ) (p : Plan) → SameSeen f g p → most_turns f sizes p ≡ most_turns g sizes p
turns_seen f g sizes (scan n c r m z) same = ap length (same r (same_number r))
turns_seen f g sizes (unary n c op p) same = rw (rows_seen f g sizes p same, turns_seen f g sizes p same)
turns_seen f g sizes (binary n c op p q) same =
    let left_same = in_left f g p q same in
    let right_same = in_right f g p q same in
    rw (rows_seen f g sizes p left_same, rows_seen f g sizes q right_same, turns_seen f g sizes p left_same, turns_seen f g sizes q right_same)
turns_seen f g sizes (exchange n c k m p) same = ap (λ x. workers sizes (size p) * (x + 1)) (rows_seen f g sizes p same)

steps_seen : (f g : ℕ → List Row) (sizes : ℕ → ℕ) (consumers : ℕ) (p : Plan) → SameSeen f g p → worker_steps f sizes consumers p ≡ worker_steps g sizes consumers p
steps_seen f g sizes consumers p same = rw (rows_seen f g sizes p same, turns_seen f g sizes p same)

below_seen : (f g : ℕ → List Row) (sizes : ℕ → ℕ) (p : Plan) → SameSeen f g p → steps_below f sizes p ≡ steps_below g sizes p
below_seen f g sizes (scan n c r m z) same = refl
below_seen f g sizes (unary n c op p) same = below_seen f g sizes p same
below_seen f g sizes (binary n c op p q) same = rw (below_seen f g sizes p (in_left f g p q same), below_seen f g sizes q (in_right f g p q same))
below_seen f g sizes (exchange n c k m p) same = rw (steps_seen f g sizes (workers sizes (target k)) p same, below_seen f g sizes p same)

pub rounds_seen : (f g : ℕ → List Row) (sizes : ℕ → ℕ) (p : Plan) → SameSeen f g p → rounds_needed f sizes p ≡ rounds_needed g sizes p
rounds_seen f g sizes p same = rw (steps_seen f g sizes 0 p same, below_seen f g sizes p same)
