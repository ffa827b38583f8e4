-- Orders that begin others, entry by entry, and orders of columns in directions.
use Rattle.std.proofs.Common.{◌≡◌, ℕ, zero, suc, ◌+◌, ◌<◌, ◌≤◌, min, ◌&&◌, Bool, true, false, List, [], ◌∷◌, ◌++◌, map, length, drop, get_or, drop-cons, add-one, Option, Some, None, slice_get, refl, sym, ap, ◌∙◌, arith, append_assoc}
use Rattle.std.proofs.lemmas.List.{append-nil, length-map, at_drop_more, drop_all}
use Rattle.std.proofs.lemmas.Option.{get_or_from_slice_get}
use Rattle.std.proofs.Math.Bool.{and-false}
use Rattle.vx_rows_values.specs.declared.order.OrderEntry.{OrderEntry}
use Rattle.vx_rows_values.specs.Order.{in_directions, entry_eq}
use Rattle.vx_plan_nodes.specs.Describe.{Copying, source, place}
use Rattle.vx_check_rules.specs.Rules.{is_front, entry_at, entry_both, if_order}
use Rattle.vx_check_rules.specs.Behaviour.{order_sources, entry_then, front_order}
use Rattle.vx_check_rules.proofs.Bools.{and-true}

-- ---- columns in directions

no_falls : (cols : List ℕ) → in_directions cols [] ≡ []
no_falls [] = refl
no_falls (c ∷ cols) = refl

pub directions-length : (cols : List ℕ) (falls : List Bool) → length (in_directions cols falls) ≡ min (length cols) (length falls)
directions-length [] falls = omega arith
directions-length (c ∷ cols) [] = omega arith
directions-length (c ∷ cols) (f ∷ falls) = let more = directions-length cols falls in omega (arith, more)

pub length-on : (f : ℕ × ℕ → ℕ) (on : List (ℕ × ℕ)) (falls : List Bool) → length (in_directions (map f on) falls) ≡ min (length on) (length falls)
length-on f on falls = directions-length (map f on) falls ∙ ap (λ n. min n (length falls)) (length-map on f)

pub directions-within : (cols : List ℕ) (falls : List Bool) (i : ℕ) → i < length (in_directions cols falls) → (i < length cols) × (i < length falls)
directions-within cols falls i h = let is = directions-length cols falls in (omega (arith, h, is), omega (arith, h, is))

pub directions-at : (cols : List ℕ) (falls : List Bool) (i c : ℕ) (f : Bool) → i < length (in_directions cols falls)
    → slice_get (in_directions cols falls) i ≡ Some (record { column = get_or cols i c; falling = get_or falls i f })
directions-at [] falls i c f h = absurd (omega (arith, h))
directions-at (d ∷ cols) [] i c f h = absurd (omega (arith, h))
directions-at (d ∷ cols) (g ∷ falls) zero c f h = refl
directions-at (d ∷ cols) (g ∷ falls) (suc i) c f h = directions-at cols falls i c f (omega (arith, h))

-- ---- fronts

-- no order begins a shorter one
pub front-short : (xs ys : List OrderEntry) → length ys < length xs → is_front xs ys ≡ false
front-short [] ys h = absurd (omega arith)
front-short (x ∷ xs) [] h = refl
front-short (x ∷ xs) (y ∷ ys) h = rw (front-short xs ys (omega arith)) (and-false (entry_eq x y))

-- the entries at this place, and those behind them
pub front-at : (xs ys : List OrderEntry) (i : ℕ) (x d : OrderEntry) → i < length xs → i < length ys → slice_get xs i ≡ Some x
    → is_front (drop i xs) (drop i ys) ≡ (entry_eq x (get_or ys i d) && is_front (drop (i + 1) xs) (drop (i + 1) ys))
front-at xs ys i x d h l e =
    let is : get_or xs i d ≡ x = get_or_from_slice_get xs i x d e in
    rw (drop-cons xs i d, drop-cons ys i d, add-one) (ap (λ z. entry_eq z (get_or ys i d) && is_front (drop (suc i) xs) (drop (suc i) ys)) is)

pub front-end : (xs ys : List OrderEntry) (i : ℕ) → length xs ≤ i → is_front (drop i xs) ys ≡ true
front-end xs ys i h = rw (drop_all i xs h) refl

-- ---- copies

-- the columns of the order are copies of those that begin the input's
abbrev pub copies_begin : Copying → List OrderEntry → List OrderEntry → Bool
copies_begin k order input = if_order (order_sources k order) (λ o. is_front o input)

copies_cons : (o : Option ℕ) (e x : OrderEntry) (os : Option (List OrderEntry)) (xs : List OrderEntry)
    → if_order (entry_both o e os) (λ given. is_front given (x ∷ xs)) ≡ (if_order (entry_both o e (Some [])) (λ given. is_front given (x ∷ [])) && if_order os (λ given. is_front given xs))
copies_cons None e x os xs = refl
copies_cons (Some c) e x None xs = sym (and-false _)
copies_cons (Some c) e x (Some given) xs = ap (λ b. b && is_front given xs) (sym (and-true (entry_eq (entry_at c e) x)))

pub copies-at : (k : Copying) (order input : List OrderEntry) (i : ℕ) (e x d : OrderEntry) → i < length order → i < length input → e ≡ get_or order i d → x ≡ get_or input i d
    → copies_begin k (drop i order) (drop i input) ≡ (copies_begin k (e ∷ []) (x ∷ []) && copies_begin k (drop (i + 1) order) (drop (i + 1) input))
copies-at k order input i e x d h l at there =
    rw (drop-cons order i d, drop-cons input i d, add-one, at, there)
    (copies_cons (source k (get_or order i d).column) (get_or order i d) (get_or input i d) (order_sources k (drop (suc i) order)) (drop (suc i) input))

pub copies-end : (k : Copying) (order input : List OrderEntry) (i : ℕ) → length order ≤ i → copies_begin k (drop i order) input ≡ true
copies-end k order input i h = rw (drop_all i order h) refl

copies_long : (o : Option ℕ) (e : OrderEntry) (os : Option (List OrderEntry)) → if_order (entry_both o e os) (λ given. is_front given []) ≡ false
copies_long None e os = refl
copies_long (Some c) e None = refl
copies_long (Some c) e (Some given) = refl

pub copies-short : (k : Copying) (order input : List OrderEntry) → length input < length order → copies_begin k order input ≡ false
copies-short k [] input h = absurd (omega arith)
copies-short k (e ∷ order) [] h = copies_long (source k e.column) e (order_sources k order)
copies-short k (e ∷ order) (x ∷ xs) h =
    copies_cons (source k e.column) e x (order_sources k order) xs ∙ rw (copies-short k order xs (omega arith)) (and-false _)

-- ---- places

-- a column with no place ends the front, and one with a place continues it
order-here : (k : Copying) (order : List OrderEntry) (i : ℕ) (e d : OrderEntry) (o : Option ℕ) → i < length order → e ≡ get_or order i d → o ≡ place k e.column
    → front_order k (drop i order) ≡ entry_then o e (front_order k (drop (i + 1) order))
order-here k order i e d o h at is =
    at_drop_more (front_order k) order i d h
    ∙ (ap (λ x. entry_then (place k x.column) x (front_order k (drop (i + 1) order))) (sym at) ∙ ap (λ p. entry_then p e (front_order k (drop (i + 1) order))) (sym is))

pub order-none : (k : Copying) (order : List OrderEntry) (i : ℕ) (e d : OrderEntry) (o : Option ℕ) (found all : List OrderEntry) → i < length order → e ≡ get_or order i d → o ≡ place k e.column
    → all ≡ found ++ front_order k (drop i order) → o ≡ None → found ≡ all
order-none k order i e d o found all h at is left none =
    sym (left ∙ ap (λ xs. found ++ xs) (order-here k order i e d o h at is ∙ ap (λ p. entry_then p e (front_order k (drop (i + 1) order))) none) ∙ append-nil found)

pub order-some : (k : Copying) (order : List OrderEntry) (i : ℕ) (e d : OrderEntry) (o : Option ℕ) (found all : List OrderEntry) (c : ℕ) → i < length order → e ≡ get_or order i d → o ≡ place k e.column
    → all ≡ found ++ front_order k (drop i order) → o ≡ Some c → all ≡ (found ++ entry_at c e ∷ []) ++ front_order k (drop (i + 1) order)
order-some k order i e d o found all c h at is left some =
    let rest : List OrderEntry = front_order k (drop (i + 1) order) in
    left ∙ ap (λ xs. found ++ xs) (order-here k order i e d o h at is ∙ ap (λ p. entry_then p e rest) some) ∙ sym (append_assoc found (entry_at c e ∷ []) rest)
