-- Directions that fit the orders of two inputs are the ones that these ask for, but where they ask for none.
use Rattle.std.proofs.Common.{◌≡◌, ℕ, suc, Bool, true, false, cond, not, List, [], ◌∷◌, length, drop, Option, Some, None, refl, sym, ap, ap₂, ◌∙◌, true≢false, arith}
use Rattle.std.specs.Prelude.{⊤}
use Rattle.vx_rows_values.specs.declared.order.OrderEntry.{OrderEntry}
use Rattle.vx_rows_values.specs.Order.{in_directions}
use Rattle.vx_rows_values.proofs.Booleans.{and-left, and-right}
use Rattle.vx_plan_facts.specs.Equal.{Equality}
use Rattle.vx_plan_facts.specs.Determined.{Columns}
use Rattle.vx_plan_facts.specs.Following.{set_of, equal_entries, begins_equally, short_after, short, order_follows}
use Rattle.vx_check_directions.specs.Directed.{ask, behind, asks_after, agreed}

abbrev entry : ℕ → Bool → OrderEntry
entry c f = record { column = c; falling = f }

-- what is asked for is what these directions are
abbrev Answered : List (Option Bool) → List Bool → Type 0
Answered [] falls = ⊤
Answered (a ∷ as') [] = ⊤
Answered (None ∷ as') (f ∷ falls) = Answered as' falls
Answered (Some b ∷ as') (f ∷ falls) = (b ≡ f) × Answered as' falls

-- where something is asked for, two lists of directions are the same
abbrev Settled : List (Option Bool) → (falls others : List Bool) → Type 0
Settled [] falls others = ⊤
Settled (a ∷ as') [] others = ⊤
Settled (a ∷ as') (f ∷ falls) [] = ⊤
Settled (None ∷ as') (f ∷ falls) (g ∷ others) = Settled as' falls others
Settled (Some b ∷ as') (f ∷ falls) (g ∷ others) = (f ≡ g) × Settled as' falls others

same-test : (a b : Bool) → cond a b (not b) ≡ true → b ≡ a
same-test true true h = refl
same-test true false h = cc
same-test false true h = cc
same-test false false h = refl

-- directions that an order fits are those that it asks for
fits-answered : (e : Equality) (det : Columns → Columns) (before : List ℕ) (order : List OrderEntry) (cols : List ℕ) (falls : List Bool)
    → begins_equally e (short_after det before (in_directions cols falls)) order ≡ true → Answered (asks_after det before order cols) falls
fits-answered e det before order [] falls h = tt
fits-answered e det before order (c ∷ cols) [] h = tt
fits-answered e det before order (c ∷ cols) (f ∷ falls) h = go (λ o. fits-answered e det (c ∷ before) o cols falls) (det (set_of before) c) order h
  where
    go : ((o : List OrderEntry) → begins_equally e (short_after det (c ∷ before) (in_directions cols falls)) o ≡ true → Answered (asks_after det (c ∷ before) o cols) falls)
        → (b : Bool) (order : List OrderEntry)
        → begins_equally e (cond b (short_after det (c ∷ before) (in_directions cols falls)) (record { column = c; falling = f } ∷ short_after det (c ∷ before) (in_directions cols falls))) order ≡ true
        → Answered (ask b order ∷ asks_after det (c ∷ before) (behind b order) cols) (f ∷ falls)
    go below true order h = below order h
    go below false [] h = absurd (true≢false (sym h))
    go below false (d ∷ order) h =
        let mine : OrderEntry = record { column = c; falling = f } in
        let rest : Bool = begins_equally e (short_after det (c ∷ before) (in_directions cols falls)) order in
        let here = and-left (equal_entries e mine d) rest h in (
          same-test f d.falling (and-right (e c d.column) (cond f d.falling (not d.falling)) here),
          below order (and-right (equal_entries e mine d) rest h),
        )

-- what is agreed on is so where an input asks for something
left-settled : (lefts rights : List (Option Bool)) (falls : List Bool) → Answered lefts falls → Settled lefts (agreed lefts rights) falls
left-settled [] rights falls h = tt
left-settled (a ∷ lefts) [] falls h = tt
left-settled (a ∷ lefts) (b ∷ rights) [] h = tt
left-settled (None ∷ lefts) (b ∷ rights) (f ∷ falls) h = left-settled lefts rights falls h
left-settled (Some x ∷ lefts) (b ∷ rights) (f ∷ falls) h = (h.0, left-settled lefts rights falls h.1)

right-settled : (lefts rights : List (Option Bool)) (falls : List Bool) → Answered lefts falls → Answered rights falls → Settled rights (agreed lefts rights) falls
right-settled [] [] falls g h = tt
right-settled [] (b ∷ rights) falls g h = tt
right-settled (a ∷ lefts) [] falls g h = tt
right-settled (a ∷ lefts) (b ∷ rights) [] g h = tt
right-settled (None ∷ lefts) (None ∷ rights) (f ∷ falls) g h = right-settled lefts rights falls g h
right-settled (None ∷ lefts) (Some y ∷ rights) (f ∷ falls) g h = (h.0, right-settled lefts rights falls g h.1)
right-settled (Some x ∷ lefts) (None ∷ rights) (f ∷ falls) g h = right-settled lefts rights falls g.1 h
right-settled (Some x ∷ lefts) (Some y ∷ rights) (f ∷ falls) g h = (g.0, right-settled lefts rights falls g.1 h.1)

-- directions of columns that ask for nothing make no difference
settled-short : (det : Columns → Columns) (before : List ℕ) (order : List OrderEntry) (cols : List ℕ) (falls others : List Bool) → length falls ≡ length others
    → Settled (asks_after det before order cols) falls others → short_after det before (in_directions cols falls) ≡ short_after det before (in_directions cols others)
settled-short det before order [] falls others l h = refl
settled-short det before order (c ∷ cols) [] [] l h = refl
settled-short det before order (c ∷ cols) [] (g ∷ others) l h = absurd (omega (arith, l))
settled-short det before order (c ∷ cols) (f ∷ falls) [] l h = absurd (omega (arith, l))
settled-short det before order (c ∷ cols) (f ∷ falls) (g ∷ others) l h =
    let tail : length falls ≡ length others = omega (arith, l) in
    go (λ o. settled-short det (c ∷ before) o cols falls others tail) (det (set_of before) c) h
  where
    go : ((o : List OrderEntry) → Settled (asks_after det (c ∷ before) o cols) falls others
        → short_after det (c ∷ before) (in_directions cols falls) ≡ short_after det (c ∷ before) (in_directions cols others))
        → (b : Bool) → Settled (ask b order ∷ asks_after det (c ∷ before) (behind b order) cols) (f ∷ falls) (g ∷ others)
        → cond b (short_after det (c ∷ before) (in_directions cols falls)) (record { column = c; falling = f } ∷ short_after det (c ∷ before) (in_directions cols falls))
        ≡ cond b (short_after det (c ∷ before) (in_directions cols others)) (record { column = c; falling = g } ∷ short_after det (c ∷ before) (in_directions cols others))
    go below true s = below order s
    go below false s = ap₂ (λ x y. entry c x ∷ y) s.0 (below (drop 1 order) s.1)

pub asks-length : (det : Columns → Columns) (before : List ℕ) (order : List OrderEntry) (cols : List ℕ) → length (asks_after det before order cols) ≡ length cols
asks-length det before order [] = refl
asks-length det before order (c ∷ cols) = ap suc (asks-length det (c ∷ before) (behind (det (set_of before) c) order) cols)

pub agreed-length : (lefts rights : List (Option Bool)) → length lefts ≡ length rights → length (agreed lefts rights) ≡ length lefts
agreed-length [] [] l = refl
agreed-length [] (b ∷ rights) l = refl
agreed-length (a ∷ lefts) [] l = absurd (omega (arith, l))
agreed-length (a ∷ lefts) (b ∷ rights) l = let t : length lefts ≡ length rights = omega (arith, l) in ap suc (agreed-length lefts rights t)

-- two orders that show these columns in some directions show them in those that are agreed on
pub asked-follow : (e f : Equality) (left right : Columns → Columns) (lefts rights : List OrderEntry) (ls rs : List ℕ) (falls : List Bool) → length ls ≡ length rs → length falls ≡ length ls
    → order_follows e left lefts (in_directions ls falls) ≡ true → order_follows f right rights (in_directions rs falls) ≡ true
    → (order_follows e left lefts (in_directions ls (agreed (asks_after left [] (short left lefts) ls) (asks_after right [] (short right rights) rs))) ≡ true)
    × (order_follows f right rights (in_directions rs (agreed (asks_after left [] (short left lefts) ls) (asks_after right [] (short right rights) rs))) ≡ true)
asked-follow e f left right lefts rights ls rs falls l m g h =
    let as' : List (Option Bool) = asks_after left [] (short left lefts) ls in
    let bs : List (Option Bool) = asks_after right [] (short right rights) rs in
    let D : List Bool = agreed as' bs in
    let al : length as' ≡ length ls = asks-length left [] (short left lefts) ls in
    let bl : length bs ≡ length rs = asks-length right [] (short right rights) rs in
    let dl : length D ≡ length as' = agreed-length as' bs (omega (arith, al, bl, l)) in
    let same : length D ≡ length falls = omega (arith, al, dl, m) in
    let a : Answered as' falls = fits-answered e left [] (short left lefts) ls falls g in
    let b : Answered bs falls = fits-answered f right [] (short right rights) rs falls h in
    let one = settled-short left [] (short left lefts) ls D falls same (left-settled as' bs falls a) in
    let two = settled-short right [] (short right rights) rs D falls same (right-settled as' bs falls a b) in
    (ap (λ o. begins_equally e o (short left lefts)) one ∙ g, ap (λ o. begins_equally f o (short right rights)) two ∙ h)
