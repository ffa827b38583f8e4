-- Entries of orders: which are the same, and which are copies of which.
use Rattle.std.proofs.Common.{◌≡◌, ℕ, ◌==◌, Bool, true, false, cond, not, ◌&&◌, ◌||◌, List, [], ◌∷◌, map, filter, refl, sym, ap, ap₂, ◌∙◌, true≢false, eqb-true, eq-eqb}
use Rattle.std.specs.List.{list_any}
use Rattle.vx_rows_values.specs.declared.order.OrderEntry.{OrderEntry}
use Rattle.vx_rows_values.specs.Order.{entry_eq}
use Rattle.vx_rows_values.proofs.Booleans.{and-left, and-right, and-both}
use Rattle.vx_plan_nodes.specs.Describe.{Copying}
use Rattle.vx_check_rules.specs.Rules.{contains, is_front, entry_at}
use Rattle.vx_check_rules.proofs.Bools.{or-false, or-left, or-right}
use Rattle.vx_check_options.specs.Options.{copies, has_entry, entry_copies}

-- ---- the same entry

-- both rise, or both fall
abbrev pub one_way : Bool → Bool → Bool
one_way a b = cond a b (not b)

abbrev entry_of : ℕ → Bool → OrderEntry
entry_of c f = record { column = c; falling = f }

way-is : (a b : Bool) → one_way a b ≡ true → a ≡ b
way-is true b h = sym h
way-is false true h = absurd (true≢false (sym h))
way-is false false h = refl

way-itself : (a : Bool) → one_way a a ≡ true
way-itself true = refl
way-itself false = refl

pub entry-same : (a b : OrderEntry) → entry_eq a b ≡ true → a ≡ b
entry-same a b h =
    ap₂ entry_of (eqb-true a.column b.column (and-left (a.column == b.column) (one_way a.falling b.falling) h))
    (way-is a.falling b.falling (and-right (a.column == b.column) (one_way a.falling b.falling) h))

pub entry-itself : (a : OrderEntry) → entry_eq a a ≡ true
entry-itself a = and-both (a.column == a.column) (one_way a.falling a.falling) (eq-eqb a.column a.column refl) (way-itself a.falling)

-- a lone entry is in the list if it is that one
pub lone-entry : (x e : OrderEntry) → has_entry (x ∷ []) e ≡ true → e ≡ x
lone-entry x e h = entry-same e x (sym (or-false (entry_eq e x)) ∙ h)

-- the first one is
pub has-first : (e : OrderEntry) (es : List OrderEntry) → has_entry (e ∷ es) e ≡ true
has-first e es = or-left (entry_eq e e) (has_entry es e) (entry-itself e)

pub front-same : (xs : List OrderEntry) → is_front xs xs ≡ true
front-same [] = refl
front-same (x ∷ xs) = and-both (entry_eq x x) (is_front xs xs) (entry-itself x) (front-same xs)

-- ---- one that passes

-- an entry that passes
pub any-entry : (test : OrderEntry → Bool) (xs : List OrderEntry) → list_any test xs ≡ true → (x : OrderEntry) × (has_entry xs x ≡ true) × (test x ≡ true)
any-entry test [] h = cc
any-entry test (x ∷ xs) h = by (test x) refl (any-entry test xs) h
  where
    by : (b : Bool) → test x ≡ b → (list_any test xs ≡ true → (y : OrderEntry) × (has_entry xs y ≡ true) × (test y ≡ true)) → (b || list_any test xs) ≡ true
        → (y : OrderEntry) × (has_entry (x ∷ xs) y ≡ true) × (test y ≡ true)
    by true e more l = (x, has-first x xs, e)
    by false e more l = let w = more l in (w.0, or-right (entry_eq w.0 x) (has_entry xs w.0) w.1, w.2)

-- what is kept was there, and passes
pub kept-passes : (test : OrderEntry → Bool) (s : List OrderEntry) (d : OrderEntry) → has_entry (filter test s) d ≡ true → (has_entry s d ≡ true) × (test d ≡ true)
kept-passes test [] d h = cc
kept-passes test (c ∷ s) d h = by (test c) refl (kept-passes test s d) h
  where
    here : test c ≡ true → (has_entry (filter test s) d ≡ true → (has_entry s d ≡ true) × (test d ≡ true)) → (b : Bool) → entry_eq d c ≡ b → (b || has_entry (filter test s) d) ≡ true
        → (has_entry (c ∷ s) d ≡ true) × (test d ≡ true)
    here t more true e l = (or-left (entry_eq d c) (has_entry s d) e, ap test (entry-same d c e) ∙ t)
    here t more false e l = let w = more l in (or-right (entry_eq d c) (has_entry s d) w.0, w.1)

    by : (b : Bool) → test c ≡ b → (has_entry (filter test s) d ≡ true → (has_entry s d ≡ true) × (test d ≡ true)) → has_entry (cond b (c ∷ filter test s) (filter test s)) d ≡ true
        → (has_entry (c ∷ s) d ≡ true) × (test d ≡ true)
    by true t more l = here t more (entry_eq d c) refl l
    by false t more l = let w = more l in (or-right (entry_eq d c) (has_entry s d) w.0, w.1)

-- ---- copies

both-ways : (a w b : Bool) → ((a && w) || (b && w)) ≡ ((a || b) && w)
both-ways true true b = refl
both-ways true false true = refl
both-ways true false false = refl
both-ways false w b = refl

-- an entry is a copy of another where its column is and both go one way
pub has-copies : (cs : List ℕ) (x e : OrderEntry) → has_entry (map (λ c. entry_at c x) cs) e ≡ (contains cs e.column && one_way e.falling x.falling)
has-copies [] x e = refl
has-copies (c ∷ cs) x e =
    ap (λ b. ((e.column == c) && one_way e.falling x.falling) || b) (has-copies cs x e) ∙ both-ways (e.column == c) (one_way e.falling x.falling) (contains cs e.column)

pub copy-column : (k : Copying) (x e : OrderEntry) → has_entry (entry_copies k x) e ≡ true → contains (copies k x.column) e.column ≡ true
copy-column k x e h = and-left (contains (copies k x.column) e.column) (one_way e.falling x.falling) (sym (has-copies (copies k x.column) x e) ∙ h)

-- with the column of which it is a copy an entry is the one of which it is a copy
pub copy-back : (k : Copying) (x e : OrderEntry) → has_entry (entry_copies k x) e ≡ true → entry_at x.column e ≡ x
copy-back k x e h =
    ap (entry_of x.column) (way-is e.falling x.falling (and-right (contains (copies k x.column) e.column) (one_way e.falling x.falling) (sym (has-copies (copies k x.column) x e) ∙ h)))

-- an entry is a copy of the one with the column of which its own is a copy
pub copy-there : (k : Copying) (c : ℕ) (e : OrderEntry) → contains (copies k c) e.column ≡ true → has_entry (entry_copies k (entry_at c e)) e ≡ true
copy-there k c e h = has-copies (copies k c) (entry_at c e) e ∙ and-both (contains (copies k c) e.column) (one_way e.falling e.falling) h (way-itself e.falling)
