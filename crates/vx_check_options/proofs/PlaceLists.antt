-- The order of an input, place by place.
use Rattle.std.proofs.Common.{Vec, Global, ◌≡◌, ◌+◌, ◌<◌, ◌≤◌, true, false, cond, arith, ℕ, zero, suc, List, [], ◌∷◌, ◌++◌, map, drop, length, get_or, slice_get, Option, Some, None, refl, sym, ap, ◌∙◌, append_assoc}
use Rattle.std.proofs.Math.Numerals.{add-one}
use Rattle.std.proofs.Math.Seq.{drop-cons}
use Rattle.std.proofs.lemmas.List.{append-nil}
use Rattle.vx_rows_values.specs.declared.order.OrderEntry.{OrderEntry}
use Rattle.vx_plan_nodes.specs.Describe.{Copying}
use Rattle.vx_check_options.specs.Options.{OrderChoices, has_entry}
use Rattle.vx_check_options.specs.Placed.{entry_or_first, source_entry, order_along, next_entry}

-- behind the last place
pub along-past : (k : Copying) (order : List OrderEntry) → order_along k order [] ≡ []
along-past k [] = refl
along-past k (c ∷ cs) = refl

-- the entry at one place
past-get : (order : List OrderEntry) (i : ℕ) → length order ≤ i → slice_get order i ≡ None
past-get [] zero h = refl
past-get [] (suc i) h = refl
past-get (c ∷ cs) zero h = absurd (omega (arith, h))
past-get (c ∷ cs) (suc i) h = past-get cs i (omega (arith, h))

pub next-past : (k : Copying) (order : List OrderEntry) (i : ℕ) (s : List OrderEntry) → length order ≤ i → slice_get s 0 ≡ next_entry k (slice_get order i) s
next-past k order i s h = ap (λ o. next_entry k o s) (sym (past-get order i h))

pub next-there : (k : Copying) (order : List OrderEntry) (i : ℕ) (s : List OrderEntry) (e from to : OrderEntry) → slice_get order i ≡ Some e → from ≡ source_entry k e → to ≡ entry_or_first s from
    → Some to ≡ next_entry k (slice_get order i) s
next-there k order i s e from to there copied put = ap (λ x. Some x) put ∙ ap (λ x. Some (entry_or_first s x)) copied ∙ ap (λ o. next_entry k o s) (sym there)

pub entry-alone : (s : List OrderEntry) (e : OrderEntry) → length s < 1 → e ≡ entry_or_first s e
entry-alone [] e h = refl
entry-alone (d ∷ ds) e h = absurd (omega (arith, h))

pub entry-kept : (s : List OrderEntry) (e : OrderEntry) → has_entry s e ≡ true → e ≡ entry_or_first s e
entry-kept [] e h = refl
entry-kept (d ∷ ds) e h = sym (ap (λ b. cond b e d) h)

pub entry-first : (s : List OrderEntry) (e d : OrderEntry) → 1 ≤ length s → has_entry s e ≡ false → get_or s 0 d ≡ entry_or_first s e
entry-first [] e d l h = absurd (omega (arith, l))
entry-first (f ∷ fs) e d l h = sym (ap (λ b. cond b e f) h)

-- an entry, if there is one, and what comes behind it
abbrev then-rest : Option OrderEntry → List OrderEntry → List OrderEntry
then-rest None rest = []
then-rest (Some e) rest = e ∷ rest

along-step : (k : Copying) (order : List OrderEntry) (i : ℕ) (s : List OrderEntry) (places : OrderChoices)
    → order_along k (drop i order) (s ∷ places) ≡ then-rest (next_entry k (slice_get order i) s) (order_along k (drop (suc i) order) places)
along-step k [] zero [] places = refl
along-step k [] zero (d ∷ ds) places = refl
along-step k [] (suc i) [] places = refl
along-step k [] (suc i) (d ∷ ds) places = refl
along-step k (c ∷ cs) zero s places = refl
along-step k (c ∷ cs) (suc i) s places = along-step k cs i s places

along-here : (k : Copying) (order : List OrderEntry) (vs : List (Vec OrderEntry Global)) (i : ℕ) (v : Vec OrderEntry Global) (o : Option OrderEntry) → i < length vs → v ≡ get_or vs i v → o ≡ next_entry k (slice_get order i) v.items
    → order_along k (drop i order) (map (λ (u : Vec OrderEntry Global). u.items) (drop i vs)) ≡ then-rest o (order_along k (drop (i + 1) order) (map (λ (u : Vec OrderEntry Global). u.items) (drop (i + 1) vs)))
along-here k order vs i v o within is next =
    let items = map (λ (u : Vec OrderEntry Global). u.items) in
    let first : drop i vs ≡ v ∷ drop (suc i) vs = drop-cons vs i v within ∙ ap (λ y. y ∷ drop (suc i) vs) (sym is) in
    rw (add-one i)
    (ap (λ l. order_along k (drop i order) (items l)) first ∙ along-step k order i v.items (items (drop (suc i) vs)) ∙ ap (λ p. then-rest p (order_along k (drop (suc i) order) (items (drop (suc i) vs)))) (sym next))

-- a place with no entry ends the order, and one with an entry continues it
pub along-none : (k : Copying) (order : List OrderEntry) (vs : List (Vec OrderEntry Global)) (i : ℕ) (v : Vec OrderEntry Global) (o : Option OrderEntry) (entries all : List OrderEntry) → i < length vs → v ≡ get_or vs i v → o ≡ next_entry k (slice_get order i) v.items
    → all ≡ entries ++ order_along k (drop i order) (map (λ (u : Vec OrderEntry Global). u.items) (drop i vs)) → o ≡ None → entries ≡ all
along-none k order vs i v o entries all within is next left none =
    let rest : List OrderEntry = order_along k (drop (i + 1) order) (map (λ (u : Vec OrderEntry Global). u.items) (drop (i + 1) vs)) in
    sym (left ∙ ap (λ l. entries ++ l) (along-here k order vs i v o within is next ∙ ap (λ p. then-rest p rest) none) ∙ append-nil entries)

pub along-some : (k : Copying) (order : List OrderEntry) (vs : List (Vec OrderEntry Global)) (i : ℕ) (v : Vec OrderEntry Global) (o : Option OrderEntry) (entries all : List OrderEntry) (c : OrderEntry) → i < length vs → v ≡ get_or vs i v
    → o ≡ next_entry k (slice_get order i) v.items → all ≡ entries ++ order_along k (drop i order) (map (λ (u : Vec OrderEntry Global). u.items) (drop i vs)) → o ≡ Some c
    → all ≡ (entries ++ c ∷ []) ++ order_along k (drop (i + 1) order) (map (λ (u : Vec OrderEntry Global). u.items) (drop (i + 1) vs))
along-some k order vs i v o entries all c within is next left some =
    let rest : List OrderEntry = order_along k (drop (i + 1) order) (map (λ (u : Vec OrderEntry Global). u.items) (drop (i + 1) vs)) in
    left ∙ ap (λ l. entries ++ l) (along-here k order vs i v o within is next ∙ ap (λ p. then-rest p rest) some) ∙ sym (append_assoc entries (c ∷ []) rest)
