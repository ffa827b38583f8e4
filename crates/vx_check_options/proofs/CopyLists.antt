-- Copies of columns, as a loop finds them.
use Rattle.std.proofs.Common.{Vec, Global, map, ◌≡◌, ℕ, zero, suc, ◌+◌, ◌<◌, Bool, true, false, cond, List, [], ◌∷◌, ◌++◌, length, get_or, drop, refl, sym, ap, ◌∙◌, arith, Option, Some, None, slice_get, eqb, append_assoc, Result, Ok, Err}
use Rattle.std.specs.Option.{option_eq}
use Rattle.std.specs.Result.{IfOk}
use Rattle.std.specs.Vec.{vec_len}
use Rattle.std.specs.List.{filter, AllZip, each_same}
use Rattle.std.proofs.lemmas.List.{append-nil}
use Rattle.std.proofs.lemmas.List.Elements.{filter-append}
use Rattle.std.proofs.Math.Numerals.{add-one}
use Rattle.std.proofs.Math.Seq.{drop-cons}
use Rattle.std.proofs.lemmas.Bool.Decides.{nat_tests}
use Rattle.vx_check_rules.specs.Behaviour.{is_column}
use Rattle.vx_check_rules.proofs.Exact.{slice-at}
use Rattle.vx_check_rules.proofs.ColumnFacts.{first_push}
use Rattle.vx_plan_nodes.specs.Phases.{first_columns}
use Rattle.vx_plan_nodes.specs.Describe.{entries_kept, source}
use Rattle.vx_plan_nodes.specs.Describe as describe
use Rattle.vx_check_options.specs.Options.{places_from, entries_from}

turned : (a b : ℕ) → eqb a b ≡ eqb b a
turned a b = grind (arith, nat_tests)

-- an output column is a copy of this input column
pub is_source : (o : Option ℕ) (c : ℕ) → option_eq eqb o (Some c) ≡ is_column o c
is_source None c = refl
is_source (Some d) c = turned d c

-- of the first columns, so many, one column further
pub kept_here : (test : ℕ → Bool) (n : ℕ) (copies : List ℕ) (b : Bool) → copies ≡ filter test (first_columns n) → b ≡ test n → b ≡ true → copies ++ n ∷ [] ≡ filter test (first_columns (n + 1))
kept_here test n copies b e f h =
    ap (λ xs. xs ++ n ∷ []) e ∙ ap (λ a. filter test (first_columns n) ++ cond a (n ∷ []) []) (sym h ∙ f) ∙ sym (filter-append test (first_columns n) (n ∷ [])) ∙ ap (filter test) (sym (first_push n))

pub left_here : (test : ℕ → Bool) (n : ℕ) (copies : List ℕ) (b : Bool) → copies ≡ filter test (first_columns n) → b ≡ test n → b ≡ false → copies ≡ filter test (first_columns (n + 1))
left_here test n copies b e f h =
    e ∙ sym (append-nil (filter test (first_columns n))) ∙ ap (λ a. filter test (first_columns n) ++ cond a (n ∷ []) []) (sym h ∙ f) ∙ sym (filter-append test (first_columns n) (n ∷ [])) ∙ ap (filter test) (sym (first_push n))

-- one column further
pub places-step : (kept : List ℕ) (n col : ℕ) → n < length kept
    → places_from n (drop n kept) col
    ≡ cond (option_eq eqb (slice_get kept n) (Some col)) (n ∷ places_from (n + 1) (drop (n + 1) kept) col) (places_from (n + 1) (drop (n + 1) kept) col)
places-step kept n col within =
    rw (add-one n, drop-cons kept n 0 within, slice-at kept n within, turned (get_or kept n 0) col) refl

-- the same of entries
source-at : (ks : List (Option ℕ)) (n : ℕ) → n < length ks → source (entries_kept ks) n ≡ get_or ks n None
source-at [] n h = absurd (omega (arith, h))
source-at (k ∷ ks) zero h = refl
source-at (k ∷ ks) (suc n) h = source-at ks n (omega (arith, h))

entry-test : (c : ℕ) (o : Option ℕ) → describe.is_column c o ≡ option_eq eqb o (Some c)
entry-test c None = refl
entry-test c (Some k) = turned c k

pub entries-step : (ks : List (Option ℕ)) (n col : ℕ) → n < length ks
    → entries_from n (drop n ks) col
    ≡ cond (option_eq eqb (source (entries_kept ks) n) (Some col)) (n ∷ entries_from (n + 1) (drop (n + 1) ks) col) (entries_from (n + 1) (drop (n + 1) ks) col)
entries-step ks n col within =
    rw (add-one n, drop-cons ks n None within, source-at ks n within, entry-test col (get_or ks n None)) refl

-- what is found here and what comes later
pub found-here : (b : Bool) (n : ℕ) (found more all : List ℕ) → all ≡ found ++ cond b (n ∷ more) more → b ≡ true → all ≡ (found ++ n ∷ []) ++ more
found-here true n found more all e h = e ∙ sym (append_assoc found (n ∷ []) more)
found-here false n found more all e h = cc

pub found-later : (b : Bool) (n : ℕ) (found more all : List ℕ) → all ≡ found ++ cond b (n ∷ more) more → b ≡ false → all ≡ found ++ more
found-later false n found more all e h = e
found-later true n found more all e h = cc

-- lists in memory of their own
pub cloned-items : {X : Type 0} (vs ws : List (Vec X Global)) → AllZip (λ (v w : Vec X Global). AllZip (λ x y. y ≡ x) v.items w.items × (vec_len w ≡ vec_len v)) vs ws
    → map (λ (w : Vec X Global). w.items) ws ≡ map (λ (v : Vec X Global). v.items) vs
cloned-items [] [] e = refl
cloned-items [] (w ∷ ws) e = absurd e
cloned-items (v ∷ vs) [] e = absurd e
cloned-items (v ∷ vs) (w ∷ ws) e = ap (λ x. x ∷ map (λ u. u.items) ws) (each_same v.items w.items e.0.0) ∙ ap (λ xs. v.items ∷ xs) (cloned-items vs ws e.1)

pub cloned-lists : {X E : Type 0} (vs : List (Vec X Global)) (r : Result (Vec (Vec X Global) Global) E)
    → IfOk r (λ ws. AllZip (λ (v w : Vec X Global). AllZip (λ x y. y ≡ x) v.items w.items × (vec_len w ≡ vec_len v)) vs ws.items)
    → IfOk r (λ ws. map (λ (w : Vec X Global). w.items) ws.items ≡ map (λ (v : Vec X Global). v.items) vs)
cloned-lists vs (Ok ws) e = cloned-items vs ws.items e
cloned-lists vs (Err x) e = tt
