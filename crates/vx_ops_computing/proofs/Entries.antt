-- What is known of each entry of a projection, and of each condition of a selection.
use Rattle.std.proofs.Common.{◌≡◌, ℕ, ◌+◌, ◌<◌, take, ◌++◌, Bool, true, false, List, [], ◌∷◌, length, map, get_or, None, sym, ap, ◌∙◌}
use Rattle.std.specs.List.{list_all}
use Rattle.std.proofs.lemmas.Bool.Decides.{Decides-ltb}
use Rattle.std.proofs.lemmas.List.{map_more}
use Rattle.std.proofs.lemmas.List.Sums.{AllPass-from_list_all}
use Rattle.std.proofs.lemmas.List.Folds.{list_all-map, list_all_at}
use Rattle.vx_rows_values.proofs.Booleans.{and-right}
use Rattle.vx_rows_values.specs.Lists.{is_some_list}
use Rattle.vx_rows_values.specs.declared.value.ColType.{ColType}
use Rattle.vx_rows_values.specs.Values.{Row}
use Rattle.vx_plan_nodes.specs.Expressions.{is_answered}
use Rattle.vx_plan_nodes.specs.Known.{entry_known, filter_known, unary_known}
use Rattle.vx_plan_nodes.specs.Functions.{Functions}
use Rattle.vx_plan_nodes.specs.Outline.{entry_of}
use Rattle.vx_plan_nodes.specs.Plan.{Entry, Filter, copy_of, made_by, comparing, computing, project, select}
use Rattle.vx_plan_nodes.specs.Serial.{entry_fits, entries_fit, entries_row, filter_fits, filters_fit, unary_rows}
use Rattle.vx_plan_nodes.specs.Typed.{is_entry, is_unary}
use Rattle.vx_plan_nodes.specs.declared.typed.Entry.{Entry as EntryValue}
use Rattle.vx_plan_nodes.specs.declared.typed.Filter.{Filter as FilterValue}
use Rattle.vx_ops_computing.specs.Given.{entry_by, filter_by}
use Rattle.vx_ops_computing.specs.Projecting.{EntryFails, FilterFails}
use Rattle.vx_ops_computing.proofs.Fits.{one-unfit}
use Rattle.vx_ops_computing.proofs.Parts.{where-not}

-- what holds of all holds of one
pub all-have : {X Y : Type 0} (p : Y → Bool) (f : X → Y) (xs : List X) (i : ℕ) (x : X) → list_all p (map f xs) ≡ true → i < length xs → x ≡ get_or xs i x → p (f x) ≡ true
all-have p f xs i x h l is = ap (λ y. p (f y)) is ∙ AllPass-from_list_all (λ x. p (f x)) xs (sym (list_all-map p f xs) ∙ h) i x l

pub kept-near : (types : List ColType) (c : ℕ) → is_entry types (copy_of c) ≡ true → c < length types
kept-near types c h = (Decides-ltb c (length types)).0 h

pub entries-typed : (types : List ColType) (es : List Entry) → is_unary types (project es) ≡ true → list_all (is_entry types) es ≡ true
entries-typed types es h = and-right (is_some_list es) (list_all (is_entry types) es) h

pub plain-typed : (types : List ColType) (es : List EntryValue) (i : ℕ) (e : EntryValue) → is_unary types (project (map entry_of es)) ≡ true → i < length es → e ≡ get_or es i e → is_entry types (entry_of e) ≡ true
plain-typed types es i e h l is = all-have (is_entry types) entry_of es i e (entries-typed types (map entry_of es) h) l is

pub entry-typed : (given : Functions) (types : List ColType) (es : List EntryValue) (i : ℕ) (e : EntryValue) → is_unary types (project (map (entry_by given) es)) ≡ true → i < length es → e ≡ get_or es i e → is_entry types (entry_by given e) ≡ true
entry-typed given types es i e h l is = all-have (is_entry types) (entry_by given) es i e (entries-typed types (map (entry_by given) es) h) l is

pub entry-knows : (given : Functions) (types : List ColType) (es : List EntryValue) (i : ℕ) (e : EntryValue) → unary_known types (project (map (entry_by given) es)) ≡ true → i < length es → e ≡ get_or es i e → entry_known types (entry_by given e) ≡ true
entry-knows given types es i e h l is = all-have (entry_known types) (entry_by given) es i e h l is

pub filter-knows : (given : Functions) (types : List ColType) (fs : List FilterValue) (i : ℕ) (f : FilterValue) → unary_known types (select (map (filter_by given) fs)) ≡ true → i < length fs → f ≡ get_or fs i f → filter_known types (filter_by given f) ≡ true
filter-knows given types fs i f h l is = all-have (filter_known types) (filter_by given) fs i f h l is

-- where one of them overflows for a row, nothing is made of the rows
one-fails : {X Y : Type 0} (p : Y → Bool) (f : X → Y) (xs : List X) (i : ℕ) (x : X) → i < length xs → x ≡ get_or xs i x → p (f x) ≡ false → list_all p (map f xs) ≡ false
one-fails p f xs i x l is fails = list_all-map p f xs ∙ list_all_at (λ x. p (f x)) xs i x l (ap (λ y. p (f y)) (sym is) ∙ fails)

-- a row for which a test fails
record Unfit (fits : Row → Bool) (xs : List Row) : Type 0 where
  pub at : ℕ
  pub there : at < length xs
  pub failing : fits (get_or xs at []) ≡ false

entry-unfit : (y : Entry) (xs : List Row) → EntryFails y xs → Unfit (entry_fits y) xs
entry-unfit (copy_of c) xs h = absurd h
entry-unfit (made_by e) xs h = record { at = h.at; there = h.there; failing = ap is_answered h.none }

filter-unfit : (y : Filter) (xs : List Row) → FilterFails y xs → Unfit (filter_fits y) xs
filter-unfit (comparing c) xs h = absurd h
filter-unfit (computing e) xs h = record { at = h.at; there = h.there; failing = ap is_answered h.none }

pub entry-fails : (given : Functions) (es : List EntryValue) (i : ℕ) (e : EntryValue) (xs : List Row) → i < length es → e ≡ get_or es i e → EntryFails (entry_by given e) xs → unary_rows (project (map (entry_by given) es)) xs ≡ None
entry-fails given es i e xs l is h =
    let u = entry-unfit (entry_by given e) xs h in
    where-not (entries_fit (map (entry_by given) es)) xs (map (entries_row (map (entry_by given) es)) xs)
    (one-unfit (entries_fit (map (entry_by given) es)) xs u.at u.there (one-fails (λ y. entry_fits y (get_or xs u.at [])) (entry_by given) es i e l is u.failing))

pub filter-fails : (given : Functions) (fs : List FilterValue) (i : ℕ) (f : FilterValue) (xs : List Row) → i < length fs → f ≡ get_or fs i f → FilterFails (filter_by given f) xs → list_all (filters_fit (map (filter_by given) fs)) xs ≡ false
filter-fails given fs i f xs l is h =
    let u = filter-unfit (filter_by given f) xs h in
    one-unfit (filters_fit (map (filter_by given) fs)) xs u.at u.there (one-fails (λ y. filter_fits y (get_or xs u.at [])) (filter_by given) fs i f l is u.failing)

-- one more of them
pub next-of : {X Y : Type 0} (f : X → Y) (xs : List X) (i : ℕ) (x : X) (y : Y) → i < length xs → x ≡ get_or xs i x → f x ≡ y → map f (take (i + 1) xs) ≡ map f (take i xs) ++ y ∷ []
next-of f xs i x y l is made = map_more f xs i x l ∙ ap (λ z. map f (take i xs) ++ z ∷ []) (ap f (sym is) ∙ made)
