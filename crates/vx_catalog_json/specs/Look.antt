-- Looking into a JSON value: the items of an array, objects with no members but the stated ones, names, lists of values of one form, members that may be left out, and entries of orders.
use Rattle.std.specs.Prelude.{◌≡◌, ℕ, List, [], ◌∷◌, ◌++◌, Bool, false, Option, Some, None, option_map, option_and_then, bytes_eq, codes, Result, Ok, Err, IfOk, if◌then◌else◌}
use Rattle.std.specs.List.{list_all, list_any}
use Rattle.serde_json.specs.Data.{Data, null, boolean, number, string, array, object, Items, no_items, item, Members, no_members, member}
use Rattle.serde_json.specs.Find.{get, as_array, as_str, as_bool}
use Rattle.std.specs.declared.alloc.AllocError.{AllocError}
use Rattle.vx_catalog_json.specs.declared.misread.Misread.{Misread}
use Rattle.vx_catalog_json.specs.declared.misread.Misread.TheVariants.{NotOfForm}

-- items as a list
abbrev pub list_of : Items → List Data
list_of no_items = []
list_of (item d ds) = d ∷ list_of ds

abbrev pub as_list : Data → Option (List Data)
as_list d = option_map list_of (as_array d)

-- the names of the members
abbrev pub names_of : Members → List (List ℕ)
names_of no_members = []
names_of (member k d ms) = k ∷ names_of ms

abbrev pub is_among : List (List ℕ) → List ℕ → Bool
is_among names k = list_any (λ n. bytes_eq k n) names

-- an object with no members but these
abbrev pub has_only : List (List ℕ) → Data → Bool
has_only names null = false
has_only names (boolean b) = false
has_only names (number n) = false
has_only names (string s) = false
has_only names (array ds) = false
has_only names (object ms) = list_all (is_among names) (names_of ms)

-- a call gives the value of a form, or that there is none, unless memory ran out
abbrev pub Reads : {X Y : Type 0} → (X → Y) → Result (Option X) AllocError → Option Y → Type 0
Reads look result form = IfOk result (λ o. option_map look o ≡ form)

-- a call gives the value of a form, or fails because there is none or memory ran out
abbrev pub Parses : {X Y : Type 0} → (X → Y) → Result X Misread → Option Y → Type 0
Parses look (Ok x) form = form ≡ Some (look x)
Parses look (Err e) form = e ≡ NotOfForm → form ≡ None

-- a call that needs no memory gives the value of a form, or fails because there is none
abbrev pub Finds : {X Y : Type 0} → (X → Y) → Result X Misread → Option Y → Type 0
Finds look (Ok x) form = form ≡ Some (look x)
Finds look (Err e) form = (e ≡ NotOfForm) × (form ≡ None)

-- a list with an entry
abbrev pub some_entry : {X : Type 0} → List X → Option (List X)
some_entry [] = None
some_entry (x ∷ xs) = Some (x ∷ xs)

-- a text that is not empty
unfoldable pub name_in : Data → Option (List ℕ)
name_in d = option_and_then some_entry (as_str d)

-- each of these values in turn, after those before
unfoldable pub each_onto : {A : Type 0} → (Data → Option A) → List A → List Data → Option (List A)
each_onto f prior [] = Some prior
each_onto f prior (d ∷ ds) = option_and_then (λ x. each_onto f (prior ++ x ∷ []) ds) (f d)

-- a list of values of a form
abbrev pub each_in : {A : Type 0} → (Data → Option A) → Data → Option (List A)
each_in f d = option_and_then (each_onto f []) (as_list d)

-- a list of values of a form with an entry
abbrev pub some_in : {A : Type 0} → (Data → Option A) → Data → Option (List A)
some_in f d = option_and_then (each_onto f []) (option_and_then some_entry (as_list d))

-- a member that may be left out
abbrev pub or_default : {A : Type 0} → A → (Data → Option A) → Option Data → Option A
or_default x f None = Some x
or_default x f (Some d) = f d

-- a member that is true or false; false where it is left out
abbrev pub flag_in : List ℕ → Data → Option Bool
flag_in key d = or_default false as_bool (get key d)

-- ---- orders

-- an entry of an order as a text has it: a column by its name, and whether it falls
pub record OrderText : Type 0 where
  pub name : List ℕ
  pub falling : Bool

-- an object of a column's name and, if it is there, whether the column falls
unfoldable pub directed_in : Data → Option OrderText
directed_in d = if has_only (codes "column" ∷ codes "desc" ∷ []) d
    then option_and_then (λ n. option_map (λ f. record { name = n; falling = f }) (flag_in (codes "desc") d)) (option_and_then name_in (get (codes "column") d))
    else None

abbrev pub order_entry_by : Option (List ℕ) → Data → Option OrderText
order_entry_by None d = directed_in d
order_entry_by (Some s) d = option_map (λ n. record { name = n; falling = false }) (some_entry s)

-- the name of a column, which rises, or an object that says in which direction it goes
unfoldable pub order_entry_in : Data → Option OrderText
order_entry_in d = order_entry_by (as_str d) d
