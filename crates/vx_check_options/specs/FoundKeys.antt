-- The keys that are found at a node, among the lists of columns that are shown as keys there.
use Rattle.std.specs.Prelude.{ℕ, ◌≡◌, ◌<◌, ◌≤◌, Bool, true, cond, not, ◌&&◌, ◌||◌, List, [], ◌∷◌, ◌++◌, map, length}
use Rattle.std.specs.List.{list_all, list_any, filter}
use Rattle.vx_catalog_relations.specs.Catalog.{all_below, are_distinct}
use Rattle.vx_plan_nodes.specs.Typed.{are_columns}
use Rattle.vx_plan_nodes.specs.Describe.{Copying, source}
use Rattle.vx_check_rules.specs.Rules.{contains, within, covers}
use Rattle.vx_check_rules.specs.Behaviour.{Keyed, is_column, has_key, keys_give}

-- one of these keys is shown: the columns contain it
abbrev pub show : List Keyed → List ℕ → Bool
show keyed cols = list_any (λ k. keys_give k cols) keyed

-- no key contains another one
abbrev pub are_apart : List (List ℕ) → Bool
are_apart [] = true
are_apart (key ∷ keys) = not (list_any (λ other. within key other || within other key) keys) && are_apart keys

-- ---- one key more

-- the keys with one more, if none is contained in it, without those that contain it
abbrev pub with_key : List (List ℕ) → List ℕ → List (List ℕ)
with_key keys key = cond (covers keys key) keys (filter (λ other. not (within key other)) keys ++ key ∷ [])

-- the columns with one more, if it is not among them
abbrev pub with_column : List ℕ → ℕ → List ℕ
with_column cols c = cond (contains cols c) cols (cols ++ c ∷ [])

-- ---- choices of copies

-- of each of these input columns its copies among the allowed ones
abbrev pub choices_of : Copying → (allowed key : List ℕ) → List (List ℕ)
choices_of k allowed key = map (λ c. filter (λ d. is_column (source k d) c) allowed) key

-- the columns contain one of each of the choices
abbrev pub meets_each : List (List ℕ) → List ℕ → Bool
meets_each choices cols = list_all (λ ds. list_any (contains cols) ds) choices

-- these columns and one of each of the choices, none twice, and no other ones
pub record IsChoice (cols : List ℕ) (choices : List (List ℕ)) (x : List ℕ) : Type 0 where
  pub begins : within cols x ≡ true
  pub meets : meets_each choices x ≡ true
  pub distinct : are_distinct x ≡ true
  pub only : (allowed : List ℕ) → within cols allowed ≡ true → list_all (λ ds. within ds allowed) choices ≡ true → within x allowed ≡ true

-- ---- more keys

-- what was found and more: a test that the old keys pass and each that may be new is passed by all; what contained a key still does; the keys stay apart;
-- where fewer than 16 are found, no wanted list of columns is without one; and 16 at most stay 16 at most
pub record Finds (MayBeNew IsWanted : List ℕ → Type 0) (old found : List (List ℕ)) : Type 0 where
  pub only : (test : List ℕ → Bool) → ((x : List ℕ) → MayBeNew x → test x ≡ true) → list_all test old ≡ true → list_all test found ≡ true
  pub kept : (x : List ℕ) → covers old x ≡ true → covers found x ≡ true
  pub apart : are_apart old ≡ true → are_apart found ≡ true
  pub room : length found < 16 → length old < 16
  pub all : length found < 16 → (x : List ℕ) → IsWanted x → covers found x ≡ true
  pub few : length old ≤ 16 → length found ≤ 16

-- these columns and one of each of the choices
pub record IsMet (cols : List ℕ) (choices : List (List ℕ)) (x : List ℕ) : Type 0 where
  pub begins : within cols x ≡ true
  pub meets : meets_each choices x ≡ true

-- allowed columns that pass the test, none twice
pub record IsKey (shows : List ℕ → Bool) (allowed x : List ℕ) : Type 0 where
  pub shown : shows x ≡ true
  pub among : within x allowed ≡ true
  pub distinct : are_distinct x ≡ true

-- allowed columns that pass the test
pub record IsShown (shows : List ℕ → Bool) (allowed x : List ℕ) : Type 0 where
  pub shown : shows x ≡ true
  pub among : within x allowed ≡ true

-- a key of each of both lists
abbrev pub both_give : (k j : Copying) → (keys others : List (List ℕ)) → List ℕ → Bool
both_give k j keys others cols = has_key k keys cols && has_key j others cols

-- ---- keys that are claimed already

-- a part of the columns that passes the test if they do
pub record IsPart (shows : List ℕ → Bool) (cols part : List ℕ) : Type 0 where
  pub among : within part cols ≡ true
  pub columns : (w : ℕ) → are_columns w cols ≡ true → are_columns w part ≡ true
  pub shown : shows cols ≡ true → shows part ≡ true

-- keys that pass the test, none in another one, each of columns of the claimed ones, and no more than those; each claimed key that passes it contains one
pub record KeptKeys (shows : List ℕ → Bool) (claimed kept : List (List ℕ)) : Type 0 where
  pub shown : list_all shows kept ≡ true
  pub columns : (w : ℕ) → list_all (are_columns w) claimed ≡ true → list_all (are_columns w) kept ≡ true
  pub apart : are_apart kept ≡ true
  pub covered : list_all (λ key. not (shows key) || covers kept key) claimed ≡ true
  pub few : length kept ≤ length claimed

-- ---- what is found

-- keys of a node of so many columns, which claims some already: each is shown, has columns that are there, and contains no other one; each claimed key that
-- is shown contains one; where fewer than 16 are found, so does each list of columns that is shown as a key; and where 16 at most are claimed, 16 at most are found
pub record FoundKeys (shows : List ℕ → Bool) (w : ℕ) (claimed found : List (List ℕ)) : Type 0 where
  pub shown : list_all shows found ≡ true
  pub columns : list_all (are_columns w) found ≡ true
  pub apart : are_apart found ≡ true
  pub kept : list_all (λ key. not (shows key) || covers found key) claimed ≡ true
  pub all : length found < 16 → (x : List ℕ) → all_below w x ≡ true → shows x ≡ true → covers found x ≡ true
  pub few : length claimed ≤ 16 → length found ≤ 16
