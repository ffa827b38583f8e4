-- The keys that a node shows by what is known of columns, where its inputs have some: of equal columns the first one, and of each key no column that is not needed.
use Rattle.std.specs.Prelude.{ℕ, ◌≡◌, ◌+◌, ◌<◌, ◌≤◌, ◌==◌, Bool, true, not, ◌||◌, List, filter_map, length}
use Rattle.std.specs.List.{list_all, list_any}
use Rattle.vx_catalog_relations.specs.Relation.{Relation}
use Rattle.vx_catalog_relations.specs.Catalog.{all_below, are_distinct}
use Rattle.vx_plan_nodes.specs.Plan.{Plan}
use Rattle.vx_plan_nodes.specs.Types.{width}
use Rattle.vx_plan_nodes.specs.Typed.{are_columns}
use Rattle.vx_plan_nodes.specs.Describe.{source}
use Rattle.vx_plan_facts.specs.Equal.{Equality, each_itself, both_equal, equal_at}
use Rattle.vx_check_rules.specs.Rules.{within, covers}
use Rattle.vx_check_rules.specs.Behaviour.{Keyed, keys_give}
use Rattle.vx_check_rules.specs.Derived.{within_equally, first_of, key_derived_by}
use Rattle.vx_check_options.specs.FoundKeys.{are_apart}
use Rattle.vx_check_shown.specs.Standing.{first_equal, named_first}

-- ---- columns by their first ones

-- each of these columns is the first of those that are equal to it
abbrev pub are_first : ℕ → Equality → List ℕ → Bool
are_first w e cols = list_all (λ c. first_equal w e c == c) cols

-- the first ones of these columns, each once
pub record IsNamed (w : ℕ) (e : Equality) (cols named : List ℕ) : Type 0 where
  pub among : within named (named_first w e cols) ≡ true
  pub all : within (named_first w e cols) named ≡ true
  pub distinct : are_distinct named ≡ true

-- ---- copies of keys

-- of each of the choices the first column, if there is one
abbrev pub firsts_of : List (List ℕ) → List ℕ
firsts_of choices = filter_map first_of choices

-- two output columns are one, or copies of one input column by one of these keys
abbrev pub copies_by : List Keyed → Equality
copies_by keyed d x = (d == x) || list_any (λ k. list_any (λ f. both_equal each_itself (source f.0 d) (source f.0 x)) k.from) keyed

-- lists of the first w columns that were gathered and more: a test that the old ones pass and each that may be new is passed by all; some still passes what
-- one of the old ones did; and beside each wanted list is one of columns that are equal to some of its columns
pub record Gathers (may_be_new is_wanted : List ℕ → Bool) (e : Equality) (w : ℕ) (old found : List (List ℕ)) : Type 0 where
  pub only : (test : List ℕ → Bool) → ((x : List ℕ) → all_below w x ≡ true → may_be_new x ≡ true → test x ≡ true) → list_all test old ≡ true → list_all test found ≡ true
  pub kept : (test : List ℕ → Bool) → list_any test old ≡ true → list_any test found ≡ true
  pub every : (x : List ℕ) → all_below w x ≡ true → is_wanted x ≡ true → list_any (λ y. within_equally e y x) found ≡ true

-- ---- keys that are found

-- of a key columns that are needed, by the first ones: a test that the key passes is passed still
pub record IsNeeded (catalog : ℕ → Relation) (p : Plan) (keyed : List Keyed) (key part : List ℕ) : Type 0 where
  pub among : within part (named_first (width catalog p) (equal_at catalog p) key) ≡ true
  pub columns : are_columns (width catalog p) part ≡ true
  pub named : are_first (width catalog p) (equal_at catalog p) part ≡ true
  pub shown : key_derived_by catalog p keyed key ≡ true → key_derived_by catalog p keyed part ≡ true

-- keys that are derived, of columns of the node, each the first of its equal ones, and none contains another one
pub record AreShown (catalog : ℕ → Relation) (p : Plan) (keyed : List Keyed) (found : List (List ℕ)) : Type 0 where
  pub shown : list_all (key_derived_by catalog p keyed) found ≡ true
  pub columns : list_all (are_columns (width catalog p)) found ≡ true
  pub named : list_all (are_first (width catalog p) (equal_at catalog p)) found ≡ true
  pub apart : are_apart found ≡ true

-- each of these keys that is derived contains a found one, by the first of equal columns
abbrev pub are_covered : (ℕ → Relation) → Plan → List Keyed → (keys found : List (List ℕ)) → Bool
are_covered catalog p keyed keys found =
    list_all (λ key. not (key_derived_by catalog p keyed key) || covers found (named_first (width catalog p) (equal_at catalog p) key)) keys

-- the keys that were found with those of these that are derived, until 16 are found: each of these is covered then where fewer are found, or where they are so few
pub record AddsKeys (catalog : ℕ → Relation) (p : Plan) (keyed : List Keyed) (keys old found : List (List ℕ)) : Type 0 where
  pub are : AreShown catalog p keyed old → AreShown catalog p keyed found
  pub kept : (x : List ℕ) → covers old x ≡ true → covers found x ≡ true
  pub room : length found < 16 → length old < 16
  pub limit : length old ≤ 16 → length found ≤ 16
  pub few : length found ≤ length old + length keys
  pub fewer : length found < 16 → are_covered catalog p keyed keys found ≡ true
  pub fit : length old + length keys ≤ 16 → are_covered catalog p keyed keys found ≡ true

-- keys of a node that claims some already, by those of its inputs: each is derived, has columns that are there, each the first of its equal ones, and contains
-- no other key. Each claimed key that is derived contains one, by these first columns; where fewer than 16 are found, so does each list of columns that holds one
-- of the inputs' keys; and where 16 at most are claimed, 16 at most are found
pub record ShownKeys (catalog : ℕ → Relation) (p : Plan) (keyed : List Keyed) (claimed found : List (List ℕ)) : Type 0 where
  pub shown : list_all (key_derived_by catalog p keyed) found ≡ true
  pub columns : list_all (are_columns (width catalog p)) found ≡ true
  pub few : length claimed ≤ 16 → length found ≤ 16
  pub apart : are_apart found ≡ true
  pub named : list_all (are_first (width catalog p) (equal_at catalog p)) found ≡ true
  pub kept : length claimed ≤ 16 → are_covered catalog p keyed claimed found ≡ true
  pub all : length found < 16 → (x : List ℕ) → all_below (width catalog p) x ≡ true → list_any (λ k. keys_give k x) keyed ≡ true
      → covers found (named_first (width catalog p) (equal_at catalog p) x) ≡ true
