-- The law of resolving: a document resolves to a typed plan exactly where the plan is well named over the catalog and the document says it.
use Rattle.std.specs.Prelude.{◌≡◌, ◌↔◌, ℕ, List, [], ◌∷◌, ◌++◌, map, length, take, Bool, true, false, not, ◌&&◌, ◌||◌, Ok, bytes_eq, codes}
use Rattle.std.specs.List.{list_all, list_any}
use Rattle.vx_rows_values.specs.Values.{Name}
use Rattle.vx_catalog_relations.specs.Relation.{Relation}
use Rattle.vx_catalog_relations.specs.Catalog.{relation_at, are_distinct_names, IsCatalog}
use Rattle.vx_catalog_relations.specs.Naming.{name_at}
use Rattle.vx_plan_nodes.specs.Plan.{Side, Condition, Expression, Operands, Filter, Entry, Unary, JoinMethod, by_hashing, by_merging, Binary}
use Rattle.vx_plan_nodes.specs.Plan as plan
use Rattle.vx_plan_nodes.specs.Outline.{function_of, Outline, scan, unary, binary, exchange, plan_in}
use Rattle.vx_plan_nodes.specs.Outputs.{HasOutputs}
use Rattle.vx_plan_nodes.specs.Typed.{IsTyped}
use Rattle.vx_plan_nodes.specs.Names.{scope_of, TypedPlanView}
use Rattle.vx_plan_json.specs.Document.{Document}
use Rattle.vx_plan_json.specs.Formed.{is_tree_form}
use Rattle.vx_plan.specs.Resolve.{resolved}
use Rattle.vx_plan.specs.ByName.{names_at, column_names, document_by_name}

-- each function is the one of its name
abbrev mutual
  pub AreFunctions : Expression → Type 0
  AreFunctions (plan.input c) = Unit {0}
  AreFunctions (plan.value v) = Unit {0}
  AreFunctions (plan.call f t es) = (f ≡ function_of f.name) × AreAllFunctions es

  pub AreAllFunctions : Operands → Type 0
  AreAllFunctions plan.no_operands = Unit {0}
  AreAllFunctions (plan.operand e es) = AreFunctions e × AreAllFunctions es

abbrev pub FilterFunctions : Filter → Type 0
FilterFunctions (plan.comparing c) = Unit {0}
FilterFunctions (plan.computing e) = AreFunctions e

abbrev pub FiltersFunctions : List Filter → Type 0
FiltersFunctions [] = Unit {0}
FiltersFunctions (f ∷ fs) = FilterFunctions f × FiltersFunctions fs

-- a kept column has its name of the input, unless it has a new one, as one that is computed always has
abbrev pub IsEntryNamed : List Name → Entry → Bool → Name → Type 0
IsEntryNamed names (plan.copy_of c) renamed n = (renamed || bytes_eq n (name_at names c)) ≡ true
IsEntryNamed names (plan.made_by e) renamed n = (renamed ≡ true) × AreFunctions e

abbrev pub AreEntries : List Name → List Entry → List Bool → List Name → Type 0
AreEntries names [] [] [] = Unit {0}
AreEntries names (e ∷ es) (b ∷ renamed) (n ∷ output) = IsEntryNamed names e b n × AreEntries names es renamed output
AreEntries names _ _ _ = ⊥

-- each kept column has its name of the input, unless it has a new one
abbrev pub are_kept : List Name → List ℕ → List Bool → List Name → Bool
are_kept names [] [] [] = true
are_kept names (c ∷ cols) (b ∷ renamed) (n ∷ output) = (b || bytes_eq n (name_at names c)) && are_kept names cols renamed output
are_kept names _ _ _ = false

-- the names that an operator over one input gives its output, where the input's columns have these: the same, or those of the kept columns;
-- of a group first those of its keys. A final group has the names of its partial one. And functions are those of their names
abbrev pub UnaryNames : Unary → List Bool → List Name → List Name → Type 0
UnaryNames (plan.select fs) renamed names output = (renamed ≡ []) × (output ≡ names) × FiltersFunctions fs
UnaryNames (plan.project es) renamed names output = AreEntries names es renamed output
UnaryNames (plan.distinct cols) renamed names output = are_kept names cols renamed output ≡ true
UnaryNames (plan.sort of_parts order) renamed names output = (renamed ≡ []) × (output ≡ names)
UnaryNames (plan.group plan.plain by aggregates) renamed names output = (renamed ≡ []) × (take (length by) output ≡ names_at names by)
UnaryNames (plan.group plan.partial by aggregates) renamed names output = (renamed ≡ []) × (take (length by) output ≡ names_at names by)
UnaryNames (plan.group plan.final by aggregates) renamed names output = (renamed ≡ []) × (output ≡ names)
UnaryNames (plan.limit rows) renamed names output = (renamed ≡ []) × (output ≡ names)

-- a union, a semi and an anti join have the names of their left input, a join those of both
abbrev pub binary_names : Binary → List Name → List Name → List Name
binary_names plan.union left right = left
binary_names (plan.join method on) left right = left ++ right
binary_names (plan.semi_join matched on cs) left right = left

-- no column before this one has its name
abbrev pub is_first : List Name → ℕ → Bool
is_first names c = not (list_any (bytes_eq (name_at names c)) (take c names))

abbrev pub is_first_side : List Name → Side → Bool
is_first_side names (plan.column c) = is_first names c
is_first_side names (plan.constant v) = true

abbrev pub is_first_condition : List Name → Condition → Bool
is_first_condition names c = is_first names c.left && is_first_side names c.right

-- of a semi and an anti join a condition is on no right column that has a left one's name
abbrev pub has_first_columns : Binary → List Name → List Name → Bool
has_first_columns plan.union left right = true
has_first_columns (plan.join method on) left right = true
has_first_columns (plan.semi_join matched on cs) left right = list_all (is_first_condition (left ++ right)) cs

abbrev pub is_rising : JoinMethod → Bool
is_rising by_hashing = true
is_rising (by_merging falls) = list_all not falls

-- the columns on which a join merges rise, since a document says no direction for them
abbrev pub merges_rising : Binary → Bool
merges_rising plan.union = true
merges_rising (plan.join method on) = is_rising method
merges_rising (plan.semi_join matched on cs) = true

-- at every node the output's columns have the names that its operator gives them, functions are those of their names, and no two columns have one name; and each column of a condition is the
-- first that has its name; and joins merge on rising columns
abbrev pub AreNamed : List Relation → Outline → Type 0
AreNamed catalog (scan h r shared z prefix) =
    (h.columns.names ≡ map (λ n. prefix ++ n) (relation_at catalog r).names) × (are_distinct_names h.columns.names ≡ true)
AreNamed catalog (unary h op renamed t) = UnaryNames op renamed (column_names t) h.columns.names × (are_distinct_names h.columns.names ≡ true) × AreNamed catalog t
AreNamed catalog (binary h op t u) =
    (h.columns.names ≡ binary_names op (column_names t) (column_names u)) × (are_distinct_names h.columns.names ≡ true) × AreNamed catalog t × AreNamed catalog u
    × (has_first_columns op (column_names t) (column_names u) ≡ true) × (merges_rising op ≡ true)
AreNamed catalog (exchange h k merge t) = (h.columns.names ≡ column_names t) × (are_distinct_names h.columns.names ≡ true) × AreNamed catalog t

-- a typed plan whose names are right: it is typed, its nodes have the columns of their outputs, no size is `one`, no size and no range stands twice,
-- and the columns are named
pub record IsNamed (p : TypedPlanView) : Type 0 where
  pub typed : IsTyped (scope_of p.names) (plan_in p.root)
  pub outputs : HasOutputs (relation_at p.names.catalog) p.root
  pub sizes : are_distinct_names (codes "one" ∷ p.names.sizes) ≡ true
  pub ranges : are_distinct_names (map (λ r. r.name) p.names.ranges) ≡ true
  pub columns : AreNamed p.names.catalog p.root

-- over a catalog a document of the form resolves to a typed plan exactly where the plan is over that catalog, well named, and said by the document
pub record PlanLaw : Type 0 where
  pub resolves : (d : Document) (catalog : List Relation) (p : TypedPlanView) → IsCatalog catalog → is_tree_form d.root ≡ true
      → (resolved d catalog ≡ Ok p) ↔ ((p.names.catalog ≡ catalog) × IsNamed p × (document_by_name p ≡ d))
