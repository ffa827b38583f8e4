-- When claims tell at least as much as others.
use Rattle.std.specs.Prelude.{◌≡◌, List, [], ◌∷◌, Bool, true, false, cond, not, ◌&&◌, ◌||◌, bytes_eq, Ok}
use Rattle.std.specs.List.{list_all, list_any}
use Rattle.vx_rows_values.specs.Values.{Name}
use Rattle.vx_catalog_json.specs.Look.{OrderText}
use Rattle.vx_catalog_relations.specs.Relation.{Relation}
use Rattle.vx_catalog_relations.specs.Catalog.{relation_at}
use Rattle.vx_plan_nodes.specs.Outline.{plan_in}
use Rattle.vx_plan_nodes.specs.Names.{TypedPlanView}
use Rattle.vx_plan_json.specs.Document.{PartForm, one, any, all, hash_part, range_part, ClaimForm, Tree, scan, unary, binary, exchange, Document}
use Rattle.vx_plan.specs.Resolve.{resolved}
use Rattle.vx_check_keeping.specs.Telling.{tells_derived}

-- the second list begins with the first
abbrev pub begins : List Name → List Name → Bool
begins [] ys = true
begins (x ∷ xs) [] = false
begins (x ∷ xs) (y ∷ ys) = bytes_eq x y && begins xs ys

-- the same column in the same direction
abbrev pub same_entry : OrderText → OrderText → Bool
same_entry a b = bytes_eq a.name b.name && cond a.falling b.falling (not b.falling)

-- the second order begins with the first, each entry in its direction
abbrev pub begins_order : List OrderText → List OrderText → Bool
begins_order [] ys = true
begins_order (x ∷ xs) [] = false
begins_order (x ∷ xs) (y ∷ ys) = same_entry x y && begins_order xs ys

abbrev pub has_name : List Name → Name → Bool
has_name names x = list_any (bytes_eq x) names

-- a key of which each column is one of these
abbrev pub covers_name : List (List Name) → List Name → Bool
covers_name keys names = list_any (λ k. list_all (has_name names) k) keys

-- all rows on one worker tell every part, a route tells that each row is somewhere, and each part tells itself (two lists that begin with each other are one)
abbrev pub part_tells : PartForm → PartForm → Bool
part_tells one p = true
part_tells any any = true
part_tells all all = true
part_tells (hash_part route cols) any = true
part_tells (hash_part route cols) (hash_part other others) = bytes_eq route other && (begins cols others && begins others cols)
part_tells (range_part name col) any = true
part_tells (range_part name col) (range_part other another) = bytes_eq name other && bytes_eq col another
part_tells _ _ = false

-- a part that tells the other one, an order that begins with the other, and for each key of the other one that it contains
abbrev pub claim_tells : ClaimForm → ClaimForm → Bool
claim_tells c d = part_tells c.part d.part && (begins_order d.order c.order && list_all (covers_name c.keys) d.keys)

-- so at every node
abbrev pub tree_tells : Tree → Tree → Bool
tree_tells (scan c s) (scan d r) = claim_tells c d
tree_tells (unary c op t) (unary d o u) = claim_tells c d && tree_tells t u
tree_tells (binary c op t u) (binary d o v w) = claim_tells c d && (tree_tells t v && tree_tells u w)
tree_tells (exchange c k m t) (exchange d l n u) = claim_tells c d && tree_tells t u
tree_tells _ _ = false

-- and the first document is total where the second is
abbrev pub tells : Document → Document → Bool
tells d e = (d.total || not e.total) && tree_tells d.root e.root

-- by what is known of columns: at every node of the typed plans the first document's part tells the second's, its order is one from which the other follows, and
-- each key of the second determines one of the first's; and the first document is total where the second is
abbrev pub TellsDerived : List Relation → Document → Document → Type 0
TellsDerived catalog d e = (p q : TypedPlanView) × (resolved d catalog ≡ Ok p) × (resolved e catalog ≡ Ok q)
    × (tells_derived (relation_at catalog) (plan_in p.root) (plan_in q.root) ≡ true) × (q.total ≡ true → p.total ≡ true)
