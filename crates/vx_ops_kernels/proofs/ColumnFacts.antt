-- What an operator's type says of its columns: they are there, and of equal types where it asks that.
use Rattle.std.proofs.Common.{◌≡◌, ℕ, nat_lt, Bool, true, ◌&&◌, List, [], ◌∷◌, map, length, get_or, refl}
use Rattle.std.specs.List.{list_all}
use Rattle.std.proofs.lemmas.Bool.Decides.{Decides-ltb}
use Rattle.std.proofs.lemmas.List.Sums.{AllPass-from_list_all}
use Rattle.vx_rows_values.specs.Lists.{is_some_list}
use Rattle.vx_rows_values.specs.declared.value.ColType.{ColType}
use Rattle.vx_rows_values.specs.declared.value.ColType.TheVariants.{Int, Text}
use Rattle.vx_rows_values.specs.Types.{type_at}
use Rattle.vx_rows_values.proofs.Booleans.{and-left, and-right, and-both}
use Rattle.vx_rows.specs.View.{AreColumns}
use Rattle.vx_catalog_relations.specs.Catalog.{all_below}
use Rattle.vx_plan_nodes.specs.Plan.{union, JoinMethod, join}
use Rattle.vx_plan_nodes.specs.Typed.{type_eq, types_eq, is_pair, are_distinct_pairs, has_directions, is_binary}

pub columns-below : (w : ℕ) (cols : List ℕ) → all_below w cols ≡ true → AreColumns w cols
columns-below w cols h k d l = (Decides-ltb (get_or cols k d) w).0 (AllPass-from_list_all (λ c. nat_lt c w) cols h k d l)

-- ---- pairs of columns

left-below : (ts us : List ColType) (on : List (ℕ × ℕ)) → list_all (is_pair ts us) on ≡ true → all_below (length ts) (map (λ p. p.0) on) ≡ true
left-below ts us [] h = refl
left-below ts us (p ∷ on) h =
    let one : Bool = nat_lt p.1 (length us) && type_eq (type_at ts p.0) (type_at us p.1) in
    and-both (nat_lt p.0 (length ts)) (all_below (length ts) (map (λ p. p.0) on))
    (and-left (nat_lt p.0 (length ts)) one (and-left (is_pair ts us p) (list_all (is_pair ts us) on) h))
    (left-below ts us on (and-right (is_pair ts us p) (list_all (is_pair ts us) on) h))

right-below : (ts us : List ColType) (on : List (ℕ × ℕ)) → list_all (is_pair ts us) on ≡ true → all_below (length us) (map (λ p. p.1) on) ≡ true
right-below ts us [] h = refl
right-below ts us (p ∷ on) h =
    let match : Bool = type_eq (type_at ts p.0) (type_at us p.1) in
    and-both (nat_lt p.1 (length us)) (all_below (length us) (map (λ p. p.1) on))
    (and-left (nat_lt p.1 (length us)) match (and-right (nat_lt p.0 (length ts)) (nat_lt p.1 (length us) && match) (and-left (is_pair ts us p) (list_all (is_pair ts us) on) h)))
    (right-below ts us on (and-right (is_pair ts us p) (list_all (is_pair ts us) on) h))

pub left-columns : (ts us : List ColType) (on : List (ℕ × ℕ)) → list_all (is_pair ts us) on ≡ true → AreColumns (length ts) (map (λ p. p.0) on)
left-columns ts us on h = columns-below (length ts) (map (λ p. p.0) on) (left-below ts us on h)

pub right-columns : (ts us : List ColType) (on : List (ℕ × ℕ)) → list_all (is_pair ts us) on ≡ true → AreColumns (length us) (map (λ p. p.1) on)
right-columns ts us on h = columns-below (length us) (map (λ p. p.1) on) (right-below ts us on h)

pub join-pairs : (ts us : List ColType) (method : JoinMethod) (on : List (ℕ × ℕ)) → is_binary ts us (join method on) ≡ true → list_all (is_pair ts us) on ≡ true
join-pairs ts us method on h =
    and-left (list_all (is_pair ts us) on) (are_distinct_pairs on && has_directions method on) (and-right (is_some_list on) (list_all (is_pair ts us) on && (are_distinct_pairs on && has_directions method on)) h)

pub join-left-columns : (ts us : List ColType) (method : JoinMethod) (on : List (ℕ × ℕ)) → is_binary ts us (join method on) ≡ true → AreColumns (length ts) (map (λ p. p.0) on)
join-left-columns ts us method on h = left-columns ts us on (join-pairs ts us method on h)

pub join-right-columns : (ts us : List ColType) (method : JoinMethod) (on : List (ℕ × ℕ)) → is_binary ts us (join method on) ≡ true → AreColumns (length us) (map (λ p. p.1) on)
join-right-columns ts us method on h = right-columns ts us on (join-pairs ts us method on h)

-- ---- equal types

same-type : (t u : ColType) → type_eq t u ≡ true → u ≡ t
same-type Int Int h = refl
same-type Int Text h = cc
same-type Text Int h = cc
same-type Text Text h = refl

same-types : (ts us : List ColType) → types_eq ts us ≡ true → us ≡ ts
same-types [] [] h = refl
same-types [] (u ∷ us) h = cc
same-types (t ∷ ts) [] h = cc
same-types (t ∷ ts) (u ∷ us) h =
    let first = same-type t u (and-left (type_eq t u) (types_eq ts us) h) in
    let rest = same-types ts us (and-right (type_eq t u) (types_eq ts us) h) in
    cc

pub union-types : (ts us : List ColType) → is_binary ts us union ≡ true → us ≡ ts
union-types ts us h = same-types ts us h
