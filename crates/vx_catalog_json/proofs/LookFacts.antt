-- Names and items of a JSON value, in the words of its Rust lists.
use Rattle.std.proofs.Common.{◌≡◌, ℕ, List, [], ◌∷◌, Some, option_map, String, BTreeMap, Global, string_bytes, refl, sym, ap, ◌∙◌, map, ◌&&◌}
use Rattle.std.specs.List.{list_all}
use Rattle.std.specs.BTreeMap.{keys}
use Rattle.serde_json.specs.Data.{Data, null, boolean, number, string, array, object, Members}
use Rattle.serde_json.specs.Find.{as_object, as_array}
use Rattle.serde_json.specs.View.{view, items_view, items_of, members_view}
use Rattle.serde_json.specs.declared.value.Value.{Value}
use Rattle.vx_catalog_json.specs.Look.{list_of, as_list, names_of, is_among, has_only}

pub list_of-items_of : (ds : List Data) → list_of (items_of ds) ≡ ds
list_of-items_of [] = refl
list_of-items_of (d ∷ ds) = ap (λ (t : List Data). d ∷ t) (list_of-items_of ds)

pub items_are : (d : Data) (vs : List Value) → Some (items_view vs) ≡ as_array d → Some (map view vs) ≡ as_list d
items_are d vs h = ap (λ t. Some t) (sym (list_of-items_of (map view vs))) ∙ ap (λ o. option_map list_of o) h

only_those : (names : List (List ℕ)) (es : List (String Global × Value)) → list_all (λ k. is_among names (string_bytes k)) (map (λ e. e.0) es) ≡ list_all (is_among names) (names_of (members_view es))
only_those names [] = refl
only_those names (e ∷ es) = ap (λ b. is_among names (string_bytes e.0) && b) (only_those names es)

from_members : (names : List (List ℕ)) (d : Data) (ms : Members) → Some ms ≡ as_object d → list_all (is_among names) (names_of ms) ≡ has_only names d
from_members names null ms h = cc
from_members names (boolean b) ms h = cc
from_members names (number n) ms h = cc
from_members names (string s) ms h = cc
from_members names (array ds) ms h = cc
from_members names (object ns) ms h = let e : ms ≡ ns = cc in rw e refl

pub only_members : (names : List (List ℕ)) (d : Data) (m : BTreeMap (String Global) Value) → Some (members_view m.entries) ≡ as_object d
    → list_all (λ k. is_among names (string_bytes k)) (keys m) ≡ has_only names d
only_members names d m h = only_those names m.entries ∙ from_members names d _ h
