-- What a document declares has the form.
use Rattle.std.proofs.Common.{◌≡◌, [], ◌∷◌, Bool, true, Option, Some, None, option_map, option_and_then, codes, refl}
use Rattle.std.specs.List.{list_all}
use Rattle.serde_json.specs.Data.{Data}
use Rattle.serde_json.specs.Find.{get}
use Rattle.vx_rows_values.specs.Types.{is_held}
use Rattle.vx_catalog_json.specs.Look.{has_only, flag_in}
use Rattle.vx_plan_json.specs.Look.{name_at, value_in, each_in, or_default}
use Rattle.vx_rows_values.specs.Lists.{is_some_list}
use Rattle.vx_plan_json.specs.Form.{names_in}
use Rattle.vx_plan_json.specs.Formed.{are_names, is_range_form, is_head_form}
use Rattle.vx_plan_json.specs.Reading.{Head, head_of, head_in, declared_in}
use Rattle.vx_plan_json.proofs.Holds.{and-both, Within, within_then, within_any, within_map, within_if}
use Rattle.vx_plan_json.proofs.FormedFacts.{name_at-some, default_within, each_within, names_within, value_held}

declared-within : (d : Data) → Within is_range_form (declared_in d)
unfolding declared_in
declared-within d =
    within_if is_range_form (has_only (codes "name" ∷ codes "bounds" ∷ []) d) _ None
    (within_then is_some_list is_range_form (λ n. option_map (λ bs. record { name = n; bounds = bs }) (option_and_then (each_in value_in) (get (codes "bounds") d))) (name_at (codes "name") d) (name_at-some (codes "name") d)
    (λ n h. within_map (list_all is_held) is_range_form (λ bs. record { name = n; bounds = bs }) (option_and_then (each_in value_in) (get (codes "bounds") d))
    (within_any (list_all is_held) (each_in value_in) (get (codes "bounds") d) (each_within is_held value_in value_held)) (λ bs k. and-both (is_some_list n) (list_all is_held bs) h k))) tt

abbrev pub is_head : Head → Bool
is_head h = is_head_form h.sizes h.ranges

pub head-within : (d : Data) → Within is_head (head_in d)
unfolding head_in
head-within d =
    within_if is_head (has_only (codes "sizes" ∷ codes "ranges" ∷ codes "total" ∷ codes "derive" ∷ codes "root" ∷ []) d) _ None
    (within_then are_names is_head (λ zs. option_and_then (λ rs. option_and_then (λ t. option_and_then (λ e. option_map (head_of zs rs t e) (get (codes "root") d)) (flag_in (codes "derive") d)) (flag_in (codes "total") d))
    (or_default [] (each_in declared_in) (get (codes "ranges") d))) (or_default [] names_in (get (codes "sizes") d)) (default_within are_names [] names_in refl names_within (get (codes "sizes") d))
    (λ zs h. within_then (list_all is_range_form) is_head (λ rs. option_and_then (λ t. option_and_then (λ e. option_map (head_of zs rs t e) (get (codes "root") d)) (flag_in (codes "derive") d)) (flag_in (codes "total") d))
    (or_default [] (each_in declared_in) (get (codes "ranges") d)) (default_within (list_all is_range_form) [] (each_in declared_in) refl (each_within is_range_form declared_in declared-within) (get (codes "ranges") d))
    (λ rs k. within_any is_head (λ t. option_and_then (λ e. option_map (head_of zs rs t e) (get (codes "root") d)) (flag_in (codes "derive") d)) (flag_in (codes "total") d)
    (λ t. within_any is_head (λ e. option_map (head_of zs rs t e) (get (codes "root") d)) (flag_in (codes "derive") d)
    (λ e. within_map (λ r. true) is_head (head_of zs rs t e) (get (codes "root") d) (anything (get (codes "root") d)) (λ r u. and-both (are_names zs) (list_all is_range_form rs) h k)))))) tt
  where
    anything : {A : Type 0} (o : Option A) → Within (λ x. true) o
    anything None = tt
    anything (Some x) = refl

pub within_at : {A : Type 0} (p : A → Bool) (o : Option A) (x : A) → Within p o → o ≡ Some x → p x ≡ true
within_at p (Some y) x h e = let same : y ≡ x = cc in rw (← same) h
within_at p None x h e = cc
