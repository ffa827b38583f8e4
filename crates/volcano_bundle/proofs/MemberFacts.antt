-- Reading the members of an object one after the other, as a loop does.
use Rattle.std.proofs.Common.{◌≡◌, ℕ, List, [], ◌∷◌, ◌++◌, Option, Some, None, option_map, option_and_then, Bool, true, false, cond, bytes_eq, map, String, Global, string_bytes, refl, sym, ap, ◌∙◌}
use Rattle.std.specs.List.{find}
use Rattle.serde_json.specs.Data.{Data}
use Rattle.serde_json.specs.View.{view, members_view}
use Rattle.serde_json.specs.declared.value.Value.{Value}
use Rattle.volcano_bundle.specs.Named.{Named}
use Rattle.volcano_bundle.specs.Bundle.{each_member}

abbrev pub Entry : Type 0
Entry = String Global × Value

-- what the reading makes of the members once this value's is x
abbrev after : {A : Type 0} → (Data → Option A) → Named A → Entry → List Entry → Option A → Option (Named A)
after read prior e left o = option_and_then (λ x. each_member read (prior ++ (string_bytes e.0, x) ∷ []) (members_view left)) o

member_step : {A : Type 0} (read : Data → Option A) (prior : Named A) (e : Entry) (left : List Entry)
    → each_member read prior (members_view (e ∷ left)) ≡ after read prior e left (read (view e.1))
unfolding each_member
member_step read prior e left = refl

pub member_more : {A : Type 0} (read : Data → Option A) (prior : Named A) (s : List Entry) (e : Entry) (left : List Entry) (x : A) (total : Option (Named A)) → s ≡ e ∷ left
    → read (view e.1) ≡ Some x → each_member read prior (members_view s) ≡ total → each_member read (prior ++ (string_bytes e.0, x) ∷ []) (members_view left) ≡ total
member_more read prior s e left x total steps is so_far =
    ap (after read prior e left) (sym is) ∙ (sym (member_step read prior e left) ∙ (sym (ap (λ es. each_member read prior (members_view es)) steps) ∙ so_far))

pub member_none : {A : Type 0} (read : Data → Option A) (prior : Named A) (s : List Entry) (e : Entry) (left : List Entry) (total : Option (Named A)) → s ≡ e ∷ left
    → read (view e.1) ≡ None → each_member read prior (members_view s) ≡ total → total ≡ None
member_none read prior s e left total steps is so_far =
    sym (ap (after read prior e left) (sym is) ∙ (sym (member_step read prior e left) ∙ (sym (ap (λ es. each_member read prior (members_view es)) steps) ∙ so_far)))

pub member_done : {A : Type 0} (read : Data → Option A) (prior : Named A) (s : List Entry) (total : Option (Named A)) → s ≡ []
    → each_member read prior (members_view s) ≡ total → total ≡ Some prior
unfolding each_member
member_done read prior s total none so_far = sym so_far ∙ ap (λ es. each_member read prior (members_view es)) none

if_found : {T : Type 0} (b : Bool) (x : List ℕ) (t : T) (text : T → List ℕ) (later : Option T) (others : Option (List ℕ × List ℕ)) → option_map text later ≡ option_map (λ (p : List ℕ × List ℕ). p.1) others
    → option_map text (cond b (Some t) later) ≡ option_map (λ (p : List ℕ × List ℕ). p.1) (cond b (Some (x, text t)) others)
if_found true x t text later others e = refl
if_found false x t text later others e = e

-- the text of the first table of a name
pub table_text : {T : Type 0} (name text : T → List ℕ) (q : List ℕ) (ts : List T)
    → option_map text (find (λ t. bytes_eq (name t) q) ts) ≡ option_map (λ (p : List ℕ × List ℕ). p.1) (find (λ p. bytes_eq p.0 q) (map (λ t. (name t, text t)) ts))
table_text name text q [] = refl
table_text name text q (t ∷ ts) = if_found (bytes_eq (name t) q) (name t) t text (find (λ t. bytes_eq (name t) q) ts) _ (table_text name text q ts)
