-- Conditions over the columns of two inputs: what is found says the names that were asked for, of columns of one name the first, and is found again by them.
use Rattle.std.proofs.Common.{◌≡◌, ℕ, zero, suc, ◌<◌, nat_lt, List, [], ◌∷◌, ◌++◌, Bool, true, false, not, ◌&&◌, Option, Some, None, Ok, map, length, take, get_or, position, bytes_eq, refl, sym, ap, ◌∙◌, subst, arith}
use Rattle.std.specs.List.{list_all, list_any}
use Rattle.std.proofs.lemmas.Bool.{or_parts, or_from, not-true, not_from_false, ltb-true}
use Rattle.std.proofs.lemmas.List.Quantifiers.{position-Some}
use Rattle.std.proofs.lemmas.Slice.Eq.{bytes_eq-Decides}
use Rattle.vx_rows_values.specs.declared.value.ColType.{ColType}
use Rattle.vx_rows_values.specs.Types.{type_at}
use Rattle.vx_rows_values.specs.Values.{Name}
use Rattle.vx_rows_values.proofs.Booleans.{and-left, and-right, and-both}
use Rattle.vx_rows_values.proofs.ClashFacts.{position-is}
use Rattle.vx_catalog_relations.specs.Naming.{name_at}
use Rattle.vx_plan_nodes.specs.Plan.{Side, Condition}
use Rattle.vx_plan_nodes.specs.Plan as plan
use Rattle.vx_plan_nodes.specs.Typed.{type_eq, is_side, is_condition}
use Rattle.vx_plan_json.specs.Document.{SideForm, ConditionForm}
use Rattle.vx_plan_json.specs.Document as form
use Rattle.vx_plan.specs.Lookup.{walk_onto, column_or, find_column}
use Rattle.vx_plan.specs.Resolve.{find_side, find_condition, find_conditions}
use Rattle.vx_plan.specs.ByName.{side_by_name, condition_by_name}
use Rattle.vx_plan.specs.Exact.{is_first, is_first_side, is_first_condition}
use Rattle.vx_plan.proofs.Each.{ok_then, ok_last, each-walked, each-said, each-pass, walk-each, each-again}
use Rattle.vx_plan.proofs.UnarySaid.{condition-said}

-- ---- a name is found at the first column that has it

none-before : (p : Name → Bool) (names : List Name) (c : ℕ) → ((k : ℕ) → k < c → p (get_or names k []) ≡ false) → list_any p (take c names) ≡ false
none-before p [] zero h = refl
none-before p [] (suc c) h = refl
none-before p (x ∷ names) zero h = refl
none-before p (x ∷ names) (suc c) h = or_from (p x) (list_any p (take c names)) (h 0 (omega arith)) (none-before p names c (λ k l. h (suc k) (omega (arith, l))))

one-before : (p : Name → Bool) (names : List Name) (c k : ℕ) → list_any p (take c names) ≡ false → k < c → c < length names → p (get_or names k []) ≡ false
one-before p [] c k h l m = absurd (omega arith)
one-before p (x ∷ names) zero k h l m = absurd (omega arith)
one-before p (x ∷ names) (suc c) zero h l m = (or_parts (p x) (list_any p (take c names)) h).0
one-before p (x ∷ names) (suc c) (suc k) h l m = one-before p names c k (or_parts (p x) (list_any p (take c names)) h).1 (omega arith) (omega arith)

column-first : (node : ℕ) (names : List Name) (name : Name) (c : ℕ) → find_column node names name ≡ Ok c → is_first names c ≡ true
unfolding find_column
column-first node names name c h = go (position (bytes_eq name) names) refl h
  where
    go : (o : Option ℕ) → position (bytes_eq name) names ≡ o → column_or node name o ≡ Ok c → is_first names c ≡ true
    go None e k = cc
    go (Some q) e k =
        let same : q ≡ c = cc in
        let p = position-Some (bytes_eq name) names c [] (e ∙ ap (λ q. Some q) same) in
        let named : name ≡ name_at names c = (bytes_eq-Decides name (name_at names c)).0 p.1 in
        let P : Name → Type 0 = λ n. not (list_any (bytes_eq n) (take c names)) ≡ true in
        subst P named (not_from_false (list_any (bytes_eq name) (take c names)) (none-before (bytes_eq name) names c p.2))

first-again : (node : ℕ) (names : List Name) (c : ℕ) → is_first names c ≡ true → nat_lt c (length names) ≡ true → find_column node names (name_at names c) ≡ Ok c
unfolding find_column
first-again node names c h l =
    let test = bytes_eq (name_at names c) in
    let below : c < length names = ltb-true c (length names) l in
    let none : list_any test (take c names) ≡ false = not-true (list_any test (take c names)) h in
    ap (column_or node (name_at names c)) (position-is test names c [] below (λ k m. one-before test names c k none m below) ((bytes_eq-Decides (name_at names c) (name_at names c)).1 refl))

-- ---- conditions that were found

side-first : (node : ℕ) (names : List Name) (f : SideForm) (x : Side) → find_side node names f ≡ Ok x → is_first_side names x ≡ true
unfolding find_side
side-first node names (form.column name) x h =
    let t = ok_last (λ (c : ℕ). plan.column c) (find_column node names name) x h in
    rw (← t.2) (column-first node names name t.0 t.1)
side-first node names (form.constant v) x h = let e : plan.constant v ≡ x = cc in rw (← e) refl

condition-first : (node : ℕ) (names : List Name) (f : ConditionForm) (c : Condition) → find_condition node names f ≡ Ok c → is_first_condition names c ≡ true
unfolding find_condition
condition-first node names f c h =
    let t = ok_then _ (find_column node names f.left) c h in
    let u = ok_last (λ (r : Side). record { left = t.0; test = f.test; right = r }) (find_side node names f.right) c t.2 in
    let P : Condition → Type 0 = λ c. is_first_condition names c ≡ true in
    subst P u.2 (and-both (is_first names t.0) (is_first_side names u.0) (column-first node names f.left t.0 t.1) (side-first node names f.right u.0 u.1))

pub conditions-first : (node : ℕ) (names : List Name) (fs : List ConditionForm) (cs : List Condition) → find_conditions node names fs ≡ Ok cs → list_all (is_first_condition names) cs ≡ true
unfolding find_conditions
conditions-first node names fs cs h =
    each-pass (find_condition node names) (is_first_condition names) (condition-first node names) fs cs (each-walked (find_condition node names) fs cs h)

pub conditions-said : (node : ℕ) (names : List Name) (fs : List ConditionForm) (cs : List Condition) → find_conditions node names fs ≡ Ok cs → map (condition_by_name names) cs ≡ fs
unfolding find_conditions
conditions-said node names fs cs h =
    each-said (find_condition node names) (condition_by_name names) (condition-said node names) fs cs (each-walked (find_condition node names) fs cs h)

-- ---- and are found again

side-again : (node : ℕ) (names : List Name) (types : List ColType) (t : ColType) (x : Side) → length names ≡ length types → is_side types t x ≡ true → is_first_side names x ≡ true → find_side node names (side_by_name names x) ≡ Ok x
unfolding find_side
side-again node names types t (plan.column c) e h f =
    let P : ℕ → Type 0 = λ n. nat_lt c n ≡ true in
    rw (first-again node names c f (subst P (sym e) (and-left (nat_lt c (length types)) (type_eq t (type_at types c)) h))) refl
side-again node names types t (plan.constant v) e h f = refl

condition-again : (node : ℕ) (names : List Name) (types : List ColType) (c : Condition) → length names ≡ length types → (is_condition types c && is_first_condition names c) ≡ true → find_condition node names (condition_by_name names c) ≡ Ok c
unfolding find_condition
condition-again node names types c e h =
    let right : Bool = is_side types (type_at types c.left) c.right in
    let typed = and-left (is_condition types c) (is_first_condition names c) h in
    let firsts = and-right (is_condition types c) (is_first_condition names c) h in
    let P : ℕ → Type 0 = λ n. nat_lt c.left n ≡ true in
    let l = first-again node names c.left (and-left (is_first names c.left) (is_first_side names c.right) firsts) (subst P (sym e) (and-left (nat_lt c.left (length types)) right typed)) in
    let r = side-again node names types (type_at types c.left) c.right e (and-right (nat_lt c.left (length types)) right typed) (and-right (is_first names c.left) (is_first_side names c.right) firsts) in
    rw (l, r) refl

all-both : {A : Type 0} (p q : A → Bool) (xs : List A) → list_all p xs ≡ true → list_all q xs ≡ true → list_all (λ x. p x && q x) xs ≡ true
all-both p q [] h k = refl
all-both p q (x ∷ xs) h k =
    and-both (p x && q x) (list_all (λ x. p x && q x) xs) (and-both (p x) (q x) (and-left (p x) (list_all p xs) h) (and-left (q x) (list_all q xs) k))
    (all-both p q xs (and-right (p x) (list_all p xs) h) (and-right (q x) (list_all q xs) k))

pub conditions-again : (node : ℕ) (names : List Name) (types : List ColType) (cs : List Condition) → length names ≡ length types → list_all (is_condition types) cs ≡ true → list_all (is_first_condition names) cs ≡ true
    → find_conditions node names (map (condition_by_name names) cs) ≡ Ok cs
unfolding find_conditions
conditions-again node names types cs e h k =
    walk-each (find_condition node names) (map (condition_by_name names) cs) [] cs
    (each-again (find_condition node names) (condition_by_name names) (λ c. is_condition types c && is_first_condition names c) (λ c g. condition-again node names types c e g) cs
    (all-both (is_condition types) (is_first_condition names) cs h k))
