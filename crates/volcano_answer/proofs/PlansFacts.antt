-- Several plans: reading one more, and one answer more.
use Rattle.std.proofs.Common.{◌≡◌, ◌∙◌, ℕ, ◌+◌, ◌<◌, List, [], ◌∷◌, ◌++◌, map, take, drop, length, get_or, Bool, true, false, Option, Ok, refl, sym, ap, subst}
use Rattle.std.proofs.lemmas.List.{map-append, map_more, take-append-drop}
use Rattle.std.proofs.lemmas.List.Folds.{list_any-append}
use Rattle.std.proofs.Math.Seq.{drop-cons}
use Rattle.std.specs.List.{list_any}
use Rattle.std.specs.Prelude.{◌||◌, suc}
use Rattle.vx_catalog_relations.specs.Relation.{Relation}
use Rattle.vx_plan_nodes.specs.Names.{TypedPlanView}
use Rattle.vx_plan_nodes.specs.Outline.{plan_in}
use Rattle.volcano_tables.specs.Filled.{scans}
use Rattle.vx_catalog_bytes.specs.Stored.{Stored}
use Rattle.volcano_refusals.specs.declared.refusal.Refusal.{Refusal}
use Rattle.volcano_answer.specs.Commands.{IsShown}
use Rattle.volcano_answer.specs.Files.{is_input, left_of, input_after}
use Rattle.volcano_answer.specs.Planning.{exactly, IsPlanned}
use Rattle.volcano_answer.specs.Plans.{NamedPlan, paths_of, plan_under, AreAccepted, IsNotAccepted, AreNotAccepted, for_first, any_scans, input_after_all, AreAnswers, StopsAt}

-- what standard input has left after one path more
pub left_next : (is_input was_read : Bool) (before after : Option (List ℕ)) → (is_input ≡ false → after ≡ before) → left_of (was_read || is_input) after ≡ left_of is_input (left_of was_read before)
left_next true true before after kept = refl
left_next true false before after kept = refl
left_next false true before after kept = refl
left_next false false before after kept = kept refl

pub input_next : (input : Option (List ℕ)) (paths : List (List ℕ)) (path : List ℕ) → input_after_all input (paths ++ path ∷ []) ≡ input_after (input_after_all input paths) path
input_next input [] path = refl
input_next input (p ∷ paths) path = input_next (input_after input p) paths path

-- one accepted plan more
pub accepted_more : (files : List ℕ → Stored) (input : Option (List ℕ)) (relations : List Relation) (ns : List NamedPlan) (n : NamedPlan) → AreAccepted files input relations ns
    → IsPlanned (exactly (Ok relations)) (plan_under files (input_after_all input (paths_of ns)) n.path) n.plan → IsShown n.plan → AreAccepted files input relations (ns ++ n ∷ [])
accepted_more files input relations [] n h planned shown = (planned, shown, tt)
accepted_more files input relations (m ∷ ms) n h planned shown = (h.0, h.1, accepted_more files (input_after input m.path) relations ms n h.2 planned shown)

-- a list around one of its elements
pub around : {X Y : Type 0} (look : X → Y) (xs : List X) (i : ℕ) (d : X) → i < length xs → map look xs ≡ map look (take i xs) ++ look (get_or xs i d) ∷ map look (drop (suc i) xs)
around {X} look xs i d there =
    ap (map look) (sym (take-append-drop i xs) ∙ ap (λ (rest : List X). take i xs ++ rest) (drop-cons xs i d there)) ∙ map-append look (take i xs) (get_or xs i d ∷ drop (suc i) xs)

-- the plan at which it stops, behind the answers to the first plans
pub stops_here : {W : Type 0} (Answers : TypedPlanView → List ℕ → Type 0) (Refuses : TypedPlanView → Refusal → Type 0) (look : W → NamedPlan) (ws : List W) (i : ℕ) (d : W) (text : List ℕ) (e : Refusal) → i < length ws
    → AreAnswers Answers (map look (take i ws)) text → Refuses (look (get_or ws i d)).plan e → StopsAt Answers Refuses (map look ws) text e
stops_here Answers Refuses look ws i d text e there h refused =
    record { before = map look (take i ws); stopped = look (get_or ws i d); rest = map look (drop (suc i) ws); split = around look ws i d there; answered = h; refused = refused }

-- the accepted plans under the first paths, and one more
pub accepted_grow : {W : Type 0} (look : W → List ℕ) (files : List ℕ → Stored) (input left : Option (List ℕ)) (relations : List Relation) (ws : List W) (i : ℕ) (ns : List NamedPlan) (n : NamedPlan)
    → paths_of ns ≡ map look (take i ws) → AreAccepted files input relations ns → left ≡ input_after_all input (map look (take i ws))
    → IsPlanned (exactly (Ok relations)) (plan_under files left n.path) n.plan → IsShown n.plan → AreAccepted files input relations (ns ++ n ∷ [])
accepted_grow look files input left relations ws i ns n named so_far leaves planned shown =
    let P : Option (List ℕ) → Type 0 = λ o. IsPlanned (exactly (Ok relations)) (plan_under files o n.path) n.plan in
    accepted_more files input relations ns n so_far (subst P (leaves ∙ ap (input_after_all input) (sym named)) planned) shown

-- and their paths
pub named_grow : {W : Type 0} (look : W → List ℕ) (ws : List W) (i : ℕ) (d : W) (ns : List NamedPlan) (n : NamedPlan) → i < length ws → paths_of ns ≡ map look (take i ws) → n.path ≡ look (get_or ws i d)
    → paths_of (ns ++ n ∷ []) ≡ map look (take (i + 1) ws)
named_grow look ws i d ns n there named is =
    map-append (λ (m : NamedPlan). m.path) ns (n ∷ []) ∙ ap (λ (ps : List (List ℕ)). ps ++ n.path ∷ []) named ∙ ap (λ (p : List ℕ). map look (take i ws) ++ p ∷ []) is ∙ sym (map_more look ws i d there)

-- what standard input has left then
pub left_grow : {W : Type 0} (look : W → List ℕ) (input : Option (List ℕ)) (ws : List W) (i : ℕ) (d : W) (was_read read_now : Bool) (before after : Option (List ℕ)) (path : List ℕ) → i < length ws
    → path ≡ look (get_or ws i d) → left_of was_read before ≡ input_after_all input (map look (take i ws)) → (is_input path ≡ false → after ≡ before) → read_now ≡ (was_read || is_input path)
    → left_of read_now after ≡ input_after_all input (map look (take (i + 1) ws))
left_grow look input ws i d was_read read_now before after path there at leaves kept read =
    ap (λ b. left_of b after) read ∙ left_next (is_input path) was_read before after kept ∙ ap (λ (o : Option (List ℕ)). left_of (is_input path) o) leaves
    ∙ sym (input_next input (map look (take i ws)) path) ∙ ap (λ (p : List ℕ). input_after_all input (map look (take i ws) ++ p ∷ [])) at ∙ ap (input_after_all input) (sym (map_more look ws i d there))

-- the path of which the plan is not accepted, behind those of the accepted plans
pub not_accepted_here : {W : Type 0} (look : W → List ℕ) (files : List ℕ → Stored) (reliable : List ℕ → Bool) (input left : Option (List ℕ)) (failed : Bool) (relations : List Relation) (ws : List W) (i : ℕ) (d : W)
    (ns : List NamedPlan) (e : Refusal) → i < length ws → paths_of ns ≡ map look (take i ws) → AreAccepted files input relations ns → left ≡ input_after_all input (map look (take i ws))
    → IsNotAccepted files reliable left failed relations (look (get_or ws i d)) e → AreNotAccepted files reliable input failed relations (map look ws) e
not_accepted_here look files reliable input left failed relations ws i d ns e there named so_far leaves refused =
    let P : Option (List ℕ) → Type 0 = λ o. IsNotAccepted files reliable o failed relations (look (get_or ws i d)) e in
    let split : map look ws ≡ paths_of ns ++ look (get_or ws i d) ∷ map look (drop (suc i) ws) =
    around look ws i d there ∙ ap (λ (ps : List (List ℕ)). ps ++ look (get_or ws i d) ∷ map look (drop (suc i) ws)) (sym named) in
    for_first ns (look (get_or ws i d)) (map look (drop (suc i) ws)) split so_far (subst P (leaves ∙ ap (input_after_all input) (sym named)) refused)

or_found : (a b c : Bool) → b ≡ true → (a || (b || c)) ≡ true
or_found true b c h = refl
or_found false b c h = ap (λ x. x || c) h

-- one of the plans that scans a relation
pub any_found : {W : Type 0} (look : W → NamedPlan) (ws : List W) (i : ℕ) (d : W) (relation : ℕ) → i < length ws → scans (plan_in (look (get_or ws i d)).plan.root) relation ≡ true
    → any_scans (map look ws) relation ≡ true
any_found look ws i d relation there h =
    let test = λ (n : NamedPlan). scans (plan_in n.plan.root) relation in
    let n = look (get_or ws i d) in
    let rest = map look (drop (suc i) ws) in
    ap (list_any test) (around look ws i d there) ∙ list_any-append test (map look (take i ws)) (n ∷ rest) ∙ or_found (list_any test (map look (take i ws))) (test n) (list_any test rest) h
