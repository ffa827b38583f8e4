-- Lists of parts, as loops make them.
use Rattle.std.proofs.Common.{Bor, Vec, Global, ℕ, suc, ◌≡◌, ◌+◌, ◌<◌, ◌||◌, Bool, true, false, cond, Option, Some, None, option_map, List, [], ◌∷◌, ◌++◌, map, length, get_or, drop, take, refl, sym, ap, ◌∙◌, arith}
use Rattle.std.proofs.lemmas.List.{append-nil}
use Rattle.std.proofs.Math.Numerals.{add-one}
use Rattle.std.proofs.Math.Seq.{drop-cons}
use Rattle.std.specs.List.{list_any, filter, find}
use Rattle.std.specs.Prelude.{is_some}
use Rattle.vx_catalog_relations.specs.Relation.{Relation}
use Rattle.vx_plan_nodes.specs.Plan.{Route, Part, routed, Plan, size, is_one}
use Rattle.vx_plan_nodes.specs.declared.typed.Part as rust_part
use Rattle.vx_plan_nodes.specs.Outline.{part_of}
use Rattle.vx_check_rules.specs.Refusal.{or_else}
use Rattle.vx_check_options.specs.Options.{routed_by, same_part, with_part, with_parts, is_routed, most_telling, gives_part}
use Rattle.vx_check_options.specs.Placed.{first_two, is_given}

pub part-added : (parts : List Part) (q : Part) → list_any (same_part q) parts ≡ false → parts ++ q ∷ [] ≡ with_part parts q
part-added parts q e = rw e refl

pub part-there : (parts : List Part) (q : Part) → list_any (same_part q) parts ≡ true → parts ≡ with_part parts q
part-there parts q e = rw e refl

-- parts of two lists, one after the other
pub with-both : (parts qs rs : List Part) → with_parts parts (qs ++ rs) ≡ with_parts (with_parts parts qs) rs
with-both parts [] rs = refl
with-both parts (q ∷ qs) rs = with-both (with_part parts q) qs rs

-- nothing more
pub with-end : (now new qs : List Part) → new ≡ with_parts now qs → new ≡ with_parts now (qs ++ [])
with-end now new qs e = e ∙ ap (with_parts now) (sym (append-nil qs))

-- one item further in a loop that puts the parts of each item behind those that it has
pub loop-more : {X : Type 0} (F : List X → List Part) (f : X → List Part) → ((x : X) (xs : List X) → F (x ∷ xs) ≡ f x ++ F xs) → (xs : List X) (i : ℕ) (x : X) → i < length xs → x ≡ get_or xs i x
    → (all now new : List Part) → all ≡ with_parts now (F (drop i xs)) → new ≡ with_parts now (f x) → all ≡ with_parts new (F (drop (i + 1) xs))
loop-more F f step xs i x within is all now new left here =
    let first : drop i xs ≡ x ∷ drop (i + 1) xs = rw (add-one i) (drop-cons xs i x within ∙ ap (λ y. y ∷ drop (suc i) xs) (sym is)) in
    left ∙ ap (λ l. with_parts now (F l)) first ∙ ap (with_parts now) (step x (drop (i + 1) xs)) ∙ with-both now (f x) (F (drop (i + 1) xs)) ∙ ap (λ l. with_parts l (F (drop (i + 1) xs))) (sym here)

-- rows that are routed by one of some lists
pub routed-some : (r : Route) (lists : List (Vec ℕ Global)) → 0 < length lists → map (λ (v : Vec ℕ Global). routed r v.items) lists ≡ routed_by r (map (λ (v : Vec ℕ Global). v.items) lists)
routed-some r [] some = absurd (omega (arith, some))
routed-some r (v ∷ vs) some = ap (λ more. routed r v.items ∷ more) (composed vs)
  where
    composed : (xs : List (Vec ℕ Global)) → map (λ (v : Vec ℕ Global). routed r v.items) xs ≡ map (routed r) (map (λ (v : Vec ℕ Global). v.items) xs)
    composed [] = refl
    composed (x ∷ xs) = ap (λ more. routed r x.items ∷ more) (composed xs)

-- ---- the parts that tell the most

routed-kept : (ps : List rust_part.Part) → map part_of (filter (λ p. is_routed (part_of p)) ps) ≡ filter is_routed (map part_of ps)
routed-kept [] = refl
routed-kept (p ∷ ps) = by (is_routed (part_of p)) (routed-kept ps)
  where
    by : (b : Bool) → map part_of (filter (λ r. is_routed (part_of r)) ps) ≡ filter is_routed (map part_of ps) → map part_of (cond b (p ∷ filter (λ r. is_routed (part_of r)) ps) (filter (λ r. is_routed (part_of r)) ps)) ≡ cond b (part_of p ∷ filter is_routed (map part_of ps)) (filter is_routed (map part_of ps))
    by true e = ap (λ more. part_of p ∷ more) e
    by false e = e

pub telling-routed : (ps kept : List rust_part.Part) (b : Bool) → kept ≡ filter (λ p. is_routed (part_of p)) ps → b ≡ list_any is_routed (map part_of ps) → b ≡ true → map part_of kept ≡ most_telling (map part_of ps)
telling-routed ps kept b are is some = ap (map part_of) are ∙ routed-kept ps ∙ ap (λ c. cond c (filter is_routed (map part_of ps)) (map part_of ps)) (sym some ∙ is)

pub telling-all : (ps : List rust_part.Part) (b : Bool) → b ≡ list_any is_routed (map part_of ps) → b ≡ false → map part_of ps ≡ most_telling (map part_of ps)
telling-all ps b is none = ap (λ c. cond c (filter is_routed (map part_of ps)) (map part_of ps)) (sym none ∙ is)

-- ---- the first parts with which a node shows its own

find-any : (test : Part → Bool) (xs : List Part) → is_some (find test xs) ≡ list_any test xs
find-any test [] = refl
find-any test (x ∷ xs) = by (test x) (find-any test xs)
  where
    by : (b : Bool) → is_some (find test xs) ≡ list_any test xs → is_some (cond b (Some x) (find test xs)) ≡ (b || list_any test xs)
    by true e = refl
    by false e = e

pub two-any : (test : Part → Part → Bool) (xs ys : List Part) → is_some (first_two test xs ys) ≡ list_any (λ x. list_any (test x) ys) xs
two-any test [] ys = refl
two-any test (x ∷ xs) ys = by (find (test x) ys) (list_any (test x) ys) (find-any (test x) ys) (two-any test xs ys)
  where
    by : (o : Option Part) (b : Bool) → is_some o ≡ b → is_some (first_two test xs ys) ≡ list_any (λ z. list_any (test z) ys) xs
        → is_some (or_else {X = Part × Part} (option_map {U = Part × Part} (λ y. (x, y)) o) (first_two test xs ys)) ≡ (b || list_any (λ z. list_any (test z) ys) xs)
    by (Some y) b e more = rw (sym e) refl
    by None b e more = rw (sym e) more

-- whether there is such a part
pub some-found : (test : Part → Bool) (xs : List rust_part.Part) (o : Option (Bor rust_part.Part)) → option_map (λ (p : Bor rust_part.Part). part_of p.now) o ≡ find test (map part_of xs) → is_some o ≡ list_any test (map part_of xs)
some-found test xs None e = ap is_some e ∙ find-any test (map part_of xs)
some-found test xs (Some p) e = ap is_some e ∙ find-any test (map part_of xs)

-- of a node on several workers
pub two-given : (catalog : ℕ → Relation) (p : Plan) (q : Part) (xs ys : List Part) → is_one (size p) ≡ false → is_some (first_two (is_given catalog p q) xs ys) ≡ list_any (λ x. list_any (gives_part catalog p q x) ys) xs
two-given catalog p q xs ys several = two-any (is_given catalog p q) xs ys ∙ ap (λ b. list_any (λ x. list_any (λ y. b || gives_part catalog p q x y) ys) xs) several

pub given-some : (o : Option (Part × Part)) (w : Part × Part) (b : Bool) (q : Part) → o ≡ Some w → is_some o ≡ b → q ∷ [] ≡ take 64 (cond b (q ∷ []) [])
given-some o w true q e h = refl
given-some o w false q e h = cc

pub given-none : (o : Option (Part × Part)) (b : Bool) (q : Part) → o ≡ None → is_some o ≡ b → [] ≡ take 64 (cond b (q ∷ []) [])
given-none o true q e h = cc
given-none o false q e h = refl
