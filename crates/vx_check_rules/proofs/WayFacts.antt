-- Ways that may be there.
use Rattle.std.proofs.Common.{◌≡◌, ℕ, ◌+◌, ◌<◌, Bool, true, false, ◌||◌, ◌&&◌, Option, Some, None, option_map, List, [], ◌∷◌, ◌++◌, flat_map, length, drop, get_or, refl, sym, ap, ◌∙◌}
use Rattle.std.specs.List.{list_any}
use Rattle.std.proofs.lemmas.List.{at_drop_more}
use Rattle.std.proofs.lemmas.List.Folds.{list_any-append}
use Rattle.std.specs.Prelude.{option_to_list}
use Rattle.vx_plan_nodes.specs.Plan.{Part, one, any, all, routed}
use Rattle.vx_plan_nodes.specs.Describe.{Copying}
use Rattle.vx_plan_nodes.specs.DescribeView.{copying_of}
use Rattle.vx_check_rules.specs.Rules.{if_some}
use Rattle.vx_check_rules.specs.Behaviour.{sources, Way, way, if_so, input_has, each_has, gives}
use Rattle.vx_check_rules.specs.WayView.{had_of, way_of}
use Rattle.vx_check_rules.specs.declared.ways.Had as rust_had
use Rattle.vx_check_rules.specs.declared.ways.Way as rust_way

pub any-flat : {X Y : Type 0} (test : Y → Bool) (f : X → List Y) (xs : List X) → list_any test (flat_map f xs) ≡ list_any (λ x. list_any test (f x)) xs
any-flat test f [] = refl
any-flat test f (x ∷ xs) = list_any-append test (f x) (flat_map f xs) ∙ ap (λ b. list_any test (f x) || b) (any-flat test f xs)

-- the list of the item at this place, and those behind it
any-here : {X Y : Type 0} (test : Y → Bool) (f : X → List Y) (xs : List X) (i : ℕ) (d : X) → i < length xs
    → list_any test (flat_map f (drop i xs)) ≡ (list_any test (f (get_or xs i d)) || list_any test (flat_map f (drop (i + 1) xs)))
any-here test f xs i d h = at_drop_more (λ ys. list_any test (flat_map f ys)) xs i d h ∙ list_any-append test (f (get_or xs i d)) (flat_map f (drop (i + 1) xs))

-- one of its members passes the test
pub any-found : {X Y : Type 0} (test : Y → Bool) (f : X → List Y) (xs : List X) (i : ℕ) (d : X) (b : Bool) → i < length xs → b ≡ list_any test (f (get_or xs i d)) → b ≡ true
    → list_any test (flat_map f (drop i xs)) ≡ true
any-found test f xs i d b h is has = any-here test f xs i d h ∙ ap (λ a. a || list_any test (flat_map f (drop (i + 1) xs))) (sym is ∙ has)

-- none does
pub any-later : {X Y : Type 0} (test : Y → Bool) (f : X → List Y) (xs : List X) (i : ℕ) (d : X) (b : Bool) → i < length xs → b ≡ list_any test (f (get_or xs i d)) → b ≡ false
    → list_any test (flat_map f (drop i xs)) ≡ list_any test (flat_map f (drop (i + 1) xs))
any-later test f xs i d b h is lacks = any-here test f xs i d h ∙ ap (λ a. a || list_any test (flat_map f (drop (i + 1) xs))) (sym is ∙ lacks)

-- a way of one input that is there where a test passes
pub way-same : (k : Copying) (a b : Bool) (h j : Bool × Part) → a ≡ b → h ≡ j → if_so a (way k (h ∷ []) ∷ []) ≡ if_so b (way k (j ∷ []) ∷ [])
way-same k a b h j e f = rw (e, f) refl

pub met : (a b c : Bool) (u v l r : Way)
    → if_so a (u ∷ []) ++ (if_so a (v ∷ []) ++ (if_so b (l ∷ []) ++ (if_so c (r ∷ []) ++ []))) ≡ if_so a (u ∷ v ∷ []) ++ (if_so b (l ∷ []) ++ if_so c (r ∷ []))
met true b true u v l r = refl
met true b false u v l r = refl
met false b true u v l r = refl
met false b false u v l r = refl

pub kept-met : (a b : Bool) (u l : Way) → if_so a (u ∷ []) ++ (if_so b (l ∷ []) ++ []) ≡ if_so a (u ∷ []) ++ if_so b (l ∷ [])
kept-met true true u l = refl
kept-met true false u l = refl
kept-met false true u l = refl
kept-met false false u l = refl

-- ---- ways of two inputs

both_true : (a b : Bool) → (a && (b && true)) ≡ ((a && true) && (b && true))
both_true true b = refl
both_true false b = refl

-- a way of two inputs gives what it gives of each alone
gives-both : (k : Copying) (h g : Bool × Part) (q : Part) → gives (way k (h ∷ g ∷ [])) q ≡ (gives (way k (h ∷ [])) q && gives (way k (g ∷ [])) q)
gives-both k h g one = refl
gives-both k h g any = both_true (input_has h any) (input_has g any)
gives-both k h g all = both_true (input_has h all) (input_has g all)
gives-both k h g (routed r cols) = by (sources k cols)
  where
    by : (o : Option (List ℕ)) → if_some o (λ cs. each_has (h ∷ g ∷ []) (routed r cs)) ≡ (if_some o (λ cs. each_has (h ∷ []) (routed r cs)) && if_some o (λ cs. each_has (g ∷ []) (routed r cs)))
    by None = refl
    by (Some cs) = both_true (input_has h (routed r cs)) (input_has g (routed r cs))

-- the first input does not give it, or it gives it alone, or with a second one
pub gives-not : (w : rust_way.Way) (q : Part) → gives (way (copying_of w.copying) (had_of w.first ∷ [])) q ≡ false → gives (way_of w) q ≡ false
gives-not w q lacks = by w.second
  where
    by : (o : Option rust_had.Had) → gives (way (copying_of w.copying) (had_of w.first ∷ option_to_list (option_map had_of o))) q ≡ false
    by None = lacks
    by (Some g) = gives-both (copying_of w.copying) (had_of w.first) (had_of g) q ∙ ap (λ b. b && gives (way (copying_of w.copying) (had_of g ∷ [])) q) lacks

pub gives-one : (w : rust_way.Way) (q : Part) → gives (way (copying_of w.copying) (had_of w.first ∷ [])) q ≡ true → w.second ≡ None → gives (way_of w) q ≡ true
gives-one w q has is = ap (λ o. gives (way (copying_of w.copying) (had_of w.first ∷ option_to_list (option_map had_of o))) q) is ∙ has

pub gives-two : (w : rust_way.Way) (g : rust_had.Had) (q : Part) → gives (way (copying_of w.copying) (had_of w.first ∷ [])) q ≡ true → w.second ≡ Some g
    → gives (way_of w) q ≡ gives (way (copying_of w.copying) (had_of g ∷ [])) q
gives-two w g q has is =
    ap (λ o. gives (way (copying_of w.copying) (had_of w.first ∷ option_to_list (option_map had_of o))) q) is
    ∙ (gives-both (copying_of w.copying) (had_of w.first) (had_of g) q ∙ ap (λ b. b && gives (way (copying_of w.copying) (had_of g ∷ [])) q) has)
