-- A set of texts that were seen: what it holds once the next one is in.
use Rattle.std.proofs.Common.{◌≡◌, ℕ, ◌+◌, ◌<◌, List, [], ◌∷◌, Bool, true, false, cond, not, ◌||◌, refl, sym, ap, ◌∙◌, map, get_or, take, length, bytes_eq}
use Rattle.std.specs.List.{list_any}
use Rattle.std.specs.Ordering.{nat_cmp}
use Rattle.std.specs.Cmp.Lexicographic.{slice_cmp}
use Rattle.std.specs.BTreeSet.{BTreeSet, contains_by, UpdatesBy}
use Rattle.std.proofs.lemmas.List.Folds.{list_any-append}
use Rattle.std.proofs.lemmas.Map.Text.{is_eq-slice_cmp}
use Rattle.std.proofs.lemmas.Cmp.{nat_list_eq_equiv}
use denote.Ref.{Bor}
use Rattle.vx_plan.proofs.TestFacts.{taken_more}

-- whether a set of texts holds these bytes
abbrev pub has_text : BTreeSet (Bor (List ℕ)) → List ℕ → Bool
has_text s bs = contains_by (λ k. slice_cmp nat_cmp bs k.now) s

-- once a text is in, the set holds it beside those from before
pub has-text-after : (s n : BTreeSet (Bor (List ℕ))) (key : Bor (List ℕ)) → UpdatesBy (λ x y. slice_cmp nat_cmp x.now y.now) (λ k. slice_cmp nat_cmp key.now k.now) s n true
    → (bs : List ℕ) → has_text n bs ≡ (has_text s bs || (bytes_eq bs key.now || false))
has-text-after s n key h bs =
    h.0 (record { ref_ptr = (0, 0); now = bs })
    ∙ (ap (λ b. cond b true (has_text s bs)) (is_eq-slice_cmp key.now bs ∙ nat_list_eq_equiv.symm key.now bs) ∙ turned (bytes_eq bs key.now) (has_text s bs))
  where
    turned : (a b : Bool) → cond a true b ≡ (b || (a || false))
    turned true true = refl
    turned true false = refl
    turned false true = refl
    turned false false = refl

-- a set that holds the texts of some first elements, once the text of the next element is in
pub seen-more : {A X : Type 0} (name_of : A → List ℕ) (look : X → A) (xs : List X) (k : ℕ) (x : X) (s n : BTreeSet (Bor (List ℕ))) (key : Bor (List ℕ)) → k < length xs → x ≡ get_or xs k x → key.now ≡ name_of (look x)
    → UpdatesBy (λ x y. slice_cmp nat_cmp x.now y.now) (λ k. slice_cmp nat_cmp key.now k.now) s n true
    → ((bs : List ℕ) → has_text s bs ≡ list_any (λ a. bytes_eq bs (name_of a)) (map look (take k xs)))
    → (bs : List ℕ) → has_text n bs ≡ list_any (λ a. bytes_eq bs (name_of a)) (map look (take (k + 1) xs))
seen-more name_of look xs k x s n key h e same u seen bs =
    has-text-after s n key u bs
    ∙ ((λ j. seen bs j || (bytes_eq bs (same j) || false))
    ∙ sym (ap (list_any (λ a. bytes_eq bs (name_of a))) (taken_more look xs k x h e) ∙ list_any-append (λ a. bytes_eq bs (name_of a)) (map look (take k xs)) (look x ∷ [])))

-- whether the text of the next element is among those before it: just where the set, which holds those, did not take it in as new
pub seen-before : {A X : Type 0} (name_of : A → List ℕ) (look : X → A) (xs : List X) (k : ℕ) (x : X) (s : BTreeSet (Bor (List ℕ))) (key : Bor (List ℕ)) (is_new : Bool) → key.now ≡ name_of (look x) → is_new ≡ not (has_text s key.now)
    → ((bs : List ℕ) → has_text s bs ≡ list_any (λ a. bytes_eq bs (name_of a)) (map look (take k xs)))
    → list_any (λ a. bytes_eq (name_of (look x)) (name_of a)) (map look (take k xs)) ≡ not is_new
seen-before name_of look xs k x s key is_new same h seen = sym (seen (name_of (look x))) ∙ (sym (ap (has_text s) same) ∙ turned (has_text s key.now) is_new h)
  where
    turned : (a b : Bool) → b ≡ not a → a ≡ not b
    turned true b e = ap not (sym e)
    turned false b e = ap not (sym e)
