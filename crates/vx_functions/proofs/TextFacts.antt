-- Texts that begin with others, and that stand in them.
use Rattle.std.proofs.Common.{◌≡◌, ℕ, ◌==◌, Bool, true, false, ◌&&◌, ◌||◌, List, [], ◌∷◌, ◌++◌, refl, sym, ap, ap₂, ◌∙◌, true≢false, eqb-true, eq-eqb}
use Rattle.std.specs.List.{starts_with}
use Rattle.std.specs.Str.Iter.{HasSubslice}
use Rattle.vx_rows_values.proofs.Booleans.{and-left, and-right, and-both}
use Rattle.vx_functions.specs.Texts.{begins, stands_in}

pub begins-is : (front text : List ℕ) → starts_with (λ x y. x == y) text front ≡ begins front text
begins-is [] text = refl
begins-is (x ∷ front) [] = refl
begins-is (x ∷ front) (y ∷ text) = ap (λ b. (x == y) && b) (begins-is front text)

-- a text begins with what it begins with
begins-front : (front rest : List ℕ) → begins front (front ++ rest) ≡ true
begins-front [] rest = refl
begins-front (x ∷ front) rest = and-both (x == x) (begins front (front ++ rest)) (eq-eqb x x refl) (begins-front front rest)

front-of : (front text : List ℕ) → begins front text ≡ true → (rest : List ℕ) × (text ≡ front ++ rest)
front-of [] text h = (text, refl)
front-of (x ∷ front) [] h = absurd (true≢false (sym h))
front-of (x ∷ front) (y ∷ text) h =
    let more = front-of front text (and-right (x == y) (begins front text) h) in
    let same : x ≡ y = eqb-true x y (and-left (x == y) (begins front text) h) in
    (more.0, ap₂ (λ z zs. z ∷ zs) (sym same) more.1)

or-first : (a b : Bool) → a ≡ true → (a || b) ≡ true
or-first true b h = refl
or-first false b h = absurd (true≢false (sym h))

or-second : (a b : Bool) → b ≡ true → (a || b) ≡ true
or-second true b h = refl
or-second false b h = h

stands-front : (part text : List ℕ) → begins part text ≡ true → stands_in part text ≡ true
stands-front part [] h = h
stands-front part (y ∷ text) h = or-first (begins part (y ∷ text)) (stands_in part text) h

stands-at : (part a b : List ℕ) → stands_in part (a ++ (part ++ b)) ≡ true
stands-at part [] b = stands-front part (part ++ b) (begins-front part b)
stands-at part (x ∷ a) b = or-second (begins part (x ∷ (a ++ (part ++ b)))) (stands_in part (a ++ (part ++ b))) (stands-at part a b)

pub stands : (part text : List ℕ) → HasSubslice text part → stands_in part text ≡ true
stands part text h = ap (stands_in part) h.2 ∙ stands-at part h.0 h.1

pub stands-where : (part text : List ℕ) → stands_in part text ≡ true → HasSubslice text part
stands-where part [] h = let f = front-of part [] h in ([], f.0, f.1)
stands-where part (y ∷ text) h = by (λ k. stands-where part text k) (begins part (y ∷ text)) refl h
  where
    by : (stands_in part text ≡ true → HasSubslice text part) → (b : Bool) → begins part (y ∷ text) ≡ b → (b || stands_in part text) ≡ true → HasSubslice (y ∷ text) part
    by below true e k = let f = front-of part (y ∷ text) e in ([], f.0, f.1)
    by below false e k = let more = below k in (y ∷ more.0, more.1, ap (λ xs. y ∷ xs) more.2)

pub same-test : (a b : Bool) → (a ≡ true → b ≡ true) → (b ≡ true → a ≡ true) → a ≡ b
same-test true b f g = sym (f refl)
same-test false true f g = g refl
same-test false false f g = refl
