-- Lists one behind the other, and where each of them lies.
use Rattle.std.proofs.Common.{ℕ, zero, suc, ◌≡◌, ◌+◌, ◌-◌, ◌<◌, ◌≤◌, List, [], ◌∷◌, ◌++◌, length, map, get_or, take, refl, sym, ap, ◌∙◌, subst, arith, length-append, Vec, Global, All}
use Rattle.std.specs.List.{flat_map}
use Rattle.std.specs.Prelude.{slice_range}
use Rattle.std.proofs.lemmas.List.{take_at, get_or-map, take_more, append-nil}
use Rattle.std.proofs.lemmas.List.Concat.{flat_map-append}
use Rattle.std.proofs.lemmas.List.Elements.{All-append}
use Rattle.vx_rows.specs.View.{ArePositions}
use Rattle.vx_rows.proofs.Splice.{part_after}
use Rattle.vx_rows_views.proofs.Facts.{map-slice}
use Rattle.vx_exchange.proofs.PlaceFacts.{lists}

-- the lists
abbrev pub joined : List (Vec ℕ Global) → List ℕ
joined vs = flat_map (λ v. v.items) vs

-- where the list of a consumer begins
abbrev pub start : ℕ → List (Vec ℕ Global) → ℕ
start k vs = length (joined (take k vs))

pub start-first : (vs : List (Vec ℕ Global)) → 0 ≡ start 0 vs
start-first [] = refl
start-first (v ∷ vs) = refl

-- the first elements, and one more
pub joined-next : (vs : List (Vec ℕ Global)) (k : ℕ) (v : Vec ℕ Global) → k < length vs → v ≡ get_or vs k v → joined (take (k + 1) vs) ≡ joined (take k vs) ++ v.items
joined-next vs k v near is =
    let f : Vec ℕ Global → List ℕ = λ z. z.items in
    ap joined (take_more vs k v near)
    ∙ (flat_map-append f (take k vs) (get_or vs k v ∷ [])
    ∙ (ap (λ zs. joined (take k vs) ++ zs) (append-nil (f (get_or vs k v))) ∙ ap (λ (z : Vec ℕ Global). joined (take k vs) ++ z.items) (sym is)))

-- where the next list begins
pub start-next : (vs : List (Vec ℕ Global)) (k : ℕ) (v : Vec ℕ Global) → k < length vs → v ≡ get_or vs k v → start (k + 1) vs ≡ start k vs + length v.items
start-next vs k v near is = ap length (joined-next vs k v near is) ∙ length-append (joined (take k vs)) v.items

pub start-within : (k : ℕ) (vs : List (Vec ℕ Global)) → start k vs ≤ length (joined vs)
start-within zero [] = omega arith
start-within zero (v ∷ vs) = omega arith
start-within (suc k) [] = omega arith
start-within (suc k) (v ∷ vs) =
    let more = start-within k vs in
    let a = length-append v.items (joined (take k vs)) in
    let b = length-append v.items (joined vs) in
    omega (arith, more, a, b)

-- what lies there
pub part-here : (vs : List (Vec ℕ Global)) (k : ℕ) (v : Vec ℕ Global) → k < length vs → v ≡ get_or vs k v → slice_range (joined vs) (start k vs) (start k vs + length v.items) ≡ v.items
part-here [] k v near is = absurd (omega (arith, near))
part-here (w ∷ vs) zero v near is =
    let n = length v.items in
    let P : Vec ℕ Global → Type 0 = λ z. slice_range (z.items ++ joined vs) 0 (0 + n) ≡ v.items in
    let all : (0 + n) - 0 ≡ n = omega arith in
    subst P is (ap (λ i. take i (v.items ++ joined vs)) all ∙ take_at v.items (joined vs) n refl)
part-here (w ∷ vs) (suc k) v near is =
    let a = start k vs in
    let n = length v.items in
    let m : length (w.items ++ joined (take k vs)) ≡ length w.items + a = length-append w.items (joined (take k vs)) in
    let e : (length w.items + a) + n ≡ length w.items + (a + n) = omega arith in
    ap (λ i. slice_range (w.items ++ joined vs) i (i + n)) m
    ∙ (ap (λ i. slice_range (w.items ++ joined vs) (length w.items + a) i) e
    ∙ (part_after w.items (joined vs) (length w.items) a (a + n) refl ∙ part-here vs k v (omega (arith, near)) is))

-- it ends there too
pub part-within : (vs : List (Vec ℕ Global)) (k : ℕ) (v : Vec ℕ Global) → k < length vs → v ≡ get_or vs k v → start k vs + length v.items ≤ length (joined vs)
part-within vs k v near is = let next = start-next vs k v near is in let within = start-within (k + 1) vs in omega (arith, next, within)

-- what lies at the places there
pub part-rows : {Y : Type 0} (g : ℕ → Y) (vs : List (Vec ℕ Global)) (k : ℕ) (v : Vec ℕ Global) → k < length vs → v ≡ get_or vs k v
    → slice_range (map g (joined vs)) (start k vs) (start k vs + length v.items) ≡ map g (get_or (lists vs) k [])
part-rows g vs k v near is =
    let a = start k vs in
    let f : Vec ℕ Global → List ℕ = λ z. z.items in
    sym (map-slice g (joined vs) a (a + length v.items) (omega arith) (part-within vs k v near is))
    ∙ ap (map g) (part-here vs k v near is ∙ (ap f is ∙ sym (get_or-map f vs k v [] near)))

-- all are positions
pub joined-positions : (n : ℕ) (vs : List (Vec ℕ Global)) → All (ArePositions n) (lists vs) → ArePositions n (joined vs)
joined-positions n [] h = λ k d l. absurd (omega (arith, l))
joined-positions n (v ∷ vs) h =
    All-append (λ i. i < n) v.items (joined vs) (h zero [] (omega arith)) (joined-positions n vs (λ k d l. h (suc k) d (omega (arith, l))))
