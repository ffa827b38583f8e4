-- Each kind of step keeps the rule of a deck.
use Rattle.std.proofs.Common.{◌≡◌, ℕ, ◌+◌, ◌^◌, ◌<◌, ◌≤◌, ◌==◌, Bool, true, false, nat_lt, cond, min, List, [], ◌∷◌, ◌++◌, set, refl, ap, subst, ◌∙◌, ⊎_elim, arith}
use Rattle.std.proofs.lemmas.Bool.{ltb-true, ltb-false, eqb-true, eqb-false, lt-ltb, le-ltb}
use mathlib.Core.Option.{some}
use lib.ListN.{get_elem?}
use Rattle.vx_morsel.specs.Draws.{Draws, times, once_below, Rises, AllAbove}
use Rattle.vx_morsel_decks.specs.Rule.{total, AllBelow, IsKept, weigh, one, end_of, FitsSeats, FitsAccount, drew, one_seat}
use Rattle.vx_morsel_decks.specs.declared.rule.Account.{Account}
use Rattle.vx_morsel_decks.specs.declared.rule.DeckSize.{DeckSize}
use Rattle.vx_morsel_decks.proofs.Sums.{sum-set, at-most-sum, sum-le}
use Rattle.atomic_table.proofs.Lists.{at_set}

pub if-cases : {A : Type 0} (P : A → Type 0) (b : Bool) (x y : A) → (b ≡ true → P x) → (b ≡ false → P y) → P (cond b x y)
if-cases P true x y t f = t refl
if-cases P false x y t f = f refl

pub times-snoc : (x : ℕ) (ys : List ℕ) (n : ℕ) → times x (ys ++ n ∷ []) ≡ times x ys + cond (n == x) 1 0
times-snoc x [] n = omega arith
times-snoc x (y ∷ ys) n = let h = times-snoc x ys n in omega arith

once-yes : (x n : ℕ) → x < n → once_below x n ≡ 1
once-yes x n h = ap (λ b. cond b 1 0) (lt-ltb x n h)

once-no : (x n : ℕ) → n ≤ x → once_below x n ≡ 0
once-no x n h = ap (λ b. cond b 1 0) (le-ltb x n h)

-- one number more below the bound
pub below-next : (x n : ℕ) → once_below x (n + 1) ≡ once_below x n + cond (n == x) 1 0
below-next x n =
    if-cases (λ k. once_below x (n + 1) ≡ once_below x n + k) (n == x) 1 0
    (λ e. let is = eqb-true n x e in let a = once-yes x (n + 1) (omega arith) in let b = once-no x n (omega arith) in omega arith)
    (λ e. let ne = eqb-false n x e in
    if-cases (λ k. once_below x (n + 1) ≡ k + 0) (nat_lt x n) 1 0
    (λ t. let lt = ltb-true x n t in let a = once-yes x (n + 1) (omega arith) in omega arith)
    (λ t. let ge = ltb-false x n t in let gt : n < x = omega arith in let a = once-no x (n + 1) (omega arith) in omega arith))

pub not-below : (x n : ℕ) → 0 < once_below x n → x < n
not-below x n = if-cases (λ k. 0 < k → x < n) (nat_lt x n) 1 0 (λ t p. ltb-true x n t) (λ t p. absurd (omega arith))

here : (y : ℕ) (ys : List ℕ) → 0 < times y (y ∷ ys)
here y ys = if-cases (λ k. 0 < k + times y ys) (y == y) 1 0 (λ e. omega arith) (λ e. absurd (eqb-false y y e refl))

-- numbers of which each stands somewhere below the bound
pub all-below : (n : ℕ) (ys : List ℕ) → ((x : ℕ) → 0 < times x ys → x < n) → AllBelow n ys
all-below n [] h = tt
all-below n (y ∷ ys) h = (h y (here y ys), all-below n ys (λ x p. h x (omega arith)))

above-snoc : (x : ℕ) (ys : List ℕ) (n : ℕ) → AllAbove x ys → x < n → AllAbove x (ys ++ n ∷ [])
above-snoc x [] n a h = (h, tt)
above-snoc x (y ∷ ys) n a h = (a.0, above-snoc x ys n a.1 h)

pub rises-snoc : (ys : List ℕ) (n : ℕ) → Rises ys → AllBelow n ys → Rises (ys ++ n ∷ [])
rises-snoc [] n r a = (tt, tt)
rises-snoc (y ∷ ys) n r a = (above-snoc y ys n r.0 a.0, rises-snoc ys n r.1 a.1)

-- what fits, fits after more tries
fits-later : (m w w' : ℕ) (hs : List Draws) → w ≤ w' → FitsSeats m w hs → FitsSeats m w' hs
fits-later m w w' [] le f = tt
fits-later m w w' (h ∷ hs) le f = (f.0, (λ e. let p = f.1 e in omega arith), fits-later m w w' hs le f.2)

-- what a seat drew so far is below the number of tries
pub drawn-below : (size : DeckSize) (w : ℕ) (views : List Account) (id : ℕ) (h : Draws) → get_elem? views id ≡ some (one_seat size.morsels h) → w < size.morsels → IsKept size w views → AllBelow w h.numbers
drawn-below size w views id h at lt k = all-below w h.numbers (λ x p.
    let le = at-most-sum (weigh (λ g. times x g.numbers)) views id (one_seat size.morsels h) at in
    let e = k.each x in let m : min w size.morsels ≡ w = omega arith in
    not-below x w (let e' : total (weigh (λ g. times x g.numbers)) views ≡ once_below x w = e ∙ ap (once_below x) m in omega arith))

fits-set : (size : DeckSize) (w : ℕ) (views : List Account) (id : ℕ) (h : Draws) → FitsSeats size.morsels (w + 1) (h ∷ []) → IsKept size w views → (k : ℕ) (v : Account) → get_elem? (set views id (one_seat size.morsels h)) k ≡ some v → FitsAccount size.morsels (w + 1) v
fits-set size w views id h new kept k v e =
    let P : Account → Type 0 = FitsAccount size.morsels (w + 1) in
    ⊎_elim (λ t. subst P t.1 new) (λ t. fits-later size.morsels w (w + 1) v.seats (omega arith) (kept.fits k v t.1)) (at_set views id k (one_seat size.morsels h) v e)

-- a try below the bound gives its number
pub keeps-drawn : (size : DeckSize) (w : ℕ) (views : List Account) (id : ℕ) (h : Draws) → get_elem? views id ≡ some (one_seat size.morsels h) → h.met_end ≡ false → w < size.morsels → IsKept size w views
    → IsKept size (w + 1) (set views id (one_seat size.morsels (record { numbers = h.numbers ++ w ∷ []; met_end = h.met_end })))
keeps-drawn size w views id h at going lt k =
    let v = one_seat size.morsels h in let h' : Draws = record { numbers = h.numbers ++ w ∷ []; met_end = h.met_end } in let v' = one_seat size.morsels h' in
    let old : FitsAccount size.morsels w v = k.fits id v at in
    record {
      small = k.small;
      seats = (let s = sum-set (weigh one) views id v v' at in let n = k.seats in omega arith);
      each = (λ x.
          let s = sum-set (weigh (λ g. times x g.numbers)) views id v v' at in
          let e : total (weigh (λ g. times x g.numbers)) views ≡ once_below x w = (let m : min w size.morsels ≡ w = omega arith in k.each x ∙ ap (once_below x) m) in
          let t = times-snoc x h.numbers w in let b = below-next x w in
          let m' : w + 1 ≡ min (w + 1) size.morsels = omega arith in
          let goal : total (weigh (λ g. times x g.numbers)) (set views id v') ≡ once_below x (w + 1) = omega arith in
          goal ∙ ap (once_below x) m');
      fits = fits-set size w views id h' (rises-snoc h.numbers w old.0 (drawn-below size w views id h at lt k), (λ e. let p = old.1 e in omega arith), tt) k;
      tries = omega arith;
    }

-- a try at the bound or above it tells the end
pub keeps-end : (size : DeckSize) (w : ℕ) (views : List Account) (id : ℕ) (h : Draws) → get_elem? views id ≡ some (one_seat size.morsels h) → h.met_end ≡ false → size.morsels ≤ w → IsKept size w views
    → IsKept size (w + 1) (set views id (one_seat size.morsels (record { numbers = h.numbers; met_end = true })))
keeps-end size w views id h at going ge k =
    let v = one_seat size.morsels h in let h' : Draws = record { numbers = h.numbers; met_end = true } in let v' = one_seat size.morsels h' in
    let old : FitsAccount size.morsels w v = k.fits id v at in
    record {
      small = k.small;
      seats = (let s = sum-set (weigh one) views id v v' at in let n = k.seats in omega arith);
      each = (λ x.
          let s = sum-set (weigh (λ g. times x g.numbers)) views id v v' at in
          let e = k.each x in
          let m : min w size.morsels ≡ min (w + 1) size.morsels = omega arith in
          let goal : total (weigh (λ g. times x g.numbers)) (set views id v') ≡ once_below x (min w size.morsels) = omega arith in
          goal ∙ ap (once_below x) m);
      fits = fits-set size w views id h' (old.0, (λ e. omega arith), tt) k;
      tries = (let s = sum-set (weigh end_of) views id v v' at in let z : end_of h ≡ 0 = ap (λ b. cond b 1 0) going in let t = k.tries in omega arith);
    }

end-le : (h : Draws) → end_of h ≤ one h
end-le h = if-cases (λ k. k ≤ 1) h.met_end 1 0 (λ e. omega arith) (λ e. omega arith)

-- the number of tries never wraps
pub no-wrap : (size : DeckSize) (w : ℕ) (views : List Account) → IsKept size w views → w < 2 ^ 63
no-wrap size w views k =
    let le = sum-le (weigh end_of) (weigh one) (λ v. sum-le end_of one end-le v.seats) views in
    let s = k.seats in let t = k.tries in let m = k.small in omega arith

pub keeps-draw : (size : DeckSize) (w : ℕ) (views : List Account) (id : ℕ) (h : Draws) → get_elem? views id ≡ some (one_seat size.morsels h) → h.met_end ≡ false → IsKept size w views
    → IsKept size (w + 1) (set views id (one_seat size.morsels (drew size.morsels w h)))
keeps-draw size w views id h at going k =
    if-cases (λ g. IsKept size (w + 1) (set views id (one_seat size.morsels g))) (nat_lt w size.morsels) (record { numbers = h.numbers ++ w ∷ []; met_end = h.met_end }) (record { numbers = h.numbers; met_end = true })
    (λ e. keeps-drawn size w views id h at going (ltb-true w size.morsels e) k)
    (λ e. keeps-end size w views id h at going (ltb-false w size.morsels e) k)
