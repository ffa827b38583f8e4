-- What seats draw from a deck is dealt out.
use Rattle.std.proofs.Common.{◌≡◌, ℕ, ◌+◌, ◌<◌, ◌≤◌, ◌==◌, true, false, cond, ◌||◌, Option, Some, None, List, [], ◌∷◌, length, zero, suc, refl, sym, ap, ◌∙◌, subst, arith, true≢false}
use Rattle.std.proofs.lemmas.Bool.Decides.{nat_tests}
use Rattle.vx_morsel.specs.Draws.{Draws, times, once_below, AllAbove, AllRise, any_ended, drawn_times}
use Rattle.vx_morsel.specs.Hands.{DeckState, DeckDraws}
use Rattle.vx_morsel.specs.Dealing.{Drawn, new_deck, Deals, AreSeated, idle_seats, drew_first, drawn_by_seats, DeckDealsOut}

-- each number of the list is k or more
abbrev AllFrom : ℕ → List ℕ → Type 0
AllFrom k [] = Unit {0}
AllFrom k (y ∷ ys) = (k ≤ y) × AllFrom k ys

abbrev EachFrom : ℕ → List Draws → Type 0
EachFrom k [] = Unit {0}
EachFrom k (h ∷ hs) = AllFrom k h.numbers × EachFrom k hs

-- what the seats drew from a deck that had dealt out the numbers below k, and then those below t
record Drew (m k t : ℕ) (hs : List Draws) : Type 0 where
  rise : AllRise hs
  from : EachFrom k hs
  each : (x : ℕ) → once_below x k + drawn_times x hs ≡ once_below x t
  low : k ≤ t
  most : t ≤ m
  ended : any_ended hs ≡ true → t ≡ m

above-from : (k : ℕ) (xs : List ℕ) → AllFrom (k + 1) xs → AllAbove k xs
above-from k [] h = tt
above-from k (x ∷ xs) h = (omega (arith, h.0), above-from k xs h.1)

from-less : (k : ℕ) (xs : List ℕ) → AllFrom (k + 1) xs → AllFrom k xs
from-less k [] h = tt
from-less k (x ∷ xs) h = (omega (arith, h.0), from-less k xs h.1)

each-less : (k : ℕ) (hs : List Draws) → EachFrom (k + 1) hs → EachFrom k hs
each-less k [] h = tt
each-less k (x ∷ hs) h = (from-less k x.numbers h.0, each-less k hs h.1)

once-more : (x k : ℕ) → once_below x (k + 1) ≡ once_below x k + cond (k == x) 1 0
once-more x k = grind (arith, nat_tests)

none-below : (x : ℕ) → once_below x 0 ≡ 0
none-below x = grind (arith, nat_tests)

idle-rise : (n : ℕ) → AllRise (idle_seats n)
idle-rise zero = tt
idle-rise (suc n) = (tt, idle-rise n)

idle-from : (k n : ℕ) → EachFrom k (idle_seats n)
idle-from k zero = tt
idle-from k (suc n) = (tt, idle-from k n)

idle-times : (x n : ℕ) → drawn_times x (idle_seats n) ≡ 0
idle-times x zero = refl
idle-times x (suc n) = let e = idle-times x n in omega (arith, e)

idle-ended : (n : ℕ) → any_ended (idle_seats n) ≡ false
idle-ended zero = refl
idle-ended (suc n) = idle-ended n

idle-length : (n : ℕ) → length (idle_seats n) ≡ n
idle-length zero = refl
idle-length (suc n) = ap suc (idle-length n)

drew-length : (w : ℕ) (o : Option ℕ) (hs : List Draws) → length (drew_first w o hs) ≡ length hs
drew-length w o [] = refl
drew-length zero (Some x) (h ∷ hs) = refl
drew-length zero None (h ∷ hs) = refl
drew-length (suc w) o (h ∷ hs) = ap suc (drew-length w o hs)

seats-length : (n : ℕ) (xs : List Drawn) → length (drawn_by_seats n xs) ≡ n
seats-length n [] = idle-length n
seats-length n (x ∷ xs) = drew-length x.seat x.answer (drawn_by_seats n xs) ∙ seats-length n xs

drew-times : (x y w : ℕ) (hs : List Draws) → w < length hs → drawn_times x (drew_first w (Some y) hs) ≡ cond (y == x) 1 0 + drawn_times x hs
drew-times x y w [] l = absurd (omega arith)
drew-times x y zero (h ∷ hs) l = omega arith
drew-times x y (suc w) (h ∷ hs) l = let e = drew-times x y w hs (omega arith) in omega (arith, e)

ended-times : (x w : ℕ) (hs : List Draws) → drawn_times x (drew_first w None hs) ≡ drawn_times x hs
ended-times x w [] = refl
ended-times x zero (h ∷ hs) = refl
ended-times x (suc w) (h ∷ hs) = ap (λ z. times x h.numbers + z) (ended-times x w hs)

drew-rise : (k w : ℕ) (hs : List Draws) → AllRise hs → EachFrom (k + 1) hs → AllRise (drew_first w (Some k) hs)
drew-rise k w [] r f = tt
drew-rise k zero (h ∷ hs) r f = ((above-from k h.numbers f.0, r.0), r.1)
drew-rise k (suc w) (h ∷ hs) r f = (r.0, drew-rise k w hs r.1 f.1)

drew-from : (k w : ℕ) (hs : List Draws) → EachFrom (k + 1) hs → EachFrom k (drew_first w (Some k) hs)
drew-from k w [] f = tt
drew-from k zero (h ∷ hs) f = ((omega arith, from-less k h.numbers f.0), each-less k hs f.1)
drew-from k (suc w) (h ∷ hs) f = (from-less k h.numbers f.0, drew-from k w hs f.1)

drew-ended : (k w : ℕ) (hs : List Draws) → any_ended (drew_first w (Some k) hs) ≡ any_ended hs
drew-ended k w [] = refl
drew-ended k zero (h ∷ hs) = refl
drew-ended k (suc w) (h ∷ hs) = ap (λ z. h.met_end || z) (drew-ended k w hs)

end-rise : (w : ℕ) (hs : List Draws) → AllRise hs → AllRise (drew_first w None hs)
end-rise w [] r = tt
end-rise zero (h ∷ hs) r = r
end-rise (suc w) (h ∷ hs) r = (r.0, end-rise w hs r.1)

end-from : (k w : ℕ) (hs : List Draws) → EachFrom k hs → EachFrom k (drew_first w None hs)
end-from k w [] f = tt
end-from k zero (h ∷ hs) f = f
end-from k (suc w) (h ∷ hs) f = (f.0, end-from k w hs f.1)

-- a seat drew the number k, and then the seats drew the others
drew-some : (m k t w : ℕ) (hs : List Draws) → w < length hs → Drew m (k + 1) t hs → Drew m k t (drew_first w (Some k) hs)
drew-some m k t w hs l h = record {
  rise = drew-rise k w hs h.rise h.from;
  from = drew-from k w hs h.from;
  each = λ x. let a = drew-times x k w hs l in let b = once-more x k in let c = h.each x in omega (arith, a, b, c);
  low = omega (arith, h.low);
  most = h.most;
  ended = λ e. h.ended (sym (drew-ended k w hs) ∙ e);
}

-- a seat met the end, and then nothing more was drawn
drew-none : (m t w : ℕ) (hs : List Draws) → Drew m m t hs → Drew m m t (drew_first w None hs)
drew-none m t w hs h = record {
  rise = end-rise w hs h.rise;
  from = end-from m w hs h.from;
  each = λ x. ap (λ z. once_below x m + z) (ended-times x w hs) ∙ h.each x;
  low = h.low;
  most = h.most;
  ended = λ e. let a = h.low in let b = h.most in omega (arith, a, b);
}

drew : (n : ℕ) (xs : List Drawn) (d e : DeckState) → AreSeated n xs → d.next ≤ d.morsels → Deals d xs e → Drew d.morsels d.next e.next (drawn_by_seats n xs)
drew n [] d e s l deals =
    let P : DeckState → Type 0 = λ z. Drew d.morsels d.next z.next (idle_seats n) in
    subst P (sym deals) (record {
      rise = idle-rise n;
      from = idle-from d.next n;
      each = λ x. let a = idle-times x n in omega (arith, a);
      low = omega arith;
      most = l;
      ended = λ f. absurd (true≢false (sym f ∙ idle-ended n));
    })
drew n (x ∷ xs) d e s l (c, draws, deals) = go x.answer draws (λ z h g. drew n xs z e s.1 h g)
  where
    go : (o : Option ℕ) → DeckDraws d o c
        → ((z : DeckState) → z.next ≤ z.morsels → Deals z xs e → Drew z.morsels z.next e.next (drawn_by_seats n xs))
        → Drew d.morsels d.next e.next (drew_first x.seat o (drawn_by_seats n xs))
    go (Some y) (is, below, after) rest_of =
        let P : DeckState → Type 0 = λ z. Deals z xs e in
        let one_more : DeckState = record { morsels = d.morsels; next = d.next + 1 } in
        let rest : Drew d.morsels (d.next + 1) e.next (drawn_by_seats n xs) = rest_of one_more (omega (arith, below)) (subst P after deals) in
        let Q : ℕ → Type 0 = λ z. Drew d.morsels d.next e.next (drew_first x.seat (Some z) (drawn_by_seats n xs)) in
        let seated : x.seat < length (drawn_by_seats n xs) = let a = seats-length n xs in let b = s.0 in omega (arith, a, b) in
        subst Q (sym is) (drew-some d.morsels d.next e.next x.seat (drawn_by_seats n xs) seated rest)
    go None (end, same) rest_of =
        let P : DeckState → Type 0 = λ z. Deals z xs e in
        let rest : Drew d.morsels d.next e.next (drawn_by_seats n xs) = rest_of d l (subst P same deals) in
        let Q : ℕ → Type 0 = λ z. Drew d.morsels z e.next (drawn_by_seats n xs) in
        let R : ℕ → Type 0 = λ z. Drew d.morsels z e.next (drew_first x.seat None (drawn_by_seats n xs)) in
        subst R (sym end) (drew-none d.morsels e.next x.seat (drawn_by_seats n xs) (subst Q end rest))

pub deck-deals-out : DeckDealsOut
deck-deals-out m n xs e s deals =
    let h = drew n xs (new_deck m) e s (omega arith) deals in
    record {
      rise = h.rise;
      each = λ x. let a = none-below x in let b = h.each x in omega (arith, a, b);
      most = h.most;
      ended = h.ended;
    }
