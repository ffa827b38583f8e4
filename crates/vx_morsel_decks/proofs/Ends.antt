-- A deck that begins, a view that is dealt to two seats, two that become one, and the last of all.
use Rattle.std.proofs.Common.{◌≡◌, ℕ, zero, suc, ◌+◌, ◌^◌, ◌<◌, ◌≤◌, ◌||◌, Bool, true, false, min, List, [], ◌∷◌, ◌++◌, length, set, take, drop, replicate, refl, sym, ap, subst, ◌∙◌, ⊎_elim, arith, rules}
use Rattle.std.specs.Prelude.{nat_lt}
use Rattle.std.proofs.lemmas.Bool.{ltb-true}
use mathlib.Core.Option.{some, some-injective, some-ne-none}
use lib.ListN.{get_elem?}
use Rattle.atomic_table.specs.Table.{Splits, Joins}
use Rattle.vx_morsel.specs.Draws.{Draws, times, once_below, AllRise, any_ended, drawn_times, DealtOut}
use Rattle.vx_morsel_decks.specs.Rule.{total, Holds, IsKept, weigh, one, end_of, FitsSeats, FitsAccount, no_draws, first_account, left_of, right_of, both_of, spent_account}
use Rattle.vx_morsel_decks.specs.declared.rule.Account.{Account}
use Rattle.vx_morsel_decks.specs.declared.rule.DeckSize.{DeckSize}
use Rattle.vx_morsel_decks.proofs.Sums.{sum-set, sum-snoc, sum-append, sum-one}
use Rattle.vx_morsel_decks.proofs.Keeps.{if-cases}
use Rattle.atomic_table.proofs.Lists.{at_set, at_snoc}

keeps-same : (size : DeckSize) (w : ℕ) (views views' : List Account) → ((f : Draws → ℕ) → total (weigh f) views' ≡ total (weigh f) views) → ((k : ℕ) (v : Account) → get_elem? views' k ≡ some v → FitsAccount size.morsels w v) → IsKept size w views → IsKept size w views'
keeps-same size w views views' same fits k = record {
  small = k.small;
  seats = same one ∙ k.seats;
  each = λ x. same (λ h. times x h.numbers) ∙ k.each x;
  fits = fits;
  tries = (let s = same end_of in let t = k.tries in omega arith);
}

total-none : (f : Draws → ℕ) (n : ℕ) → f no_draws ≡ 0 → total f (replicate n no_draws) ≡ 0
total-none f zero z = refl
total-none f (suc n) z = let h = total-none f n z in omega arith

total-ones : (n : ℕ) → total one (replicate n no_draws) ≡ n
total-ones zero = refl
total-ones (suc n) = let h = total-ones n in omega arith

fits-none : (m w n : ℕ) → FitsSeats m w (replicate n no_draws)
fits-none m w zero = tt
fits-none m w (suc n) = (tt, (λ e. absurd (grind rules)), fits-none m w n)

fits-first : (size : DeckSize) (k : ℕ) (v : Account) → get_elem? (first_account size ∷ []) k ≡ some v → FitsAccount size.morsels 0 v
fits-first size zero v e = let P : Account → Type 0 = FitsAccount size.morsels 0 in subst P (some-injective (first_account size) v e) (fits-none size.morsels 0 size.seats)
fits-first size (suc k) v e = absurd (some-ne-none v (sym e))

nothing-below : (x : ℕ) → once_below x 0 ≡ 0
nothing-below x = if-cases (λ k. k ≡ 0) (nat_lt x 0) 1 0 (λ e. absurd (let h = ltb-true x 0 e in omega arith)) (λ e. refl)

pub begins : (size : DeckSize) → size.morsels + size.seats < 2 ^ 63 → IsKept size 0 (first_account size ∷ [])
begins size small = record {
  small = small;
  seats = (let h = total-ones size.seats in omega arith);
  each = λ x. (let h = total-none (λ h. times x h.numbers) size.seats refl in let m : 0 ≡ min 0 size.morsels = omega arith in let z : total (weigh (λ g. times x g.numbers)) (first_account size ∷ []) ≡ once_below x 0 = (let o = nothing-below x in omega arith) in z ∙ ap (once_below x) m);
  fits = fits-first size;
  tries = omega arith;
}

halves : (f : Draws → ℕ) (hs : List Draws) → total f (drop 1 hs) + total f (take 1 hs) ≡ total f hs
halves f [] = refl
halves f (h ∷ hs) = omega arith

fits-drop : (m w : ℕ) (hs : List Draws) → FitsSeats m w hs → FitsSeats m w (drop 1 hs)
fits-drop m w [] f = tt
fits-drop m w (h ∷ hs) f = f.2

fits-take : (m w : ℕ) (hs : List Draws) → FitsSeats m w hs → FitsSeats m w (take 1 hs)
fits-take m w [] f = tt
fits-take m w (h ∷ hs) f = (f.0, f.1, tt)

fits-both : (m w : ℕ) (hs gs : List Draws) → FitsSeats m w hs → FitsSeats m w gs → FitsSeats m w (hs ++ gs)
fits-both m w [] gs f g = g
fits-both m w (h ∷ hs) gs f g = (f.0, f.1, fits-both m w hs gs f.2 g)

pub splits : {S : Type 0} (size : DeckSize) (id : ℕ) (v : Account) → Splits {S = S} (Holds size) id v (left_of v) (right_of v)
splits size id v s holds at =
    let w = holds.0 in let k = holds.2 in let old = k.fits id v at in let P : Account → Type 0 = FitsAccount size.morsels w in (
      w,
      holds.1,
      keeps-same size w s.views (set s.views id (left_of v) ++ right_of v ∷ [])
          (λ f. let a = sum-set (weigh f) s.views id v (left_of v) at in let b = sum-snoc (weigh f) (set s.views id (left_of v)) (right_of v) in let c = halves f v.seats in omega arith)
          (λ j u e. ⊎_elim
          (λ t. ⊎_elim (λ q. subst P q.1 (fits-drop size.morsels w v.seats old)) (λ q. k.fits j u q.1) (at_set s.views id j (left_of v) u t))
          (λ t. subst P t (fits-take size.morsels w v.seats old))
          (at_snoc (set s.views id (left_of v)) (right_of v) u j e))
          k,
    )

pub joins : {S : Type 0} (size : DeckSize) (id : ℕ) (v : Account) (other : ℕ) (u : Account) → Joins {S = S} (Holds size) id v other u (both_of v u) spent_account
joins size id v other u s holds at ne at' =
    let w = holds.0 in let k = holds.2 in let P : Account → Type 0 = FitsAccount size.morsels w in
    let mine = k.fits id v at in
    let theirs : FitsAccount size.morsels w u = ⊎_elim (λ q. absurd (ne q.0)) (λ q. k.fits other u q.1) (at_set s.views id other (both_of v u) u at') in (
      w,
      holds.1,
      keeps-same size w s.views (set (set s.views id (both_of v u)) other spent_account)
          (λ f. let a = sum-set (weigh f) s.views id v (both_of v u) at in let b = sum-set (weigh f) (set s.views id (both_of v u)) other u spent_account at' in let c = sum-append f v.seats u.seats in omega arith)
          (λ j x e. ⊎_elim
          (λ t. subst P t.1 tt)
          (λ t. ⊎_elim (λ q. subst P q.1 (fits-both size.morsels w v.seats u.seats mine theirs)) (λ q. k.fits j x q.1) (at_set s.views id j (both_of v u) x t.1))
          (at_set (set s.views id (both_of v u)) other j spent_account x e))
          k,
    )

weighs-nothing : (f : Draws → ℕ) (hs : List Draws) → total one hs ≡ 0 → total f hs ≡ 0
weighs-nothing f [] e = refl
weighs-nothing f (h ∷ hs) e = absurd (omega arith)

ones-length : (hs : List Draws) → total one hs ≡ length hs
ones-length [] = refl
ones-length (h ∷ hs) = let k = ones-length hs in omega arith

all-rise : (m w : ℕ) (hs : List Draws) → FitsSeats m w hs → AllRise hs
all-rise m w [] f = tt
all-rise m w (h ∷ hs) f = (f.0, all-rise m w hs f.2)

met-either : (m w : ℕ) (h : Draws) (hs : List Draws) → FitsSeats m w (h ∷ hs) → (any_ended hs ≡ true → m ≤ w) → (b : Bool) → h.met_end ≡ b → (b || any_ended hs) ≡ true → m ≤ w
met-either m w h hs f later true is e = f.1 is
met-either m w h hs f later false is e = later e

met-end : (m w : ℕ) (hs : List Draws) → FitsSeats m w hs → any_ended hs ≡ true → m ≤ w
met-end m w [] f e = absurd (grind rules)
met-end m w (h ∷ hs) f e = met-either m w h hs f (met-end m w hs f.2) h.met_end refl e

drawn-total : (x : ℕ) (hs : List Draws) → drawn_times x hs ≡ total (λ h. times x h.numbers) hs
drawn-total x [] = refl
drawn-total x (h ∷ hs) = ap (λ k. times x h.numbers + k) (drawn-total x hs)

-- a token that speaks for all seats knows what all drew
pub dealt : (size : DeckSize) (w : ℕ) (views : List Account) (id : ℕ) (v : Account) → IsKept size w views → get_elem? views id ≡ some v → length v.seats ≡ size.seats → DealtOut size.morsels (min w size.morsels) v.seats
dealt size w views id v k at all =
    let seats : total (weigh one) views ≡ weigh one v = k.seats ∙ sym all ∙ sym (ones-length v.seats) in
    let fits : FitsSeats size.morsels w v.seats = k.fits id v at in
    record {
      rise = all-rise size.morsels w v.seats fits;
      each = λ x. drawn-total x v.seats ∙ sym (sum-one (weigh (λ h. times x h.numbers)) (weigh one) (λ a. weighs-nothing (λ h. times x h.numbers) a.seats) views id v at seats) ∙ k.each x;
      most = omega arith;
      ended = λ e. (let h = met-end size.morsels w v.seats fits e in omega arith);
    }
