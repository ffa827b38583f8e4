-- From a list of hands to seats by number.
use Rattle.std.proofs.Common.{◌≡◌, ℕ, zero, suc, ◌+◌, ◌<◌, Bool, true, false, ◌||◌, List, [], ◌∷◌, length, refl, ap, ◌∙◌, arith}
use Rattle.vx_plan_nodes.specs.Streams.{across}
use Rattle.vx_morsel.specs.Draws.{Draws, times, Rises, AllRise, any_ended, drawn_times, seat_at}
use Rattle.vx_exec_laws.specs.Dispatch.{HandsDispatched}

across-first : (n : ℕ) (g : ℕ → ℕ) → across (suc n) g ≡ g 0 + across n (λ i. g (suc i))
across-first zero g = omega arith
across-first (suc n) g = let e = across-first n g in omega (arith, e)

across-list : (x : ℕ) (hs : List Draws) → across (length hs) (λ w. times x (seat_at hs w).numbers) ≡ drawn_times x hs
across-list x [] = refl
across-list x (h ∷ hs) = across-first (length hs) (λ w. times x (seat_at (h ∷ hs) w).numbers) ∙ ap (λ k. times x h.numbers + k) (across-list x hs)

rise-at : (hs : List Draws) → AllRise hs → (w : ℕ) → w < length hs → Rises (seat_at hs w).numbers
rise-at [] h w l = absurd (omega arith)
rise-at (d ∷ hs) h zero l = h.0
rise-at (d ∷ hs) h (suc w) l = rise-at hs h.1 w (omega arith)

ended-at : (hs : List Draws) (w : ℕ) → w < length hs → (seat_at hs w).met_end ≡ true → any_ended hs ≡ true
ended-at [] w l e = absurd (omega arith)
ended-at (d ∷ hs) zero l e = ap (λ b. b || any_ended hs) e
ended-at (d ∷ hs) (suc w) l e = go d.met_end (ended-at hs w (omega arith) e)
  where
    go : (b : Bool) → any_ended hs ≡ true → (b || any_ended hs) ≡ true
    go true h = refl
    go false h = h

pub hands-dispatched : HandsDispatched
hands-dispatched m t hs d = record {
  t = t;
  rise = rise-at hs d.rise;
  each = λ x. across-list x hs ∙ d.each x;
  most = d.most;
  ended = λ w l e. d.ended (ended-at hs w l e);
}
