-- When what was put and what was taken flow.
use Rattle.std.proofs.Common.{◌≡◌, Bool, true, false, not, ◌||◌, ◌&&◌, List, [], ◌∷◌, ◌++◌, refl, sym, ap, ◌∙◌, subst, append-nil, true≢false}
use Rattle.vx_ports.specs.Packets.{PacketView, closes, is_closed, is_empty, is_stream, Flows}

-- behind the end of a stream nothing stands
pub ended_whole : (begun back : List PacketView) → is_stream (begun ++ back) ≡ true → is_closed begun ≡ true → back ≡ []
ended_whole [] back s c = absurd (true≢false (sym c))
ended_whole (p ∷ ps) back s c = go (closes p.content) (is_stream (ps ++ back)) (is_closed ps) (ended_whole ps back) s c
  where
    nothing : (xs ys : List PacketView) → is_empty (xs ++ ys) ≡ true → ys ≡ []
    nothing [] [] e = refl
    nothing [] (y ∷ ys) e = absurd (true≢false (sym e))
    nothing (x ∷ xs) ys e = absurd (true≢false (sym e))

    go : (b s c : Bool) → (s ≡ true → c ≡ true → back ≡ []) → ((not b || is_empty (ps ++ back)) && s) ≡ true → (b || c) ≡ true → back ≡ []
    go true s c ih e f = nothing ps back (first (is_empty (ps ++ back)) s e)
      where
        first : (x y : Bool) → (x && y) ≡ true → x ≡ true
        first true y e = refl
        first false y e = absurd (true≢false (sym e))
    go false s c ih e f = ih e f

-- a stream of which these were taken, and the rest waits
pub flow_is : (put taken queue : List PacketView) → put ≡ taken ++ queue → is_stream put ≡ true → Flows put taken
flow_is put taken queue e s = record {
  rest = queue;
  begins = sym e;
  stream = s;
  whole = λ c. sym (append-nil taken) ∙ ap (λ z. taken ++ z) (sym (ended_whole taken queue (subst (λ z. is_stream z ≡ true) e s) c)) ∙ sym e;
}
