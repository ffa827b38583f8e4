-- The end of what flows through a port.
use Rattle.std.proofs.Common.{◌≡◌, Bool, true, false, not, ◌||◌, ◌&&◌, List, [], ◌∷◌, ◌++◌, refl, sym, ap, subst, true≢false}
use Rattle.vx_ports.specs.Packets.{Content, brings, last, fault, PacketView, closes, is_last, is_closed, has_last, is_empty, is_stream, LastIsFinal}

last-closed : (ps : List PacketView) → has_last ps ≡ true → is_closed ps ≡ true
last-closed [] e = absurd (true≢false (sym e))
last-closed (p ∷ ps) e = go p.content (has_last ps) (is_closed ps) (last-closed ps) e
  where
    go : (c : Content) (a b : Bool) → (a ≡ true → b ≡ true) → (is_last c || a) ≡ true → (closes c || b) ≡ true
    go (brings xs) a b f h = f h
    go last a b f h = refl
    go fault a b f h = refl

-- a Last of a stream is its final entry
final : (ps : List PacketView) → is_stream ps ≡ true → has_last ps ≡ true → (front : List PacketView) × (end : PacketView) × (front ++ end ∷ [] ≡ ps) × (is_last end.content ≡ true)
final [] s h = absurd (true≢false (sym h))
final (p ∷ ps) s h = go (is_last p.content) refl ps (λ a b. final ps a b) s h
  where
    closing : (c : Content) → is_last c ≡ true → closes c ≡ true
    closing (brings xs) e = absurd (true≢false (sym e))
    closing last e = refl
    closing fault e = refl

    and-second : (a b : Bool) → (a && b) ≡ true → b ≡ true
    and-second true b e = e
    and-second false b e = absurd (true≢false (sym e))

    go : (b : Bool) → is_last p.content ≡ b → (qs : List PacketView)
        → (is_stream qs ≡ true → has_last qs ≡ true → (front : List PacketView) × (end : PacketView) × (front ++ end ∷ [] ≡ qs) × (is_last end.content ≡ true))
        → ((not (closes p.content) || is_empty qs) && is_stream qs) ≡ true → (is_last p.content || has_last qs) ≡ true
        → (front : List PacketView) × (end : PacketView) × (front ++ end ∷ [] ≡ p ∷ qs) × (is_last end.content ≡ true)
    go true e [] f k m = ([], p, refl, e)
    go true e (q ∷ qs) f k m =
        let P : Bool → Type 0 = λ v. ((not v || false) && is_stream (q ∷ qs)) ≡ true in
        absurd (true≢false (sym (subst P (closing p.content e) k)))
    go false e qs f k m =
        let P : Bool → Type 0 = λ v. (v || has_last qs) ≡ true in
        let r = f (and-second (not (closes p.content) || is_empty qs) (is_stream qs) k) (subst P e m) in
        (p ∷ r.0, r.1, ap (λ xs. p ∷ xs) r.2, r.3)

pub last-is-final : LastIsFinal
last-is-final put taken f h =
    let e : taken ≡ put = f.whole (last-closed taken h) in
    let P : List PacketView → Type 0 = λ ps. is_stream ps ≡ true in
    final taken (subst P (sym e) f.stream) h
