-- What lives on a link flows.
use Rattle.std.proofs.Common.{◌≡◌, Bool, true, false, not, ◌||◌, ◌&&◌, List, [], ◌∷◌, ◌++◌, refl, sym, ap, ◌∙◌, subst, append_assoc, append-nil, true≢false}
use Rattle.vx_ports.specs.Packets.{PacketView, closes, is_closed, is_empty, is_stream}
use Rattle.vx_ports.specs.LinkView.{LinkView, PutsOnLine, TakesFromLine}
use Rattle.vx_ports.specs.Lives.{Move, put_on, taken_off, puts_of, takes_of, new_line, Lives, LinkFlows}
use Rattle.vx_ports.specs.Flowing.{flow_is}

-- the link holds what was put and not taken, and is closed where the stream is
record Carries (put taken : List PacketView) (a : LinkView) : Type 0 where
  joined : put ≡ taken ++ a.queue
  stream : is_stream put ≡ true
  closed : is_closed put ≡ a.closed

-- one more packet behind an unclosed stream
closed-behind : (ps : List PacketView) (p : PacketView) → is_closed ps ≡ false → is_closed (ps ++ p ∷ []) ≡ closes p.content
closed-behind [] p e = go (closes p.content)
  where
    go : (b : Bool) → (b || false) ≡ b
    go true = refl
    go false = refl
closed-behind (q ∷ ps) p e = go (closes q.content) (is_closed ps) (closed-behind ps p) e
  where
    go : (b c : Bool) → (c ≡ false → is_closed (ps ++ p ∷ []) ≡ closes p.content) → (b || c) ≡ false → (b || is_closed (ps ++ p ∷ [])) ≡ closes p.content
    go true c ih f = absurd (true≢false f)
    go false c ih f = ih f

stream-behind : (ps : List PacketView) (p : PacketView) → is_stream ps ≡ true → is_closed ps ≡ false → is_stream (ps ++ p ∷ []) ≡ true
stream-behind [] p s e = go (closes p.content)
  where
    go : (b : Bool) → ((not b || true) && true) ≡ true
    go true = refl
    go false = refl
stream-behind (q ∷ ps) p s e = go (closes q.content) (is_empty ps) (is_stream ps) (is_closed ps) (stream-behind ps p) s e
  where
    go : (b n t c : Bool) → (t ≡ true → c ≡ false → is_stream (ps ++ p ∷ []) ≡ true) → ((not b || n) && t) ≡ true → (b || c) ≡ false
        → ((not b || is_empty (ps ++ p ∷ [])) && is_stream (ps ++ p ∷ [])) ≡ true
    go true n t c ih f g = absurd (true≢false g)
    go false n t c ih f g = ih f g

carries-put : (put taken : List PacketView) (a c : LinkView) (p : PacketView) → a.closed ≡ false → PutsOnLine a p c → Carries put taken a → Carries (put ++ p ∷ []) taken c
carries-put put taken a c p unclosed puts h = record {
  joined = ap (λ z. z ++ p ∷ []) h.joined ∙ append_assoc taken a.queue (p ∷ []) ∙ ap (λ z. taken ++ z) (sym puts.0);
  stream = stream-behind put p h.stream (h.closed ∙ unclosed);
  closed = closed-behind put p (h.closed ∙ unclosed) ∙ sym puts.1;
}

carries-taken : (put taken : List PacketView) (a c : LinkView) (p : PacketView) → TakesFromLine a p c → Carries put taken a → Carries put (taken ++ p ∷ []) c
carries-taken put taken a c p takes h = record {
  joined = h.joined ∙ ap (λ z. taken ++ z) takes.0 ∙ sym (append_assoc taken (p ∷ []) c.queue);
  stream = h.stream;
  closed = h.closed ∙ sym takes.1;
}

carries : (es : List Move) (put taken : List PacketView) (a b : LinkView) → Lives a es b → Carries put taken a → Carries (put ++ puts_of es) (taken ++ takes_of es) b
carries [] put taken a b e h =
    let P : List PacketView → Type 0 = λ z. Carries z (taken ++ []) b in
    let Q : List PacketView → Type 0 = λ z. Carries put z b in
    let R : LinkView → Type 0 = λ z. Carries put taken z in
    subst P (sym (append-nil put)) (subst Q (sym (append-nil taken)) (subst R (sym e) h))
carries (put_on p ∷ es) put taken a b (c, unclosed, puts, lives) h =
    let P : List PacketView → Type 0 = λ z. Carries z (taken ++ takes_of es) b in
    subst P (append_assoc put (p ∷ []) (puts_of es)) (carries es (put ++ p ∷ []) taken c b lives (carries-put put taken a c p unclosed puts h))
carries (taken_off p ∷ es) put taken a b (c, takes, lives) h =
    let P : List PacketView → Type 0 = λ z. Carries (put ++ puts_of es) z b in
    subst P (append_assoc taken (p ∷ []) (takes_of es)) (carries es put (taken ++ p ∷ []) c b lives (carries-taken put taken a c p takes h))

pub link-flows : LinkFlows
link-flows es b lives =
    let h = carries es [] [] new_line b lives (record { joined = refl; stream = refl; closed = refl }) in
    flow_is (puts_of es) (takes_of es) b.queue h.joined h.stream
