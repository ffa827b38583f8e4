-- What was returned for each consumer is a stream, and the laws on streams that a trait asks for.
use Rattle.std.specs.Prelude.{ℕ, ◌≡◌, ◌<◌, ◌≤◌, not, ◌||◌, ◌&&◌, Bool, true, false, List, [], ◌∷◌, ◌++◌, map}
use Rattle.std.proofs.Common.{refl, sym, ap₂, subst, inl, inr, true≢false}
use Rattle.std.proofs.lemmas.Bool.{cases_lt}
use Rattle.vx_rows_values.specs.Values.{Row}
use Rattle.vx_ports.specs.Packets.{PacketView, closes, is_empty, is_stream}
use Rattle.vx_exchange_ends.specs.Ship.{Ship, packet_at}

-- what was returned for each consumer is a stream: a packet that closes stands at most once, as the last, and nothing goes to anyone who is no consumer
pub record AreStreams (consumers : ℕ) (g : ℕ → List PacketView) : Type 0 where
  pub streams : (j : ℕ) → is_stream (g j) ≡ true
  pub nothing : (j : ℕ) → consumers ≤ j → g j ≡ []

-- one packet is a stream
pub packet-stream : (p : PacketView) → is_stream (p ∷ []) ≡ true
packet-stream p = go (closes p.content)
  where
    go : (b : Bool) → ((not b || true) && true) ≡ true
    go true = refl
    go false = refl

-- packets of rows, and a stream behind them
pub rows-stream : (s : Ship) (j : ℕ) (parts : List (List Row)) (back : List PacketView) → is_stream back ≡ true → is_stream (map (packet_at s j) parts ++ back) ≡ true
rows-stream s j [] back h = h
rows-stream s j (p ∷ parts) back h = rows-stream s j parts back h

-- a prefix of a stream
pub prefix-stream : (front back : List PacketView) → is_stream (front ++ back) ≡ true → is_stream front ≡ true
prefix-stream [] back e = refl
prefix-stream (p ∷ front) back e =
    both (not (closes p.content) || is_empty (front ++ back)) (is_stream (front ++ back)) (not (closes p.content) || is_empty front) (is_stream front)
    (last-or-more (closes p.content)) (prefix-stream front back) e
  where
    both : (a s b t : Bool) → (a ≡ true → b ≡ true) → (s ≡ true → t ≡ true) → (a && s) ≡ true → (b && t) ≡ true
    both true s b t f g e = ap₂ (λ x y. x && y) (f refl) (g e)
    both false s b t f g e = absurd (true≢false (sym e))

    nothing-before : (xs ys : List PacketView) → is_empty (xs ++ ys) ≡ true → is_empty xs ≡ true
    nothing-before [] ys e = refl
    nothing-before (x ∷ xs) ys e = e

    last-or-more : (b : Bool) → (not b || is_empty (front ++ back)) ≡ true → (not b || is_empty front) ≡ true
    last-or-more true e = nothing-before front back e
    last-or-more false e = refl

-- streams for the consumers, and nothing for anyone else
pub are-streams : (consumers : ℕ) (g : ℕ → List PacketView) → ((j : ℕ) → j < consumers → is_stream (g j) ≡ true) → ((j : ℕ) → consumers ≤ j → g j ≡ []) → AreStreams consumers g
are-streams consumers g some none = record {
  streams = λ j. elim (cases_lt j consumers) [ inl l ↦ some j l | inr l ↦ let P : List PacketView → Type 0 = λ ps. is_stream ps ≡ true in subst P (sym (none j l)) refl ];
  nothing = none;
}

-- nothing for anyone
pub no-streams : (consumers : ℕ) (g : ℕ → List PacketView) → ((j : ℕ) → g j ≡ []) → AreStreams consumers g
no-streams consumers g none = are-streams consumers g (λ j l. let P : List PacketView → Type 0 = λ ps. is_stream ps ≡ true in subst P (sym (none j)) refl) (λ j l. none j)
