-- What a sending end has still to return, lane by lane.
use Rattle.std.specs.Prelude.{◌≡◌, ◌≤◌, ◌+◌, ℕ, zero, suc, not, List, [], ◌∷◌, length, count_by, Option, Some, None, slice_get}
use Rattle.std.proofs.Common.{refl, sym, ap, ◌∙◌, subst, le_of_suc-le-suc, not-suc-le-zero}
use Rattle.std.proofs.lemmas.List.{length-map}
use Rattle.std.proofs.lemmas.List.Sums.{count_by-le-length}
use Rattle.vx_ports.specs.Packets.{rows_of}
use Rattle.vx_exchange_ends.specs.Queued.{consumers_of}
use Rattle.vx_exchange.specs.LaneView.{LaneView}
use Rattle.vx_exchange.specs.Lanes.{closings_of}
use Rattle.vx_exchange.specs.Sender.{sender_post}
use Rattle.vx_exchange.specs.declared.sender.Sender.{Sender}

-- the rows of a lane: at hand, and in the packets that wait
abbrev pub lane_rows : LaneView → ℕ
lane_rows o = length o.current + length (rows_of o.ready)

abbrev pub rows_at_lane : Option LaneView → ℕ
rows_at_lane None = 0
rows_at_lane (Some o) = lane_rows o

-- those of the lane of a consumer
abbrev pub lanes_held : List LaneView → ℕ → ℕ
lanes_held lanes j = rows_at_lane (slice_get lanes j)

-- how many lanes have not returned their closing packet
abbrev pub lanes_unclosed : List LaneView → ℕ
lanes_unclosed lanes = count_by not (closings_of lanes)

abbrev pub sender_held : Sender → ℕ → ℕ
sender_held s j = lanes_held s.lanes.items j

abbrev pub sender_unclosed : Sender → ℕ
sender_unclosed s = lanes_unclosed s.lanes.items

no-lane : {X : Type 0} (xs : List X) (j : ℕ) → length xs ≤ j → slice_get xs j ≡ None
no-lane [] j h = refl
no-lane (x ∷ xs) zero h = absurd (not-suc-le-zero h)
no-lane (x ∷ xs) (suc j) h = no-lane xs j (le_of_suc-le-suc h)

-- a lane for each consumer, and no other
pub sender_held_for : (s : Sender) (j : ℕ) → consumers_of (sender_post s) ≤ j → sender_held s j ≡ 0
sender_held_for s j h =
    let P : ℕ → Type 0 = λ n. n ≤ j in
    ap rows_at_lane (no-lane s.lanes.items j (subst P (length-map s.lanes.items (λ (o : LaneView). o.way)) h))

pub sender_few_closings : (s : Sender) → sender_unclosed s ≤ consumers_of (sender_post s)
sender_few_closings s =
    let P : ℕ → Type 0 = λ n. sender_unclosed s ≤ n in
    subst P (length-map s.lanes.items (λ (o : LaneView). o.closed) ∙ sym (length-map s.lanes.items (λ (o : LaneView). o.way))) (count_by-le-length not (closings_of s.lanes.items))
