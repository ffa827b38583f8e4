-- What lanes hold, after rows came and after a packet went.
use Rattle.std.proofs.Common.{◌≡◌, ℕ, zero, suc, ◌+◌, ◌<◌, ◌≤◌, ◌==◌, Bool, true, false, not, cond, inl, inr, refl, sym, ap, ◌∙◌, subst, arith, List, [], ◌∷◌, ◌++◌, length, map, set, Option, Some, None, slice_get, All, le_refl}
use Rattle.std.proofs.lemmas.Bool.{cases_lt}
use Rattle.std.proofs.lemmas.Bool.Decides.{eqb_tells}
use Rattle.std.proofs.lemmas.List.{length-append, length-map}
use Rattle.std.proofs.lemmas.List.Sums.{sum_by-cons}
use Rattle.std.proofs.lemmas.Option.{none-some, same_Some, slice_get_within}
use Rattle.vx_rows_values.specs.Values.{Row, pick}
use Rattle.vx_plan_nodes.specs.Plan.{ExchangeKind, route_to, round, broadcast, gather, concat}
use Rattle.vx_plan_nodes.specs.Routes.{Routing, Sends, sends_by}
use Rattle.vx_plan_nodes.specs.Streams.{Streams, bearing}
use Rattle.vx_ports.specs.Packets.{Content, brings, last, fault, closes, PacketView, content_rows, rows_of}
use Rattle.vx_ops.proofs.Fewer.{filter-long}
use Rattle.vx_exchange_ends.specs.Ship.{end_to_end}
use Rattle.vx_exchange_ends.specs.Sending.{KindRoutesAs}
use Rattle.vx_exchange_ends.specs.Queued.{rows_to, closings, IsTakenOut}
use Rattle.vx_exchange.specs.LaneView.{Way, LaneView, parcel_at, empty_outlet, Cuts, CutsRest}
use Rattle.vx_exchange.specs.Lanes.{IsLane, closings_of, kind_of, bounds_of, SameLanes, Deals, Finishes, GivesPacket, GivesClosing}
use Rattle.vx_exchange.specs.LaneLaws.{element_at}
use Rattle.vx_exchange.specs.Queued.{lane_rows, rows_at_lane, lanes_held, lanes_unclosed}
use Rattle.vx_exchange.specs.declared.deal.Deal.{Deal}
use Rattle.vx_exchange.specs.declared.deal.Deal.TheVariants.{Route, Round, Broadcast, Gather, Concat}
use Rattle.vx_exchange.specs.declared.routes.KeyRoute.TheVariants.{Hash, Range}
use Rattle.vx_exchange.proofs.LaneLists.{get-set_same, get-set_other, same-count, all-lanes}

-- rows that go where a hash and the bounds of a deal say
pub routes-so : (hash : List ℕ → Row → ℕ → ℕ) (deal : Deal) → KindRoutesAs (kind_of deal) (bounds_of deal) hash (sends_by hash (λ _. bounds_of deal))
routes-so hash (Route z (Hash name cols)) = λ key n l. refl
routes-so hash (Route z (Range k bounds c)) = λ key n l. refl
routes-so hash (Round z) = tt
routes-so hash (Broadcast z) = tt
routes-so hash Gather = tt
routes-so hash Concat = tt

bearing-long : (i : ℕ) (ts : List (ℕ × Row)) → length (bearing i ts) ≤ length ts
bearing-long i [] = le_refl 0
bearing-long i (t ∷ ts) = go (t.0 == i) (bearing-long i ts)
  where
    go : (b : Bool) → length (bearing i ts) ≤ length ts → length (cond b (t.1 ∷ bearing i ts) (bearing i ts)) ≤ length (t ∷ ts)
    go true rest = omega (arith, rest)
    go false rest = omega (arith, rest)

-- a consumer is sent no more rows than came
pub sent-long : (goes : Routing) (k : ExchangeKind) (n : ℕ) (xs : List Row) (sent : Streams) → Sends goes k n xs sent → (j : ℕ) → j < n → length (sent j) ≤ length xs
sent-long goes (route_to z r cols) n xs sent s j lt =
    let e = ap length (s j lt) in
    let most = filter-long (λ row. goes r (pick cols row) n == j) xs in
    omega (arith, e, most)
sent-long goes (round z) n xs sent s j lt =
    let e = ap length (s.lists_are j lt) in
    let most = bearing-long j s.numbered in
    let whole = ap length s.whole in
    let count = length-map s.numbered (λ (t : ℕ × Row). t.1) in
    omega (arith, e, most, whole, count)
sent-long goes (broadcast z) n xs sent s j lt = let e = ap length (s j lt) in omega (arith, e)
sent-long goes gather n xs sent s j lt = let e = ap length (s j lt) in omega (arith, e)
sent-long goes concat n xs sent s j lt = let e = ap length (s j lt) in omega (arith, e)

packets-rows : (way : Way) (parts : List (List Row)) → rows_of (map (parcel_at way) parts) ≡ end_to_end parts
packets-rows way [] = refl
packets-rows way (p ∷ parts) = ap (λ ys. p ++ ys) (packets-rows way parts)

rows-both : (ps qs : List PacketView) → length (rows_of (ps ++ qs)) ≡ length (rows_of ps) + length (rows_of qs)
rows-both [] qs = omega arith
rows-both (p ∷ ps) qs =
    let rest = rows-both ps qs in
    let one = length-append (content_rows p.content) (rows_of (ps ++ qs)) in
    let two = length-append (content_rows p.content) (rows_of ps) in
    omega (arith, rest, one, two)

-- a lane that cut rows holds them and no others
cut-rows : (way : Way) (o o' : LaneView) (more : List Row) → Cuts way o.current o.ready more o'.current o'.ready → lane_rows o' ≡ lane_rows o + length more
cut-rows way o o' more k =
    let full = k.full in
    let ready = ap (λ ps. length (rows_of ps)) (sym k.ready_are) in
    let both = rows-both o.ready (map (parcel_at way) full) in
    let made = ap length (packets-rows way full) in
    let rows = ap length k.rows_are in
    let left = length-append (end_to_end full) o'.current in
    let right = length-append o.current more in
    omega (arith, ready, both, made, rows, left, right)

-- also where the last of them went into a packet
rest-rows : (way : Way) (o o' : LaneView) → o'.current ≡ [] → CutsRest way o.current o.ready o'.ready → lane_rows o' ≡ lane_rows o
rest-rows way o o' none k =
    let ready = ap (λ ps. length (rows_of ps)) (sym k.ready_are) in
    let both = rows-both o.ready (map (parcel_at way) k.rest) in
    let made = ap length (packets-rows way k.rest) in
    let rows = ap length k.rows_are in
    let empty = ap length none in
    omega (arith, ready, both, made, rows, empty)

held-at : (lanes : List LaneView) (j : ℕ) (o : LaneView) → IsLane lanes j o → lanes_held lanes j ≡ lane_rows o
held-at lanes j o e = ap rows_at_lane e

-- where there is no lane, there was none
no-more : (old new : List LaneView) (j n : ℕ) → length new ≡ length old → ((o o' : LaneView) → IsLane old j o → IsLane new j o' → lane_rows o' ≤ lane_rows o + n) → lanes_held new j ≤ lanes_held old j + n
no-more old new j n many h = elim (cases_lt j (length new)) [
  | inl less ↦
      let b = element_at new j less in
      let a = element_at old j (let L : ℕ → Type 0 = λ m. j < m in subst L many less) in
      let few = h a.0 b.0 a.1 b.1 in
      let x = held-at old j a.0 a.1 in
      let y = held-at new j b.0 b.1 in
      omega (arith, few, x, y)
  | inr past ↦ let none : lanes_held new j ≡ 0 = ap rows_at_lane (past-end new j past) in omega (arith, none)
]
  where
    past-end : {X : Type 0} (xs : List X) (j : ℕ) → length xs ≤ j → slice_get xs j ≡ None
    past-end [] j h = refl
    past-end (x ∷ xs) zero h = absurd (omega (arith, h))
    past-end (x ∷ xs) (suc j) h = past-end xs j (omega (arith, h))

-- rows were dealt
pub deals-held : (goes : Routing) (k : ExchangeKind) (r : ℕ) (rows : List Row) (old new : List LaneView) → SameLanes old new → Deals goes k r rows old new
    → (j : ℕ) → lanes_held new j ≤ lanes_held old j + length rows
deals-held goes k r rows old new same d j =
    no-more old new j (length rows) (same-count old new same) (λ o o' e e'.
    let cut = cut-rows o.way o o' (d.more j) (d.cuts j o o' e e') in
    let few = sent-long goes k (length old) rows d.more d.sends j (slice_get_within old j o e) in
    omega (arith, cut, few))

-- what was at hand went into packets
pub finishes-held : (old new : List LaneView) → SameLanes old new → Finishes old new → All (λ o. o.current ≡ []) new → (j : ℕ) → lanes_held new j ≤ lanes_held old j + 0
finishes-held old new same f none j =
    no-more old new j 0 (same-count old new same) (λ o o' e e'.
    let kept = rest-rows o.way o o' (all-lanes (λ z. z.current ≡ []) new none j o' e') (f j o o' e e') in
    omega (arith, kept))

-- nothing is held
pub cleared-held : (lanes : List LaneView) → All (λ o. o.ready ≡ []) lanes → All (λ o. o.current ≡ []) lanes → (j : ℕ) → lanes_held lanes j ≡ 0
cleared-held lanes ready current j = go (slice_get lanes j) refl
  where
    go : (x : Option LaneView) → slice_get lanes j ≡ x → rows_at_lane x ≡ 0
    go None e = refl
    go (Some o) e =
        let r = ap (λ ps. length (rows_of ps)) (all-lanes (λ z. z.ready ≡ []) lanes ready j o e) in
        let c = ap length (all-lanes (λ z. z.current ≡ []) lanes current j o e) in
        omega (arith, r, c)

-- nor by lanes that are new
pub fresh-held : (way : ℕ → Way) (lanes : List LaneView) → ((j : ℕ) (o : LaneView) → IsLane lanes j o → o ≡ empty_outlet (way j)) → (j : ℕ) → lanes_held lanes j ≡ 0
fresh-held way lanes each j = go (slice_get lanes j) refl
  where
    go : (x : Option LaneView) → slice_get lanes j ≡ x → rows_at_lane x ≡ 0
    go None e = refl
    go (Some o) e = ap lane_rows (each j o e)

held-set : (lanes : List LaneView) (i : ℕ) (o o' : LaneView) (p : PacketView) → IsLane lanes i o → lane_rows o' + length (content_rows p.content) ≡ lane_rows o
    → (j : ℕ) → lanes_held (set lanes i o') j + rows_to i p j ≤ lanes_held lanes j
held-set lanes i o o' p there less j = elim (eqb_tells j i) [
  | inl e ↦
      let new : lanes_held (set lanes i o') j ≡ lane_rows o' = rw e.1 (ap rows_at_lane (get-set_same lanes i o' (slice_get_within lanes i o there))) in
      let old : lanes_held lanes j ≡ lane_rows o = rw e.1 (ap rows_at_lane there) in
      rw (e.0, new, old) (omega (arith, less))
  | inr e ↦ rw (e.0, get-set_other lanes i j o' e.1) (omega arith)
]

-- 1 where it has not closed
abbrev flag : Bool → ℕ
flag b = cond (not b) 1 0

unclosed-set : (lanes : List LaneView) (i : ℕ) (o o' : LaneView) → IsLane lanes i o → lanes_unclosed (set lanes i o') + flag o.closed ≡ lanes_unclosed lanes + flag o'.closed
unclosed-set [] i o o' e = absurd (none-some o e)
unclosed-set (x ∷ lanes) zero o o' e =
    let same : x ≡ o = same_Some x o e in
    let was = sum_by-cons flag x.closed (closings_of lanes) in
    let is = sum_by-cons flag o'.closed (closings_of lanes) in
    let c = ap (λ (z : LaneView). flag z.closed) same in
    omega (arith, was, is, c)
unclosed-set (x ∷ lanes) (suc i) o o' e =
    let rest = unclosed-set lanes i o o' e in
    let was = sum_by-cons flag x.closed (closings_of lanes) in
    let is = sum_by-cons flag x.closed (closings_of (set lanes i o')) in
    omega (arith, rest, was, is)

no-closing : (c : Content) → closes c ≡ false → closings c ≡ 0
no-closing (brings xs) e = refl
no-closing last e = cc
no-closing fault e = cc

-- a packet of rows went
pub gives-taken : (old new : List LaneView) (i : ℕ) (p : PacketView) → GivesPacket old new i p → IsTakenOut i p (lanes_held old) (lanes_held new) (lanes_unclosed old) (lanes_unclosed new)
gives-taken old new i p x =
    let rows : lane_rows x.after + length (content_rows p.content) ≡ lane_rows x.before =
    let c = ap length x.current in
    let r = ap (λ ps. length (rows_of ps)) x.ready in
    let one = length-append (content_rows p.content) (rows_of x.after.ready) in
    omega (arith, c, r, one) in
    let none = no-closing p.content x.of_rows in
    let some = x.of_some in
    let flags = unclosed-set old i x.before x.after x.there in
    let same = ap flag x.closed in
    rw x.lanes (record { rows = held-set old i x.before x.after p x.there rows; closing = omega (arith, none, flags, same); some = omega (arith, some) })

-- a closing packet went
pub closes-taken : (ending : Content) (old new : List LaneView) (i : ℕ) (p : PacketView) → closings ending ≡ 1 → length (content_rows ending) ≡ 0 → GivesClosing ending old new i p
    → IsTakenOut i p (lanes_held old) (lanes_held new) (lanes_unclosed old) (lanes_unclosed new)
closes-taken ending old new i p one none x =
    let content : p.content ≡ ending = ap (λ (z : PacketView). z.content) x.packet in
    let empty : length (content_rows p.content) ≡ 0 = ap (λ k. length (content_rows k)) content ∙ none in
    let closing : closings p.content ≡ 1 = ap closings content ∙ one in
    let rows : lane_rows x.after + length (content_rows p.content) ≡ lane_rows x.before =
    let c = ap length x.current in
    let r = ap (λ ps. length (rows_of ps)) x.ready in
    omega (arith, c, r, empty) in
    let flags = unclosed-set old i x.before x.after x.there in
    let was = ap flag x.was_open in
    let is = ap flag x.closed in
    rw x.lanes (record { rows = held-set old i x.before x.after p x.there rows; closing = omega (arith, closing, flags, was, is); some = omega (arith, closing) })
