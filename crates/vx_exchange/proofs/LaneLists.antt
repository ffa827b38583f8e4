-- Lists of lanes, read lane by lane.
use Rattle.std.proofs.Common.{ℕ, zero, suc, ◌≡◌, ◌≢◌, ◌+◌, ◌<◌, ◌≤◌, ◌⊎◌, inl, inr, ◌==◌, ◌||◌, ◌&&◌, Bool, true, false, true≢false, List, [], ◌∷◌, ◌++◌, length, map, get_or, set, All, Option, Some, None, slice_get, refl, sym, ap, ◌∙◌, subst, arith, length-append}
use Rattle.std.specs.List.{list_any}
use Rattle.std.specs.Option.{option_map}
use Rattle.std.specs.Prelude.{IfSome, IfNone}
use Rattle.std.proofs.lemmas.Bool.Decides.{eqb_tells}
use Rattle.std.proofs.Math.Seq.{map-set_same}
use Rattle.std.proofs.lemmas.Bool.{cases_lt, ltb-true}
use Rattle.std.proofs.lemmas.List.{length-map, set-get_or}
use Rattle.std.proofs.lemmas.List.Elements.{All-get_or, All-set}
use Rattle.std.proofs.lemmas.Option.{none-some, same_Some, slice_get-map, slice_get_within, slice_get-get_or, get_or_from_slice_get}
use Rattle.vx_rows_values.specs.Values.{Row}
use Rattle.vx_rows.specs.View.{AreColumns}
use Rattle.vx_plan_nodes.specs.Plan.{ExchangeKind}
use Rattle.vx_plan_nodes.specs.Streams.{Streams}
use Rattle.vx_ports.specs.Packets.{Content, PacketView, is_empty}
use Rattle.vx_exchange_ends.specs.Ship.{Ship}
use Rattle.vx_exchange.specs.LaneView.{Way, LaneView, empty_outlet, Cuts, CutsRest}
use Rattle.vx_exchange.specs.Lanes.{IsLane, ways_of, any_closed, are_idle, IdleBefore, ClosedBefore, first_way, ship_of, way_to, kind_of, serves, columns_of, may_close, AreNumbered, AreFresh, SameLanes, CutsEach, GivesPacket, GivesClosing}
use Rattle.vx_exchange.specs.LaneLaws.{element_at, open_at}
use Rattle.vx_exchange.specs.declared.deal.Deal.{Deal}
use Rattle.vx_exchange.specs.declared.deal.Deal.TheVariants.{Route, Round, Broadcast, Gather, Concat}
use Rattle.vx_exchange.specs.declared.sender.SenderState.{SenderState}
use Rattle.vx_exchange.specs.declared.sender.SenderState.TheVariants.{Open, Ending, Failing}

-- a list after one element was written

pub get-set_same : {X : Type 0} (xs : List X) (i : ℕ) (y : X) → i < length xs → slice_get (set xs i y) i ≡ Some y
get-set_same [] i y l = absurd (omega (arith, l))
get-set_same (x ∷ xs) zero y l = refl
get-set_same (x ∷ xs) (suc i) y l = get-set_same xs i y (omega (arith, l))

pub get-set_other : {X : Type 0} (xs : List X) (i j : ℕ) (y : X) → j ≢ i → slice_get (set xs i y) j ≡ slice_get xs j
get-set_other [] i j y ne = refl
get-set_other (x ∷ xs) zero zero y ne = absurd (ne refl)
get-set_other (x ∷ xs) zero (suc j) y ne = refl
get-set_other (x ∷ xs) (suc i) zero y ne = refl
get-set_other (x ∷ xs) (suc i) (suc j) y ne = get-set_other xs i j y (λ e. ne (ap suc e))

-- and after one more
pub get-push : {X : Type 0} (xs : List X) (y : X) (j : ℕ) (x : X) → slice_get (xs ++ y ∷ []) j ≡ Some x → (slice_get xs j ≡ Some x) ⊎ ((j ≡ length xs) × (y ≡ x))
get-push [] y zero x e = inr (refl, same_Some y x e)
get-push [] y (suc j) x e = absurd (none-some x e)
get-push (z ∷ xs) y zero x e = inl e
get-push (z ∷ xs) y (suc j) x e = elim (get-push xs y j x e) [
  | inl h ↦ inl h
  | inr h ↦ inr (ap suc h.0, h.1)
]

-- what was written is what stood there
pub unchanged : {X : Type 0} (xs : List X) (i : ℕ) (x x' : X) → x ≡ get_or xs i x → x' ≡ x → set xs i x' ≡ xs
unchanged xs i x x' e f = ap (set xs i) (f ∙ e) ∙ set-get_or xs i x

-- an element that was read
pub read-at : {X : Type 0} (xs : List X) (i : ℕ) (x : X) → i < length xs → x ≡ get_or xs i x → slice_get xs i ≡ Some x
read-at xs i x l e = slice_get-get_or xs i x l ∙ ap Some (sym e)

-- a fact on the first elements, after one more
pub below-more : {X : Type 0} (P : X → Type 0) (xs : List X) (k : ℕ) (y : X) → slice_get xs k ≡ Some y → P y → ((j : ℕ) (x : X) → j < k → slice_get xs j ≡ Some x → P x)
    → (j : ℕ) (x : X) → j < k + 1 → slice_get xs j ≡ Some x → P x
below-more P xs k y e p h j x l f = elim (cases_lt j k) [
  | inl less ↦ h j x less f
  | inr more ↦ let at : k ≡ j = omega (arith, l, more) in subst P (same_Some y x (sym e ∙ ap (slice_get xs) at ∙ f)) p
]

-- and after one was written
pub below-set : {X : Type 0} (P : X → Type 0) (xs : List X) (k : ℕ) (y : X) → k < length xs → P y → ((j : ℕ) (x : X) → j < k → slice_get xs j ≡ Some x → P x)
    → (j : ℕ) (x : X) → j < k + 1 → slice_get (set xs k y) j ≡ Some x → P x
below-set P xs k y within p h = below-more P (set xs k y) k y (get-set_same xs k y within) p (λ j x l e. h j x l (sym (get-set_other xs k j y (omega (arith, l))) ∙ e))

-- between the forms of a fact on all elements
pub all-lanes : {X : Type 0} (P : X → Type 0) (xs : List X) → All P xs → (j : ℕ) (x : X) → slice_get xs j ≡ Some x → P x
all-lanes P xs all j x e = subst P (get_or_from_slice_get xs j x x e) (All-get_or P xs j x (slice_get_within xs j x e) all)

pub all-from_lanes : {X : Type 0} (P : X → Type 0) (xs : List X) → ((j : ℕ) (x : X) → slice_get xs j ≡ Some x → P x) → All P xs
all-from_lanes P xs h = λ k d l. h k (get_or xs k d) (slice_get-get_or xs k d l)

read-map : {X Y : Type 0} (f : X → Y) (xs : List X) (j : ℕ) (x : X) → slice_get xs j ≡ Some x → slice_get (map f xs) j ≡ Some (f x)
read-map f xs j x e = slice_get-map f xs j ∙ ap (option_map f) e

-- the same lanes
pub same-refl : (lanes : List LaneView) → SameLanes lanes lanes
same-refl lanes = record { ways = refl; closings = refl }

pub same-along : (a b c : List LaneView) → SameLanes a b → SameLanes b c → SameLanes a c
same-along a b c h k = record { ways = k.ways ∙ h.ways; closings = k.closings ∙ h.closings }

pub same-set : (lanes : List LaneView) (i : ℕ) (o o' : LaneView) → o ≡ get_or lanes i o → o'.way ≡ o.way → o'.closed ≡ o.closed → SameLanes lanes (set lanes i o')
same-set lanes i o o' e w c = record {
  ways = map-set_same (λ (z : LaneView). z.way) lanes i o' o (w ∙ ap (λ (z : LaneView). z.way) e);
  closings = map-set_same (λ (z : LaneView). z.closed) lanes i o' o (c ∙ ap (λ (z : LaneView). z.closed) e);
}

pub ways-count : (old new : List LaneView) → ways_of new ≡ ways_of old → length new ≡ length old
ways-count old new w = sym (length-map new (λ (z : LaneView). z.way)) ∙ ap (λ (ws : List Way). length ws) w ∙ length-map old (λ (z : LaneView). z.way)

pub same-count : (old new : List LaneView) → SameLanes old new → length new ≡ length old
same-count old new s = ways-count old new s.ways

-- a lane of the new ones was there before
pub lane-before : (old new : List LaneView) → SameLanes old new → (j : ℕ) (o' : LaneView) → IsLane new j o' → (o : LaneView) × IsLane old j o
lane-before old new s j o' e = let P : ℕ → Type 0 = λ n. j < n in element_at old j (subst P (same-count old new s) (slice_get_within new j o' e))

pub same-ship : (deal deal' : Deal) (old new : List LaneView) → deal' ≡ deal → SameLanes old new → ship_of deal' (ways_of new) ≡ ship_of deal (ways_of old)
same-ship deal deal' old new d s = ap (λ z. ship_of z (ways_of new)) d ∙ ap (ship_of deal) s.ways

pub same-any : (old new : List LaneView) → SameLanes old new → any_closed new ≡ any_closed old
same-any old new s = ap (λ (bs : List Bool). list_any (λ b. b) bs) s.closings

pub served-same : (deal : Deal) (old new : List LaneView) → length new ≡ length old → serves deal (length old) ≡ true → serves deal (length new) ≡ true
served-same deal old new e h = let P : ℕ → Type 0 = λ n. serves deal n ≡ true in subst P (sym e) h

pub few-same : (old new : List LaneView) (most : ℕ) → length new ≡ length old → length old < most → length new < most
few-same old new most e h = let P : ℕ → Type 0 = λ n. n < most in subst P (sym e) h

pub turn-same : (r : ℕ) (old new : List LaneView) → length new ≡ length old → r < length old → r < length new
turn-same r old new e h = let P : ℕ → Type 0 = λ n. r < n in subst P (sym e) h

pub columns-same : (deal deal' : Deal) (old new : List LaneView) → deal' ≡ deal → ways_of new ≡ ways_of old → AreColumns (length (ship_of deal (ways_of old)).types) (columns_of deal)
    → AreColumns (length (ship_of deal' (ways_of new)).types) (columns_of deal')
columns-same deal deal' old new d w h =
    let P : List Way → Type 0 = λ ws. AreColumns (length (first_way ws).types) (columns_of deal) in
    let Q : Deal → Type 0 = λ z. AreColumns (length (first_way (ways_of new)).types) (columns_of z) in
    subst Q (sym d) (subst P (sym w) h)

-- each leads to its consumer
pub numbered-way : (deal : Deal) (lanes : List LaneView) → AreNumbered deal (ways_of lanes) → (j : ℕ) (o : LaneView) → IsLane lanes j o → o.way ≡ way_to (ship_of deal (ways_of lanes)) j
numbered-way deal lanes n j o e = n j o.way (read-map (λ (z : LaneView). z.way) lanes j o e)

pub numbered-same : (deal deal' : Deal) (old new : List LaneView) → deal' ≡ deal → SameLanes old new → AreNumbered deal (ways_of old) → AreNumbered deal' (ways_of new)
numbered-same deal deal' old new d s n =
    subst (λ z. AreNumbered z (ways_of new)) (sym d) (subst (λ (ws : List Way). AreNumbered deal ws) (sym s.ways) n)

-- where none has closed
pub all-open : (lanes : List LaneView) → any_closed lanes ≡ false → All (λ o. o.closed ≡ false) lanes
all-open lanes e = all-from_lanes (λ o. o.closed ≡ false) lanes (λ j o h. open_at lanes j o e h)

or-right : (a : Bool) → (a || true) ≡ true
or-right true = refl
or-right false = refl

pub closed-somewhere : (lanes : List LaneView) (j : ℕ) (o : LaneView) → IsLane lanes j o → o.closed ≡ true → any_closed lanes ≡ true
closed-somewhere [] j o e c = absurd (none-some o e)
closed-somewhere (x ∷ lanes) zero o e c = ap (λ (z : LaneView). z.closed || any_closed lanes) (same_Some x o e) ∙ ap (λ b. b || any_closed lanes) c
closed-somewhere (x ∷ lanes) (suc j) o e c = ap (λ b. x.closed || b) (closed-somewhere lanes j o e c) ∙ or-right x.closed

-- before the first lane there is none
pub closed-first : (lanes : List LaneView) → ClosedBefore 0 lanes
closed-first lanes = λ j o l. absurd (omega (arith, l))

-- the same lanes have closed
pub closed-same : (n : ℕ) (old new : List LaneView) → SameLanes old new → ClosedBefore n old → ClosedBefore n new
closed-same n old new s h = λ j o l e.
    let b = lane-before old new s j o e in
    let f : LaneView → Bool = λ z. z.closed in
    sym (same_Some b.0.closed o.closed (sym (read-map f old j b.0 b.1) ∙ ap (λ (bs : List Bool). slice_get bs j) (sym s.closings) ∙ read-map f new j o e)) ∙ h j b.0 l b.1

-- where nothing waits
none-waits : (ps : List PacketView) → is_empty ps ≡ true → ps ≡ []
none-waits [] e = refl
none-waits (p ∷ ps) e = absurd (true≢false (sym e))

and-first : (a b : Bool) → (a && b) ≡ true → a ≡ true
and-first true b e = refl
and-first false b e = e

and-second : (a b : Bool) → (a && b) ≡ true → b ≡ true
and-second true b e = e
and-second false b e = absurd (true≢false (sym e))

pub idle-lane : (lanes : List LaneView) (j : ℕ) (o : LaneView) → are_idle lanes ≡ true → IsLane lanes j o → o.ready ≡ []
idle-lane [] j o i e = absurd (none-some o e)
idle-lane (x ∷ lanes) zero o i e = ap (λ (z : LaneView). z.ready) (sym (same_Some x o e)) ∙ none-waits x.ready (and-first (is_empty x.ready) (are_idle lanes) i)
idle-lane (x ∷ lanes) (suc j) o i e = idle-lane lanes j o (and-second (is_empty x.ready) (are_idle lanes) i) e

pub idle-from_lanes : (lanes : List LaneView) → ((j : ℕ) (o : LaneView) → IsLane lanes j o → o.ready ≡ []) → are_idle lanes ≡ true
idle-from_lanes [] h = refl
idle-from_lanes (x ∷ lanes) h = ap (λ ps. is_empty ps && are_idle lanes) (h 0 x refl) ∙ idle-from_lanes lanes (λ j o e. h (suc j) o e)

pub all-idle : (lanes : List LaneView) → are_idle lanes ≡ true → All (λ o. o.ready ≡ []) lanes
all-idle lanes i = all-from_lanes (λ o. o.ready ≡ []) lanes (λ j o e. idle-lane lanes j o i e)

pub idle-from_all : (lanes : List LaneView) → All (λ o. o.ready ≡ []) lanes → are_idle lanes ≡ true
idle-from_all lanes all = idle-from_lanes lanes (all-lanes (λ o. o.ready ≡ []) lanes all)

-- then none waits before any lane
pub idle-before : (n : ℕ) (lanes : List LaneView) → are_idle lanes ≡ true → IdleBefore n lanes
idle-before n lanes i = λ j o l e. idle-lane lanes j o i e

-- before the first lane there is none
pub idle-first : (lanes : List LaneView) → IdleBefore 0 lanes
idle-first lanes = λ j o l. absurd (omega (arith, l))

-- lanes that were just made

fresh-first : (way : ℕ → Way) (lanes : List LaneView) → 0 < length lanes → ((j : ℕ) (o : LaneView) → IsLane lanes j o → o ≡ empty_outlet (way j)) → first_way (ways_of lanes) ≡ way 0
fresh-first way [] l h = absurd (omega (arith, l))
fresh-first way (o ∷ lanes) l h = ap (λ (z : LaneView). z.way) (h 0 o refl)

abbrev ship_with : Way → ℕ → ExchangeKind → Ship
ship_with w n k = record { exchange = w.exchange; place = w.place; consumers = n; types = w.types; kind = k; size = w.size }

-- they are those of this sending end
pub fresh-ship : (deal : Deal) (s : Ship) (lanes : List LaneView) → s.kind ≡ kind_of deal → 0 < s.consumers → AreFresh s.consumers (way_to s) lanes → ship_of deal (ways_of lanes) ≡ s
fresh-ship deal s lanes k some f =
    let first : first_way (ways_of lanes) ≡ way_to s 0 = fresh-first (way_to s) lanes (let P : ℕ → Type 0 = λ n. 0 < n in subst P (sym f.count) some) f.each in
    let many : length (ways_of lanes) ≡ s.consumers = length-map lanes (λ (z : LaneView). z.way) ∙ f.count in
    ap (λ (w : Way). ship_with w (length (ways_of lanes)) (kind_of deal)) first ∙ ap (λ n. ship_with (way_to s 0) n (kind_of deal)) many ∙ ap (λ z. ship_with (way_to s 0) s.consumers z) (sym k)

-- and lead each to its consumer
pub fresh-numbered : (deal : Deal) (s : Ship) (lanes : List LaneView) → ship_of deal (ways_of lanes) ≡ s → AreFresh s.consumers (way_to s) lanes → AreNumbered deal (ways_of lanes)
fresh-numbered deal s lanes e f = λ j w h.
    let there : j < length lanes = let P : ℕ → Type 0 = λ n. j < n in subst P (length-map lanes (λ (z : LaneView). z.way)) (slice_get_within (ways_of lanes) j w h) in
    let o = element_at lanes j there in
    sym (same_Some o.0.way w (sym (read-map (λ (z : LaneView). z.way) lanes j o.0 o.1) ∙ h)) ∙ ap (λ (z : LaneView). z.way) (f.each j o.0 o.1) ∙ ap (λ z. way_to z j) (sym e)

-- and none has closed
pub fresh-open : (way : ℕ → Way) (lanes : List LaneView) → ((j : ℕ) (o : LaneView) → IsLane lanes j o → o ≡ empty_outlet (way j)) → any_closed lanes ≡ false
fresh-open way [] h = refl
fresh-open way (o ∷ lanes) h = ap (λ (z : LaneView). z.closed || any_closed lanes) (h 0 o refl) ∙ fresh-open (λ j. way (suc j)) lanes (λ j z e. h (suc j) z e)

pub fresh-none : (way : ℕ → Way) → AreFresh 0 way []
fresh-none way = record { count = refl; each = λ j o e. absurd (none-some o e) }

pub fresh-push : (n : ℕ) (way : ℕ → Way) (lanes : List LaneView) (o : LaneView) → AreFresh n way lanes → o ≡ empty_outlet (way n) → AreFresh (n + 1) way (lanes ++ o ∷ [])
fresh-push n way lanes o f e = record {
  count = let a = length-append lanes (o ∷ []) in let b = f.count in omega (arith, a, b);
  each = λ j z h. elim (get-push lanes o j z h) [
    | inl there ↦ f.each j z there
    | inr last ↦ sym last.1 ∙ e ∙ ap (λ k. empty_outlet (way k)) (sym (last.0 ∙ f.count))
  ];
}

-- lanes of which the first ones were finished
pub record FinishesBelow (n : ℕ) (old new : List LaneView) : Type 0 where
  pub same : SameLanes old new
  pub done : (j : ℕ) (o o' : LaneView) → j < n → IsLane old j o → IsLane new j o' → CutsRest o.way o.current o.ready o'.ready
  pub left : (j : ℕ) → n ≤ j → slice_get new j ≡ slice_get old j
  pub none : (j : ℕ) (o : LaneView) → j < n → IsLane new j o → o.current ≡ []

pub finish-none : (lanes : List LaneView) → FinishesBelow 0 lanes lanes
finish-none lanes = record { same = same-refl lanes; done = λ j o o' l. absurd (omega (arith, l)); left = λ j l. refl; none = λ j o l. absurd (omega (arith, l)) }

pub finish-more : (n : ℕ) (old new : List LaneView) (o o' : LaneView) → n < length new → o ≡ get_or new n o → o'.way ≡ o.way → o'.closed ≡ o.closed → CutsRest o.way o.current o.ready o'.ready
    → o'.current ≡ [] → FinishesBelow n old new → FinishesBelow (n + 1) old (set new n o')
finish-more n old new o o' within e w c cuts empty f = record {
  same = same-along old new (set new n o') f.same (same-set new n o o' e w c);
  done = λ j z z' l h h'. elim (cases_lt j n) [
    | inl less ↦ f.done j z z' less h (sym (get-set_other new n j o' (omega (arith, less))) ∙ h')
    | inr more ↦
        let at : n ≡ j = omega (arith, l, more) in
        let was : o ≡ z = same_Some o z (sym (read-at new n o within e) ∙ f.left n (omega arith) ∙ ap (slice_get old) at ∙ h) in
        let now : o' ≡ z' = same_Some o' z' (sym (get-set_same new n o' within) ∙ ap (slice_get (set new n o')) at ∙ h') in
        let P : LaneView → Type 0 = λ x. CutsRest x.way x.current x.ready z'.ready in
        let Q : LaneView → Type 0 = λ x. CutsRest o.way o.current o.ready x.ready in
        subst P was (subst Q now cuts)
  ];
  left = λ j l. get-set_other new n j o' (omega (arith, l)) ∙ f.left j (omega (arith, l));
  none = below-set (λ (z : LaneView). z.current ≡ []) new n o' within empty f.none;
}

-- all rows go to the one lane
pub one-cuts : (rows : List Row) (lanes : List LaneView) (o o' : LaneView) → length lanes ≡ 1 → o ≡ get_or lanes 0 o → Cuts o.way o.current o.ready rows o'.current o'.ready
    → CutsEach (λ j. rows) lanes (set lanes 0 o')
one-cuts rows [] o o' one e cuts = absurd (omega (arith, one))
one-cuts rows (x ∷ []) o o' one e cuts = each
  where
    each : (j : ℕ) (z z' : LaneView) → IsLane (x ∷ []) j z → IsLane (o' ∷ []) j z' → Cuts z.way z.current z.ready rows z'.current z'.ready
    each zero z z' h h' =
        let P : LaneView → Type 0 = λ y. Cuts y.way y.current y.ready rows z'.current z'.ready in
        let Q : LaneView → Type 0 = λ y. Cuts o.way o.current o.ready rows y.current y.ready in
        subst P (e ∙ same_Some x z h) (subst Q (same_Some o' z' h') cuts)
    each (suc j) z z' h h' = absurd (none-some z h)
one-cuts rows (x ∷ y ∷ lanes) o o' one e cuts = absurd (omega (arith, one))

-- lanes of which the first ones cut their rows
pub record CutsBelow (n : ℕ) (more : Streams) (old new : List LaneView) : Type 0 where
  pub same : SameLanes old new
  pub done : (j : ℕ) (o o' : LaneView) → j < n → IsLane old j o → IsLane new j o' → Cuts o.way o.current o.ready (more j) o'.current o'.ready
  pub left : (j : ℕ) → n ≤ j → slice_get new j ≡ slice_get old j

pub cuts-none : (more : Streams) (lanes : List LaneView) → CutsBelow 0 more lanes lanes
cuts-none more lanes = record { same = same-refl lanes; done = λ j o o' l. absurd (omega (arith, l)); left = λ j l. refl }

pub cuts-more : (n : ℕ) (more : Streams) (old new : List LaneView) (o o' : LaneView) → n < length new → o ≡ get_or new n o → o'.way ≡ o.way → o'.closed ≡ o.closed → Cuts o.way o.current o.ready (more n) o'.current o'.ready
    → CutsBelow n more old new → CutsBelow (n + 1) more old (set new n o')
cuts-more n more old new o o' within e w c cuts f = record {
  same = same-along old new (set new n o') f.same (same-set new n o o' e w c);
  done = λ j z z' l h h'. elim (cases_lt j n) [
    | inl less ↦ f.done j z z' less h (sym (get-set_other new n j o' (omega (arith, less))) ∙ h')
    | inr more_than ↦
        let at : n ≡ j = omega (arith, l, more_than) in
        let was : o ≡ z = same_Some o z (sym (read-at new n o within e) ∙ f.left n (omega arith) ∙ ap (slice_get old) at ∙ h) in
        let now : o' ≡ z' = same_Some o' z' (sym (get-set_same new n o' within) ∙ ap (slice_get (set new n o')) at ∙ h') in
        let P : LaneView → Type 0 = λ x. Cuts x.way x.current x.ready (more j) z'.current z'.ready in
        let Q : LaneView → Type 0 = λ x. Cuts o.way o.current o.ready (more j) x.current x.ready in
        let M : ℕ → Type 0 = λ i. Cuts o.way o.current o.ready (more i) o'.current o'.ready in
        subst P was (subst Q now (subst M at cuts))
  ];
  left = λ j l. get-set_other new n j o' (omega (arith, l)) ∙ f.left j (omega (arith, l));
}

-- a lane that is next is as it was
pub next-was : (n : ℕ) (more : Streams) (old new : List LaneView) (o : LaneView) → n < length new → o ≡ get_or new n o → CutsBelow n more old new → IsLane old n o
next-was n more old new o within e f = sym (f.left n (omega arith)) ∙ read-at new n o within e

pub cuts-all : (n : ℕ) (more : Streams) (old new : List LaneView) → length old ≤ n → CutsBelow n more old new → CutsEach more old new
cuts-all n more old new l f = λ j o o' h h'. f.done j o o' (let there = slice_get_within old j o h in omega (arith, l, there)) h h'

-- the same lanes, where the rows are the same
pub cuts-same : (more more' : Streams) (old new : List LaneView) → ((j : ℕ) → j < length old → more j ≡ more' j) → CutsEach more old new → CutsEach more' old new
cuts-same more more' old new e cuts = λ j o o' h h'.
    let P : List Row → Type 0 = λ rows. Cuts o.way o.current o.ready rows o'.current o'.ready in
    subst P (e j (slice_get_within old j o h)) (cuts j o o' h h')

pub serves-one : (n : ℕ) → (n == 1) ≡ true → n ≡ 1
serves-one n h = elim (eqb_tells n 1) [
  | inl d ↦ d.1
  | inr d ↦ absurd (true≢false (sym h ∙ d.0))
]

-- rows are dealt to some consumer
pub serves-some : (deal : Deal) (n : ℕ) → serves deal n ≡ true → 0 < n
serves-some (Route z r) n h = ltb-true 0 n h
serves-some (Round z) n h = ltb-true 0 n h
serves-some (Broadcast z) n h = ltb-true 0 n h
serves-some Gather n h = let e = serves-one n h in omega (arith, e)
serves-some Concat n h = let e = serves-one n h in omega (arith, e)

-- while rows come nothing closes
pub open-idle : (st : SenderState) (old new : List LaneView) → st ≡ Open → any_closed old ≡ false → SameLanes old new → may_close st new ≡ true → are_idle new ≡ true
open-idle Open old new o unclosed same e = absurd (true≢false (sym e ∙ same-any old new same ∙ unclosed))
open-idle Ending old new o unclosed same e = absurd (true≢false (sym e ∙ same-any old new same ∙ unclosed))
open-idle Failing old new o unclosed same e = cc

-- a packet was given

pub gives-same : (old new : List LaneView) (i : ℕ) (p : PacketView) → GivesPacket old new i p → SameLanes old new
gives-same old new i p x =
    let P : List LaneView → Type 0 = λ z. SameLanes old z in
    subst P (sym x.lanes) (same-set old i x.before x.after (sym (get_or_from_slice_get old i x.before x.before x.there)) x.way x.closed)

pub given-same : (old new : List LaneView) (r : Option (ℕ × PacketView)) → IfSome r (λ x. GivesPacket old new x.0 x.1) → IfNone r (new ≡ old) → SameLanes old new
given-same old new None h k = let P : List LaneView → Type 0 = λ z. SameLanes old z in subst P (sym k) (same-refl old)
given-same old new (Some x) h k = gives-same old new x.0 x.1 h

waits-not : (old new : List LaneView) (i : ℕ) (p : PacketView) → GivesPacket old new i p → are_idle old ≡ true → ⊥
waits-not old new i p x idle =
    let none : x.before.ready ≡ [] = idle-lane old i x.before idle x.there in
    let some : p ∷ x.after.ready ≡ [] = sym x.ready ∙ none in
    cc

unless-failing : (st : SenderState) (lanes : List LaneView) → (st ≡ Failing → ⊥) → may_close st lanes ≡ any_closed lanes
unless-failing Open lanes f = refl
unless-failing Ending lanes f = refl
unless-failing Failing lanes f = absurd (f refl)

-- so no lane has closed
pub gives-unclosed : (st : SenderState) (old new : List LaneView) (i : ℕ) (p : PacketView) → (st ≡ Failing → ⊥) → (may_close st old ≡ true → are_idle old ≡ true) → GivesPacket old new i p → any_closed new ≡ false
gives-unclosed st old new i p f idle x = same-any old new (gives-same old new i p x) ∙ go (any_closed old) refl
  where
    go : (b : Bool) → any_closed old ≡ b → b ≡ false
    go false e = refl
    go true e = absurd (waits-not old new i p x (idle (unless-failing st old f ∙ e)))

pub gives-idle : (st : SenderState) (old new : List LaneView) (i : ℕ) (p : PacketView) → (st ≡ Failing → ⊥) → (may_close st old ≡ true → are_idle old ≡ true) → GivesPacket old new i p
    → may_close st new ≡ true → are_idle new ≡ true
gives-idle st old new i p f idle x e = absurd (true≢false (sym e ∙ unless-failing st new f ∙ gives-unclosed st old new i p f idle x))

pub given-idle : (st : SenderState) (old new : List LaneView) (r : Option (ℕ × PacketView)) → (st ≡ Failing → ⊥) → (may_close st old ≡ true → are_idle old ≡ true)
    → IfSome r (λ x. GivesPacket old new x.0 x.1) → IfNone r (new ≡ old) → may_close st new ≡ true → are_idle new ≡ true
given-idle st old new None f idle h k = let P : List LaneView → Type 0 = λ z. may_close st z ≡ true → are_idle z ≡ true in subst P (sym k) idle
given-idle st old new (Some x) f idle h k = gives-idle st old new x.0 x.1 f idle h

-- a closing packet was given

pub closes-ways : (content : Content) (old new : List LaneView) (i : ℕ) (p : PacketView) → GivesClosing content old new i p → ways_of new ≡ ways_of old
closes-ways content old new i p x =
    let f : LaneView → Way = λ z. z.way in
    ap ways_of x.lanes ∙ map-set_same f old i x.after x.before (x.way ∙ ap f (sym (get_or_from_slice_get old i x.before x.before x.there)))

pub closed-ways : (content : Content) (old new : List LaneView) (r : Option (ℕ × PacketView)) → IfSome r (λ x. GivesClosing content old new x.0 x.1) → IfNone r (new ≡ old) → ways_of new ≡ ways_of old
closed-ways content old new None h k = ap ways_of k
closed-ways content old new (Some x) h k = closes-ways content old new x.0 x.1 h

pub closes-somewhere : (content : Content) (old new : List LaneView) (i : ℕ) (p : PacketView) → GivesClosing content old new i p → any_closed new ≡ true
closes-somewhere content old new i p x =
    ap any_closed x.lanes ∙ closed-somewhere (set old i x.after) i x.after (get-set_same old i x.after (slice_get_within old i x.before x.there)) x.closed

pub closed-idle : (content : Content) (old new : List LaneView) (r : Option (ℕ × PacketView)) → All (λ o. o.ready ≡ []) old → IfSome r (λ x. GivesClosing content old new x.0 x.1) → IfNone r (new ≡ old)
    → are_idle new ≡ true
closed-idle content old new None idle h k = ap are_idle k ∙ idle-from_all old idle
closed-idle content old new (Some x) idle h k =
    ap are_idle h.lanes
    ∙ idle-from_all (set old x.0 h.after) (All-set (λ o. o.ready ≡ []) old x.0 h.after (h.ready ∙ all-lanes (λ o. o.ready ≡ []) old idle x.0 h.before h.there) idle)
