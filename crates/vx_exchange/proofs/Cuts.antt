-- Rows that go into packets.
use Rattle.std.proofs.Common.{ℕ, ◌≡◌, ◌≤◌, ◌<◌, ◌+◌, ◌-◌, List, [], ◌∷◌, ◌++◌, length, take, drop, take_all, map, sym, ap, ◌∙◌, arith, append_assoc, append-nil, length-append}
use Rattle.std.specs.List.{AllByRecursion}
use Rattle.std.specs.Prelude.{slice_range}
use Rattle.std.proofs.Math.Seq.{take-add}
use Rattle.std.proofs.lemmas.List.{map-append, drop-drop}
use Rattle.std.proofs.lemmas.List.Edits.{length-between}
use Rattle.std.proofs.lemmas.Slice.{between_from_start}
use Rattle.vx_rows_values.specs.Values.{Row}
use Rattle.vx_ports.specs.Packets.{PacketView}
use Rattle.vx_exchange_ends.specs.Ship.{end_to_end}
use Rattle.vx_exchange.specs.LaneView.{Way, parcel_at, Cuts, CutsRest}
use Rattle.vx_exchange_ends.specs.Beginnings.{end_to_end-append}

-- a range of rows, and then the next one
pub range-next : {X : Type 0} (a b e : ℕ) (xs : List X) → a ≤ b → b ≤ e → slice_range xs a b ++ slice_range xs b e ≡ slice_range xs a e
range-next a b e xs low high =
    let n = b - a in
    let m = e - b in
    let rest : drop n (drop a xs) ≡ drop b xs = drop-drop n a xs ∙ ap (λ k. drop k xs) (omega arith) in
    ap (λ ys. take n (drop a xs) ++ take m ys) (sym rest) ∙ sym (take-add n m (drop a xs)) ∙ ap (λ k. take k (drop a xs)) (omega arith)

-- an empty range
pub range-none : {X : Type 0} (a : ℕ) (xs : List X) → slice_range xs a a ≡ []
range-none a xs = let none : a - a ≡ 0 = omega arith in ap (λ k. take k (drop a xs)) none

-- the range of all
pub range-all : {X : Type 0} (n : ℕ) (xs : List X) → n ≡ length xs → slice_range xs 0 n ≡ xs
range-all n xs e = between_from_start xs n ∙ take_all n xs (omega (arith, e))

pub all-append : {X : Type 0} (P : X → Type 0) (xs ys : List X) → AllByRecursion P xs → AllByRecursion P ys → AllByRecursion P (xs ++ ys)
all-append P [] ys h k = k
all-append P (x ∷ xs) ys h k = (h.0, all-append P xs ys h.1 k)

-- just as many as make one
pub cuts-one : (way : Way) (current : List Row) (ready : List PacketView) (more current' : List Row) (ready' : List PacketView)
    → length (current ++ more) ≡ way.size → current' ≡ [] → ready' ≡ ready ++ parcel_at way (current ++ more) ∷ []
    → Cuts way current ready more current' ready'
cuts-one way current ready more current' ready' n e f = record {
  full = (current ++ more) ∷ [];
  all_full = (n, tt);
  rows_are = ap (λ ys. ((current ++ more) ++ []) ++ ys) e ∙ append-nil ((current ++ more) ++ []) ∙ append-nil (current ++ more);
  ready_are = sym f;
}

-- how many rows there are with a range of others
pub length-with_range : (current rows : List Row) (a b n : ℕ) → b ≤ length rows → length current + (b - a) ≡ n → length (current ++ slice_range rows a b) ≡ n
length-with_range current rows a b n le e = length-append current (slice_range rows a b) ∙ ap (λ k. length current + k) (length-between rows a b le) ∙ e

-- no more rows
pub cuts-nothing : (way : Way) (current : List Row) (ready : List PacketView) → Cuts way current ready [] current ready
cuts-nothing way current ready = record { full = []; all_full = tt; rows_are = sym (append-nil current); ready_are = append-nil ready }

-- one after the other
pub cuts-both : (way : Way) (current : List Row) (ready : List PacketView) (xs current' : List Row) (ready' : List PacketView) (ys current'' : List Row) (ready'' : List PacketView)
    → Cuts way current ready xs current' ready' → Cuts way current' ready' ys current'' ready'' → Cuts way current ready (xs ++ ys) current'' ready''
cuts-both way current ready xs current' ready' ys current'' ready'' a b = record {
  full = a.full ++ b.full;
  all_full = all-append (λ (p : List Row). length p ≡ way.size) a.full b.full a.all_full b.all_full;
  rows_are = ap (λ zs. zs ++ current'') (end_to_end-append a.full b.full) ∙ append_assoc (end_to_end a.full) (end_to_end b.full) current'' ∙ ap (λ zs. end_to_end a.full ++ zs) b.rows_are
      ∙ sym (append_assoc (end_to_end a.full) current' ys) ∙ ap (λ zs. zs ++ ys) a.rows_are ∙ append_assoc current xs ys;
  ready_are = ap (λ zs. ready ++ zs) (map-append (parcel_at way) a.full b.full) ∙ sym (append_assoc ready (map (parcel_at way) a.full) (map (parcel_at way) b.full))
      ∙ ap (λ zs. zs ++ map (parcel_at way) b.full) a.ready_are ∙ b.ready_are;
}

-- some rows are left
pub rest-one : (way : Way) (current : List Row) (ready ready' : List PacketView) → 0 < length current → length current < way.size → ready' ≡ ready ++ parcel_at way current ∷ [] → CutsRest way current ready ready'
rest-one way current ready ready' some less f = record { rest = current ∷ []; at_most_one = omega arith; shorter = ((some, less), tt); rows_are = append-nil current; ready_are = sym f }
