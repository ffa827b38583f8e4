-- What threads held, as one list of all and as lists of its parts (our own).
use Rattle.std.proofs.Common.{ℕ, zero, suc, ◌≡◌, List, [], ◌∷◌, ◌++◌, map, Vec, Global, Some, refl, sym, ap, ◌∙◌, subst, slice_get, append_assoc, option_map}
use Rattle.std.proofs.lemmas.Option.{same_Some, none-some, slice_get-map}
use Rattle.vx_ports_rings.specs.declared.ring.RingOut.{RingOut}
use Rattle.vx_exec_threads.specs.declared.inlet.Inlet.{Inlet}
use Rattle.vx_exec_threads.specs.declared.drawer.Dealer.{Dealer}
use Rattle.vx_exec_threads.specs.Holds.{Hold, IsApart, OutAt, InAt, DrawAt}
use Rattle.vx_exec_threads.specs.Joined.{PairAt}
use Rattle.vx_exec_spawn.specs.declared.member.Joined.{Joined}
use Rattle.vx_exec_assembly.specs.Pairs.{At}
use Rattle.vx_exec_assembly.specs.Plans.{PairIn, AreApart}
use Rattle.vx_exec_assembly.specs.Closing.{DrawIn, AreApartDraws}
use Rattle.vx_exec_assembly.specs.Parts.{outs_in, ins_in, drawers_in, held_in}

pub map-on : {A B : Type 0} (f : A → B) (xs : List A) (a : ℕ) (x : A) → slice_get xs a ≡ Some x → slice_get (map f xs) a ≡ Some (f x)
map-on f xs a x e = slice_get-map f xs a ∙ ap (option_map f) e

pub map-back : {A B : Type 0} (f : A → B) (xs : List A) (a : ℕ) (y : B) → slice_get (map f xs) a ≡ Some y → (x : A) × (slice_get xs a ≡ Some x) × (f x ≡ y)
map-back f [] a y e = absurd (none-some y e)
map-back f (x ∷ xs) zero y e = (x, refl, same_Some (f x) y e)
map-back f (x ∷ xs) (suc a) y e = map-back f xs a y e

module _ {O S : Type 0} (js : List (Joined O S)) where
  -- one place of one list, by what the thread of a worker held
  part : {A : Type 0} (f : Joined O S → Vec A Global) (a j : ℕ) (x : A) → At (map f js) a j x
      → (one : Joined O S) × (slice_get js a ≡ Some one) × (slice_get (f one).items j ≡ Some x)
  part {A} f a j x h =
      let z = map-back f js a h.list h.outer in
      (z.0, z.1, subst (λ (v : Vec A Global). slice_get v.items j ≡ Some x) (sym z.2) h.inner)

  part-on : {A : Type 0} (f : Joined O S → Vec A Global) (a j : ℕ) (x : A) (one : Joined O S) → slice_get js a ≡ Some one
      → slice_get (f one).items j ≡ Some x → At (map f js) a j x
  part-on f a j x one here there = record { list = f one; outer = map-on f js a one here; inner = there }

  pub out-in : (a j : ℕ) (o : RingOut) → OutAt (map held_in js) a j o → At (map outs_in js) a j o
  out-in a j o h =
      let z = map-back held_in js a h.hold h.worker in
      part-on outs_in a j o z.0 z.1 (subst (λ (v : Hold). slice_get v.outs j ≡ Some o) (sym z.2) h.place)

  pub out-at : (a j : ℕ) (o : RingOut) → At (map outs_in js) a j o → OutAt (map held_in js) a j o
  out-at a j o h =
      let z = part outs_in a j o h in
      record { hold = held_in z.0; worker = map-on held_in js a z.0 z.1; place = z.2 }

  pub in-at : (b n i k : ℕ) (e : Inlet) → At (map ins_in js) b k e → e.exchange ≡ n → e.from ≡ i → InAt (map held_in js) b n i e
  in-at b n i k e h x f =
      let z = part ins_in b k e h in
      record { hold = held_in z.0; worker = map-on held_in js b z.0 z.1; k = k; place = z.2; exchange = x; from = f }

  pub inlet-in : (b n i : ℕ) (e : Inlet) (h : InAt (map held_in js) b n i e) → At (map ins_in js) b h.k e
  inlet-in b n i e h =
      let z = map-back held_in js b h.hold h.worker in
      part-on ins_in b h.k e z.0 z.1 (subst (λ (v : Hold). slice_get v.ins h.k ≡ Some e) (sym z.2) h.place)

  pub draw-in : (a n : ℕ) (d : Dealer) → DrawAt (map held_in js) a n d → DrawIn (map drawers_in js) a n d
  draw-in a n d h =
      let z = map-back held_in js a h.hold h.worker in (
        h.k,
        h.x,
        part-on drawers_in a h.k h.x z.0 z.1 (subst (λ (v : Hold). slice_get v.draws h.k ≡ Some h.x) (sym z.2) h.place),
        h.scan,
        h.dealer,
      )

  pub draw-at : (a n : ℕ) (d : Dealer) → DrawIn (map drawers_in js) a n d → DrawAt (map held_in js) a n d
  draw-at a n d h =
      let z = part drawers_in a h.0 h.1 h.2 in
      record { hold = held_in z.0; worker = map-on held_in js a z.0 z.1; k = h.0; x = h.1; place = z.2; scan = h.3; dealer = h.4 }

  pub pair-in : (P : RingOut → Inlet → Type 0) (a j b n i : ℕ) → PairAt P (map held_in js) a j b n i → PairIn P (map outs_in js) (map ins_in js) a j b n i
  pair-in P a j b n i h =
      (h.0, h.1, out-in a j h.0 h.2, h.3.k, inlet-in b n i h.1 h.3, h.3.exchange, h.3.from, h.4)

  pub pair-at : (P : RingOut → Inlet → Type 0) (a j b n i : ℕ) → PairIn P (map outs_in js) (map ins_in js) a j b n i → PairAt P (map held_in js) a j b n i
  pair-at P a j b n i h = (h.0, h.1, out-at a j h.0 h.2, in-at b n i h.3 h.1 h.4 h.5 h.6, h.7)

  module _ (apart : (a : ℕ) (h : Hold) → slice_get (map held_in js) a ≡ Some h → IsApart h) where
    same-one : (a : ℕ) (x y : Joined O S) → slice_get js a ≡ Some x → slice_get js a ≡ Some y → x ≡ y
    same-one a x y p q = same_Some x y (sym p ∙ q)

    pub apart-in : AreApart (map ins_in js)
    apart-in b k l e f x y p q =
        let u = part ins_in b k e x in
        let v = part ins_in b l f y in
        let there : slice_get u.0.ends.ins.items l ≡ Some f =
        subst (λ (z : Joined O S). slice_get z.ends.ins.items l ≡ Some f) (same-one b v.0 u.0 v.1 u.1) v.2 in
        (apart b (held_in u.0) (map-on held_in js b u.0 u.1)).ins k l e f u.2 there p q

    pub apart-draws : AreApartDraws (map drawers_in js)
    apart-draws b k l x y p q e =
        let u = part drawers_in b k x p in
        let v = part drawers_in b l y q in
        let there : slice_get u.0.ends.draws.items l ≡ Some y =
        subst (λ (z : Joined O S). slice_get z.ends.draws.items l ≡ Some y) (same-one b v.0 u.0 v.1 u.1) v.2 in
        (apart b (held_in u.0) (map-on held_in js b u.0 u.1)).draws k l x y u.2 there e

-- one more was taken apart
pub moves : {A B : Type 0} (f : A → B) (xs more : List B) (x : A) (y : B) (left rest : List A) (all : List B) → more ≡ xs ++ y ∷ [] → y ≡ f x
    → left ≡ x ∷ rest → xs ++ map f left ≡ all → more ++ map f rest ≡ all
moves f xs more x y left rest all pushed is next was =
    ap (λ z. z ++ map f rest) pushed ∙ append_assoc xs (y ∷ []) (map f rest) ∙ ap (λ z. xs ++ z ∷ map f rest) is
    ∙ ap (λ z. xs ++ map f z) (sym next) ∙ was
