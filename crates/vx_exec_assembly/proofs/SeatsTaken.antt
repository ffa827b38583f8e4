-- Seats taken one after another (our own).
use Rattle.std.proofs.Common.{arith, ℕ, zero, suc, ◌≡◌, ◌≢◌, ◌<◌, ◌⊎◌, List, [], ◌∷◌, Vec, Global, length, Some}
use Rattle.std.proofs.Common.{refl, sym, ap, ◌∙◌, subst, inl, inr, slice_get}
use Rattle.std.proofs.Math.ListN.{set}
use Rattle.std.specs.List.{slice_index_or}
use Rattle.std.proofs.lemmas.Bool.{cases_eq}
use Rattle.std.proofs.lemmas.Option.{get_or_from_slice_get, same_Some}
use Rattle.vx_exec_threads.proofs.Bearing.{set-here, set-other}
use Rattle.vx_morsel_decks.specs.Seats.{SeatView}
use Rattle.vx_exec_threads.specs.declared.drawer.Drawer.{Drawer}
use Rattle.vx_exec_threads.specs.declared.drawer.Dealer.TheVariants as dealer
use Rattle.vx_exec_assembly.specs.Pairs.{At}
use Rattle.vx_exec_assembly.specs.Closing.{DrawIn, AreApartDraws}
use Rattle.vx_exec_assembly.specs.SeatsTaken.{SeatAt, Remains}

seat-deck : (k l : ℕ) (s t : SeatView) → dealer.Seat k s ≡ dealer.Seat l t → k ≡ l
seat-deck k l s t e = cc

seat-view : (k : ℕ) (s t : SeatView) → dealer.Seat k s ≡ dealer.Seat k t → s ≡ t
seat-view k s t e = cc

-- what stands at one place of one list
pub one-at : {A : Type 0} (xs : List (Vec A Global)) (a j : ℕ) (x y : A) → At xs a j x → At xs a j y → x ≡ y
one-at xs a j x y h k =
    let e = same_Some k.list h.list (sym k.outer ∙ h.outer) in
    same_Some x y (sym h.inner ∙ subst (λ v. slice_get v.items j ≡ Some y) e k.inner)

pub remains-then : (p q r : (a k : ℕ) → Type 0) (xs ys zs : List (Vec Drawer Global)) → ((a k : ℕ) → r a k → p a k × q a k)
    → Remains p xs ys → Remains q ys zs → Remains r xs zs
remains-then p q r xs ys zs both f g = record {
  seats = λ a n k s st h. let b = both a k st in g.seats a n k s b.1 (f.seats a n k s b.0 h);
  places = λ a j y h. let u = g.places a j y h in let v = f.places a j u.0 u.1 in (v.0, v.1, u.2 ∙ v.2);
}

pub remains-apart : (p : (a k : ℕ) → Type 0) (xs ys : List (Vec Drawer Global)) → Remains p xs ys → AreApartDraws xs → AreApartDraws ys
remains-apart p xs ys f apart b k l x y hx hy e =
    let u = f.places b k x hx in
    let v = f.places b l y hy in
    apart b k l u.0 v.0 u.1 v.1 (sym u.2 ∙ e ∙ v.2)

-- one drawer of one list was changed, which was that of a seat: l became w
module _ (xs : List (Vec Drawer Global)) (a j d : ℕ) (t : SeatView) (l w : Vec Drawer Global) (x y : Drawer) where
  pub remains-set : slice_get xs a ≡ Some l → slice_get l.items j ≡ Some x → w.items ≡ set l.items j y → x.dealer ≡ dealer.Seat d t → y.scan ≡ x.scan
      → Remains (λ b k. (b ≢ a) ⊎ (k ≢ d)) xs (set xs a w)
  remains-set at here wi seat scan = record {
    seats = λ b n k s st h.
        let i = h.0 in
        let z = h.1 in
        elim (cases_eq b a) [
          | inl e ↦
              let lz : l ≡ h.2.list = same_Some l h.2.list (sym at ∙ ap (slice_get xs) (sym e) ∙ h.2.outer) in
              let inn : slice_get l.items i ≡ Some z = subst (λ (v : Vec Drawer Global). slice_get v.items i ≡ Some z) (sym lz) h.2.inner in
              let outer : slice_get (set xs a w) b ≡ Some w = subst (λ m. slice_get (set xs a w) m ≡ Some w) (sym e) (set-here xs a l w at) in
              elim (cases_eq i j) [
                | inl f ↦
                    let xz : x ≡ z = same_Some x z (sym here ∙ ap (slice_get l.items) (sym f) ∙ inn) in
                    let dk : k ≡ d = seat-deck k d s t (sym h.4 ∙ ap (λ (v : Drawer). v.dealer) (sym xz) ∙ seat) in
                    absurd (elim st [ inl ne ↦ ne e | inr ne ↦ ne dk ])
                | inr f ↦ (
                  i,
                  z,
                  record { list = w; outer = outer; inner = ap (λ ys. slice_get ys i) wi ∙ set-other l.items j y i f ∙ inn },
                  h.3,
                  h.4,
                )
              ]
          | inr e ↦ (i, z, record { list = h.2.list; outer = set-other xs a w b e ∙ h.2.outer; inner = h.2.inner }, h.3, h.4)
        ];
    places = λ b k z h. elim (cases_eq b a) [
      | inl e ↦
          let wz : w ≡ h.list = same_Some w h.list (sym (set-here xs a l w at) ∙ ap (slice_get (set xs a w)) (sym e) ∙ h.outer) in
          let inn : slice_get (set l.items j y) k ≡ Some z =
          sym (ap (λ ys. slice_get ys k) wi) ∙ subst (λ (v : Vec Drawer Global). slice_get v.items k ≡ Some z) (sym wz) h.inner in
          let outer : slice_get xs b ≡ Some l = ap (slice_get xs) e ∙ at in
          elim (cases_eq k j) [
            | inl f ↦
                let yz : y ≡ z = same_Some y z (sym (set-here l.items j x y here) ∙ ap (slice_get (set l.items j y)) (sym f) ∙ inn) in
                (x, record { list = l; outer = outer; inner = ap (slice_get l.items) f ∙ here }, sym (ap (λ (v : Drawer). v.scan) yz) ∙ scan)
            | inr f ↦ (z, record { list = l; outer = outer; inner = sym (set-other l.items j y k f) ∙ inn }, refl)
          ]
      | inr e ↦ (z, record { list = h.list; outer = sym (set-other xs a w b e) ∙ h.outer; inner = h.inner }, refl)
    ];
  }

pub below : {A : Type 0} (xs : List A) (k : ℕ) → k < length xs → (x : A) × (slice_get xs k ≡ Some x)
below [] k l = absurd (omega (arith, l))
below (x ∷ xs) zero l = (x, refl)
below (x ∷ xs) (suc k) l = below xs k (omega (arith, l))

-- what stands at the place that a search found
found : (xs : List (Vec Drawer Global)) (a n place : ℕ) (l : Vec Drawer Global) (items : List Drawer) → slice_get xs a ≡ Some l → items ≡ l.items
    → place < length items → ((d : Drawer) → (slice_index_or items place d).scan ≡ n) → (y : Drawer) × At xs a place y × (y.scan ≡ n)
found xs a n place l items at same lt scan =
    let y = below items place lt in (
      y.0,
      record { list = l; outer = at; inner = subst (λ (ys : List Drawer). slice_get ys place ≡ Some y.0) same y.1 },
      subst (λ (z : Drawer). z.scan ≡ n) (get_or_from_slice_get items place y.0 y.0 y.1) (scan y.0),
    )

-- it is the seat's place
pub found-seat : (xs : List (Vec Drawer Global)) (a n k place : ℕ) (s : SeatView) (h : DrawIn xs a n (dealer.Seat k s)) (items : List Drawer)
    → items ≡ h.2.list.items → place < length items → ((d : Drawer) → (slice_index_or items place d).scan ≡ n) → AreApartDraws xs
    → (x : Drawer) × At xs a place x × (x.dealer ≡ dealer.Seat k s)
found-seat xs a n k place s h items same lt scan apart =
    let y = found xs a n place h.2.list items h.2.outer same lt scan in
    let e : h.0 ≡ place = apart a h.0 place h.1 y.0 h.2 y.1 (h.3 ∙ sym y.2) in
    (h.1, subst (λ z. At xs a z h.1) e h.2, h.4)

-- the seat that stood there was for the scan
pub found-draw : (xs : List (Vec Drawer Global)) (a n k place : ℕ) (s : SeatView) (l : Vec Drawer Global) (items : List Drawer) → slice_get xs a ≡ Some l
    → items ≡ l.items → place < length items → ((d : Drawer) → (slice_index_or items place d).scan ≡ n) → SeatAt xs a place k s
    → DrawIn xs a n (dealer.Seat k s)
found-draw xs a n k place s l items at same lt scan h =
    let y = found xs a n place l items at same lt scan in
    let e : y.0 ≡ h.0 = one-at xs a place y.0 h.0 y.1 h.1 in
    (place, h.0, h.1, ap (λ (v : Drawer). v.scan) (sym e) ∙ y.2, h.2)

-- two seats that a worker has for one scan are one
pub one-seat : (xs : List (Vec Drawer Global)) (a n k : ℕ) (s t : SeatView) → AreApartDraws xs → DrawIn xs a n (dealer.Seat k s) → DrawIn xs a n (dealer.Seat k t) → s ≡ t
one-seat xs a n k s t apart g h =
    let e : h.0 ≡ g.0 = apart a h.0 g.0 h.1 g.1 h.2 g.2 (h.3 ∙ sym g.3) in
    let xy : g.1 ≡ h.1 = one-at xs a g.0 g.1 h.1 g.2 (subst (λ z. At xs a z h.1) e h.2) in
    let both : dealer.Seat k s ≡ dealer.Seat k t = sym g.4 ∙ ap (λ (v : Drawer). v.dealer) xy ∙ h.4 in
    seat-view k s t both

-- the seat that a worker has now for a scan is the one that it had before
pub held-back : (p : (a k : ℕ) → Type 0) (xs ys : List (Vec Drawer Global)) → Remains p xs ys → AreApartDraws ys
    → (a n k : ℕ) (s t : SeatView) → p a k → DrawIn xs a n (dealer.Seat k s) → DrawIn ys a n (dealer.Seat k t) → DrawIn xs a n (dealer.Seat k t)
held-back p xs ys f apart a n k s t st h g =
    subst (λ z. DrawIn xs a n (dealer.Seat k z)) (one-seat ys a n k s t apart (f.seats a n k s st h) g) h
