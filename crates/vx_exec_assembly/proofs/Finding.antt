-- The inlet that a search found is the one that was looked for (our own).
use Rattle.std.proofs.Common.{ℕ, ◌≡◌, ◌<◌, ◌&&◌, ◌==◌, Bool, true, false, List, Vec, Global, length, Some, refl, sym, ap, ◌∙◌, subst, slice_get}
use Rattle.std.specs.List.{slice_index_or}
use Rattle.std.proofs.lemmas.Bool.{eqb-true}
use Rattle.std.proofs.lemmas.Option.{get_or_from_slice_get}
use Rattle.vx_exec_assembly.proofs.SeatsTaken.{below, one-at}
use Rattle.vx_ports_rings.specs.declared.ring.RingOut.{RingOut}
use Rattle.vx_exec_threads.specs.Inlets.{is_way}
use Rattle.vx_exec_threads.specs.Joined.{FlowsThrough}
use Rattle.vx_exec_threads.specs.Paired.{IsRingOf}
use Rattle.vx_exec_threads.specs.declared.inlet.Inlet.{Inlet}
use Rattle.vx_exec_assembly.specs.Pairs.{At, RingAt}
use Rattle.vx_exec_assembly.specs.Plans.{PairIn, AreApart}

-- within the list the default counts for nothing
pub same-or : {A : Type 0} (xs : List A) (k : ℕ) (d e : A) → k < length xs → slice_index_or xs k d ≡ slice_index_or xs k e
same-or xs k d e l =
    let x = below xs k l in
    get_or_from_slice_get xs k x.0 d x.1 ∙ sym (get_or_from_slice_get xs k x.0 e x.1)

both : (a b : Bool) → (a && b) ≡ true → (a ≡ true) × (b ≡ true)
both true b e = (refl, e)
both false b e = absurd (cc)

pub found : (is : List (Vec Inlet Global)) (b n i place : ℕ) (l : Vec Inlet Global) (xs : List Inlet) → slice_get is b ≡ Some l → xs ≡ l.items → place < length xs
    → ((d : Inlet) → is_way (slice_index_or xs place d) n i ≡ true) → (y : Inlet) × At is b place y × (y.exchange ≡ n) × (y.from ≡ i)
found is b n i place l xs at same lt way =
    let x = below xs place lt in
    let is_it : is_way x.0 n i ≡ true = subst (λ (z : Inlet). is_way z n i ≡ true) (get_or_from_slice_get xs place x.0 x.0 x.1) (way x.0) in
    let w = both (x.0.exchange == n) (x.0.from == i) is_it in
    (x.0, record { list = l; outer = at; inner = subst (λ (ys : List Inlet). slice_get ys place ≡ Some x.0) same x.1 }, eqb-true x.0.exchange n w.0, eqb-true x.0.from i w.1)

module _ (os : List (Vec RingOut Global)) (is : List (Vec Inlet Global)) (a j b n i place : ℕ)
    (y : (e : Inlet) × At is b place e × (e.exchange ≡ n) × (e.from ≡ i)) where
  pub found-ring : PairIn IsRingOf os is a j b n i → AreApart is → RingAt IsRingOf os is a j b place
  found-ring f apart =
      let same : f.3 ≡ place = apart b f.3 place f.1 y.0 f.4 y.1 (f.5 ∙ sym y.2) (f.6 ∙ sym y.3) in
      record { out = f.0; inlet = f.1; at_out = f.2; at_in = subst (λ (z : ℕ). At is b z f.1) same f.4; fact = f.7 }

  pub found-pair : RingAt FlowsThrough os is a j b place → PairIn FlowsThrough os is a j b n i
  found-pair r =
      let same : y.0 ≡ r.inlet = one-at is b place y.0 r.inlet y.1 r.at_in in (
        r.out,
        r.inlet,
        r.at_out,
        place,
        r.at_in,
        ap (λ (z : Inlet). z.exchange) (sym same) ∙ y.2,
        ap (λ (z : Inlet). z.from) (sym same) ∙ y.3,
        r.fact,
      )
