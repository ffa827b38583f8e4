-- One pair after another.
use Rattle.std.proofs.Common.{Vec, Global, ℕ, ◌≡◌, List, Some}
use Rattle.std.proofs.Common.{refl, sym, ap, ◌∙◌, subst, inl, inr, slice_get}
use Rattle.std.proofs.Math.ListN.{set}
use Rattle.std.proofs.lemmas.Bool.{cases_eq}
use Rattle.std.proofs.lemmas.Option.{same_Some}
use Rattle.vx_exec_threads.proofs.Bearing.{set-here, set-other}
use Rattle.vx_ports.specs.Packets.{Flows}
use Rattle.vx_ports_rings.specs.Ends.{put_to, taken_from}
use Rattle.vx_ports_rings.specs.declared.ring.RingOut.{RingOut}
use Rattle.vx_exec_threads.specs.Idle.{same_inlet_self}
use Rattle.vx_exec_threads.specs.Joined.{FlowsThrough}
use Rattle.vx_exec_threads.specs.Paired.{IsRingOf}
use Rattle.vx_exec_threads.specs.declared.inlet.Inlet.{Inlet}
use Rattle.vx_exec_assembly.specs.Pairs.{StillOut, StillIn, Still, Reunited}
use Rattle.vx_exec_assembly.specs.Plans.{PairIn, AreApart}

module _ {A : Type 0} (R : A → A → Type 0) (self : (x : A) → R x x) where
  -- one element of one list was changed to one like it: l became w
  pub still-set : (xs : List (Vec A Global)) (a j : ℕ) (l w : Vec A Global) (x y : A) → slice_get xs a ≡ Some l
      → slice_get l.items j ≡ Some x → w.items ≡ set l.items j y → R x y → Still R xs (set xs a w)
  still-set xs a j l w x y at here wi r = record {
    on = λ b k z h. elim (cases_eq b a) [
      | inl e ↦
          let lz : l ≡ h.list = same_Some l h.list (sym at ∙ ap (slice_get xs) (sym e) ∙ h.outer) in
          let inn : slice_get l.items k ≡ Some z = subst (λ (v : Vec A Global). slice_get v.items k ≡ Some z) (sym lz) h.inner in
          let outer : slice_get (set xs a w) b ≡ Some w = subst (λ n. slice_get (set xs a w) n ≡ Some w) (sym e) (set-here xs a l w at) in
          elim (cases_eq k j) [
            | inl f ↦
                let xz : x ≡ z = same_Some x z (sym here ∙ ap (slice_get l.items) (sym f) ∙ inn) in
                let there : slice_get w.items k ≡ Some y =
                ap (λ ys. slice_get ys k) wi ∙ subst (λ n. slice_get (set l.items j y) n ≡ Some y) (sym f) (set-here l.items j x y here) in
                (y, record { list = w; outer = outer; inner = there }, subst (λ v. R v y) xz r)
            | inr f ↦ (z, record { list = w; outer = outer; inner = ap (λ ys. slice_get ys k) wi ∙ set-other l.items j y k f ∙ inn }, self z)
          ]
      | inr e ↦ (z, record { list = h.list; outer = set-other xs a w b e ∙ h.outer; inner = h.inner }, self z)
    ];
    back = λ b k z h. elim (cases_eq b a) [
      | inl e ↦
          let wz : w ≡ h.list = same_Some w h.list (sym (set-here xs a l w at) ∙ ap (slice_get (set xs a w)) (sym e) ∙ h.outer) in
          let inn : slice_get (set l.items j y) k ≡ Some z =
          sym (ap (λ ys. slice_get ys k) wi) ∙ subst (λ (v : Vec A Global). slice_get v.items k ≡ Some z) (sym wz) h.inner in
          let outer : slice_get xs b ≡ Some l = ap (slice_get xs) e ∙ at in
          elim (cases_eq k j) [
            | inl f ↦
                let yz : y ≡ z = same_Some y z (sym (set-here l.items j x y here) ∙ ap (slice_get (set l.items j y)) (sym f) ∙ inn) in
                (x, record { list = l; outer = outer; inner = ap (slice_get l.items) f ∙ here }, subst (λ v. R x v) yz r)
            | inr f ↦ (z, record { list = l; outer = outer; inner = sym (set-other l.items j y k f) ∙ inn }, self z)
          ]
      | inr e ↦ (z, record { list = h.list; outer = sym (set-other xs a w b e) ∙ h.outer; inner = h.inner }, self z)
    ];
  }

  pub still-self : (xs : List (Vec A Global)) → Still R xs xs
  still-self xs = record { on = λ a j x h. (x, h, self x); back = λ a j x h. (x, h, self x) }

pub still-then : {A : Type 0} (R : A → A → Type 0) → ((x y z : A) → R x y → R y z → R x z)
    → (xs ys zs : List (Vec A Global)) → Still R xs ys → Still R ys zs → Still R xs zs
still-then R then xs ys zs p q = record {
  on = λ a j x h. let u = p.on a j x h in let v = q.on a j u.0 u.1 in (v.0, v.1, then x u.0 v.0 u.2 v.2);
  back = λ a j x h. let u = q.back a j x h in let v = p.back a j u.0 u.1 in (v.0, v.1, then v.0 u.0 x v.2 u.2);
}

pub out-self : (o : RingOut) → StillOut o o
out-self o = (refl, ((refl, refl, refl, refl), refl))

pub in-self : (e : Inlet) → StillIn e e
in-self e = (refl, same_inlet_self e)

pub out-then : (a b c : RingOut) → StillOut a b → StillOut b c → StillOut a c
out-then a b c x y = (y.0 ∙ x.0, ((y.1.0.0 ∙ x.1.0.0, y.1.0.1 ∙ x.1.0.1, y.1.0.2 ∙ x.1.0.2, y.1.0.3 ∙ x.1.0.3), y.1.1 ∙ x.1.1))

pub in-then : (a b c : Inlet) → StillIn a b → StillIn b c → StillIn a c
in-then a b c x y =
    let u = x.1.ring in
    let v = y.1.ring in (
      y.0 ∙ x.0,
      record {
        exchange = y.1.exchange ∙ x.1.exchange;
        from = y.1.from ∙ x.1.from;
        ring = ((v.0.0 ∙ u.0.0, v.0.1 ∙ u.0.1, v.0.2 ∙ u.0.2, v.0.3 ∙ u.0.3), v.1 ∙ u.1);
      },
    )

pub reunited-self : (os : List (Vec RingOut Global)) (is : List (Vec Inlet Global)) → Reunited os is os is
reunited-self os is = record { outs = still-self StillOut out-self os; ins = still-self StillIn in-self is }

pub reunited-then : (os ps qs : List (Vec RingOut Global)) (is js ks : List (Vec Inlet Global))
    → Reunited os is ps js → Reunited ps js qs ks → Reunited os is qs ks
reunited-then os ps qs is js ks x y = record {
  outs = still-then StillOut out-then os ps qs x.outs y.outs;
  ins = still-then StillIn in-then is js ks x.ins y.ins;
}

module _ (os ps : List (Vec RingOut Global)) (is js : List (Vec Inlet Global)) (r : Reunited os is ps js) where
  -- a ring stays one
  pub pair-on : (a j b n i : ℕ) → PairIn IsRingOf os is a j b n i → PairIn IsRingOf ps js a j b n i
  pair-on a j b n i f =
      let o = r.outs.on a j f.0 f.2 in
      let e = r.ins.on b f.3 f.1 f.4 in
      let x = o.2.1.0 in
      let y = e.2.1.ring.0 in
      let z = f.7 in (
        o.0,
        e.0,
        o.1,
        f.3,
        e.1,
        e.2.1.exchange ∙ f.5,
        e.2.1.from ∙ f.6,
        (y.0 ∙ z.0 ∙ sym x.0, y.1 ∙ z.1 ∙ sym x.1, y.2 ∙ z.2 ∙ sym x.2, y.3 ∙ z.3 ∙ sym x.3),
      )

  -- what flows through ends that carry the same as before flowed through those
  pub pair-back : (a j b n i : ℕ) → PairIn FlowsThrough ps js a j b n i → PairIn FlowsThrough os is a j b n i
  pair-back a j b n i f =
      let o = r.outs.back a j f.0 f.2 in
      let e = r.ins.back b f.3 f.1 f.4 in (
        o.0,
        e.0,
        o.1,
        f.3,
        e.1,
        sym e.2.1.exchange ∙ f.5,
        sym e.2.1.from ∙ f.6,
        subst (λ z. Flows z (taken_from e.0.ring)) o.2.0 (subst (λ z. Flows (put_to f.0) z) e.2.0 f.7),
      )

  -- each producer still has one inlet at each worker
  pub apart-on : AreApart is → AreApart js
  apart-on apart b k l e f x y p q =
      let u = r.ins.back b k e x in
      let v = r.ins.back b l f y in
      apart b k l u.0 v.0 u.1 v.1 (sym u.2.1.exchange ∙ p ∙ v.2.1.exchange) (sym u.2.1.from ∙ q ∙ v.2.1.from)
