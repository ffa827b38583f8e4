-- Shares of which one changes (our own).
use Rattle.std.proofs.Common.{ℕ, ◌≡◌, List, [], ◌∷◌, ◌++◌, length, Some, sym, ap, ◌∙◌, subst, slice_get}
use Rattle.std.proofs.Math.ListN.{set}
use Rattle.std.proofs.lemmas.Option.{same_Some, slice_get-map}
use Rattle.std.specs.Option.{option_map}
use Rattle.std.proofs.lemmas.List.{length-map, length-set, map-set}
use Rattle.vx_exec_threads.proofs.Bearing.{set-here, set-other}
use Rattle.vx_exec_threads.specs.declared.inlet.Inlet.{Inlet}
use Rattle.vx_exec_threads.specs.declared.drawer.Drawer.{Drawer}
use Rattle.vx_exec_threads.specs.declared.drawer.Dealer.{Dealer}
use Rattle.vx_ports_rings.specs.declared.ring.RingOut.{RingOut}
use Rattle.vx_exec_threads.specs.Holds.{Hold}
use Rattle.vx_exec_wiring.specs.Giving.{hold_in, holds_of, GainsDrawer, GainsInlet, GivesAt}
use Rattle.vx_exec_wiring.specs.declared.share.Share.{Share}

pub held-length : (ss : List Share) → length (holds_of ss) ≡ length ss
held-length ss = length-map ss hold_in

gives-set : (P : Hold → Hold → Type 0) (ss : List Share) (a : ℕ) (s t : Share) → slice_get ss a ≡ Some s → P (hold_in s) (hold_in t)
    → GivesAt P (holds_of ss) a (holds_of (set ss a t))
gives-set P ss a s t at p =
    let hs = holds_of ss in
    subst (λ (gs : List Hold). GivesAt P hs a gs) (sym (map-set hold_in ss a t)) (record {
      length_is = length-set hs a (hold_in t);
      here = λ h e. (
        hold_in t,
        set-here hs a h (hold_in t) e,
        subst (λ v. P v (hold_in t)) (same_Some (hold_in s) h (sym (slice_get-map hold_in ss a ∙ ap (option_map hold_in) at) ∙ e)) p,
      );
      others = λ b ne. set-other hs a (hold_in t) b ne;
    })

hold-is : (h : Hold) (os : List RingOut) (es : List Inlet) (ds : List Drawer) → h.outs ≡ os → h.ins ≡ es → h.draws ≡ ds
    → h ≡ record { outs = os; ins = es; draws = ds }
hold-is h os es ds eo ee ed =
    ap (λ x. record { outs = x; ins = h.ins; draws = h.draws }) eo ∙ ap (λ x. record { outs = os; ins = x; draws = h.draws }) ee
    ∙ ap (λ x. record { outs = os; ins = es; draws = x }) ed

pub gives-drawer : (ss : List Share) (a : ℕ) (s t : Share) (x : Drawer) → slice_get ss a ≡ Some s → t.outs.items ≡ s.outs.items → t.ins.items ≡ s.ins.items
    → t.draws.items ≡ s.draws.items ++ x ∷ [] → GivesAt (GainsDrawer x) (holds_of ss) a (holds_of (set ss a t))
gives-drawer ss a s t x at eo ee ed = gives-set (GainsDrawer x) ss a s t at (hold-is (hold_in t) s.outs.items s.ins.items (s.draws.items ++ x ∷ []) eo ee ed)

pub gives-inlet : (ss : List Share) (a : ℕ) (s t : Share) (x : Inlet) → slice_get ss a ≡ Some s → t.outs.items ≡ s.outs.items → t.draws.items ≡ s.draws.items
    → t.ins.items ≡ s.ins.items ++ x ∷ [] → GivesAt (GainsInlet x) (holds_of ss) a (holds_of (set ss a t))
gives-inlet ss a s t x at eo ed ee = gives-set (GainsInlet x) ss a s t at (hold-is (hold_in t) s.outs.items (s.ins.items ++ x ∷ []) s.draws.items eo ee ed)

-- there are as many workers as before
pub as-many : (P : Hold → Hold → Type 0) (ss ts : List Share) (a : ℕ) → GivesAt P (holds_of ss) a (holds_of ts) → length ts ≡ length ss
as-many P ss ts a x = sym (held-length ts) ∙ x.length_is ∙ held-length ss

pub drawer-is : (x : Drawer) (n : ℕ) (d : Dealer) → x.scan ≡ n → x.dealer ≡ d → x ≡ record { scan = n; dealer = d }
drawer-is x n d es ed = ap (λ v. record { scan = v; dealer = x.dealer }) es ∙ ap (λ v. record { scan = n; dealer = v }) ed
