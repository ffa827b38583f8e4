use Rattle.std.proofs.Common.{◌≡◌, ◌∙◌, ◌++◌, ◌∷◌, [], List, Vec, Global, ℕ, map, flat_map, take, drop, ap, sym, refl, arith}
use Rattle.std.proofs.lemmas.List.{take-map, append-nil, drop_all}
use Rattle.vx_check_options.proofs.LoopLists.{flat-left}
use Rattle.vx_check_options.proofs.copies.longer_lists.Goals as goal

pub returns : goal.returns
returns c =
    let items = map (λ (v : Vec ℕ Global). v.items) in
    let f : ℕ → List (List ℕ) = λ d. map (λ ds. d ∷ ds) (items c.as_slice-ends.result.now) in
    let places = c.as_slice-place-items.result.now in
    let past : drop c.loop-place.place-index places ≡ [] = drop_all c.loop-place.place-index places (omega (arith, c.loop-place-test.false)) in
    let made = c.loop-place.invariant ∙ ap (λ xs. items c.loop-place.longer.items ++ flat_map f xs) past ∙ append-nil (items c.loop-place.longer.items) in
    let of = ap (flat_map f) (c.as_slice-place-items.ensures.value ∙ (rw c.new-places.ensures.items at c.in_ok-add_copies.ensures)) in
    ap items c.truncate.ensures.items ∙ sym (take-map (λ (v : Vec ℕ Global). v.items) 64 c.loop-place.longer.items) ∙ ap (take 64) (rw c.as_slice-ends.ensures.value at (sym made ∙ of))

pub loop-place-init : goal.loop-place-init
loop-place-init c = rw c.new-longer.ensures.items refl

pub loop-place-preserved : goal.loop-place-preserved
loop-place-preserved c =
    let f : ℕ → List (List ℕ) = λ d. map (λ ds. d ∷ ds) (map (λ (v : Vec ℕ Global). v.items) c.as_slice-ends.result.now) in
    flat-left f c.as_slice-place-items.result.now c.loop-place.place-index 0 _ _ _ c.loop-place-test.true c.loop-place.invariant c.in_ok-add_in_front.ensures
