-- What the steps of a deck's table ask.
use Rattle.std.proofs.Common.{◌≡◌, ℕ, ◌+◌, ◌%◌, ◌<◌, [], ◌∷◌, set, false, refl, sym, ap, subst, ◌∙◌, arith}
use Rattle.std.specs.Prelude.{slice_index}
use mathlib.Core.Option.{some}
use lib.ListN.{get_elem?}
use Rattle.atomic_table.specs.Table.{Me, Allows, keeps}
use Rattle.vx_morsel.specs.Draws.{Draws}
use Rattle.vx_morsel_decks.specs.Rule.{AllBelow, Holds, Tells, drew, one_seat, first_seat}
use Rattle.vx_morsel_decks.specs.declared.rule.Account.{Account}
use Rattle.vx_morsel_decks.specs.declared.rule.DeckSize.{DeckSize}
use Rattle.vx_morsel_decks.proofs.Keeps.{keeps-draw, drawn-below, no-wrap}

pub draw-allows : {S : Type 0} (size : DeckSize) (slots id : ℕ) (me : Me S Account) (h : Draws) → me.0 ≡ one_seat size.morsels h → h.met_end ≡ false
    → Allows (Holds size) slots id me 0 (λ n. (n + 1) % 18446744073709551616) (λ n after. Tells me n after)
draw-allows size slots id me h one going s holds len at fits =
    let w = holds.0 in let k = holds.2 in
    let at' : get_elem? s.views id ≡ some (one_seat size.morsels h) = at ∙ ap some one in
    let found : slice_index s.words 0 ≡ w = ap (λ ws. slice_index ws 0) holds.1 in
    let small = no-wrap size w s.views k in
    let whole : (w + 1) % 18446744073709551616 ≡ w + 1 = omega arith in
    let F : Account → ℕ → Account = λ v n. one_seat v.morsels (drew v.morsels n (first_seat v.seats)) in
    let Q : Account → Type 0 = λ v. w < v.morsels → AllBelow w (first_seat v.seats).numbers in
    let R : ℕ → Type 0 = λ n. n < me.0.morsels → AllBelow n (first_seat me.0.seats).numbers in (
      one_seat size.morsels (drew size.morsels w h),
      keeps,
      tt,
      (w + 1, ap (λ ws. set ws 0 ((slice_index ws 0 + 1) % 18446744073709551616)) holds.1 ∙ ap (λ n. n ∷ []) whole, keeps-draw size w s.views id h at' going k),
      (refl, ap (λ v. F v w) (sym one) ∙ ap (F me.0) (sym found), subst R (sym found) (subst Q (sym one) (λ lt. drawn-below size w s.views id h at' lt k))),
    )
