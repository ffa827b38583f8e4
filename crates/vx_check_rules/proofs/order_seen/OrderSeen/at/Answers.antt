use Rattle.std.proofs.Common.{◌∙◌, ℕ, Bool, false, List, map, get_or, Some, ap, sym}
use Rattle.std.proofs.lemmas.Option.{slice_get-get_or}
use Rattle.vx_rows_values.specs.declared.order.OrderEntry.{OrderEntry}
use Rattle.vx_check_rules.proofs.FrontFacts.{directions-within, directions-at}
use Rattle.vx_check_rules.proofs.order_seen.OrderSeen.at.Goals as goal

-- an entry by its column
abbrev entry : ℕ → (falls : List Bool) → ℕ → OrderEntry
entry column falls place = record { column = column; falling = get_or falls place false }

pub at-requires : goal.at-requires
at-requires c = (directions-within (map (λ x. x.0) c.in-Lefts.on.now) c.in-Lefts.falls.now c.args.place (rw c.in-Lefts.is at c.requires)).0

pub bounds-falls-place : goal.bounds-falls-place
bounds-falls-place c = (directions-within (map (λ x. x.0) c.in-Lefts.on.now) c.in-Lefts.falls.now c.args.place (rw c.in-Lefts.is at c.requires)).1

pub at-requires-in-Rights : goal.at-requires-in-Rights
at-requires-in-Rights c = (directions-within (map (λ x. x.1) c.in-Rights.on.now) c.in-Rights.falls.now c.args.place (rw c.in-Rights.is at c.requires)).0

pub bounds-falls-place-in-Rights : goal.bounds-falls-place-in-Rights
bounds-falls-place-in-Rights c = (directions-within (map (λ x. x.1) c.in-Rights.on.now) c.in-Rights.falls.now c.args.place (rw c.in-Rights.is at c.requires)).1

pub returns-in-Listed : goal.returns-in-Listed
returns-in-Listed c = rw c.in-Listed.is (slice_get-get_or c.in-Listed.order.now c.args.place (record { column = 0; falling = false }) (rw c.in-Listed.is at c.requires))

pub returns-in-Lefts : goal.returns-in-Lefts
returns-in-Lefts c =
    let falls : List Bool = c.in-Lefts.falls.now in
    let cols : List ℕ = map (λ x. x.0) c.in-Lefts.on.now in
    rw c.in-Lefts.is (directions-at cols falls c.args.place 0 false (rw c.in-Lefts.is at c.requires) ∙ ap (λ column. Some (entry column falls c.args.place)) (sym c.at.ensures))

pub returns-in-Rights : goal.returns-in-Rights
returns-in-Rights c =
    let falls : List Bool = c.in-Rights.falls.now in
    let cols : List ℕ = map (λ x. x.1) c.in-Rights.on.now in
    rw c.in-Rights.is (directions-at cols falls c.args.place 0 false (rw c.in-Rights.is at c.requires) ∙ ap (λ column. Some (entry column falls c.args.place)) (sym c.at-in-Rights.ensures))
