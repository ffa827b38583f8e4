use Rattle.std.proofs.Common.{arith, ◌≡◌, ◌∙◌, ◌++◌, ◌∷◌, [], sym, ap, map, set, get_or, List, ℕ, Vec, Global}
use Rattle.std.proofs.lemmas.List.{map-append, map-set, get_or-map}
use Rattle.vx_match_join.proofs.key_places.push_place.Goals as goal

-- the places of each key
abbrev parts_at : List (Vec ℕ Global) → List (List ℕ)
parts_at vs = map (λ v. v.items) vs

pub returns-then-number-len-clause-known : goal.returns-then-number-len-clause-known
returns-then-number-len-clause-known c = λ below.
    let parts = c.args.parts.now.items in
    let number = c.args.number in
    let pushed : c.push.new.self.items ≡ get_or (parts_at parts) number [] ++ c.args.place ∷ [] =
    c.in_ok-push.ensures.items ∙ ap (λ (l : List ℕ). l ++ c.args.place ∷ []) (ap (λ (v : Vec ℕ Global). v.items) c.index_mut.ensures.value ∙ sym (get_or-map (λ (v : Vec ℕ Global). v.items) parts number c.index_mut.result.now [] below)) in
    map-set (λ (v : Vec ℕ Global). v.items) parts number c.push.new.self ∙ ap (λ (l : List ℕ). set (parts_at parts) number l) pushed

pub returns-then-number-len-clause-new : goal.returns-then-number-len-clause-new
returns-then-number-len-clause-new c = λ past. let test = c.if-number-len.true in absurd (omega (arith, test, past, c.len.ensures))

pub returns-clause-known : goal.returns-clause-known
returns-clause-known c = λ below. let test = c.if-number-len.false in absurd (omega (arith, test, below, c.len.ensures))

pub returns-clause-new : goal.returns-clause-new
returns-clause-new c = λ past.
    let parts = c.args.parts.now.items in
    ap parts_at c.in_ok-push-2.ensures.items ∙ (map-append (λ (v : Vec ℕ Global). v.items) parts (c.in_ok-list_of_one.field-0 ∷ [])
    ∙ ap (λ (l : List ℕ). parts_at parts ++ l ∷ []) c.in_ok-list_of_one.ensures)
