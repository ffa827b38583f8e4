use Rattle.std.proofs.Common.{◌≡◌, ◌∙◌, ◌≤◌, ◌<◌, ◌++◌, Bool, true, false, [], ℕ, length, get_or, ap, sym, subst, arith}
use Rattle.std.specs.List.{list_any, position_or_len}
use Rattle.vx_rows_values.specs.Values.{row_eq, pick}
use Rattle.vx_rows.specs.View.{row, ArePositions}
use Rattle.vx_plan_nodes.specs.Conditions.{conditions_of}
use Rattle.vx_plan_nodes.specs.Serial.{passes}
use Rattle.vx_match_join.specs.Matching.{MatchView, left_of_pairs, right_of_pairs, meets}
use Rattle.vx_match_join.specs.Parts.{places_in, listed_places}
use Rattle.vx_match_join.proofs.MatchFacts.{none-there, some-there, meets-none, meets-key, meets-places, parts-below}
use Rattle.vx_match_join.proofs.match_build.MatchBuild.is_matched.Goals as goal

pub returns-then-number-len : goal.returns-then-number-len
returns-then-number-len c =
    let b = c.self.inside in
    let l = row c.args.chunk.now c.args.i in
    let n = c.args.number in
    let at : n ≡ position_or_len (row_eq (pick (left_of_pairs b.matching.on.items) l)) b.keys
    = subst (λ (v : MatchView). n ≡ position_or_len (row_eq (pick (left_of_pairs v.on) l)) v.keys) (sym c.self.view_is) c.requires.number in
    let past : length b.keys ≤ n = omega (arith, c.if-number-len.true, c.len.ensures.len) in
    subst (λ (v : MatchView). false ≡ meets v.conditions v.on v.keys v.rows l) c.self.view_is
    (meets-none (conditions_of b.matching.conditions.items) b.matching.on.items b.keys b.rows.rows l n c.self.invariant.keys_are at past)

pub returns-then-is_empty : goal.returns-then-is_empty
returns-then-is_empty c =
    let b = c.self.inside in
    let cs = b.matching.conditions.items in
    let l = row c.args.chunk.now c.args.i in
    let n = c.args.number in
    let at : n ≡ position_or_len (row_eq (pick (left_of_pairs b.matching.on.items) l)) b.keys
    = subst (λ (v : MatchView). n ≡ position_or_len (row_eq (pick (left_of_pairs v.on) l)) v.keys) (sym c.self.view_is) c.requires.number in
    let near : n < length b.keys = omega (arith, c.if-number-len.false, c.len.ensures.len) in
    let none : conditions_of cs ≡ [] = none-there cs _ _ (omega (arith, b.matching.conditions.ok.0)) c.is_empty.ensures c.if-is_empty.true in
    subst (λ (v : MatchView). true ≡ meets v.conditions v.on v.keys v.rows l) c.self.view_is (meets-key (conditions_of cs) b.matching.on.items b.keys b.rows.rows l n none at near)

pub some_passes-requires-clause-there : goal.some_passes-requires-clause-there
some_passes-requires-clause-there c =
    let b = c.self.inside in
    let here = parts-below (right_of_pairs b.matching.on.items) b.rows.rows (places_in b.places) c.args.number c.self.invariant.parts_are in
    subst (λ (v : MatchView). ArePositions (length v.rows) (listed_places c.get.result)) c.self.view_is (subst (ArePositions (length b.rows.rows)) (sym c.get.ensures) here)

pub returns : goal.returns
returns c =
    let b = c.self.inside in
    let cs = b.matching.conditions.items in
    let l = row c.args.chunk.now c.args.i in
    let n = c.args.number in
    let at : n ≡ position_or_len (row_eq (pick (left_of_pairs b.matching.on.items) l)) b.keys
    = subst (λ (v : MatchView). n ≡ position_or_len (row_eq (pick (left_of_pairs v.on) l)) v.keys) (sym c.self.view_is) c.requires.number in
    let near : n < length b.keys = omega (arith, c.if-number-len.false, c.len.ensures.len) in
    let some : conditions_of cs ≡ [] → ⊥ = some-there cs _ _ (omega (arith, b.matching.conditions.ok.0)) c.is_empty.ensures c.if-is_empty.false in
    let found = meets-places (conditions_of cs) b.matching.on.items b.keys b.rows.rows (places_in b.places) l n some c.self.invariant.keys_are c.self.invariant.parts_are at near in
    let test : MatchView → ℕ → Bool = λ v p. passes v.conditions (l ++ get_or v.rows p []) in
    c.some_passes.ensures
    ∙ (ap (list_any (test c.args.self.now)) c.get.ensures
    ∙ subst (λ (v : MatchView). list_any (test v) (get_or (places_in b.places) n []) ≡ meets v.conditions v.on v.keys v.rows l) c.self.view_is found)
