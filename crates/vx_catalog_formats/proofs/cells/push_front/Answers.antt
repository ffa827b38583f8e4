use Rattle.std.proofs.Common.{◌≡◌, ℕ, ◌+◌, ◌-◌, ◌<◌, ◌++◌, cond, nat_lt, List, [], length, get_or, drop, sym, ap, ◌∙◌, arith}
use Rattle.std.proofs.lemmas.Iterator.{YieldsList-from_chars}
use Rattle.std.proofs.lemmas.List.{at_drop_more, at_drop_all, length_push}
use Rattle.std.proofs.lemmas.Iterator.Consumers.{YieldsList-turn, YieldsList-end}
use Rattle.std.proofs.lemmas.Bool.Decides.{nat_tests}
use Rattle.std.proofs.lemmas.Grind.{common_steps}
use Rattle.std.specs.Str.{chars}
use Rattle.std.specs.Char.{encode_utf8}
use Rattle.vx_catalog_formats.specs.Table.{front, width_alone}
use Rattle.vx_catalog_formats.proofs.cells.push_front.Goals as goal

front-drop : (room : ℕ) (cs : List ℕ) (n c : ℕ) → (n < length cs) × (c ≡ get_or cs n c)
    → front room (drop n cs) ≡ cond (nat_lt room (width_alone c)) [] (encode_utf8 c ++ front (room - width_alone c) (drop (n + 1) cs))
front-drop room cs n c h =
    at_drop_more (front room) cs n c h.0
    ∙ ap (λ x. cond (nat_lt room (width_alone x)) [] (encode_utf8 x ++ front (room - width_alone x) (drop (n + 1) cs))) (sym h.1)

pub returns-then-room-width : goal.returns-then-room-width
returns-then-room-width c =
    let t = YieldsList-turn (YieldsList-from_chars c.args.line.now c.utf8.line cc) c.loop-character.yielded _ c.loop-character.yielded_by _ _ c.in-Some.character c.in-Some.is c.next.ensures.steps in
    let e = front-drop c.loop-character.room _ _ _ t in
    grind (arith, nat_tests, common_steps)

pub loop-character-preserved : goal.loop-character-preserved
loop-character-preserved c =
    let t = YieldsList-turn (YieldsList-from_chars c.args.line.now c.utf8.line cc) c.loop-character.yielded _ c.loop-character.yielded_by _ _ c.in-Some.character c.in-Some.is c.next.ensures.steps in
    let e = front-drop c.loop-character.room _ _ _ t in
    let n = length_push c.loop-character.yielded c.in-Some.character in
    grind (arith, nat_tests, common_steps)

pub returns : goal.returns
returns c =
    let t = YieldsList-end (YieldsList-from_chars c.args.line.now c.utf8.line cc) c.loop-character.yielded _ c.loop-character.yielded_by _ _ c.in-None.is c.next.ensures.steps in
    let e = at_drop_all (front c.loop-character.room) (chars c.args.line.now) (length c.loop-character.yielded) (omega (arith, t.1)) in
    grind (arith, common_steps)
