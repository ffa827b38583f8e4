use Rattle.std.proofs.Common.{◌≡◌, ◌<◌, ◌∙◌, ℕ, arith, length, map, set, take, get_or, sym, ap, subst}
use Rattle.std.proofs.lemmas.List.{map-set, get_or-map, length-map}
use Rattle.std.proofs.lemmas.Result.{on_ok_weaker}
use Rattle.vx_match_keys.proofs.ErrorFacts.{if-err}
use Rattle.vx_match_grouping.specs.declared.fault.GroupFault.{GroupFault}
use Rattle.vx_match_grouping.specs.Groups.{Held, no_held}
use Rattle.vx_match_grouping.specs.GroupFaults.{StepBlame}
use Rattle.vx_match_grouping.specs.Takes.{entry_held, advance_all, TakesNot}
use Rattle.vx_match_grouping.proofs.GroupFacts.{one-takes}
use Rattle.vx_match_grouping.proofs.BlameFacts.{one-blame}
use Rattle.vx_match_grouping.proofs.fold.add_rows.Goals as goal

pub returns-then-number-len-clause-taken : goal.returns-then-number-len-clause-taken
returns-then-number-len-clause-taken g c =
    let a = g.F.Fold.aggregate c.args.fold.now in
    let held = entry_held a g.F.Fold.value g.F.Fold.taken in
    let rows = g.F.Fold.rows c.args.fold.now in
    let numbers = c.args.numbers.now in
    let es = c.args.entries.now.items in
    let n = c.in-Some.number in
    let test = c.if-number-len.true in
    let below : n < length es = omega (arith, test, c.len.ensures) in
    let long : length (map held es) ≡ length es = length-map es held in
    let same : (k : ℕ) → k < length rows → get_or numbers k 0 ≡ n = λ k near. c.in-Some.ensures k (omega (arith, near, c.requires)) in
    let start : held c.index_mut.result.now ≡ get_or (map held es) n no_held = ap held c.index_mut.ensures.value ∙ sym (get_or-map held es n c.index_mut.result.now no_held below) in
    on_ok_weaker c.add_to_one.result
    (λ took by xs are was.
    map-set held es n c.add_to_one.new.entry
    ∙ (ap (set (map held es) n) (took ∙ ap (advance_all rows) start) ∙ one-takes a by xs rows numbers (map held es) n are was (omega (arith, below, long)) same))
    c.add_to_one.ensures.taken

pub returns-then-number-len-clause-err : goal.returns-then-number-len-clause-err
returns-then-number-len-clause-err g c =
    let a = g.F.Fold.aggregate c.args.fold.now in
    let held = entry_held a g.F.Fold.value g.F.Fold.taken in
    let rows = g.F.Fold.rows c.args.fold.now in
    let numbers = c.args.numbers.now in
    let es = c.args.entries.now.items in
    let n = c.in-Some.number in
    let test = c.if-number-len.true in
    let below : n < length es = omega (arith, test, c.len.ensures) in
    let long : length (map held es) ≡ length es = length-map es held in
    let same : (k : ℕ) → k < length rows → get_or numbers k 0 ≡ n = λ k near. c.in-Some.ensures k (omega (arith, near, c.requires)) in
    let start : held c.index_mut.result.now ≡ get_or (map held es) n no_held = ap held c.index_mut.ensures.value ∙ sym (get_or-map held es n c.index_mut.result.now no_held below) in
    if-err c.add_to_one.result
    (λ (e : GroupFault). (i : ℕ) × ((i < length rows) × StepBlame e (advance_all (take i rows) (held c.index_mut.result.now)).taken))
    (λ (e : GroupFault). TakesNot e a rows numbers (map held es))
    (λ e blame by xs are was.
    one-blame e a by xs rows numbers (map held es) n are was (omega (arith, below, long)) same blame.0 blame.1.0
    (subst (λ (h : Held). StepBlame e (advance_all (take blame.0 rows) h).taken) start blame.1.1))
    c.add_to_one.ensures.err
