use Rattle.std.proofs.Common.{◌≡◌, ◌∙◌, ◌<◌, ◌≤◌, ◌++◌, [], ◌∷◌, map, codes, sym, ap, subst}
use Rattle.std.proofs.lemmas.List.{length-map, map-append}
use Rattle.volcano_answer.proofs.SpellingFacts.{spelled_more, spelled_all}
use Rattle.volcano_answer.proofs.command_line.with_program_name.Goals as goal

pub loop-place-preserved : goal.loop-place-preserved
loop-place-preserved c =
    let l = c.loop-place in
    let words = map (λ a. a.now) c.args.arguments.now in
    let there = subst (λ n. l.place < n) (sym (length-map c.args.arguments.now (λ a. a.now))) c.loop-place-test.true in
    let more : map (λ a. a.now) c.push-in-loop-place.new.self.items ≡ map (λ a. a.now) l.all.items ++ c.spelled_out.result.now ∷ [] =
    ap (map (λ a. a.now)) c.in_ok-push-2.ensures.items ∙ map-append (λ a. a.now) l.all.items (c.spelled_out.result ∷ []) in
    spelled_more c.argument_at-command.result.now words l.place (codes "volcano") (map (λ a. a.now) l.all.items) (map (λ a. a.now) c.push-in-loop-place.new.self.items) c.spelled_out.result.now there l.invariant more
    (rw (c.argument_at.ensures, c.argument_at-next.ensures) at c.spelled_out.ensures)

pub returns : goal.returns
returns c =
    let l = c.loop-place in
    let words = map (λ a. a.now) c.args.arguments.now in
    let past = subst (λ n. n ≤ l.place) (sym (length-map c.args.arguments.now (λ a. a.now))) c.loop-place-test.false in
    let within = subst (λ n. l.place ≤ n) (sym (length-map c.args.arguments.now (λ a. a.now))) l.auto.place-end in
    spelled_all c.argument_at-command.result.now _ words l.place (codes "volcano") (map (λ a. a.now) l.all.items) past within l.invariant c.argument_at-command.ensures
