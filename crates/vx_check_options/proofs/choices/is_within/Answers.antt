use Rattle.std.proofs.Common.{◌≡◌, ◌∙◌, ◌+◌, ◌&&◌, drop, get_or, ap, sym, refl, arith}
use Rattle.std.proofs.lemmas.List.{at_drop_more, at_drop_all}
use Rattle.vx_check_rules.specs.Rules.{contains, within}
use Rattle.vx_check_options.proofs.OptionFacts.{contains-as}
use Rattle.vx_check_options.proofs.choices.is_within.Goals as goal

pub loop-column-init : goal.loop-column-init
loop-column-init c = refl

pub returns-then-not-contains : goal.returns-then-not-contains
returns-then-not-contains c =
    let columns = c.args.columns.now in
    let others = c.args.others.now in
    let i = c.loop-column.column-index in
    let test : c.contains.result ≡ contains others (get_or columns i 0) = c.contains.ensures.value ∙ contains-as others (get_or columns i 0) in
    sym (c.loop-column.invariant ∙ at_drop_more (λ cs. within cs others) columns i 0 c.loop-column-test.true ∙ ap (λ b. b && within (drop (i + 1) columns) others) (sym test ∙ c.if-not-contains.true))

pub loop-column-preserved : goal.loop-column-preserved
loop-column-preserved c =
    let columns = c.args.columns.now in
    let others = c.args.others.now in
    let i = c.loop-column.column-index in
    let test : c.contains.result ≡ contains others (get_or columns i 0) = c.contains.ensures.value ∙ contains-as others (get_or columns i 0) in
    c.loop-column.invariant ∙ at_drop_more (λ cs. within cs others) columns i 0 c.loop-column-test.true ∙ ap (λ b. b && within (drop (i + 1) columns) others) (sym test ∙ c.if-not-contains.false)

pub returns : goal.returns
returns c = sym (c.loop-column.invariant ∙ at_drop_all (λ cs. within cs c.args.others.now) c.args.columns.now c.loop-column.column-index (omega (arith, c.loop-column-test.false)))
