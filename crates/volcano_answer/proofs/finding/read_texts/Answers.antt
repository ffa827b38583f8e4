use Rattle.std.proofs.Common.{rules, ◌≡◌, ◌<◌, ◌∙◌, ◌++◌, ◌∷◌, [], List, length, map, take, ◌+◌, sym, ap, subst}
use Rattle.std.proofs.lemmas.List.{map-append}
use Rattle.std.proofs.lemmas.Result.{err_from_is_err_and}
use Rattle.vx_catalog_finding.specs.Finding.{NamedText, text_of}
use Rattle.volcano_answer.specs.Finding.{AreTextsAt}
use Rattle.volcano_answer.proofs.FindingFacts.{paths_fault_of, texts_grow}
use Rattle.volcano_answer.proofs.finding.read_texts.Goals as goal

pub returns-in_err-text-clause-refused : goal.returns-in_err-text-clause-refused
returns-in_err-text-clause-refused g c =
    let l = c.loop-path in
    let there : l.path-index < length c.args.paths.now = search rules in
    let p = err_from_is_err_and c.from_residual.result c.from_residual.ensures.1 in
    rw (p.1, p.2) (paths_fault_of (λ q. q.now) (g.F.Store.holds c.args.files.now) (g.F.Store.is_reliable c.args.files.now) c.args.paths.now l.path-index _ c.in_err-text.field-0.0 there c.in_err-text.ensures.refused)

pub loop-path-preserved : goal.loop-path-preserved
loop-path-preserved g c =
    let l = c.loop-path in
    let there : l.path-index < length c.args.paths.now = search rules in
    let files = g.F.Store.holds c.args.files.now in
    let ts = map text_of l.texts.items in
    let t = text_of c.in_ok-text.text in
    let pushed : c.push.new.self.items ≡ l.texts.items ++ c.in_ok-text.text ∷ [] = rw c.if-is_err.ensures.negation at c.push.ensures.items in
    let grown : map text_of c.push.new.self.items ≡ ts ++ t ∷ [] = ap (map text_of) pushed ∙ map-append text_of l.texts.items (c.in_ok-text.text ∷ []) in
    let P : List NamedText → Type 0 = λ us. AreTextsAt files (map (λ p. p.now) (take (l.path-index + 1) c.args.paths.now)) us in
    subst P (sym grown) (texts_grow (λ q. q.now) files c.args.paths.now l.path-index _ ts t there l.invariant c.in_ok-text.ensures.text)
