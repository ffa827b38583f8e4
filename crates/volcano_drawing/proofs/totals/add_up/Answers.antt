use Rattle.std.proofs.Common.{◌∙◌, List, ap, sym, map, take, drop, set, length, ◌+◌, subst}
use Rattle.std.proofs.lemmas.List.{length-map}
use Rattle.volcano_drawing.specs.Entries.{Entry, entry_of, entries_of}
use Rattle.volcano_drawing.specs.Totals.{with_entry, AreTotals}
use Rattle.volcano_drawing.proofs.TotalsFacts.{totals_none, totals_next, fits_below, entries_more, entries_split, other_fault}
use Rattle.volcano_drawing.proofs.totals.add_up.Goals as goal

pub loop-entry-init : goal.loop-entry-init
loop-entry-init c =
    let words = map (λ w. w.now) c.args.words.now in
    rw c.in_ok-counts.ensures (totals_none words (length c.args.words.now) (sym (length-map c.args.words.now (λ w. w.now))))

pub returns-then-not-fits-clause-refused : goal.returns-then-not-fits-clause-refused
returns-then-not-fits-clause-refused c =
    let words = map (λ w. w.now) c.args.words.now in
    let es = c.args.entries.now in
    let i = c.loop-entry.entry-index in
    other_fault words (entries_of es) (entries_of (take i es)) (entries_of (drop (i + 1) es)) (entry_of c.entry-item.result) c.other_operator.result
    (entries_split es i c.entry-item.result c.loop-entry-test.true c.entry-item.is) c.loop-entry.invariant.known (sym c.fits.ensures ∙ c.if-not-fits.true) c.other_operator.ensures

pub loop-entry-preserved : goal.loop-entry-preserved
loop-entry-preserved c =
    let words = map (λ w. w.now) c.args.words.now in
    let es = c.args.entries.now in
    let i = c.loop-entry.entry-index in
    let cs = c.loop-entry.counts.items in
    let e = entry_of c.entry-item.result in
    let fit = sym c.fits.ensures ∙ c.if-not-fits.false in
    let sum = c.with_entry.ensures ∙ ap (λ x. with_entry x e) c.index.ensures in
    let next = totals_next words (entries_of (take i es)) cs e c.with_entry.result c.index.result.now c.loop-entry.invariant fit (fits_below words e fit) sum in
    let Are : List Entry → Type 0 = λ xs. AreTotals words xs (set cs e.node c.with_entry.result) in
    subst Are (sym (entries_more es i c.entry-item.result c.loop-entry-test.true c.entry-item.is)) next
