use Rattle.std.proofs.Common.{rules, ◌≡◌, ◌∙◌, refl, true, false, string_bytes}
use Rattle.csv.specs.Records.{fields_of, field_at}
use Rattle.vx_catalog.specs.Loading.{same_name}
use Rattle.vx_catalog.proofs.HeaderFacts.{names_stop, names_more, names_done}
use Rattle.vx_catalog.proofs.record.has_names.Goals as goal

pub returns-then-not-is_name : goal.returns-then-not-is_name
returns-then-not-is_name c =
    let s : c.is_name.result ≡ same_name (string_bytes c.index-names-i.result) c.loop-i.i (field_at (fields_of c.args.line.now) c.loop-i.i) = c.is_name.ensures ∙ rw (c.as_str.ensures.value, c.get.ensures.value) refl in
    let no : c.is_name.result ≡ false = search rules in
    names_stop (fields_of c.args.line.now) c.args.names.now c.loop-i.i c.index-names-i.result _ c.loop-i-test.true c.index-names-i.is (rw s at no) c.loop-i.invariant

pub loop-i-preserved : goal.loop-i-preserved
loop-i-preserved c =
    let s : c.is_name.result ≡ same_name (string_bytes c.index-names-i.result) c.loop-i.i (field_at (fields_of c.args.line.now) c.loop-i.i) = c.is_name.ensures ∙ rw (c.as_str.ensures.value, c.get.ensures.value) refl in
    let yes : c.is_name.result ≡ true = search rules in
    names_more (fields_of c.args.line.now) c.args.names.now c.loop-i.i c.index-names-i.result _ c.loop-i-test.true c.index-names-i.is (rw s at yes) c.loop-i.invariant

pub returns : goal.returns
returns c = names_done (fields_of c.args.line.now) c.args.names.now c.loop-i.i _ c.loop-i-test.false c.loop-i.invariant
