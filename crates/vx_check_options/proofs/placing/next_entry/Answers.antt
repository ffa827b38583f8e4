use Rattle.std.proofs.Common.{◌∙◌, sym, arith}
use Rattle.vx_plan_nodes.specs.DescribeView.{copying_of}
use Rattle.vx_check_rules.specs.Seen.{order_seen}
use Rattle.vx_check_options.proofs.PlaceLists.{next-past, next-there, entry-alone, entry-kept, entry-first}
use Rattle.vx_check_options.proofs.placing.next_entry.Goals as goal

pub returns-then-at-len : goal.returns-then-at-len
returns-then-at-len c =
    c.copied.ensures ∙ c.first.ensures.value ∙ next-past (copying_of c.args.copying) (order_seen c.args.order) c.args.at c.args.place.now (omega (arith, c.if-at-len.true, c.len.ensures))

pub returns-in_default : goal.returns-in_default
returns-in_default c =
    next-there (copying_of c.args.copying) (order_seen c.args.order) c.args.at c.args.place.now c.at.result c.source_entry-source.result _ c.at.ensures c.source_entry-source.ensures
    (entry-alone c.args.place.now _ c.in_default.len_below)

pub returns-in_default-2 : goal.returns-in_default-2
returns-in_default-2 c =
    next-there (copying_of c.args.copying) (order_seen c.args.order) c.args.at c.args.place.now c.at.result c.source_entry-source.result _ c.at.ensures c.source_entry-source.ensures
    (entry-kept c.args.place.now _ (sym c.has_entry.ensures ∙ c.if-not-has_entry.false))

pub returns-in-len1-up : goal.returns-in-len1-up
returns-in-len1-up c =
    next-there (copying_of c.args.copying) (order_seen c.args.order) c.args.at c.args.place.now c.at.result c.source_entry-source.result _ c.at.ensures c.source_entry-source.ensures
    (entry-first c.args.place.now _ _ c.in-len1-up.len_at_least (sym c.has_entry.ensures ∙ c.if-not-has_entry.true))
