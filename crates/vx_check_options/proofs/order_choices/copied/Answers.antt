use Rattle.vx_check_options.proofs.CopyLists.{cloned-lists}
use Rattle.vx_check_options.proofs.order_choices.copied.Goals as goal

pub returns : goal.returns
returns c = cloned-lists c.args.choices.now c.from_clones.result c.from_clones.ensures.items
