use Rattle.std.proofs.Common.{◌∙◌, sym}
use Rattle.vx_plan_nodes.specs.Outline.{part_of}
use Rattle.vx_check_rules.proofs.WayFacts.{gives-not, gives-one, gives-two}
use Rattle.vx_check_rules.proofs.ways.Way.gives.Goals as goal

pub returns-then-not-gives : goal.returns-then-not-gives
returns-then-not-gives c = sym (gives-not c.args.self (part_of c.args.wanted.now) (sym c.gives.ensures ∙ c.if-not-gives.true))

pub returns-in-Some : goal.returns-in-Some
returns-in-Some c = c.gives-in-Some.ensures ∙ sym (gives-two c.args.self c.in-Some.second (part_of c.args.wanted.now) (sym c.gives.ensures ∙ c.if-not-gives.false) c.in-Some.is)

pub returns-in-None : goal.returns-in-None
returns-in-None c = sym (gives-one c.args.self (part_of c.args.wanted.now) (sym c.gives.ensures ∙ c.if-not-gives.false) c.in-None.is)
