use Rattle.std.proofs.Common.{Some, None}
use Rattle.vx_exec_setup.proofs.NumberFacts.{number_found}
use Rattle.vx_exec_setup.proofs.setup.Setup.number.Goals as goal

pub returns-in-Some : goal.returns-in-Some
returns-in-Some c =
    let found = rw (c.in-Some.is, c.as_slice.ensures.value) at c.find_entry.ensures in
    rw (← c.self.view_is) (number_found c.self.inside.sizes.items c.args.name.now (Some c.in-Some.entry.now) found)

pub returns-in-None : goal.returns-in-None
returns-in-None c =
    let found = rw (c.in-None.is, c.as_slice.ensures.value) at c.find_entry.ensures in
    rw (← c.self.view_is) (number_found c.self.inside.sizes.items c.args.name.now None found)
