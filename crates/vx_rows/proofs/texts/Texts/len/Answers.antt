use Rattle.std.proofs.Common.{◌-◌, arith, ap, ◌∙◌, sym, length}
use Rattle.vx_rows.specs.Texts.{piece}
use Rattle.vx_rows.proofs.Below.{length-each_below}
use Rattle.vx_rows.proofs.texts.Texts.len.Goals as goal

pub returns : goal.returns
returns c =
    let cuts = c.self.inside.cuts.items in
    let n = sym (length-each_below (length cuts - 1) (piece c.self.inside.bytes.items cuts)) ∙ ap length c.self.view_is in
    omega (arith, n, c.len.ensures, c.self.inside.cuts.ok.0)
