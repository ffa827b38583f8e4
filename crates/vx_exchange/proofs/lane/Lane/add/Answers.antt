use Rattle.std.proofs.Common.{rules, ◌≡◌, length, [], ◌∙◌}
use Rattle.std.proofs.lemmas.List.{nil_from_length}
use Rattle.vx_exchange.proofs.Cuts.{cuts-one}
use Rattle.vx_exchange.proofs.lane.Lane.add.Goals as goal

pub returns-then-len-self-clause-ok : goal.returns-then-len-self-clause-ok
returns-then-len-self-clause-ok c =
    let s = c.args.self.now in
    let rows = c.args.rows.rows in
    let zero : length s.current ≡ 0 = search rules in
    let none : s.current ≡ [] = nil_from_length s.current zero in
    let full : length rows ≡ s.way.size = search rules in
    let e = c.in_ok-push.ensures in
    cuts-one s.way s.current s.ready rows c.push.new.self.current c.push.new.self.ready (rw none full) (e.current ∙ none) (rw none e.ok)
