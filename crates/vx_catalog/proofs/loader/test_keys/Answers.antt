use Rattle.std.proofs.Common.{◌≡◌, ◌<◌, ◌≤◌, [], length, None, Some, rules, slice_index_or}
use Rattle.vx_rows_values.specs.Keys.{first_clash}
use Rattle.vx_catalog.proofs.OrderFacts.{key_clashes, key_holds, keys_done}
use Rattle.vx_catalog.proofs.loader.test_keys.Goals as goal

pub returns-in-Some : goal.returns-in-Some
returns-in-Some c =
    let h : c.loop-key.key < length c.args.relation.now.keys = search rules in
    let clash : first_clash (slice_index_or c.args.relation.now.keys c.loop-key.key []) c.args.rows.now.rows ≡ Some (c.in-Some.first, c.in-Some.second) = search rules in
    key_clashes c.args.relation.now.keys c.args.rows.now.rows c.loop-key.key _ _ _ h clash c.loop-key.invariant

pub loop-key-preserved : goal.loop-key-preserved
loop-key-preserved c =
    let h : c.loop-key.key < length c.args.relation.now.keys = search rules in
    let clash : first_clash (slice_index_or c.args.relation.now.keys c.loop-key.key []) c.args.rows.now.rows ≡ None = search rules in
    key_holds c.args.relation.now.keys c.args.rows.now.rows c.loop-key.key _ h clash c.loop-key.invariant

pub returns : goal.returns
returns c =
    let h : length c.args.relation.now.keys ≤ c.loop-key.key = search rules in
    keys_done c.args.relation.now.keys c.args.rows.now.rows c.loop-key.key _ h c.loop-key.invariant
