use Rattle.vx_check_formats.proofs.facts.put_facts.Goals as goal

pub returns : goal.returns
returns c w e f keeps = rw (c.in_ok-all_fixed.ensures w e f keeps, c.in_ok-put.ensures.ok, c.in_ok-equal_json.ensures w e f keeps) at c.put-2.ensures.ok
