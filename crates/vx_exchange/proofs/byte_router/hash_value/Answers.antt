use Rattle.std.proofs.Common.{rules, ◌≡◌, SFits, w64, to_z, of_z, to_z-of_z}
use Rattle.vx_exchange.proofs.byte_router.hash_value.Goals as goal

pub returns-in-Int : goal.returns-in-Int
returns-in-Int c =
    let n = c.in-Int.n in
    let fits : SFits w64 n = search rules in
    let same : to_z w64 (of_z w64 n) ≡ n = to_z-of_z fits in
    rw c.in-Int.is (rw (c.hash_byte.ensures, same) at c.hash_number.ensures)
