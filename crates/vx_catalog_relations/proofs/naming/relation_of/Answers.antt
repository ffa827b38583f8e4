use Rattle.std.proofs.Common.{◌∙◌}
use Rattle.std.proofs.lemmas.Result.{err_from_is_err_and}
use Rattle.vx_catalog_relations.proofs.NamingFacts.{keys_refused, order_refused, relation_made}
use Rattle.vx_catalog_relations.proofs.naming.relation_of.Goals as goal

pub returns-in_err-keys : goal.returns-in_err-keys
returns-in_err-keys c =
    let p = err_from_is_err_and c.from_residual-in_err-keys.result c.from_residual-in_err-keys.ensures.1 in
    let names = rw c.as_slice.ensures.value at c.in_ok-names.ensures in
    let keys = rw (c.as_slice-2.ensures.value, c.as_slice-3.ensures.value) at c.in_err-keys.ensures in
    rw (p.1, p.2, ← c.text.view_is) (keys_refused _ _ _ names keys)

pub returns-in_err-order : goal.returns-in_err-order
returns-in_err-order c =
    let p = err_from_is_err_and c.from_residual-in_err-order.result c.from_residual-in_err-order.ensures.1 in
    let names = rw c.as_slice.ensures.value at c.in_ok-names.ensures in
    let keys = rw (c.as_slice-2.ensures.value, c.as_slice-3.ensures.value) at c.in_ok-keys.ensures in
    let order = rw (c.as_slice-4.ensures.value, c.as_slice-5.ensures.value) at c.in_err-order.ensures in
    rw (p.1, p.2, ← c.text.view_is) (order_refused _ _ _ _ names keys order)

pub returns : goal.returns
returns c =
    let names = rw c.as_slice.ensures.value at c.in_ok-names.ensures in
    let keys = rw (c.as_slice-2.ensures.value, c.as_slice-3.ensures.value) at c.in_ok-keys.ensures in
    let order = rw (c.as_slice-4.ensures.value, c.as_slice-5.ensures.value) at c.in_ok-order.ensures in
    let types = rw c.as_slice-6.ensures.value at c.in_ok-types.ensures in
    let name = c.in_ok-name.ensures.ok ∙ c.as_str.ensures.value in
    rw (c.new-2.ensures, c.in_ok-shared.ensures.ok, types, name, ← c.text.view_is) (relation_made _ _ _ _ names keys order)
