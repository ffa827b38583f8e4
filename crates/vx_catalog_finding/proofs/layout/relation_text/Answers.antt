use Rattle.std.proofs.Common.{◌≡◌, ℕ, ap, ◌∙◌, map, string_bytes, Vec, Global}
use Rattle.vx_catalog_relations.specs.Relation.{Relation}
use Rattle.vx_catalog_finding.specs.Layout.{quoted, column_texts, key_text, entry_text}
use Rattle.vx_catalog_finding.proofs.LayoutFacts.{relation_laid}
use Rattle.vx_catalog_finding.proofs.layout.relation_text.Goals as goal

pub returns : goal.returns
returns c =
    let r = c.args.relation.now in
    let own = c.relation.inside in
    let name_is : string_bytes own.name ≡ r.name = cc (ap (λ (x : Relation). x.name) c.relation.view_is) in
    let names_are : map string_bytes own.names.items ≡ r.names = cc (ap (λ (x : Relation). x.names) c.relation.view_is) in
    let types_are : own.types.items ≡ r.types = cc (ap (λ (x : Relation). x.types) c.relation.view_is) in
    let keys_are : map (λ (k : Vec ℕ Global). k.items) own.keys.items ≡ r.keys = cc (ap (λ (x : Relation). x.keys) c.relation.view_is) in
    let order_is : own.order.items ≡ r.order = cc (ap (λ (x : Relation). x.order) c.relation.view_is) in
    let names : map string_bytes c.as_slice-names.result.now ≡ r.names = ap (λ l. map string_bytes l) c.as_slice-names.ensures.value ∙ names_are in
    let types : c.as_slice.result.now ≡ r.types = c.as_slice.ensures.value ∙ types_are in
    let keys : map (λ (k : Vec ℕ Global). k.items) c.as_slice-2.result.now ≡ r.keys = ap (λ l. map (λ (k : Vec ℕ Global). k.items) l) c.as_slice-2.ensures.value ∙ keys_are in
    let order : c.as_slice-3.result.now ≡ r.order = c.as_slice-3.ensures.value ∙ order_is in
    let name_laid : c.as_str-2.result.now ≡ quoted r.name = c.as_str-2.ensures.value ∙ (c.in_ok-quoted.ensures ∙ ap quoted (c.as_str.ensures.value ∙ name_is)) in
    let columns_laid : map string_bytes c.as_slice-4.result.now ≡ column_texts r.names r.types =
    ap (λ l. map string_bytes l) c.as_slice-4.ensures.value ∙ (c.in_ok-columns.ensures ∙ (λ i. column_texts (names i) (types i))) in
    let keys_laid : map string_bytes c.as_slice-5.result.now ≡ map (key_text r.names) r.keys =
    ap (λ l. map string_bytes l) c.as_slice-5.ensures.value ∙ (c.in_ok-keys.ensures ∙ (λ i. map (key_text (names i)) (keys i))) in
    let order_laid : map string_bytes c.as_slice-6.result.now ≡ map (entry_text r.names) r.order =
    ap (λ l. map string_bytes l) c.as_slice-6.ensures.value ∙ (c.in_ok-order.ensures ∙ (λ i. map (entry_text (names i)) (order i))) in
    relation_laid r (string_bytes c.in_ok-text.text) (string_bytes c.push_str.new.self) (string_bytes c.push_list.new.text) (string_bytes c.push_list-2.new.text) (string_bytes c.push_list-3.new.text)
    (string_bytes c.push_str-2.new.self) c.in_ok-text.ensures.ok (rw name_laid at c.in_ok-push_str.ensures.bytes) (rw columns_laid at c.in_ok-push_list.ensures) (rw keys_laid at c.in_ok-push_list-2.ensures)
    (rw order_laid at c.in_ok-push_list-3.ensures) c.in_ok-push_str-2.ensures.bytes
