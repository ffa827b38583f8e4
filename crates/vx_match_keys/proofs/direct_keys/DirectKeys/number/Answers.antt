use Rattle.std.proofs.Common.{◌≡◌, ◌≢◌, ◌<◌, ◌+◌, ◌-◌, ◌++◌, ◌∷◌, [], ℕ, ℤ, List, refl, arith, rules, sym, ap, ◌∙◌, subst, map, length, get_or, pos, w64}
use Rattle.std.specs.Prelude.{position, IfOk, IfSome, Some, None}
use Rattle.std.specs.List.{position_or_len}
use Rattle.std.proofs.lemmas.Int.{to_z-of_z}
use Rattle.std.proofs.lemmas.List.{get_or_read}
use Rattle.std.proofs.lemmas.List.Quantifiers.{position-Some}
use Rattle.indexmap.specs.IndexSet.{insert_key}
use Rattle.vx_rows_values.specs.Values.{Row, row_eq}
use Rattle.vx_match_keys.specs.Columns.{number_key}
use Rattle.vx_match_keys.specs.Direct.{direct_key, IsTable}
use Rattle.vx_match_keys.proofs.DirectFacts.{beyond-number, zero-number, marked-number}
use Rattle.vx_match_keys.proofs.NumberFacts.{found-number, missing-number, key-known, key-new}
use Rattle.vx_match_keys.proofs.direct_keys.DirectKeys.number.Goals as goal

-- what a table says of a number, by the keys that it stands for
module _ (items table : List ℕ) (keys : List Row) (is : IsTable items table) (shown : map direct_key items ≡ keys) where
  beyond : (z w : ℤ) → w ≡ z → ((v : ℕ) → v < length table → w ≢ pos v) → position (row_eq (number_key z)) keys ≡ None
  beyond z w same none = ap (position (row_eq (number_key z))) (sym shown) ∙ beyond-number items table is z (λ v near e. none v near (same ∙ e))

  marked : (z : ℤ) (v n : ℕ) → z ≡ pos v → get_or table v 0 ≡ n + 1 → position (row_eq (number_key z)) keys ≡ Some n
  marked z v n at mark = ap (position (row_eq (number_key z))) (sym shown) ∙ marked-number items table is z v n at mark

  unmarked : (v : ℕ) → get_or table v 0 ≡ 0 → position (row_eq (direct_key v)) keys ≡ None
  unmarked v none = ap (position (row_eq (direct_key v))) (sym shown) ∙ zero-number items table is (pos v) v refl none

pub add-requires : goal.add-requires
add-requires c =
    let t = c.self.inside in
    beyond t.keys.items t.table.items c.args.self.now c.self.invariant c.self.view_is _ _ refl (λ v near. c.in_default.ensures.none v (omega (arith, near, c.len.ensures, t.table.ok.0)))

pub returns-in_default-clause-number : goal.returns-in_default-clause-number
returns-in_default-clause-number c =
    let t = c.self.inside in
    let key = c.args.key in
    let keys = c.args.self.now in
    let at = beyond t.keys.items t.table.items keys c.self.invariant c.self.view_is key _ (to_z-of_z w64 key (search rules)) (λ v near. c.in_default.ensures.none v (omega (arith, near, c.len.ensures, t.table.ok.0))) in
    let none = missing-number (row_eq (number_key key)) keys at in
    subst (λ (m : ℕ). IfOk c.add.result (λ o. IfSome o (λ n. n ≡ m))) none c.add.ensures.number

pub returns-in_default-clause-keys : goal.returns-in_default-clause-keys
returns-in_default-clause-keys c =
    let t = c.self.inside in
    let key = c.args.key in
    let keys = c.args.self.now in
    let at = beyond t.keys.items t.table.items keys c.self.invariant c.self.view_is key _ (to_z-of_z w64 key (search rules)) (λ v near. c.in_default.ensures.none v (omega (arith, near, c.len.ensures, t.table.ok.0))) in
    let none = missing-number (row_eq (number_key key)) keys at in
    let is = ap (λ z. keys ++ number_key z ∷ []) (to_z-of_z w64 key (search rules)) ∙ sym (key-new keys (number_key key) (omega (arith, none))) in
    subst (λ (ks : List Row). IfOk c.add.result (λ o. IfSome o (λ _. c.add.new.self ≡ ks))) is c.add.ensures.keys

pub returns-then-mark-ne0-clause-number : goal.returns-then-mark-ne0-clause-number
returns-then-mark-ne0-clause-number c =
    let t = c.self.inside in
    let key = c.args.key in
    let v = c.in-Some.place in
    let n = c.index.result.now - 1 in
    let at : key ≡ pos v = sym (to_z-of_z w64 key (search rules)) ∙ c.in-Some.ensures.there in
    let mark : get_or t.table.items v 0 ≡ n + 1 = let read = get_or_read t.table.items v c.index.result.now (omega (arith, c.in-Some.ensures.within, c.len.ensures, t.table.ok.0)) c.index.ensures 0 in let some = c.if-mark-ne0.true in omega (arith, read, some) in
    found-number (row_eq (number_key key)) c.args.self.now n (marked t.keys.items t.table.items c.args.self.now c.self.invariant c.self.view_is key v n at mark)

pub returns-then-mark-ne0-clause-keys : goal.returns-then-mark-ne0-clause-keys
returns-then-mark-ne0-clause-keys c =
    let t = c.self.inside in
    let key = c.args.key in
    let keys = c.args.self.now in
    let v = c.in-Some.place in
    let n = c.index.result.now - 1 in
    let at : key ≡ pos v = sym (to_z-of_z w64 key (search rules)) ∙ c.in-Some.ensures.there in
    let mark : get_or t.table.items v 0 ≡ n + 1 = let read = get_or_read t.table.items v c.index.result.now (omega (arith, c.in-Some.ensures.within, c.len.ensures, t.table.ok.0)) c.index.ensures 0 in let some = c.if-mark-ne0.true in omega (arith, read, some) in
    let there = marked t.keys.items t.table.items keys c.self.invariant c.self.view_is key v n at mark in
    let near : n < length keys = (position-Some (row_eq (number_key key)) keys n [] there).0 in
    sym (key-known keys (number_key key) (subst (λ m. m < length keys) (found-number (row_eq (number_key key)) keys n there) near))

pub put-requires : goal.put-requires
put-requires c =
    let t = c.self.inside in
    let v = c.in-Some.place in
    let near : v < length t.table.items = omega (arith, c.in-Some.ensures.within, c.len.ensures, t.table.ok.0) in
    let zero : get_or t.table.items v 0 ≡ 0 = let read = get_or_read t.table.items v c.index.result.now near c.index.ensures 0 in sym read ∙ c.if-mark-ne0.false in
    unmarked t.keys.items t.table.items c.args.self.now c.self.invariant c.self.view_is v zero

pub returns-clause-number : goal.returns-clause-number
returns-clause-number c =
    let t = c.self.inside in
    let key = c.args.key in
    let v = c.in-Some.place in
    let at : key ≡ pos v = sym (to_z-of_z w64 key (search rules)) ∙ c.in-Some.ensures.there in
    let near : v < length t.table.items = omega (arith, c.in-Some.ensures.within, c.len.ensures, t.table.ok.0) in
    let zero : get_or t.table.items v 0 ≡ 0 = let read = get_or_read t.table.items v c.index.result.now near c.index.ensures 0 in sym read ∙ c.if-mark-ne0.false in
    let none = missing-number (row_eq (direct_key v)) c.args.self.now (unmarked t.keys.items t.table.items c.args.self.now c.self.invariant c.self.view_is v zero) in
    let long : length c.args.self.now ≡ position_or_len (row_eq (number_key key)) c.args.self.now = none ∙ ap (λ z. position_or_len (row_eq (number_key z)) c.args.self.now) (sym at) in
    subst (λ (m : ℕ). IfOk c.put.result (λ o. IfSome o (λ n. n ≡ m))) long c.put.ensures.number

pub returns-clause-keys : goal.returns-clause-keys
returns-clause-keys c =
    let t = c.self.inside in
    let key = c.args.key in
    let keys = c.args.self.now in
    let v = c.in-Some.place in
    let at : key ≡ pos v = sym (to_z-of_z w64 key (search rules)) ∙ c.in-Some.ensures.there in
    let near : v < length t.table.items = omega (arith, c.in-Some.ensures.within, c.len.ensures, t.table.ok.0) in
    let zero : get_or t.table.items v 0 ≡ 0 = let read = get_or_read t.table.items v c.index.result.now near c.index.ensures 0 in sym read ∙ c.if-mark-ne0.false in
    let none = missing-number (row_eq (direct_key v)) keys (unmarked t.keys.items t.table.items keys c.self.invariant c.self.view_is v zero) in
    let is = sym (key-new keys (direct_key v) (omega (arith, none))) ∙ ap (λ z. insert_key row_eq keys (number_key z)) (sym at) in
    subst (λ (ks : List Row). IfOk c.put.result (λ o. IfSome o (λ _. c.put.new.self ≡ ks))) is c.put.ensures.keys
