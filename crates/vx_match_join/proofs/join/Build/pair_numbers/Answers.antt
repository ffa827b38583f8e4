use Rattle.std.proofs.Common.{arith, ◌≡◌, ◌+◌, ◌++◌, ◌<◌, [], sym, subst, ap, ◌∙◌, ◌≤◌, flat_map, take, length, get_or, ℕ, List}
use Rattle.vx_rows_values.specs.Values.{pick}
use Rattle.vx_plan_nodes.specs.Serial.{group_keys}
use Rattle.vx_match_join.specs.Build.{Built, ArePairs}
use Rattle.vx_match_join.specs.Parts.{listed_places}
use Rattle.vx_match_keys.specs.Matched.{matched}
use Rattle.vx_match_join.proofs.BuildFacts.{key-missing}
use Rattle.vx_match_join.proofs.PairFacts.{pairs-more, pairs-missing, number-in}
use Rattle.vx_match_join.proofs.join.Build.pair_numbers.Goals as goal

pub loop-i-preserved-then-number-known : goal.loop-i-preserved-then-number-known
loop-i-preserved-then-number-known c = record {
  start = λ z. absurd (omega (arith, z));
  pairs = λ columns ls within is old.
      let b = c.args.self.now in
      let ns = c.args.numbers.now in
      let i = c.loop-i.i in
      let at = c.args.from + i in
      let lefts = c.loop-i.pairs.lefts.items in
      let rights = c.loop-i.pairs.rights.items in
      let key = pick columns (get_or ls at []) in
      let ks = group_keys b.columns b.rows in
      let few : i < length ns = omega (arith, c.loop-i-test.true) in
      let near : at < length ls = omega (arith, few, within, c.requires) in
      let keys : c.self.inside.keys ≡ ks = subst (λ (v : Built). c.self.inside.keys ≡ group_keys v.columns v.rows) c.self.view_is c.self.invariant.keys_are in
      let many = c.len-known.ensures.len ∙ ap length keys in
      let past : length ks ≤ get_or ns i 0 = omega (arith, c.if-number-known.true, many) in
      let number = number-in columns ks ls ns c.args.from c.args.to i c.requires within few is in
      let none = key-missing b.columns b.rows key (get_or ns i 0) number past in
      let next : at + 1 ≡ c.args.from + (i + 1) = omega arith in
      subst (λ (n : ℕ). ArePairs ls b.rows lefts rights (flat_map (matched columns b.columns b.rows) (take n ls))) next
      (pairs-missing ls b.rows lefts rights columns b.columns at near none (c.loop-i.invariant.pairs columns ls within is old));
}

pub loop-i-preserved : goal.loop-i-preserved
loop-i-preserved c = record {
  start = λ z. absurd (omega (arith, z));
  pairs = λ columns ls within is old.
      let b = c.args.self.now in
      let ns = c.args.numbers.now in
      let i = c.loop-i.i in
      let at = c.args.from + i in
      let lefts = c.loop-i.pairs.lefts.items in
      let rights = c.loop-i.pairs.rights.items in
      let ps = listed_places c.matches.result in
      let few : i < length ns = omega (arith, c.loop-i-test.true) in
      let near : at < length ls = omega (arith, few, within, c.requires) in
      let found = c.matches.ensures (pick columns (get_or ls at [])) (number-in columns (group_keys b.columns b.rows) ls ns c.args.from c.args.to i c.requires within few is) in
      let more = pairs-more ls b.rows lefts rights columns b.columns at ps near found (c.loop-i.invariant.pairs columns ls within is old) in
      let next : at + 1 ≡ c.args.from + (i + 1) = omega arith in
      let made = λ (n : ℕ). flat_map (matched columns b.columns b.rows) (take n ls) in
      subst (λ (n : ℕ). ArePairs ls b.rows c.push_pairs.new.pairs.lefts.items c.push_pairs.new.pairs.rights.items (made n)) next
      (subst (λ (ks : List ℕ). ArePairs ls b.rows c.push_pairs.new.pairs.lefts.items ks (made (at + 1))) (sym c.in_ok-push_pairs.ensures.rights)
      (subst (λ (ks : List ℕ). ArePairs ls b.rows ks (rights ++ ps) (made (at + 1))) (sym c.in_ok-push_pairs.ensures.lefts) more));
}

pub returns-clause-pairs : goal.returns-clause-pairs
returns-clause-pairs c = λ columns ls within is old.
    let b = c.args.self.now in
    let end : c.args.from + c.loop-i.i ≡ c.args.to = omega (arith, c.loop-i-test.false, c.loop-i.auto.i-end, c.requires) in
    subst (λ (n : ℕ). ArePairs ls b.rows c.loop-i.pairs.lefts.items c.loop-i.pairs.rights.items (flat_map (matched columns b.columns b.rows) (take n ls))) end
    (c.loop-i.invariant.pairs columns ls within is old)
