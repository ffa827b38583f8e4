use Rattle.std.proofs.Common.{rules, w64, to_z, of_z, ◌≡◌, ◌∙◌, ◌+◌, ◌++◌, pos, length, get_or, cond, ap, sym, arith, is_lt, is_gt}
use Rattle.std.proofs.lemmas.Int.{to_z-of_z}
use Rattle.vx_rows_values.specs.Values.{num}
use Rattle.vx_rows_values.specs.Order.{compare_values}
use Rattle.vx_match_merging.specs.Merged.{rows_at}
use Rattle.vx_match_merging.proofs.NumberTurns.{number-passed, number-joined, pairs-added}
use Rattle.vx_match_merging.proofs.numbers.join_numbers.Goals as goal

pub loop-i-preserved-in-Greater : goal.loop-i-preserved-in-Greater
loop-i-preserved-in-Greater c =
    let inv = c.loop-i.invariant in
    let i = c.loop-i.i in
    let j = c.loop-i.j in
    let o = c.compare_numbers.result in
    let x = get_or c.args.lefts.now i (pos 0) in
    let y = get_or c.args.rights.now j (pos 0) in
    let x-is : to_z w64 (of_z w64 x) ≡ x = to_z-of_z w64 x (search rules) in
    let y-is : to_z w64 (of_z w64 y) ≡ y = to_z-of_z w64 y (search rules) in
    let order : o ≡ compare_values c.args.falling (num x) (num y) = c.compare_numbers.ensures ∙ (λ k. compare_values c.args.falling (num (x-is k)) (num (y-is k))) in
    record {
      left_within = inv.left_within;
      right_within = omega arith;
      order = omega arith;
      many = inv.many;
      left = inv.left;
      right = inv.right;
      fewer = inv.fewer;
      still = λ a b. absurd (omega (arith, b));
      joined = λ s earlier passed ys h m.
          number-passed s earlier passed c.args.from c.args.falling c.args.lefts.now c.args.rights.now h i c.loop-i.start j (ys ++ rows_at s.left s.right c.loop-i.pairs.left.items c.loop-i.pairs.right.items)
          (inv.joined s earlier passed ys h m) (omega arith) o order (omega arith) (ap is_lt c.in-Greater.is) (c.args.from.end + (j + 1)) (sym (ap (λ p. cond (is_gt p) (c.args.from.end + (j + 1)) c.loop-i.start) c.in-Greater.is));
    }

pub loop-i-preserved-in-Equal : goal.loop-i-preserved-in-Equal
loop-i-preserved-in-Equal c =
    let inv = c.loop-i.invariant in
    let i = c.loop-i.i in
    let j = c.loop-i.j in
    let o = c.compare_numbers.result in
    let x = get_or c.args.lefts.now i (pos 0) in
    let y = get_or c.args.rights.now j (pos 0) in
    let x-is : to_z w64 (of_z w64 x) ≡ x = to_z-of_z w64 x (search rules) in
    let y-is : to_z w64 (of_z w64 y) ≡ y = to_z-of_z w64 y (search rules) in
    let order : o ≡ compare_values c.args.falling (num x) (num y) = c.compare_numbers.ensures ∙ (λ k. compare_values c.args.falling (num (x-is k)) (num (y-is k))) in
    record {
      left_within = inv.left_within;
      right_within = omega arith;
      many = inv.many;
      order = let a = inv.order in omega (arith, a);
      left = inv.left;
      right = inv.right;
      fewer = inv.fewer;
      still = λ a b. absurd (omega (arith, b));
      joined = λ s earlier passed ys h m.
          number-passed s earlier passed c.args.from c.args.falling c.args.lefts.now c.args.rights.now h i c.loop-i.start j (ys ++ rows_at s.left s.right c.loop-i.pairs.left.items c.loop-i.pairs.right.items)
          (inv.joined s earlier passed ys h m) (omega arith) o order (omega arith) (ap is_lt c.in-Equal.is) c.loop-i.start (sym (ap (λ p. cond (is_gt p) (c.args.from.end + (j + 1)) c.loop-i.start) c.in-Equal.is));
    }

pub loop-i-preserved-then-is_lt : goal.loop-i-preserved-then-is_lt
loop-i-preserved-then-is_lt c =
    let inv = c.loop-i.invariant in
    let i = c.loop-i.i in
    let j = c.loop-i.j in
    let start = c.loop-i.start in
    let from = c.args.from in
    let o = c.compare_numbers.result in
    let x = get_or c.args.lefts.now i (pos 0) in
    let y = get_or c.args.rights.now j (pos 0) in
    let x-is : to_z w64 (of_z w64 x) ≡ x = to_z-of_z w64 x (search rules) in
    let y-is : to_z w64 (of_z w64 y) ≡ y = to_z-of_z w64 y (search rules) in
    let order : o ≡ compare_values c.args.falling (num x) (num y) = c.compare_numbers.ensures ∙ (λ k. compare_values c.args.falling (num (x-is k)) (num (y-is k))) in
    let added = c.in_ok-add_pairs-in-Less.ensures in
    let pairs = c.loop-i.pairs in
    let more = c.add_pairs.new.pairs in
    record {
      left_within = omega arith;
      right_within = inv.right_within;
      order = let a = inv.order in omega (arith, a);
      many = added.many;
      left = λ n l h. added.left n (omega (arith, l)) (inv.left n l h);
      right = λ n l h. added.right n (omega (arith, l)) (inv.right n l h);
      fewer = λ x r a b. pairs-added x r from.next i (length pairs.left.items) start (from.end + j) (length c.args.pairs.now.left.items) (length more.left.items) (omega (arith, a)) (omega (arith, b)) added.count (inv.fewer x r a b);
      still = λ a b. absurd (omega (arith, a));
      joined = λ s earlier passed ys h m.
          let p = c.compare_numbers-in-Less.result in
          let z = get_or c.args.lefts.now (i + 1) (pos 0) in
          let z-is : to_z w64 (of_z w64 z) ≡ z = to_z-of_z w64 z (search rules) in
          let step : p ≡ compare_values c.args.falling (num x) (num z) = c.compare_numbers-in-Less.ensures ∙ (λ k. compare_values c.args.falling (num (x-is k)) (num (z-is k))) in
          let there = h.right_within in
          let rows : rows_at s.left s.right more.left.items more.right.items ≡ _ = added.rows s.left s.right (omega (arith, there)) in
          number-joined s earlier passed from c.args.falling c.args.lefts.now c.args.rights.now h i start j ys pairs.left.items pairs.right.items more.left.items more.right.items rows
          (inv.joined s earlier passed ys h m) (omega arith) o order (omega arith) c.in-Less.is p step (from.end + j) (sym (ap (λ b. cond b (from.end + j) start) (sym c.is_lt.ensures ∙ c.if-is_lt.true)));
    }

pub loop-i-preserved : goal.loop-i-preserved
loop-i-preserved c =
    let inv = c.loop-i.invariant in
    let i = c.loop-i.i in
    let j = c.loop-i.j in
    let start = c.loop-i.start in
    let from = c.args.from in
    let o = c.compare_numbers.result in
    let x = get_or c.args.lefts.now i (pos 0) in
    let y = get_or c.args.rights.now j (pos 0) in
    let x-is : to_z w64 (of_z w64 x) ≡ x = to_z-of_z w64 x (search rules) in
    let y-is : to_z w64 (of_z w64 y) ≡ y = to_z-of_z w64 y (search rules) in
    let order : o ≡ compare_values c.args.falling (num x) (num y) = c.compare_numbers.ensures ∙ (λ k. compare_values c.args.falling (num (x-is k)) (num (y-is k))) in
    let added = c.in_ok-add_pairs-in-Less.ensures in
    let pairs = c.loop-i.pairs in
    let more = c.add_pairs.new.pairs in
    record {
      left_within = omega arith;
      right_within = inv.right_within;
      order = let a = inv.order in omega (arith, a);
      many = added.many;
      left = λ n l h. added.left n (omega (arith, l)) (inv.left n l h);
      right = λ n l h. added.right n (omega (arith, l)) (inv.right n l h);
      fewer = λ x r a b. pairs-added x r from.next i (length pairs.left.items) start (from.end + j) (length c.args.pairs.now.left.items) (length more.left.items) (omega (arith, a)) (omega (arith, b)) added.count (inv.fewer x r a b);
      still = λ a b. absurd (omega (arith, a));
      joined = λ s earlier passed ys h m.
          let p = c.compare_numbers-in-Less.result in
          let z = get_or c.args.lefts.now (i + 1) (pos 0) in
          let z-is : to_z w64 (of_z w64 z) ≡ z = to_z-of_z w64 z (search rules) in
          let step : p ≡ compare_values c.args.falling (num x) (num z) = c.compare_numbers-in-Less.ensures ∙ (λ k. compare_values c.args.falling (num (x-is k)) (num (z-is k))) in
          let there = h.right_within in
          let rows : rows_at s.left s.right more.left.items more.right.items ≡ _ = added.rows s.left s.right (omega (arith, there)) in
          number-joined s earlier passed from c.args.falling c.args.lefts.now c.args.rights.now h i start j ys pairs.left.items pairs.right.items more.left.items more.right.items rows
          (inv.joined s earlier passed ys h m) (omega arith) o order (omega arith) c.in-Less.is p step start (sym (ap (λ b. cond b (from.end + j) start) (sym c.is_lt.ensures ∙ c.if-is_lt.false)));
    }
