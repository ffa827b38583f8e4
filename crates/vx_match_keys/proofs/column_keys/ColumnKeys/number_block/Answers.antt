use Rattle.std.proofs.Common.{ℕ, List, [], ◌∷◌, ◌++◌, ◌≡◌, ◌+◌, ◌<◌, ◌≤◌, ◌∙◌, arith, refl, sym, ap, subst, map, take, length, length-append, length-set, get_or, set, nat_eq, if◌then◌else◌}
use Rattle.std.specs.List.{list_any, IsDistinct, position_or_len}
use Rattle.std.proofs.lemmas.List.{length-map, get_or-map, take_all, map-append, take-map, take-append-le, get_or_default, get_or-set_same, get_or-set_other}
use borrow.Author.Count.{below_more}
use Rattle.vx_rows.specs.View.{row}
use Rattle.vx_rows_values.specs.Values.{Row, row_eq, pick}
use Rattle.vx_match_keys.specs.Hashed.{key_hash}
use Rattle.vx_match_keys.proofs.HashedFacts.{keys-apart, new-here, none-past, any-before, off, on}
use Rattle.vx_match_keys.proofs.NumberFacts.{number-most}
use Rattle.vx_match_keys.proofs.FoundFacts.{IsRight, taken-long, set-next, known-right, set-right, new-right, block-keys, block-long, block-key, block-right}
use Rattle.vx_match_keys.proofs.column_keys.ColumnKeys.number_block.Goals as goal

pub loop-i-init : goal.loop-i-init
loop-i-init c =
    let known = c.args.self.now.rows in
    let f = key_hash c.self.inside.seed in
    let hs = c.self.inside.hashes.keys in
    let number = λ (h : ℕ). position_or_len (nat_eq h) hs in
    let wanted = c.hash_keys.new.hashes in
    let n = length c.args.found.now in
    let same : c.self.inside.keys.rows ≡ known = λ j. (c.self.view_is j).rows in
    let count : length hs ≡ length known = ap length c.self.invariant ∙ (length-map c.self.inside.keys.rows f ∙ ap length same) in
    let whole : length wanted ≡ n = c.hash_keys.ensures.len ∙ taken-long n 64 0 c.requires.block in
    record {
      hashed = c.self.invariant;
      unique = c.len-known.ensures.unique;
      seed = refl;
      types = λ j. (c.self.view_is j).types;
      before = ap (take (length known)) same ∙ take_all (length known) known (omega arith);
      most = omega (arith, ap length same);
      len = ap length c.find_hashes.ensures ∙ (length-map wanted number ∙ whole);
      near = λ k l. absurd (omega (arith, l));
      rest = λ k l near.
          let is : get_or c.find_hashes.new.found k 0 ≡ number (get_or wanted k 0) = ap (λ (ns : List ℕ). get_or ns k 0) c.find_hashes.ensures ∙ get_or-map number wanted k 0 0 (omega (arith, near, whole)) in
          let most = number-most (nat_eq (get_or wanted k 0)) hs in
          omega (arith, is, most, count);
      right = λ _. (refl, same);
    }

pub loop-i-preserved-then-found-i : goal.loop-i-preserved-then-found-i
loop-i-preserved-then-found-i c =
    let inv = c.loop-i.invariant in
    let known = c.args.self.now.rows in
    let s = c.loop-i.self-inside.keys.rows in
    let f = key_hash c.loop-i.self-inside.seed in
    let found = c.loop-i.found in
    let i = c.loop-i.i in
    let n = length c.args.found.now in
    let here : i < length found = omega arith in
    let long = block-long c.args.columns.now c.args.chunk.now.rows c.args.from n c.requires.there in
    let apart : IsDistinct row_eq s = keys-apart f s (subst (IsDistinct nat_eq) inv.hashed inv.unique) in
    let count : c.len-known.result ≡ length known = c.len-known.ensures.len ∙ (ap length c.self.invariant ∙ (length-map c.self.inside.keys.rows (key_hash c.self.inside.seed) ∙ ap length (λ j. (c.self.view_is j).rows))) in
    let most : get_or found i 0 ≤ length known = inv.rest i (omega arith) (omega arith) in
    let other = c.if-found-i.true in
    let inside : get_or found i 0 < length s = grind (arith, count, most, other, inv.most) in
    record {
      hashed = inv.hashed;
      unique = inv.unique;
      seed = inv.seed;
      types = inv.types;
      before = inv.before;
      most = inv.most;
      len = inv.len;
      near = below_more (λ k. get_or found k 0 < length s) i inv.near inside;
      rest = λ k l m. inv.rest k (omega (arith, l)) m;
      right = known-right known s (block-keys c.args.columns.now c.args.chunk.now.rows c.args.from n) found i (omega (arith, long, here, inv.len)) here apart inside inv.right;
    }

pub loop-i-preserved-then-not-added : goal.loop-i-preserved-then-not-added
loop-i-preserved-then-not-added c =
    let inv = c.loop-i.invariant in
    let known = c.args.self.now.rows in
    let s = c.loop-i.self-inside.keys.rows in
    let hs = c.loop-i.self-inside.hashes.keys in
    let f = key_hash c.loop-i.self-inside.seed in
    let h = get_or c.hash_keys.new.hashes c.loop-i.i 0 in
    let found = c.loop-i.found in
    let i = c.loop-i.i in
    let n = length c.args.found.now in
    let number = c.in_ok-number.number in
    let here : i < length found = omega arith in
    let long = block-long c.args.columns.now c.args.chunk.now.rows c.args.from n c.requires.there in
    let apart : IsDistinct row_eq s = keys-apart f s (subst (IsDistinct nat_eq) inv.hashed inv.unique) in
    let some = on c.in_ok-number.added (list_any (nat_eq h) hs) c.in_ok-number.ensures.added c.if-not-added.true in
    let at = c.in_ok-number.ensures.index in
    let before = any-before (nat_eq h) hs some in
    let hashed : length hs ≡ length s = ap length inv.hashed ∙ length-map s f in
    let inside : number < length s = omega (arith, at, before, hashed) in
    let written = get_or-set_same found i number 0 here in
    let all = length-set found i number in
    record {
      hashed = c.in_ok-number.ensures.keys ∙ (ap (λ b. if b then hs else hs ++ h ∷ []) some ∙ inv.hashed);
      unique = c.in_ok-number.ensures.unique;
      seed = inv.seed;
      types = inv.types;
      before = inv.before;
      most = inv.most;
      len = all ∙ inv.len;
      near = set-next (λ k. k < length s) found i number here inside inv.near;
      rest = λ k l m. subst (λ p. p ≤ length known) (sym (get_or-set_other found i k number 0 (λ e. omega (arith, e, l)))) (inv.rest k (omega (arith, l)) m);
      right = known-right known s (block-keys c.args.columns.now c.args.chunk.now.rows c.args.from n) (set found i number) i (omega (arith, long, here, inv.len)) (omega (arith, all, here)) apart
          (omega (arith, written, inside)) (set-right known s (block-keys c.args.columns.now c.args.chunk.now.rows c.args.from n) found i number here inv.right);
    }

pub loop-i-preserved : goal.loop-i-preserved
loop-i-preserved c =
    let inv = c.loop-i.invariant in
    let known = c.args.self.now.rows in
    let s = c.loop-i.self-inside.keys.rows in
    let hs = c.loop-i.self-inside.hashes.keys in
    let f = key_hash c.loop-i.self-inside.seed in
    let h = get_or c.hash_keys.new.hashes c.loop-i.i 0 in
    let found = c.loop-i.found in
    let i = c.loop-i.i in
    let n = length c.args.found.now in
    let number = c.in_ok-number.number in
    let cols = c.args.columns.now in
    let rows = c.args.chunk.now.rows in
    let xs = block-keys cols rows c.args.from n in
    let key = pick cols (row c.args.chunk.now (c.args.from + i)) in
    let here : i < length found = omega arith in
    let long = block-long cols rows c.args.from n c.requires.there in
    let none = off c.in_ok-number.added (list_any (nat_eq h) hs) c.in_ok-number.ensures.added c.if-not-added.false in
    let own : c.self.inside.seed ≡ c.loop-i.self-inside.seed = sym inv.seed in
    let whole : length c.hash_keys.new.hashes ≡ n = c.hash_keys.ensures.len ∙ taken-long n 64 0 c.requires.block in
    let hash : h ≡ f key = c.hash_keys.ensures.hashes i (omega (arith, here, inv.len, whole)) ∙ ap (λ q. key_hash q key) own in
    let new : length s ≡ position_or_len (row_eq key) s = new-here f key s s hs h inv.hashed refl hash none in
    let hashed : length hs ≡ length s = ap length inv.hashed ∙ length-map s f in
    let at = c.in_ok-number.ensures.index in
    let past = none-past (nat_eq h) hs none in
    let most = number-most (nat_eq h) hs in
    let last : number ≡ length s = omega (arith, at, past, most, hashed) in
    let more : c.insert_full.new.self.keys ≡ hs ++ h ∷ [] = c.in_ok-number.ensures.keys ∙ ap (λ b. if b then hs else hs ++ h ∷ []) none in
    let keys : c.push_key.new.keys.rows ≡ s ++ key ∷ [] = c.in_ok-push_key.ensures.keys in
    let longer : length c.push_key.new.keys.rows ≡ length s + 1 = ap length keys ∙ length-append s (key ∷ []) in
    let is : get_or xs i [] ≡ key = block-key cols rows c.args.from n i c.requires.there (omega (arith, here, inv.len)) in
    let all = length-set found i number in
    record {
      hashed = c.in_ok-push_key.ensures.hashes ∙ (more ∙ ((λ j. inv.hashed j ++ hash j ∷ []) ∙ (sym (map-append f s (key ∷ [])) ∙ ap (map f) (sym keys))));
      unique = subst (IsDistinct nat_eq) (sym c.in_ok-push_key.ensures.hashes) c.in_ok-number.ensures.unique;
      seed = inv.seed;
      types = c.in_ok-push_key.ensures.types ∙ inv.types;
      before = ap (take (length known)) keys ∙ (take-append-le (length known) s (key ∷ []) inv.most ∙ inv.before);
      most = omega (arith, longer, inv.most);
      len = all ∙ inv.len;
      near = set-next (λ k. k < length c.push_key.new.keys.rows) found i number here (omega (arith, longer, last)) (λ k l. let near = inv.near k l in omega (arith, near, longer));
      rest = λ k l m. subst (λ p. p ≤ length known) (sym (get_or-set_other found i k number 0 (λ e. omega (arith, e, l)))) (inv.rest k (omega (arith, l)) m);
      right = subst (λ (t : List Row). IsRight known t (set found i number) (i + 1) xs) (ap (λ x. s ++ x ∷ []) is ∙ sym keys)
          (new-right known s xs found i number (omega (arith, long, here, inv.len)) here inv.near last (new ∙ ap (λ (x : Row). position_or_len (row_eq x) s) (sym is)) inv.right);
    }

pub have_keys-requires-clause-places : goal.have_keys-requires-clause-places
have_keys-requires-clause-places c = λ k d near.
    let all = c.loop-i.invariant.near k (omega (arith, near)) in
    subst (λ p. p < length c.loop-i.self-inside.keys.rows) (get_or_default c.loop-i.found k 0 d near) all

pub returns-then-have_keys-clause-numbers : goal.returns-then-have_keys-clause-numbers
returns-then-have_keys-clause-numbers c = λ _.
    let inv = c.loop-i.invariant in
    let n = length c.args.found.now in
    (block-right c.args.self.now.rows c.loop-i.self-inside.keys.rows c.args.columns.now c.args.chunk.now.rows c.loop-i.found c.args.from n c.loop-i.i c.requires.there inv.len (omega arith)
    (c.if-have_keys.ensures refl) inv.right).0

pub returns-then-have_keys-clause-keys : goal.returns-then-have_keys-clause-keys
returns-then-have_keys-clause-keys c = λ _.
    let inv = c.loop-i.invariant in
    let n = length c.args.found.now in
    (block-right c.args.self.now.rows c.loop-i.self-inside.keys.rows c.args.columns.now c.args.chunk.now.rows c.loop-i.found c.args.from n c.loop-i.i c.requires.there inv.len (omega arith)
    (c.if-have_keys.ensures refl) inv.right).1

pub invariant_of-self-2 : goal.invariant_of-self-2
invariant_of-self-2 c =
    let f = key_hash c.loop-i.self-inside.seed in
    let rows = c.loop-i.self-inside.keys.rows in
    c.truncate-2.ensures.keys
    ∙ (ap (take c.len-known.result) c.loop-i.invariant.hashed
    ∙ (take-map f c.len-known.result rows ∙ ap (map f) (sym c.truncate.ensures.rows)))
