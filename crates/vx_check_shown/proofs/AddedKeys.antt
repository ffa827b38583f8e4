-- Keys that are added by the columns that are needed, one more at a time.
use Rattle.std.proofs.Common.{Vec, Global, ◌≡◌, ◌∙◌, ℕ, ◌+◌, ◌<◌, ◌≤◌, Bool, true, false, not, ◌&&◌, ◌||◌, ⊎_elim, List, map, length, take, get_or, refl, ap, sym, subst, arith}
use Rattle.std.specs.List.{list_all}
use Rattle.std.proofs.lemmas.List.{length-map, length-take-le, take_all}
use Rattle.std.proofs.lemmas.List.Folds.{list_all-map, list_all_more}
use Rattle.vx_rows_values.proofs.Booleans.{and-both}
use Rattle.vx_catalog_relations.specs.Relation.{Relation}
use Rattle.vx_plan_nodes.specs.Plan.{Plan}
use Rattle.vx_plan_nodes.specs.Types.{width}
use Rattle.vx_plan_nodes.specs.Typed.{are_columns}
use Rattle.vx_plan_facts.specs.Equal.{equal_at}
use Rattle.vx_check_rules.specs.Rules.{covers}
use Rattle.vx_check_rules.specs.Behaviour.{Keyed}
use Rattle.vx_check_rules.specs.Derived.{key_derived_by}
use Rattle.vx_check_rules.proofs.Bools.{or-left, or-right, all-more}
use Rattle.vx_check_options.specs.FoundKeys.{with_key}
use Rattle.vx_check_options.proofs.FoundFacts.{either, not-false, covers-more, key-covers, key-keeps, key-passes, key-apart, key-longer}
use Rattle.vx_check_shown.specs.Standing.{named_first}
use Rattle.vx_check_shown.specs.ShownKeys.{are_first, IsNeeded, AddsKeys}

module _ (catalog : ℕ → Relation) (p : Plan) (keyed : List Keyed) where
  abbrev pub derived : List ℕ → Bool
  derived = key_derived_by catalog p keyed

  abbrev pub firsts : List ℕ → List ℕ
  firsts = named_first (width catalog p) (equal_at catalog p)

  -- the test of one key
  abbrev pub covered : List (List ℕ) → List ℕ → Bool
  covered found key = not (derived key) || covers found (firsts key)

  abbrev pub items : List (Vec ℕ Global) → List (List ℕ)
  items = map (λ (v : Vec ℕ Global). v.items)

  taken : (vs : List (Vec ℕ Global)) (i : ℕ) (v : Vec ℕ Global) (test : List ℕ → Bool) → i < length vs → v ≡ get_or vs i v
      → list_all test (items (take (i + 1) vs)) ≡ (list_all test (items (take i vs)) && test v.items)
  taken vs i v test h e =
      list_all-map test (λ (u : Vec ℕ Global). u.items) (take (i + 1) vs) ∙ list_all_more (λ (u : Vec ℕ Global). test u.items) vs i v h
      ∙ ap (λ b. b && test (get_or vs i v).items) (sym (list_all-map test (λ (u : Vec ℕ Global). u.items) (take i vs)))
      ∙ ap (λ (u : Vec ℕ Global). list_all test (items (take i vs)) && test u.items) (sym e)

  taken-length : (vs : List (Vec ℕ Global)) (i : ℕ) → i ≤ length vs → length (items (take i vs)) ≡ i
  taken-length vs i h = length-map (take i vs) (λ (v : Vec ℕ Global). v.items) ∙ length-take-le i vs h

  pub adds-none : (vs : List (Vec ℕ Global)) (old : List (List ℕ)) → AddsKeys catalog p keyed (items (take 0 vs)) old old
  adds-none vs old = record { are = λ h. h; kept = λ x h. h; room = λ h. h; limit = λ h. h; few = omega arith; fewer = λ h. refl; fit = λ h. refl }

  -- a key that is not derived
  pub adds-without : (vs : List (Vec ℕ Global)) (i : ℕ) (v : Vec ℕ Global) (old found : List (List ℕ)) → i < length vs → v ≡ get_or vs i v → derived v.items ≡ false
      → AddsKeys catalog p keyed (items (take i vs)) old found → AddsKeys catalog p keyed (items (take (i + 1) vs)) old found
  adds-without vs i v old found h e fails a =
      let one = taken-length vs i (omega (arith, h)) in
      let next = taken-length vs (i + 1) (omega (arith, h)) in
      let less = a.few in
      let more : list_all (covered found) (items (take i vs)) ≡ true → list_all (covered found) (items (take (i + 1) vs)) ≡ true =
      λ k. taken vs i v (covered found) h e ∙ and-both (list_all (covered found) (items (take i vs))) (covered found v.items) k (or-left (not (derived v.items)) (covers found (firsts v.items)) (not-false (derived v.items) fails)) in
      record {
        are = a.are;
        kept = a.kept;
        room = a.room;
        limit = a.limit;
        few = omega (arith, one, next, less);
        fewer = λ k. more (a.fewer k);
        fit = λ k. more (a.fit (omega (arith, one, next, k)));
      }

  -- a key that is
  pub adds-with : (vs : List (Vec ℕ Global)) (i : ℕ) (v : Vec ℕ Global) (part : List ℕ) (old found more : List (List ℕ)) → i < length vs → v ≡ get_or vs i v → derived v.items ≡ true
      → length found < 16 → IsNeeded catalog p keyed v.items part → more ≡ with_key found part
      → AddsKeys catalog p keyed (items (take i vs)) old found → AddsKeys catalog p keyed (items (take (i + 1) vs)) old more
  adds-with vs i v part old found more h e passes room q is a = subst (λ m. AddsKeys catalog p keyed (items (take (i + 1) vs)) old m) (sym is) (record {
    are = λ k.
        let s = a.are k in
        record {
          shown = key-passes derived found part (q.shown passes) s.shown;
          columns = key-passes (are_columns (width catalog p)) found part q.columns s.columns;
          named = key-passes (are_first (width catalog p) (equal_at catalog p)) found part q.named s.named;
          apart = key-apart found part s.apart;
        };
    kept = λ x k. key-keeps found part x (a.kept x k);
    room = λ k. a.room room;
    limit = λ k. let longer = key-longer found part in omega (arith, longer, room);
    few = let longer = key-longer found part in let one = taken-length vs i (omega (arith, h)) in let next = taken-length vs (i + 1) (omega (arith, h)) in let less = a.few in omega (arith, longer, one, next, less);
    fewer = λ k. all (a.fewer room);
    fit = λ k. all (a.fewer room);
  })
    where
      still : (key : List ℕ) → covered found key ≡ true → covered (with_key found part) key ≡ true
      still key f =
          ⊎_elim (or-left (not (derived key)) (covers (with_key found part) (firsts key))) (λ g. or-right (not (derived key)) (covers (with_key found part) (firsts key)) (key-keeps found part (firsts key) g))
          (either (not (derived key)) (covers found (firsts key)) f)

      all : list_all (covered found) (items (take i vs)) ≡ true → list_all (covered (with_key found part)) (items (take (i + 1) vs)) ≡ true
      all k =
          taken vs i v (covered (with_key found part)) h e
          ∙ and-both (list_all (covered (with_key found part)) (items (take i vs))) (covered (with_key found part) v.items)
          (all-more (covered found) (covered (with_key found part)) (items (take i vs)) still k)
          (or-right (not (derived v.items)) (covers (with_key found part) (firsts v.items)) (covers-more (with_key found part) part (firsts v.items) (key-covers found part) q.among))

  -- no more than 16
  pub adds-full : (vs : List (Vec ℕ Global)) (i : ℕ) (old found : List (List ℕ)) → i < length vs → 16 ≤ length found → AddsKeys catalog p keyed (items (take i vs)) old found
      → AddsKeys catalog p keyed (items vs) old found
  adds-full vs i old found h full a =
      let one = taken-length vs i (omega (arith, h)) in
      let all = length-map vs (λ (v : Vec ℕ Global). v.items) in
      let less = a.few in
      record {
        are = a.are;
        kept = a.kept;
        room = a.room;
        limit = a.limit;
        few = omega (arith, one, all, less, h);
        fewer = λ k. absurd (omega (arith, k, full));
        fit = λ k. absurd (omega (arith, one, all, less, h, full, k));
      }

  pub adds-all : (vs : List (Vec ℕ Global)) (i : ℕ) (old found : List (List ℕ)) → length vs ≤ i → AddsKeys catalog p keyed (items (take i vs)) old found → AddsKeys catalog p keyed (items vs) old found
  adds-all vs i old found h a = subst (λ us. AddsKeys catalog p keyed (items us) old found) (take_all i vs h) a
