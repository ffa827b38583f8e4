-- Of a whole typed plan what is kept of it holds, and of a node's inputs what holds of the node.
use Rattle.std.proofs.Common.{◌≡◌, ◌∙◌, ℕ, suc, ◌+◌, ◌==◌, nat_le, true, ◌&&◌, List, [], ◌∷◌, ◌++◌, length, ap, sym, refl, arith, Some, slice_get, length-append, append_assoc}
use Rattle.std.proofs.lemmas.Bool.{eqb-true, and_parts}
use Rattle.std.proofs.lemmas.List.{append-nil}
use Rattle.vx_rows_values.specs.declared.order.OrderEntry.{OrderEntry}
use Rattle.vx_rows_values.specs.Limits.{max_columns}
use Rattle.vx_rows_values.proofs.Booleans.{and-left, and-right}
use Rattle.vx_catalog_relations.specs.Relation.{Relation}
use Rattle.vx_plan_nodes.specs.Plan.{Claim, Unary, Binary, union, join, semi_join, ExchangeKind, Plan, scan, unary, binary, exchange}
use Rattle.vx_plan_nodes.specs.Numbering.{nodes, is_numbered}
use Rattle.vx_plan_nodes.specs.Phases.{phase_fits, both_closed}
use Rattle.vx_plan_nodes.specs.Types.{width, names_columns, well_formed}
use Rattle.vx_plan_facts.specs.Naming.{names_within}
use Rattle.vx_plan_facts.specs.declared.known.KnownColumns as rust_known
use Rattle.vx_plan_facts.specs.Asking.{is_within}
use Rattle.vx_plan_facts.specs.Known.{in_order, StandAmong}
use Rattle.vx_plan_facts.specs.KnownView.{IsKnownOf}

count : (p : Plan) → length (in_order p) ≡ nodes p
count (scan n c r m z) = refl
count (unary n c op p) = ap suc (count p)
count (binary n c op p q) = let e = length-append (in_order p) (in_order q) in let i = count p in let j = count q in omega (arith, e, i, j)
count (exchange n c k m p) = ap suc (count p)

at-front : (pre post : List Plan) (p : Plan) (i n : ℕ) → length pre ≡ i → (n == i) ≡ true → slice_get (pre ++ (p ∷ post)) n ≡ Some p
at-front pre post p i n wide is = ap (slice_get (pre ++ (p ∷ post))) (eqb-true n i is ∙ sym wide) ∙ go pre
  where
    go : (xs : List Plan) → slice_get (xs ++ (p ∷ post)) (length xs) ≡ Some p
    go [] = refl
    go (x ∷ xs) = go xs

after-front : (pre post : List Plan) (p : Plan) → (pre ++ p ∷ []) ++ post ≡ pre ++ (p ∷ post)
after-front pre post p = append_assoc pre (p ∷ []) post

longer-front : (pre : List Plan) (p : Plan) (i : ℕ) → length pre ≡ i → length (pre ++ p ∷ []) ≡ suc i
longer-front pre p i wide = let e = length-append pre (p ∷ []) in omega (arith, e, wide)

stands : (p : Plan) (all pre post : List Plan) (i : ℕ) → is_numbered i p ≡ true → length pre ≡ i → all ≡ pre ++ (in_order p ++ post) → StandAmong all p
stands (scan n c r m z) all pre post i numbered wide put = ap (λ xs. slice_get xs n) put ∙ at-front pre post (scan n c r m z) i n wide numbered
stands (unary n c op p) all pre post i numbered wide put =
    let top = unary n c op p in
    let parts = and_parts (n == i) (is_numbered (suc i) p) numbered in (
      ap (λ xs. slice_get xs n) put ∙ at-front pre (in_order p ++ post) top i n wide parts.0,
      stands p all (pre ++ top ∷ []) post (suc i) parts.1 (longer-front pre top i wide) (put ∙ sym (after-front pre (in_order p ++ post) top)),
    )
stands (binary n c op p q) all pre post i numbered wide put =
    let top = binary n c op p q in
    let parts = and_parts (n == i) (is_numbered (suc i) p && is_numbered (suc i + nodes p) q) numbered in
    let both = and_parts (is_numbered (suc i) p) (is_numbered (suc i + nodes p) q) parts.1 in
    let there : all ≡ (pre ++ top ∷ []) ++ (in_order p ++ (in_order q ++ post)) =
    put ∙ ap (λ xs. pre ++ (top ∷ xs)) (append_assoc (in_order p) (in_order q) post) ∙ sym (after-front pre (in_order p ++ (in_order q ++ post)) top) in
    let behind : all ≡ ((pre ++ top ∷ []) ++ in_order p) ++ (in_order q ++ post) = there ∙ sym (append_assoc (pre ++ top ∷ []) (in_order p) (in_order q ++ post)) in
    let front : length ((pre ++ top ∷ []) ++ in_order p) ≡ suc i + nodes p =
    length-append (pre ++ top ∷ []) (in_order p) ∙ ap (λ m. m + length (in_order p)) (longer-front pre top i wide) ∙ ap (λ m. suc i + m) (count p) in (
      ap (λ xs. slice_get xs n) put ∙ at-front pre ((in_order p ++ in_order q) ++ post) top i n wide parts.0,
      stands p all (pre ++ top ∷ []) (in_order q ++ post) (suc i) both.0 (longer-front pre top i wide) there,
      stands q all ((pre ++ top ∷ []) ++ in_order p) post (suc i + nodes p) both.1 front behind,
    )
stands (exchange n c k m p) all pre post i numbered wide put =
    let top = exchange n c k m p in
    let parts = and_parts (n == i) (is_numbered (suc i) p) numbered in (
      ap (λ xs. slice_get xs n) put ∙ at-front pre (in_order p ++ post) top i n wide parts.0,
      stands p all (pre ++ top ∷ []) post (suc i) parts.1 (longer-front pre top i wide) (put ∙ sym (after-front pre (in_order p ++ post) top)),
    )

pub stand-all : (p : Plan) → is_numbered 0 p ≡ true → StandAmong (in_order p) p
stand-all p numbered = stands p (in_order p) [] [] 0 numbered refl (sym (append-nil (in_order p)))

-- ---- inputs

pub known-under : (catalog : ℕ → Relation) (known : rust_known.KnownColumns) (n : ℕ) (c : Claim) (op : Unary) (p : Plan) → IsKnownOf catalog known (unary n c op p)
    → IsKnownOf catalog known p
known-under catalog known n c op p h =
    let w = width catalog (unary n c op p) in
    record {
      known = record {
        formed = and-left (well_formed catalog p) (phase_fits op p && names_columns w c) h.known.formed;
        within = and-left (is_within catalog p) (names_within (width catalog p) op && nat_le w max_columns) h.known.within;
        numbered = h.known.numbered.1;
      };
      among = h.among.1;
      kept = h.kept;
    }

pub known-passed : (catalog : ℕ → Relation) (known : rust_known.KnownColumns) (n : ℕ) (c : Claim) (k : ExchangeKind) (m : List OrderEntry) (p : Plan)
    → IsKnownOf catalog known (exchange n c k m p) → IsKnownOf catalog known p
known-passed catalog known n c k m p h = record {
  known = record {
    formed = and-left (well_formed catalog p) (names_columns (width catalog p) c) h.known.formed;
    within = h.known.within;
    numbered = h.known.numbered.1;
  };
  among = h.among.1;
  kept = h.kept;
}

pub known-both : (catalog : ℕ → Relation) (known : rust_known.KnownColumns) (n : ℕ) (c : Claim) (op : Binary) (p q : Plan) → IsKnownOf catalog known (binary n c op p q)
    → IsKnownOf catalog known p × IsKnownOf catalog known q
known-both catalog known n c op p q h =
    let few = nat_le (width catalog (binary n c op p q)) max_columns in
    let formed = formed-both catalog n c op p q h.known.formed in
    let rest = and-right (is_within catalog p) (is_within catalog q && few) h.known.within in (
      record {
        known = record { formed = formed.0; within = and-left (is_within catalog p) (is_within catalog q && few) h.known.within; numbered = h.known.numbered.1 };
        among = h.among.1;
        kept = h.kept;
      },
      record {
        known = record { formed = formed.1; within = and-left (is_within catalog q) few rest; numbered = h.known.numbered.2 };
        among = h.among.2;
        kept = h.kept;
      },
    )
  where
    formed-both : (catalog : ℕ → Relation) (n : ℕ) (c : Claim) (op : Binary) (p q : Plan) → well_formed catalog (binary n c op p q) ≡ true
        → (well_formed catalog p ≡ true) × (well_formed catalog q ≡ true)
    formed-both catalog n c union p q h =
        let rest = both_closed p q && ((width catalog p == width catalog q) && names_columns (width catalog p) c) in (
          and-left (well_formed catalog p) (well_formed catalog q && rest) h,
          and-left (well_formed catalog q) rest (and-right (well_formed catalog p) (well_formed catalog q && rest) h),
        )
    formed-both catalog n c (semi_join matched on conditions) p q h =
        let rest = both_closed p q && names_columns (width catalog p) c in (
          and-left (well_formed catalog p) (well_formed catalog q && rest) h,
          and-left (well_formed catalog q) rest (and-right (well_formed catalog p) (well_formed catalog q && rest) h),
        )
    formed-both catalog n c (join m on) p q h =
        let rest = both_closed p q && names_columns (width catalog p + width catalog q) c in (
          and-left (well_formed catalog p) (well_formed catalog q && rest) h,
          and-left (well_formed catalog q) rest (and-right (well_formed catalog p) (well_formed catalog q && rest) h),
        )
