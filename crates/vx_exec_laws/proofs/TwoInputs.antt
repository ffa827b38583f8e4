-- The claims of nodes with two inputs, by the behaviours of their operators.
use Rattle.std.proofs.Common.{◌≡◌, ℕ, ◌<◌, ◌==◌, Bool, true, ◌&&◌, ◌||◌, List, [], ◌∷◌, ◌++◌, length, sym, ap, ◌∙◌, subst, true≢false}
use Rattle.vx_rows_values.specs.Values.{Row}
use Rattle.vx_rows_values.specs.Order.{sorted}
use Rattle.vx_rows_values.specs.Bags.{SameRows}
use Rattle.vx_rows_values.specs.Keys.{HasKey}
use Rattle.vx_catalog_relations.specs.Relation.{Relation, KeysHold}
use Rattle.vx_plan_nodes.specs.Types.{well_formed, names_columns, width}
use Rattle.vx_plan_nodes.specs.Plan.{JoinMethod, Size, Part, any, all, Claim, Plan, binary, claim, size, Condition, Binary, union, join, semi_join, is_one, size_eq}
use Rattle.vx_plan_nodes.specs.Describe.{whole_rows, left_of, right_of, described_both}
use Rattle.vx_plan_nodes.specs.Serial.{binary_rows, join_rows, matched_rows, rows, after, serial}
use Rattle.vx_plan_nodes.specs.Streams.{Streams, joined, workers}
use Rattle.vx_plan_nodes.specs.Routes.{Routing}
use Rattle.vx_check_rules.specs.Rules.{part_gives, has, allowed_here, routed_alike, keys_of}
use Rattle.vx_check_rules.specs.Behaviour.{Way, way, own, bare, if_so, ways_over, behaviour, shown_part}
use Rattle.vx_check_rules.specs.Claims.{PartHolds, Given}
use Rattle.vx_check_rules.proofs.Bools.{or-left}
use Rattle.vx_exec_laws.proofs.Bags.{and-left, and-right}
use Rattle.vx_exec_laws.proofs.Parts.{has-part, one-worker, size_eq-is}
use Rattle.vx_exec_laws.proofs.Keys.{keys-from}
use Rattle.vx_exec_laws.proofs.Wide.{serial-wide}
use Rattle.vx_exec_laws.proofs.JoinOrder.{wide, join-key}
use Rattle.vx_exec_laws.proofs.Join.{join-left, join-right, join-same}
use Rattle.vx_exec_laws.proofs.SemiJoin.{matched-key, matched-same, matched-whole, matched-met}
use Rattle.vx_exec_laws.proofs.Binary.{streams-all, union-any, append-same, join-met}
use Rattle.vx_exec_laws.proofs.Places.{Each, each-if, each-append, Places, Stands, part-placed, both-places, both-ordered, shown-part}
use Rattle.vx_exec_laws.proofs.WellFormed.{named}
use Rattle.vx_exec_laws.proofs.OneInput.{tests, Holding}

module _ (catalog : ℕ → Relation) (db : ℕ → List Row) (sizes : ℕ → ℕ) (goes : Routing) (given : Given catalog db sizes goes) where
  -- what two inputs with as many workers have
  pub record Both (p q : Plan) (s t : Streams) (base rbase : List Row) : Type 0 where
    pub part : PartHolds goes (claim p).part (workers sizes (size p)) s base
    pub part_right : PartHolds goes (claim q).part (workers sizes (size p)) t rbase
    pub left : (x : Part) → has p x ≡ true → PartHolds goes x (workers sizes (size p)) s base
    pub right : (x : Part) → has q x ≡ true → PartHolds goes x (workers sizes (size p)) t rbase
    pub one_left : is_one (size p) ≡ true → (x : Part) → has p x ≡ true
    pub one_right : is_one (size p) ≡ true → (x : Part) → has q x ≡ true
    pub base_wide : wide (width catalog p) base ≡ true
    pub all_wide : (w : ℕ) → w < workers sizes (size p) → wide (width catalog p) (s w) ≡ true

  pub both-have : (p q : Plan) (s t : Streams) (ih : Holding db sizes goes p s) (jh : Holding db sizes goes q t) → well_formed catalog p ≡ true → size_eq (size p) (size q) ≡ true
      → Both p q s t ih.base jh.base
  both-have p q s t ih jh wf e =
      let n : ℕ = workers sizes (size p) in
      let same : size p ≡ size q = size_eq-is (size p) (size q) e in
      let P : Size → Type 0 = λ z. PartHolds goes (claim q).part (workers sizes z) t jh.base in
      let O : Size → Type 0 = λ z. is_one z ≡ true in
      let of_right : PartHolds goes (claim q).part n t jh.base = subst P (sym same) jh.holds.part in
      let base_wide : wide (width catalog p) ih.base ≡ true = serial-wide catalog db given.meets p ih.base wf ih.is_serial in
      record {
        part = ih.holds.part;
        part_right = of_right;
        left = λ x h. has-part goes given.in_range (is_one (size p)) (claim p).part x n s (λ xs. SameRows xs ih.base) (one-worker sizes (size p)) h ih.holds.part;
        right = λ x h. has-part goes given.in_range (is_one (size q)) (claim q).part x n t (λ xs. SameRows xs jh.base) (λ o. ap (workers sizes) same ∙ one-worker sizes (size q) o) h of_right;
        one_left = λ o x. or-left (is_one (size p)) _ o;
        one_right = λ o x. or-left (is_one (size q)) _ (subst O same o);
        base_wide = base_wide;
        all_wide = λ w l. streams-all goes (claim p).part n s ih.base ih.holds.part (λ row. length row == width catalog p) base_wide w l;
      }

  -- what an operator over two inputs owes: what its lists stand for, and keys
  pub record Over (k : ℕ) (c : Claim) (op : Binary) (p q : Plan) (s t out : Streams) (base rbase : List Row) : Type 0 where
    pub alone : is_one (size p) ≡ true → SameRows (joined (workers sizes (size p)) out) (binary_rows op base rbase)
    pub stands : Each (λ v. Stands (workers sizes (size p)) out (λ xs. SameRows xs (binary_rows op base rbase)) v) (behaviour catalog (binary k c op p q)).ways
    pub keyed : (x : List ℕ) → keys_of catalog (binary k c op p q) x ≡ true → HasKey x (binary_rows op base rbase)

  union-over : (k : ℕ) (c : Claim) (p q : Plan) (s t out : Streams) (base rbase : List Row) → Both p q s t base rbase
      → ((w : ℕ) → w < workers sizes (size p) → (s w ++ t w) ≡ out w) → Over k c union p q s t out base rbase
  union-over k c p q s t out base rbase both run =
      let n : ℕ = workers sizes (size p) in
      let together : has p any ≡ true → has q any ≡ true → SameRows (joined n out) (base ++ rbase) = λ a b. union-any n s t out base rbase run (both.left any a) (both.right any b) in
      record {
        alone = λ o. together (both.one_left o any) (both.one_right o any);
        stands = each-if (λ v. Stands n out (λ xs. SameRows xs (base ++ rbase)) v) (is_one (size p) || ((has p any && has q any) || (has p all && has q all))) (way whole_rows (own p ∷ own q ∷ []) ∷ [])
            (λ m. (
              (
                (λ e. together (and-left (has p any) (has q any && true) e) (and-left (has q any) true (and-right (has p any) (has q any && true) e))),
                (λ e w l.
                    let P : List Row → Type 0 = λ xs. SameRows xs (base ++ rbase) in
                    subst P (run w l) (append-same (both.left all (and-left (has p all) (has q all && true) e) w l) (both.right all (and-left (has q all) true (and-right (has p all) (has q all && true) e)) w l))),
              ),
              tt,
            ));
        keyed = λ x e. absurd (true≢false (sym e));
      }

  -- the four ways of a join: by like routes to the left and to the right part, by a whole right input, by a whole left one
  join-stands : (m : JoinMethod) (on : List (ℕ × ℕ)) (wd : ℕ) (p q : Plan) (s t out : Streams) (base rbase : List Row) → Both p q s t base rbase
      → ((w : ℕ) → w < workers sizes (size p) → join_rows on (s w) (t w) ≡ out w)
      → Each (λ v. Stands (workers sizes (size p)) out (λ xs. SameRows xs (join_rows on base rbase)) v) (ways_over (described_both wd (join m on)).meeting (described_both wd (join m on)) (own p) (own q))
  join-stands m on wd p q s t out base rbase both run =
      let n : ℕ = workers sizes (size p) in
      let P : Way → Type 0 = λ v. Stands n out (λ xs. SameRows xs (join_rows on base rbase)) v in
      let met : Bool = routed_alike on (claim p).part (claim q).part in
      let alike : List Way = way whole_rows (bare (claim p).part ∷ []) ∷ way (right_of wd) (bare (claim q).part ∷ []) ∷ [] in
      let of_left : List Way = way (left_of wd) (own p ∷ []) ∷ [] in
      let of_right : List Way = way (right_of wd) (own q ∷ []) ∷ [] in
      let each : (w : ℕ) → w < n → SameRows (s w) base → SameRows (t w) rbase → SameRows (out w) (join_rows on base rbase)
      = λ w l a b. let Q : List Row → Type 0 = λ xs. SameRows xs (join_rows on base rbase) in subst Q (run w l) (join-same on (s w) base (t w) rbase a b) in
      each-append P (if_so met alike) (if_so (has q all) of_left ++ if_so (has p all) of_right)
      (each-if P met alike (λ a.
      let k = join-met goes on (claim p).part (claim q).part n s t out base rbase a run both.part both.part_right in (
        ((λ e. k.0), (λ e. absurd (true≢false (sym (and-left (part_gives (claim p).part all) true e) ∙ k.1)))),
        (((λ e. k.0), (λ e. absurd (true≢false (sym (and-left (part_gives (claim q).part all) true e) ∙ k.2)))), tt),
      )))
      (each-append P (if_so (has q all) of_left) (if_so (has p all) of_right)
      (each-if P (has q all) of_left (λ b. (
        (
          (λ e. join-left on n s t out base rbase run (both.right all b) (both.left any (and-left (has p any) true e))),
          (λ e w l. each w l (both.left all (and-left (has p all) true e) w l) (both.right all b w l)),
        ),
        tt,
      )))
      (each-if P (has p all) of_right (λ b. (
        (
          (λ e. join-right on n s t out base rbase run (both.left all b) (both.right any (and-left (has q any) true e))),
          (λ e w l. each w l (both.left all b w l) (both.right all (and-left (has q all) true e) w l)),
        ),
        tt,
      ))))

  join-over : (k : ℕ) (c : Claim) (m : JoinMethod) (on : List (ℕ × ℕ)) (p q : Plan) (s t out : Streams) (base rbase : List Row) → Both p q s t base rbase
      → names_columns (width catalog p) (claim p) ≡ true → KeysHold (claim p).keys base → KeysHold (claim q).keys rbase
      → ((w : ℕ) → w < workers sizes (size p) → join_rows on (s w) (t w) ≡ out w) → Over k c (join m on) p q s t out base rbase
  join-over k c m on p q s t out base rbase both names keys keys_right run =
      let n : ℕ = workers sizes (size p) in
      let wd : ℕ = width catalog p in
      record {
        alone = λ o. join-left on n s t out base rbase run (both.right all (both.one_right o all)) (both.left any (both.one_left o any));
        stands = join-stands m on wd p q s t out base rbase both run;
        keyed = λ x e. join-key on wd (claim p).keys (claim q).keys base rbase both.base_wide (named wd (claim p) names).2 keys keys_right x e;
      }

  -- the two ways of a semi or an anti join: by like routes to the left part, and by a whole right input
  semi-stands : (m : Bool) (on : List (ℕ × ℕ)) (conditions : List Condition) (wd : ℕ) (p q : Plan) (s t out : Streams) (base rbase : List Row) → Both p q s t base rbase
      → ((w : ℕ) → w < workers sizes (size p) → matched_rows m on conditions (s w) (t w) ≡ out w)
      → Each (λ v. Stands (workers sizes (size p)) out (λ xs. SameRows xs (matched_rows m on conditions base rbase)) v)
      (ways_over (described_both wd (semi_join m on conditions)).meeting (described_both wd (semi_join m on conditions)) (own p) (own q))
  semi-stands m on conditions wd p q s t out base rbase both run =
      let n : ℕ = workers sizes (size p) in
      let P : Way → Type 0 = λ v. Stands n out (λ xs. SameRows xs (matched_rows m on conditions base rbase)) v in
      let met : Bool = routed_alike on (claim p).part (claim q).part in
      let alike : List Way = way whole_rows (bare (claim p).part ∷ []) ∷ [] in
      let of_left : List Way = way whole_rows (own p ∷ []) ∷ [] in
      each-append P (if_so met alike) (if_so (has q all) of_left)
      (each-if P met alike (λ a.
      let k = matched-met goes m on conditions (claim p).part (claim q).part n s t out base rbase a run both.part both.part_right in
      (((λ e. k.0), (λ e. absurd (true≢false (sym (and-left (part_gives (claim p).part all) true e) ∙ k.1)))), tt)))
      (each-if P (has q all) of_left (λ b. (
        (
          (λ e. matched-whole m on conditions n s t out base rbase run (both.right all b) (both.left any (and-left (has p any) true e))),
          (λ e w l.
              let Q : List Row → Type 0 = λ xs. SameRows xs (matched_rows m on conditions base rbase) in
              subst Q (run w l) (matched-same m on conditions (s w) base (t w) rbase (both.left all (and-left (has p all) true e) w l) (both.right all b w l))),
        ),
        tt,
      )))

  semi-over : (k : ℕ) (c : Claim) (m : Bool) (on : List (ℕ × ℕ)) (conditions : List Condition) (p q : Plan) (s t out : Streams) (base rbase : List Row) → Both p q s t base rbase
      → KeysHold (claim p).keys base → ((w : ℕ) → w < workers sizes (size p) → matched_rows m on conditions (s w) (t w) ≡ out w) → Over k c (semi_join m on conditions) p q s t out base rbase
  semi-over k c m on conditions p q s t out base rbase both keys run =
      let n : ℕ = workers sizes (size p) in
      record {
        alone = λ o. matched-whole m on conditions n s t out base rbase run (both.right all (both.one_right o all)) (both.left any (both.one_left o any));
        stands = semi-stands m on conditions (width catalog p) p q s t out base rbase both run;
        keyed = λ x e. matched-key (claim p).keys x m on conditions base rbase e keys;
      }

  pub binary-over : (k : ℕ) (c : Claim) (op : Binary) (p q : Plan) (s t out : Streams) (ih : Holding db sizes goes p s) (jh : Holding db sizes goes q t)
      → names_columns (width catalog p) (claim p) ≡ true → ((w : ℕ) → w < workers sizes (size p) → binary_rows op (s w) (t w) ≡ out w) → Both p q s t ih.base jh.base
      → Over k c op p q s t out ih.base jh.base
  binary-over k c union p q s t out ih jh names run both = union-over k c p q s t out ih.base jh.base both run
  binary-over k c (join m on) p q s t out ih jh names run both = join-over k c m on p q s t out ih.base jh.base both names ih.holds.keys jh.holds.keys run
  binary-over k c (semi_join m on conditions) p q s t out ih jh names run both = semi-over k c m on conditions p q s t out ih.base jh.base both ih.holds.keys run

  -- the serial rows
  pub binary-serial : (k : ℕ) (c : Claim) (op : Binary) (p q : Plan) (s t : Streams) (ih : Holding db sizes goes p s) (jh : Holding db sizes goes q t)
      → serial db (binary k c op p q) ≡ rows (binary_rows op ih.base jh.base)
  binary-serial k c op p q s t ih jh =
      ap (λ x. after x (λ xs. after (serial db q) (λ ys. rows (binary_rows op xs ys)))) ih.is_serial ∙ ap (λ x. after x (λ ys. rows (binary_rows op ih.base ys))) jh.is_serial

  -- a part that is shown
  pub binary-part : (k : ℕ) (c : Claim) (op : Binary) (p q : Plan) (s t out : Streams) (ih : Holding db sizes goes p s) (jh : Holding db sizes goes q t)
      → names_columns (width catalog p) (claim p) ≡ true → ((w : ℕ) → w < workers sizes (size p) → binary_rows op (s w) (t w) ≡ out w) → Both p q s t ih.base jh.base
      → Over k c op p q s t out ih.base jh.base → (x : Part) → (is_one (size p) || shown_part (behaviour catalog (binary k c op p q)) x) ≡ true
      → PartHolds goes x (workers sizes (size p)) out (binary_rows op ih.base jh.base)
  binary-part k c op p q s t out ih jh names run both made x shown =
      let n : ℕ = workers sizes (size p) in
      shown-part goes given.in_range (is_one (size p)) (behaviour catalog (binary k c op p q)).ways x n out (λ xs. SameRows xs (binary_rows op ih.base jh.base)) (one-worker sizes (size p)) made.alone made.stands
      (λ w l. let P : List Row → Type 0 = λ xs. Each (λ v. Places goes n w xs v) (behaviour catalog (binary k c op p q)).ways in
      subst P (run w l) (both-places goes catalog k c op p q n w (s w) (t w) names (both.all_wide w l)
      (part-placed goes (claim p).part n s (λ xs. SameRows xs ih.base) both.part w l) (part-placed goes (claim q).part n t (λ xs. SameRows xs jh.base) both.part_right w l)
      (λ x e. part-placed goes x n s (λ xs. SameRows xs ih.base) (both.left x e) w l) (λ x e. part-placed goes x n t (λ xs. SameRows xs jh.base) (both.right x e) w l)))
      shown

  pub binary-holds : (k : ℕ) (c : Claim) (op : Binary) (p q : Plan) (s t out : Streams) (ih : Holding db sizes goes p s) (jh : Holding db sizes goes q t)
      → well_formed catalog p ≡ true → names_columns (width catalog p) (claim p) ≡ true
      → allowed_here catalog (binary k c op p q) ≡ true
      → ((w : ℕ) → w < workers sizes (size p) → binary_rows op (s w) (t w) ≡ out w)
      → Holding db sizes goes (binary k c op p q) out
  binary-holds k c op p q s t out ih jh wf names ok run =
      let h = tests catalog (binary k c op p q) ok in
      let both = both-have p q s t ih jh wf h.0 in
      let made = binary-over k c op p q s t out ih jh names run both in
      let list : List Row = binary_rows op ih.base jh.base in
      record {
        base = list;
        is_serial = binary-serial k c op p q s t ih jh;
        holds = record {
          part = binary-part k c op p q s t out ih jh names run both made c.part h.4;
          order = (
            λ w l. let P : List Row → Type 0 = λ xs. sorted c.order xs ≡ true in subst P (run w l) (both-ordered catalog k c op p q names h.5 (s w) (t w) (both.all_wide w l) (ih.holds.order.0 w l)),
            both-ordered catalog k c op p q names h.5 ih.base jh.base both.base_wide ih.holds.order.1,
          );
          keys = keys-from (keys_of catalog (binary k c op p q)) list made.keyed c.keys h.6;
        };
      }
