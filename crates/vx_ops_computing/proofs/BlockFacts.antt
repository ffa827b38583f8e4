-- The first rows of a list, and a block of rows behind them.
use Rattle.std.proofs.Common.{◌≡◌, ℕ, ℤ, pos, ◌+◌, ◌-◌, ◌<◌, ◌≤◌, Bool, true, false, ◌&&◌, List, [], ◌++◌, length, map, take, drop, get_or, Some, String, Vec, Global, refl, sym, ap, ap₂, ◌∙◌, arith, inl, inr}
use Rattle.std.specs.Prelude.{slice_range, filter, All}
use Rattle.std.specs.List.{list_all}
use Rattle.std.proofs.lemmas.Bool.{cases_lt}
use Rattle.std.proofs.lemmas.List.{take-append-drop, take-take, drop-take, length-take, length-drop, length-append, length-map, map-append, get_or-map, get_or_default, get_or_append_left, get_or-append_right}
use Rattle.std.proofs.lemmas.List.Edits.{get_or-between}
use Rattle.std.proofs.lemmas.List.Folds.{drop_split, list_all-append}
use Rattle.vx_ops_kernels.proofs.Conditions.{keeps-all}
use Rattle.vx_rows_values.proofs.Booleans.{and-both}
use Rattle.vx_rows_values.specs.declared.value.ColType.{ColType}
use Rattle.vx_rows_values.specs.declared.value.ColType.TheVariants.{Int}
use Rattle.vx_rows_values.specs.Values.{Row, num}
use Rattle.vx_plan_nodes.specs.declared.typed.Expression as typed
use Rattle.vx_plan_nodes.specs.Expressions.{answer}
use Rattle.vx_plan_nodes.specs.Functions.{Functions}
use Rattle.vx_plan_nodes.specs.Plan.{Expression}
use Rattle.vx_plan_nodes.specs.Types.{expression_type}
use Rattle.vx_ops_computing.specs.declared.operands.Operand.TheVariants as operand
use Rattle.vx_ops_computing.specs.Answers.{IsAnswered, IsUnanswered}
use Rattle.vx_ops_computing.specs.Blocks.{AreAnswers}
use Rattle.vx_ops_computing.specs.Given.{expression_by}
use Rattle.vx_ops_computing.proofs.AnswerFacts.{call-by}

-- the rows up to the end of a block are those before it, and those in it
pub block-more : {X : Type 0} (xs : List X) (from block : ℕ) → take (from + block) xs ≡ take from xs ++ slice_range xs from (from + block)
block-more xs from block =
    let whole : block ≡ from + block - from = omega arith in
    sym (take-append-drop from (take (from + block) xs))
    ∙ ap₂ (λ a b. a ++ b) (take-take from (from + block) xs (omega arith)) (drop-take from block xs ∙ ap (λ n. take n (drop from xs)) whole)

block-long : {X : Type 0} (xs : List X) (from block : ℕ) → from + block ≤ length xs → length (slice_range xs from (from + block)) ≡ block
block-long xs from block l =
    let a = length-take (from + block - from) (drop from xs) in
    let b = length-drop from xs in
    omega (arith, a, b, l)

-- ---- masks

pub block-mask : (p : Row → Bool) (xs part : List Row) (from block : ℕ) (old new found : List Bool) → part ≡ slice_range xs from (from + block) → found ≡ map p part → old ≡ map p (take from xs) → new ≡ old ++ found
    → new ≡ map p (take (from + block) xs)
block-mask p xs part from block old new found is says before after =
    after
    ∙ (ap₂ (λ (a b : List Bool). a ++ b) before (says ∙ ap (map p) is)
    ∙ (sym (map-append p (take from xs) (slice_range xs from (from + block))) ∙ ap (map p) (sym (block-more xs from block))))

mask-at : (p : Row → Bool) (xs : List Row) (mask : List Bool) (k : ℕ) → mask ≡ map p xs → k < length xs → get_or mask k false ≡ p (get_or xs k [])
mask-at p xs mask k is l = ap (λ (bs : List Bool). get_or bs k false) is ∙ get_or-map p xs k [] false l

-- where a mask holds throughout, all rows pass
pub all-kept : (p : Row → Bool) (xs : List Row) (mask : List Bool) → mask ≡ map p xs → All (λ b. b ≡ true) mask → xs ≡ filter p xs
all-kept p xs mask is all =
    let many : length mask ≡ length xs = ap length is ∙ length-map xs p in
    keeps-all p xs (λ k d l.
    ap p (get_or_default xs k d [] l) ∙ (sym (mask-at p xs mask k is l) ∙ all k false (omega (arith, many, l))))

-- ---- tests of all rows

pub block-fits : (fits : Row → Bool) (xs part : List Row) (from block : ℕ) → part ≡ slice_range xs from (from + block) → list_all fits (take from xs) ≡ true → list_all fits part ≡ true
    → list_all fits (take (from + block) xs) ≡ true
block-fits fits xs part from block is before here =
    ap (list_all fits) (block-more xs from block)
    ∙ (list_all-append fits (take from xs) (slice_range xs from (from + block))
    ∙ and-both (list_all fits (take from xs)) (list_all fits (slice_range xs from (from + block))) before (ap (list_all fits) (sym is) ∙ here))

none-of : (a b c : Bool) → b ≡ false → (a && (b && c)) ≡ false
none-of true b c e = ap (λ x. x && c) e
none-of false b c e = refl

-- where some row of a block fails, some row of all does
pub block-unfit : (fits : Row → Bool) (xs part : List Row) (from block : ℕ) → part ≡ slice_range xs from (from + block) → list_all fits part ≡ false → list_all fits xs ≡ false
block-unfit fits xs part from block is here =
    let to = from + block in
    let parts : xs ≡ take from xs ++ (slice_range xs from to ++ drop to xs) = sym (take-append-drop from xs) ∙ ap (λ l. take from xs ++ l) (drop_split xs from to (omega arith)) in
    ap (list_all fits) parts
    ∙ (list_all-append fits (take from xs) (slice_range xs from to ++ drop to xs)
    ∙ (ap (λ b. list_all fits (take from xs) && b) (list_all-append fits (slice_range xs from to) (drop to xs))
    ∙ none-of (list_all fits (take from xs)) (list_all fits (slice_range xs from to)) (list_all fits (drop to xs)) (ap (list_all fits) (sym is) ∙ here)))

-- ---- answers

part-at : (xs part : List Row) (from block k : ℕ) → part ≡ slice_range xs from (from + block) → k < block → get_or part k [] ≡ get_or xs (from + k) []
part-at xs part from block k is l = ap (λ (rows : List Row). get_or rows k []) is ∙ get_or-between xs from (from + block) k [] (omega (arith, l))

pub block-unanswered : (e : Expression) (xs part : List Row) (from block : ℕ) → from + block ≤ length xs → part ≡ slice_range xs from (from + block) → IsUnanswered e part → IsUnanswered e xs
block-unanswered e xs part from block near is h =
    let many = ap length is ∙ block-long xs from block near in
    let there = h.there in
    let less : h.at < block = omega (arith, many, there) in
    record { at = from + h.at; there = omega (arith, near, less); none = ap (answer e) (sym (part-at xs part from block h.at is less)) ∙ h.none }

pub answers-none : (e : Expression) (xs : List Row) (numbers : List ℤ) → numbers ≡ [] → AreAnswers e xs 0 numbers
answers-none e xs numbers none = record { long = ap length none; values = λ k l. absurd (omega arith) }

pub answers-more : (types : List ColType) (e : Expression) (xs part : List Row) (from block : ℕ) (old new : List ℤ) (v : Vec ℤ Global) → from + block ≤ length xs → part ≡ slice_range xs from (from + block)
    → AreAnswers e xs from old → IsAnswered types e part (operand.Numbers v) → new ≡ old ++ v.items → AreAnswers e xs (from + block) new
answers-more types e xs part from block old new v near is h g after = record { long = long; values = values }
  where
    many : length part ≡ block
    many = ap length is ∙ block-long xs from block near

    long : length new ≡ from + block
    long =
        let a = ap length after in
        let b = length-append old v.items in
        let c = h.long in
        let d : length v.items ≡ length part = g.whole in
        let m = many in
        omega (arith, a, b, c, d, m)

    values : (k : ℕ) → k < from + block → answer e (get_or xs k []) ≡ Some (num (get_or new k (pos 0)))
    values k l = elim (cases_lt k from) [
      | inl less ↦
          let c = h.long in
          h.values k less ∙ ap (λ z. Some (num z)) (sym (ap (λ (zs : List ℤ). get_or zs k (pos 0)) after ∙ get_or_append_left old v.items (pos 0) k (omega (arith, c, less))))
      | inr ge ↦
          let m = many in
          let here : k - from < block = omega (arith, l, ge) in
          let back : from + (k - from) ≡ k = omega (arith, ge) in
          ap (λ i. answer e (get_or xs i [])) (sym back)
          ∙ (ap (answer e) (sym (part-at xs part from block (k - from) is here))
          ∙ (g.values (k - from) (omega (arith, m, here)) ∙ ap (λ z. Some (num z)) (sym (ap (λ (zs : List ℤ). get_or zs k (pos 0)) after ∙ get_or-append_right old v.items from k (pos 0) h.long ge))))
    ]

-- the numbers of a call are its operand
pub call-numbers : (given : Functions) (types : List ColType) (name : String Global) (es : Vec typed.Expression Global) (xs : List Row) (v : Vec ℤ Global)
    → AreAnswers (expression_by given (typed.Call name Int es)) xs (length xs) v.items → IsAnswered types (expression_by given (typed.Call name Int es)) xs (operand.Numbers v)
call-numbers given types name es xs v h = record { whole = h.long; kind = sym (ap (expression_type types) (call-by given name Int es)); values = h.values }
