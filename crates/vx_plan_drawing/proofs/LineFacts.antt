-- How many lines there are, and lines behind others.
use Rattle.std.proofs.Common.{arith, ◌≡◌, ◌∙◌, ℕ, suc, ◌+◌, ◌++◌, ap, ap₂, sym, length, length-append, add-one, append_assoc, map, refl, List, [], ◌∷◌, codes, Result, Ok, Err}
use Rattle.std.proofs.lemmas.List.{length-map}
use Rattle.std.specs.Prelude.{OnOk}
use Rattle.vx_plan_json.specs.Document.{Tree, scan, unary, binary, exchange, tree_nodes}
use Rattle.vx_plan_drawing.specs.Drawing.{tree_lines, lines_of, with_marks, WindowLaw}

pub length-tree_lines : (t : Tree) (margin : List ℕ) (i : ℕ) → length (tree_lines margin i t) ≡ tree_nodes t
length-tree_lines (scan c s) margin i = refl
length-tree_lines (unary c op t) margin i = ap suc (length-tree_lines t (margin ++ codes "  ") (suc i))
length-tree_lines (binary c op t u) margin i =
    let wider = margin ++ codes "  " in
    ap suc (length-append (tree_lines wider (suc i) t) (tree_lines wider (suc i + tree_nodes t) u) ∙ ap₂ (λ m n. m + n) (length-tree_lines t wider (suc i)) (length-tree_lines u wider (suc i + tree_nodes t)))
length-tree_lines (exchange c k merge t) margin i = ap suc (length-tree_lines t (margin ++ codes "  ") (suc i))

regrouped : (old left right : List (List ℕ)) (line : List ℕ) → ((old ++ (line ∷ [])) ++ left) ++ right ≡ old ++ (line ∷ (left ++ right))
regrouped old left right line = simp append_assoc

-- a line behind others, and then the lines of two inputs
pub put-both : {X T E : Type 0} (f : X → List ℕ) (r : Result T E) (old pushed first new : List X) (line wider : List ℕ) (t u : Tree)
    → map f pushed ≡ map f old ++ (line ∷ []) → map f first ≡ map f pushed ++ tree_lines wider (length pushed) t → OnOk r (map f new ≡ map f first ++ tree_lines wider (length first) u)
    → OnOk r (map f new ≡ map f old ++ (line ∷ (tree_lines wider (suc (length old)) t ++ tree_lines wider (suc (length old) + tree_nodes t) u)))
put-both f (Ok x) old pushed first new line wider t u push left right =
    let pushed-is : length pushed ≡ suc (length old) =
    sym (length-map pushed f) ∙ (ap length push ∙ (length-append (map f old) (line ∷ []) ∙ (ap (λ n. n + 1) (length-map old f) ∙ add-one (length old)))) in
    let first-is : length first ≡ suc (length old) + tree_nodes t =
    sym (length-map first f) ∙ (ap length left ∙ (length-append (map f pushed) (tree_lines wider (length pushed) t) ∙ ap₂ (λ m n. m + n) (length-map pushed f ∙ pushed-is) (length-tree_lines t wider (length pushed)))) in
    right ∙ (ap₂ (λ xs n. xs ++ tree_lines wider n u) (left ∙ ap₂ (λ xs n. xs ++ tree_lines wider n t) push pushed-is) first-is
    ∙ regrouped (map f old) (tree_lines wider (suc (length old)) t) (tree_lines wider (suc (length old) + tree_nodes t) u) line)
put-both f (Err e) old pushed first new line wider t u push left right = tt

-- as many lines as the plan has nodes, with marks too
pub count-lines : {X : Type 0} (f : X → List ℕ) (xs : List X) (t : Tree) → map f xs ≡ lines_of t → length xs ≡ tree_nodes t
count-lines f xs t h = sym (length-map xs f) ∙ (ap length h ∙ length-tree_lines t [] 0)

length-with_marks : (marked : List ℕ) (i : ℕ) (ls : List (List ℕ)) → length (with_marks marked i ls) ≡ length ls
length-with_marks marked i [] = refl
length-with_marks marked i (l ∷ ls) = ap suc (length-with_marks marked (suc i) ls)

pub count-marked : {X : Type 0} (f : X → List ℕ) (xs : List X) (marked : List ℕ) (ls : List (List ℕ)) (t : Tree) → map f xs ≡ with_marks marked 0 ls → ls ≡ lines_of t → length xs ≡ tree_nodes t
count-marked f xs marked ls t h e = sym (length-map xs f) ∙ (ap length h ∙ (length-with_marks marked 0 ls ∙ (ap length e ∙ length-tree_lines t [] 0)))

pub window-has : WindowLaw
window-has lines node most own some = (omega arith, omega arith)
