use Rattle.std.proofs.Common.{◌≡◌, ℕ, List, sym, ap, ◌∙◌, subst}
use Rattle.std.specs.Prelude.{IfOk}
use Rattle.vx_match_keys.specs.Kinds.{kind_keys}
use Rattle.vx_match_keys.proofs.NumberFacts.{numbers-found}
use Rattle.vx_match_keys.proofs.keys.Keys.find_all.Goals as goal

pub returns-in-Some : goal.returns-in-Some
returns-in-Some c =
    let P : List ℕ → Type 0 = λ ns. IfOk c.find_all.result (λ v. v.items ≡ ns) in
    let known = sym (ap kind_keys c.in-Ints.is) ∙ c.self.view_is in
    subst P (numbers-found c.in-Ints.keys c.args.self.now c.in-Some.column c.args.columns.now c.args.chunk.now.rows known c.in-Some.ensures) c.find_all.ensures

pub returns-in-Some-of : goal.returns-in-Some-of
returns-in-Some-of c =
    let P : List ℕ → Type 0 = λ ns. IfOk c.find_all-in-Some-of.result (λ v. v.items ≡ ns) in
    let known = sym (ap kind_keys c.in-Texts.is) ∙ c.self.view_is in
    subst P (numbers-found c.in-Texts.keys c.args.self.now c.in-Some-of.column c.args.columns.now c.args.chunk.now.rows known c.in-Some-of.ensures) c.find_all-in-Some-of.ensures
