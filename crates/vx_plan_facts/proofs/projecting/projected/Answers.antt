use Rattle.std.proofs.Common.{◌≡◌, ◌∙◌, ◌++◌, ◌∷◌, [], List, refl, ap, sym, subst, map, length}
use Rattle.std.proofs.lemmas.List.{length-map}
use Rattle.vx_plan_nodes.specs.declared.typed.Entry.{Entry}
use Rattle.vx_plan_nodes.specs.Describe.{entries_kept, kept_column, source}
use Rattle.vx_plan_nodes.specs.Outline.{entry_of}
use Rattle.vx_plan_facts.specs.Equal.{lifted}
use Rattle.vx_plan_facts.specs.Fixed.{carried_values, constants}
use Rattle.vx_plan_facts.specs.Facts.{Keeps}
use Rattle.vx_plan_facts.specs.FactsView.{fixed_of, facts_of, width_of}
use Rattle.vx_plan_facts.specs.Labels.{source_within}
use Rattle.vx_plan_facts.specs.Listing.{listed}
use Rattle.vx_plan_facts.proofs.Kept.{projected-keeps}
use Rattle.vx_plan_facts.proofs.NamedColumns.{entries-within}
use Rattle.vx_plan_facts.proofs.projecting.projected.Goals as goal

kept-columns : (es : List Entry) → map (λ e. kept_column (entry_of e)) es ≡ map kept_column (map entry_of es)
kept-columns [] = refl
kept-columns (e ∷ es) = ap (λ ks. kept_column (entry_of e) ∷ ks) (kept-columns es)

pub carried-requires : goal.carried-requires
carried-requires c d =
    let es = c.args.entries.now in
    let w = width_of c.args.below.now in
    ap (λ ks. source_within w (source (entries_kept ks) d)) (kept-columns es) ∙ entries-within w (map entry_of es) d c.requires

pub returns : goal.returns
returns c e f keeps =
    let es = c.args.entries.now in
    let own = c.in_ok-own.own in
    let held = subst (λ ks. Keeps (length es) (lifted (entries_kept ks) e) (carried_values (entries_kept ks) f) (facts_of own)) (kept-columns es) (c.in_ok-own.ensures e f keeps) in
    let ks = map kept_column (map entry_of es) in
    let wide = sym (length-map es entry_of) in
    let as_wide = subst (λ n. Keeps n (lifted (entries_kept ks) e) (carried_values (entries_kept ks) f) (facts_of own)) wide held in
    projected-keeps (map entry_of es) e f own.firsts.items (map fixed_of own.fixed.items) (map fixed_of c.put_constants.new.fixed.items) own.named as_wide
    (c.in_ok-put_constants.ensures ∙ ap (λ n. map fixed_of own.fixed.items ++ listed n (constants (map entry_of es))) wide)
