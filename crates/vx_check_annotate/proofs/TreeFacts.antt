-- Trees that differ in their claims alone.
use Rattle.std.proofs.Common.{◌≡◌, ℕ, suc, ◌+◌, ◌-◌, max, true, ◌&&◌, refl, sym, ap, ◌∙◌}
use Rattle.vx_rows_values.proofs.Booleans.{and-left, and-right, and-both}
use Rattle.vx_plan_json.specs.Document.{Tree, scan, unary, binary, exchange, tree_nodes, tree_levels}
use Rattle.vx_plan_json.specs.Formed.{is_claim_form, is_scan_form, is_unary_form, is_binary_form, is_kind_form, is_merge_form, is_tree_form, is_unary_low, levels_left, are_operands_low}
use Rattle.vx_check_annotate.specs.Unclaimed.{without_claims, are_claims_formed}

pub nodes_without : (t : Tree) → tree_nodes (without_claims t) ≡ tree_nodes t
nodes_without (scan c s) = refl
nodes_without (unary c op t) = ap suc (nodes_without t)
nodes_without (binary c op t u) = λ i. suc (nodes_without t i + nodes_without u i)
nodes_without (exchange c k m t) = ap suc (nodes_without t)

levels_without : (t : Tree) → tree_levels (without_claims t) ≡ tree_levels t
levels_without (scan c s) = refl
levels_without (unary c op t) = ap suc (levels_without t)
levels_without (binary c op t u) = λ i. suc (max (levels_without t i) (levels_without u i))
levels_without (exchange c k m t) = ap suc (levels_without t)

low_without : (levels : ℕ) (t : Tree) → are_operands_low levels (without_claims t) ≡ are_operands_low levels t
low_without levels (scan c s) = refl
low_without levels (unary c op t) = ap (λ b. is_unary_low (levels_left (levels - 1)) op && b) (low_without (levels - 1) t)
low_without levels (binary c op t u) = λ i. low_without (levels - 1) t i && low_without (levels - 1) u i
low_without levels (exchange c k m t) = low_without (levels - 1) t

pub same_nodes : (t u : Tree) → without_claims t ≡ without_claims u → tree_nodes t ≡ tree_nodes u
same_nodes t u h = sym (nodes_without t) ∙ (ap tree_nodes h ∙ nodes_without u)

pub same_levels : (t u : Tree) → without_claims t ≡ without_claims u → tree_levels t ≡ tree_levels u
same_levels t u h = sym (levels_without t) ∙ (ap tree_levels h ∙ levels_without u)

pub same_low : (levels : ℕ) (t u : Tree) → without_claims t ≡ without_claims u → are_operands_low levels t ≡ are_operands_low levels u
same_low levels t u h = sym (low_without levels t) ∙ (ap (are_operands_low levels) h ∙ low_without levels u)

-- ---- a tree has its form where its claims have theirs and the tree without them has it

pub form_without : (t : Tree) → is_tree_form t ≡ true → is_tree_form (without_claims t) ≡ true
form_without (scan c s) h = and-right (is_claim_form c) (is_scan_form s) h
form_without (unary c op t) h =
    let own = and-right (is_claim_form c) (is_unary_form op && is_tree_form t) h in
    and-both (is_unary_form op) (is_tree_form (without_claims t)) (and-left (is_unary_form op) (is_tree_form t) own) (form_without t (and-right (is_unary_form op) (is_tree_form t) own))
form_without (binary c op t u) h =
    let own = and-right (is_claim_form c) (is_binary_form op && (is_tree_form t && is_tree_form u)) h in
    let below = and-right (is_binary_form op) (is_tree_form t && is_tree_form u) own in
    and-both (is_binary_form op) (is_tree_form (without_claims t) && is_tree_form (without_claims u)) (and-left (is_binary_form op) (is_tree_form t && is_tree_form u) own)
    (and-both (is_tree_form (without_claims t)) (is_tree_form (without_claims u)) (form_without t (and-left (is_tree_form t) (is_tree_form u) below)) (form_without u (and-right (is_tree_form t) (is_tree_form u) below)))
form_without (exchange c k m t) h =
    let own = and-right (is_claim_form c) (is_kind_form k && (is_merge_form k m && is_tree_form t)) h in
    let below = and-right (is_kind_form k) (is_merge_form k m && is_tree_form t) own in
    and-both (is_kind_form k) (is_merge_form k m && is_tree_form (without_claims t)) (and-left (is_kind_form k) (is_merge_form k m && is_tree_form t) own)
    (and-both (is_merge_form k m) (is_tree_form (without_claims t)) (and-left (is_merge_form k m) (is_tree_form t) below) (form_without t (and-right (is_merge_form k m) (is_tree_form t) below)))

form_with : (t : Tree) → are_claims_formed t ≡ true → is_tree_form (without_claims t) ≡ true → is_tree_form t ≡ true
form_with (scan c s) h e = and-both (is_claim_form c) (is_scan_form s) h e
form_with (unary c op t) h e =
    and-both (is_claim_form c) (is_unary_form op && is_tree_form t) (and-left (is_claim_form c) (are_claims_formed t) h)
    (and-both (is_unary_form op) (is_tree_form t) (and-left (is_unary_form op) (is_tree_form (without_claims t)) e)
    (form_with t (and-right (is_claim_form c) (are_claims_formed t) h) (and-right (is_unary_form op) (is_tree_form (without_claims t)) e)))
form_with (binary c op t u) h e =
    let claims = and-right (is_claim_form c) (are_claims_formed t && are_claims_formed u) h in
    let below = and-right (is_binary_form op) (is_tree_form (without_claims t) && is_tree_form (without_claims u)) e in
    and-both (is_claim_form c) (is_binary_form op && (is_tree_form t && is_tree_form u)) (and-left (is_claim_form c) (are_claims_formed t && are_claims_formed u) h)
    (and-both (is_binary_form op) (is_tree_form t && is_tree_form u) (and-left (is_binary_form op) (is_tree_form (without_claims t) && is_tree_form (without_claims u)) e)
    (and-both (is_tree_form t) (is_tree_form u)
    (form_with t (and-left (are_claims_formed t) (are_claims_formed u) claims) (and-left (is_tree_form (without_claims t)) (is_tree_form (without_claims u)) below))
    (form_with u (and-right (are_claims_formed t) (are_claims_formed u) claims) (and-right (is_tree_form (without_claims t)) (is_tree_form (without_claims u)) below))))
form_with (exchange c k m t) h e =
    let below = and-right (is_kind_form k) (is_merge_form k m && is_tree_form (without_claims t)) e in
    and-both (is_claim_form c) (is_kind_form k && (is_merge_form k m && is_tree_form t)) (and-left (is_claim_form c) (are_claims_formed t) h)
    (and-both (is_kind_form k) (is_merge_form k m && is_tree_form t) (and-left (is_kind_form k) (is_merge_form k m && is_tree_form (without_claims t)) e)
    (and-both (is_merge_form k m) (is_tree_form t) (and-left (is_merge_form k m) (is_tree_form (without_claims t)) below)
    (form_with t (and-right (is_claim_form c) (are_claims_formed t) h) (and-right (is_merge_form k m) (is_tree_form (without_claims t)) below))))

pub same_form : (t u : Tree) → without_claims t ≡ without_claims u → is_tree_form u ≡ true → are_claims_formed t ≡ true → is_tree_form t ≡ true
same_form t u h e f = form_with t f (ap is_tree_form h ∙ form_without u e)
