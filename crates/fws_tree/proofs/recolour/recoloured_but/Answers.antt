use Rattle.std.proofs.Common.{◌^◌, ◌<◌, ℕ, List, All, subst, sym}
use Rattle.std.proofs.lemmas.Result.{IfOk-weaker}
use Rattle.fws_tree.specs.Building.{Extends}
use Rattle.fws_tree.proofs.Covering.{masks-extend}
use Rattle.fws_tree.proofs.Recolouring.{skip_masked, stay_unlabelled, recoloured_before}
use Rattle.fws_tree.proofs.recolour.recoloured_but.Goals as goal

pub merge_where-outcome-requires-clause-skips : goal.merge_where-outcome-requires-clause-skips
merge_where-outcome-requires-clause-skips g c = skip_masked (g.M.Moves.moves c.args.by.now) c.args.values.now c.args.store.now c.args.skips.masks.now c.args.skips.wanted c.len.result c.len.ensures c.requires.masks

pub merge_where-outcome-requires-clause-stays : goal.merge_where-outcome-requires-clause-stays
merge_where-outcome-requires-clause-stays g c = stay_unlabelled (g.M.Moves.moves c.args.by.now) _ c.args.store.now c.args.skips.wanted c.args.skips.stay c.requires.stay

pub returns-clause-masks : goal.returns-clause-masks
returns-clause-masks g c =
    let later = c.merge_where-outcome.ensures.later in
    let same = c.values-1.given.1 later.6 in
    masks-extend c.args.values.now c.values-1.given.0 c.args.store.now c.merge_where-outcome.new.store c.args.skips.masks.now (subst (λ (vs : List ℕ). Extends c.args.values.now vs) (sym same) later.2)
    (subst (λ (vs : List ℕ). All (λ b. b < 2 ^ 64) vs) (sym same) c.told.ensures.bounded) c.merge_where-outcome.ensures.extends c.requires.masks

pub returns-clause-recoloured : goal.returns-clause-recoloured
returns-clause-recoloured g c =
    let later = c.merge_where-outcome.ensures.later in
    let same = c.by-1.given.1 later.5 in
    let rule = c.merge_where-outcome.new.by in
    IfOk-weaker c.merge_where-outcome.result _ _ (λ r e p. recoloured_before (g.M.Moves.moves rule.by.now) (g.M.Moves.moves c.by-1.given.0) c.args.values.now rule.values.now c.args.skips.wanted rule.wanted c.len.result rule.known
    _ _ _ c.len.ensures later.0 later.1 (λ x l z m. subst (λ (b : g.row.M.Denot). g.M.Moves.moves b x l z) (sym same) m) (e p)) c.merge_where-outcome.ensures.merged

pub returns-clause-later : goal.returns-clause-later
returns-clause-later g c =
    let later = c.merge_where-outcome.ensures.later in
    let same = c.by-1.given.1 later.5 in
    subst (λ (b : g.row.M.Denot). g.M.Moves.later c.args.by.now b) (sym same) later.4
