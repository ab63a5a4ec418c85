use Rattle.std.proofs.Common.{◌≡◌, ◌<◌, false, [], ◌∷◌, ◌++◌, nat_eq, sym, ◌∙◌, rules}
use Rattle.std.specs.List.{list_any}
use Rattle.fws_ipt.proofs.Walks.{chain_walked}
use Rattle.fws_ipt.proofs.model.chains.+chains.Goals as goal

pub chain_walk-returns : goal.chain_walk-returns
chain_walk-returns t c =
    let lt : 0 < c.args.left = search rules in
    let off : list_any (nat_eq c.args.c) c.args.path.now ≡ false = sym c.is_on.ensures ∙ search rules in
    let under : c.as_slice.result.now ≡ (c.args.c ∷ []) ++ c.args.path.now = search rules in
    chain_walked c.args.scene.now.chains.now c.args.scene.now.site.now c.args.scene.now.entered c.args.scene.now.is_est c.args.scene.now.hook c.args.left
    c.args.path.now c.as_slice.result.now c.args.c c.rules_at.result.now c.args.m c.rules_walk.result lt off under c.rules_at.ensures c.rules_walk.ensures
