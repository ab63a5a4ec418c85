use Rattle.std.proofs.Common.{◌≡◌, suc, ◌+◌, ◌++◌, arith, append_assoc, ap, sym, ◌∙◌}
use Rattle.fws_ipt_put.specs.Roots.{entry_rules, own_rules}
use Rattle.fws_ipt_put.proofs.roots.put_entries.Goals as goal

pub loop-before-preserved : goal.loop-before-preserved
loop-before-preserved c =
    let k = c.loop-before.before in
    let next : k + 1 ≡ suc k = omega arith in
    c.in_ok-put_own.ensures
    ∙ ap (λ l. l ++ own_rules c.args.est c.args.branches.now c.args.usual (k + 1)) c.loop-before.invariant
    ∙ append_assoc c.args.rules.now (entry_rules c.args.est c.args.branches.now c.args.usual k) (own_rules c.args.est c.args.branches.now c.args.usual (k + 1))
    ∙ ap (λ n. c.args.rules.now ++ (entry_rules c.args.est c.args.branches.now c.args.usual k ++ own_rules c.args.est c.args.branches.now c.args.usual n)) next
    ∙ ap (λ n. c.args.rules.now ++ entry_rules c.args.est c.args.branches.now c.args.usual n) (sym next)
