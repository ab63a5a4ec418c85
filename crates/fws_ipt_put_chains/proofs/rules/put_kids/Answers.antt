use Rattle.std.proofs.Common.{◌≡◌, ℕ, ◌<◌, ◌++◌, length, sym, ◌∙◌, ap, subst, append_assoc}
use Rattle.std.proofs.lemmas.List.{get_or_read}
use Rattle.fws_tree.specs.declared.node.Kid.{Kid}
use Rattle.fws_ipt.specs.declared.config.IptGo.TheVariants.{Drop}
use Rattle.fws_ipt_put_chains.specs.Rules.{act_at, rules_of}
use Rattle.fws_ipt_put_chains.proofs.Sorted.{kid_rules_more}
use Rattle.fws_ipt_put_chains.proofs.rules.put_kids.Goals as goal

pub loop-kid-preserved : goal.loop-kid-preserved
loop-kid-preserved c =
    let kids = c.args.kids.now in
    let acts = c.args.acts.now in
    let i : ℕ = c.loop-kid.kid-index in
    let kid = c.kid-item.result in
    let go = c.index-acts-kid.result in
    let inv = c.loop-kid.invariant in
    let lt : kid.node < length acts = subst (λ (k : Kid). k.node < length acts) (sym c.kid-item.is) (c.requires.known i kid c.loop-kid-test.true) in
    let does : go ≡ act_at acts kid.node = get_or_read acts kid.node go lt c.index-acts-kid.is Drop in
    let more = rules_of go c.in_ok-conds.conds in (
      inv.0 ++ more,
      c.in_ok-put_rules.ensures ∙ ap (λ l. l ++ more) inv.1 ∙ append_assoc c.args.rules.now inv.0 more,
      kid_rules_more c.args.coming c.args.field acts kids i kid go inv.0 c.in_ok-conds.conds c.loop-kid-test.true c.kid-item.is does inv.2 c.in_ok-conds.ensures,
    )
