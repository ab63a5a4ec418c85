use Rattle.std.proofs.Common.{◌≡◌, ◌+◌, ◌++◌, List, sym, ◌∙◌, ap, subst, take, drop}
use Rattle.std.proofs.lemmas.List.{take_rest}
use Rattle.fws_tree.specs.declared.node.Kid.{Kid}
use Rattle.fws_ipt_put_chains.specs.Rules.{AreKidRules}
use Rattle.fws_ipt_put_chains.proofs.Sorted.{kid_rules_both}
use Rattle.fws_ipt_put_chains.proofs.rules.other_rules.Goals as goal

pub returns : goal.returns
returns c =
    let kids = c.args.kids.now in
    let acts = c.args.acts.now in
    let front : List Kid = take c.args.at kids in
    let back : List Kid = drop (c.args.at + 1) kids in
    let a = c.in_ok-put_kids.ensures in
    let b = c.in_ok-put_kids-2.ensures in
    let second : AreKidRules c.args.coming c.args.field acts back b.0 = subst (λ l. AreKidRules c.args.coming c.args.field acts l b.0) (take_rest kids (c.args.at + 1)) b.2 in
    let same : c.put_kids-2.new.rules ≡ a.0 ++ b.0 = b.1 ∙ ap (λ l. l ++ b.0) (a.1 ∙ ap (λ l. l ++ a.0) c.new-rules.ensures) in
    subst (λ l. AreKidRules c.args.coming c.args.field acts (front ++ back) l) (sym same) (kid_rules_both c.args.coming c.args.field acts front back a.0 b.0 a.2 second)
