use Rattle.std.proofs.Common.{◌≡◌, ℕ, ◌+◌, ◌<◌, ◌++◌, ◌∷◌, [], List, length, get_or, option_and_then, sym, ◌∙◌, ap, subst, take, drop}
use Rattle.std.proofs.lemmas.List.{get_or_read}
use Rattle.std.specs.Prelude.{MatchOption}
use Rattle.fws_net.specs.declared.condition.Lit.{Lit}
use Rattle.fws_ipt.specs.declared.config.IptGo.{IptGo}
use Rattle.fws_ipt.specs.declared.config.IptGo.TheVariants.{Drop}
use Rattle.fws_ipt.specs.declared.config.IptRule.{IptRule}
use Rattle.fws_tree.specs.declared.node.Kid.{Kid}
use Rattle.fws_tree_seen.specs.Fields.{top_of}
use Rattle.fws_ipt_put_chains.specs.Pieces.{unspelled}
use Rattle.fws_ipt_put_chains.specs.Rules.{act_at, AreKidRules}
use Rattle.fws_ipt_put_chains.proofs.Sorted.{parts_below, spelled_beside, split_at_place}
use Rattle.fws_ipt_put_chains.proofs.rules.cut_rules.Goals as goal

pub default_kid-requires-clause-below : goal.default_kid-requires-clause-below
default_kid-requires-clause-below c = λ f e. parts_below (top_of f) c.args.kids.now (c.requires.parted f (sym c.packet_field-field.ensures ∙ e))

pub tests-requires-clause-spelled : goal.tests-requires-clause-spelled
tests-requires-clause-spelled c = λ f e.
    let none : Kid = record { set = []; node = 0 } in
    spelled_beside f c.args.kids.now c.in_ok-at.at none c.in_ok-at.ensures.within
    (c.requires.parted f (sym c.packet_field-field.ensures ∙ e))
    (λ v u any kid there. c.in_ok-at.ensures.holds v (ap (option_and_then unspelled) e ∙ u) any kid there)

pub returns : goal.returns
returns c =
    let kids = c.args.kids.now in
    let acts = c.args.acts.now in
    let at : ℕ = c.in_ok-at.at in
    let other = c.index-kids-at.result in
    let go = c.index-acts-kids.result in
    let rules = c.in_ok-rules.rules in
    let lt : other.node < length acts = subst (λ (k : Kid). k.node < length acts) (sym c.index-kids-at.is) (c.requires.known at other c.in_ok-at.ensures.within) in
    let does : go ≡ act_at acts other.node = get_or_read acts other.node go lt (c.index-acts-kids.is ∙ ap (λ (k : Kid). get_or acts k.node go) (sym c.index-kids-at.is)) Drop in
    let mk : List Lit → IptGo → List IptRule = λ cond g. rules ++ record { cond = cond; go = g } ∷ [] in
    record {
      front = take at kids;
      other = other;
      back = drop (at + 1) kids;
      split = split_at_place kids at other c.in_ok-at.ensures.within c.index-kids-at.is;
      tests = rules;
      all = c.in_ok-put.ensures.ok ∙ ap (λ x. mk x go) c.new.ensures ∙ ap (λ g. mk [] g) does;
      sorted = subst (λ o. MatchOption o (rules ≡ []) (λ f. AreKidRules c.args.coming f acts (take at kids ++ drop (at + 1) kids) rules)) c.packet_field-field.ensures c.in_ok-rules.ensures;
    }
