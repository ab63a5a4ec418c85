use Rattle.std.proofs.Common.{◌≡◌, ◌+◌, ◌++◌, [], sym, ◌∙◌, ap, subst, take, drop}
use Rattle.std.specs.Prelude.{MatchOption}
use Rattle.fws_tree.specs.declared.node.Kid.{Kid}
use Rattle.fws_ipfw_put_rules.specs.Pieces.{ArePieces}
use Rattle.fws_ipfw_put_rules.specs.Turns.{last_turn, AreKidTurns}
use Rattle.fws_ipfw_put_rules.proofs.Turning.{split_at_place}
use Rattle.fws_ipfw_put_rules.proofs.turns.cut_turns.Goals as goal

pub default_kid-requires-clause-proper : goal.default_kid-requires-clause-proper
default_kid-requires-clause-proper c = λ f e. c.requires.proper f (sym c.packet_field-field.ensures ∙ e)

pub tests-requires-clause-proper : goal.tests-requires-clause-proper
tests-requires-clause-proper c = λ f e. c.requires.proper f (sym c.packet_field-field.ensures ∙ e)

pub returns : goal.returns
returns c =
    let kids = c.args.kids.now in
    let at = c.in_ok-at.at in
    let other = c.index-kids-at.result in
    let turns = c.in_ok-turns.turns in
    record {
      front = take at kids;
      other = other;
      back = drop (at + 1) kids;
      split = split_at_place kids at other c.in_ok-at.ensures c.index-kids-at.is;
      tests = turns;
      all = c.in_ok-put.ensures.ok ∙ ap (λ (k : Kid). turns ++ last_turn k) (sym c.index-kids-at.is);
      sorted = subst (λ o. MatchOption o (turns ≡ []) (λ f. AreKidTurns (ArePieces f) (take at kids ++ drop (at + 1) kids) turns)) c.packet_field-field.ensures c.in_ok-turns.ensures;
    }
