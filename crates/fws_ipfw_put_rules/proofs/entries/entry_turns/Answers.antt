use Rattle.std.proofs.Common.{◌≡◌, ◌+◌, ◌++◌, List, sym, ◌∙◌, ap, subst, take, drop}
use Rattle.std.proofs.lemmas.List.{take_rest}
use Rattle.fws_tree.specs.declared.node.Kid.{Kid}
use Rattle.fws_ipfw_put_rules.specs.declared.turn.Turn.{Turn}
use Rattle.fws_ipfw_put_rules.specs.Turns.{last_turn, AreEntries, AreKidTurns}
use Rattle.fws_ipfw_put_rules.proofs.Turning.{kid_turns_both, split_at_place}
use Rattle.fws_ipfw_put_rules.proofs.entries.entry_turns.Goals as goal

pub returns : goal.returns
returns c =
    let Is = AreEntries c.args.top in
    let kids = c.args.kids.now in
    let at = c.widest-at.result in
    let other = c.index-kids-at.result in
    let front : List Kid = take at kids in
    let back : List Kid = drop (at + 1) kids in
    let a = c.in_ok-put_kids.ensures in
    let b = c.in_ok-put_kids-2.ensures in
    let second : AreKidTurns Is back b.0 = subst (λ l. AreKidTurns Is l b.0) (take_rest kids (at + 1)) b.2 in
    let same : c.put_kids-2.new.turns ≡ a.0 ++ b.0 = b.1 ∙ ap (λ l. l ++ b.0) (a.1 ∙ ap (λ l. l ++ a.0) c.new-turns.ensures) in
    record {
      front = front;
      other = other;
      back = back;
      split = split_at_place kids at other c.widest-at.ensures c.index-kids-at.is;
      tests = a.0 ++ b.0;
      all = c.in_ok-put.ensures.ok ∙ ap (λ (k : Kid). c.put_kids-2.new.turns ++ last_turn k) (sym c.index-kids-at.is) ∙ ap (λ (l : List Turn). l ++ last_turn other) same;
      sorted = kid_turns_both Is front back a.0 b.0 a.2 second;
    }
