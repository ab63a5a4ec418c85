use Rattle.std.proofs.Common.{◌≡◌, ◌+◌, ◌++◌, List, sym, ◌∙◌, ap, subst, take, drop}
use Rattle.std.proofs.lemmas.List.{take_rest}
use Rattle.fws_tree.specs.declared.node.Kid.{Kid}
use Rattle.fws_ipfw_put_rules.specs.Pieces.{ArePieces}
use Rattle.fws_ipfw_put_rules.specs.Turns.{AreKidTurns}
use Rattle.fws_ipfw_put_rules.proofs.Turning.{kid_turns_both}
use Rattle.fws_ipfw_put_rules.proofs.turns.other_turns.Goals as goal

pub returns : goal.returns
returns c =
    let kids = c.args.kids.now in
    let front : List Kid = take c.args.at kids in
    let back : List Kid = drop (c.args.at + 1) kids in
    let a = c.in_ok-put_kids.ensures in
    let b = c.in_ok-put_kids-2.ensures in
    let second : AreKidTurns (ArePieces c.args.field) back b.0 = subst (λ l. AreKidTurns (ArePieces c.args.field) l b.0) (take_rest kids (c.args.at + 1)) b.2 in
    let same : c.put_kids-2.new.turns ≡ a.0 ++ b.0 = b.1 ∙ ap (λ l. l ++ b.0) (a.1 ∙ ap (λ l. l ++ a.0) c.new-turns.ensures) in
    subst (λ l. AreKidTurns (ArePieces c.args.field) (front ++ back) l) (sym same) (kid_turns_both (ArePieces c.args.field) front back a.0 b.0 a.2 second)
