use Rattle.std.proofs.Common.{◌≡◌, [], ◌∷◌, refl, rules}
use Rattle.fws_pf.specs.RuleText.{choice_of, item_literals}
use Rattle.fws_pf_words.specs.Tests.{test_at}
use Rattle.fws_pf_words.proofs.Crossing.{put_ahead}
use Rattle.fws_pf_words.proofs.drawing.Drawing.put_value.Goals as goal

pub returns-then-is_empty : goal.returns-then-is_empty
returns-then-is_empty c =
    let none : c.args.self.now.more ≡ [] = search rules in
    let test = test_at c.args.place in
    put_ahead c.args.self.now (record c.args.self.now { front = c.put_item.new.cond }) (item_literals c.args.tables.now test c.args.item.now)
    (choice_of c.args.tables.now test (c.args.item.now ∷ [])) none c.in_ok-put_item.ensures refl refl
