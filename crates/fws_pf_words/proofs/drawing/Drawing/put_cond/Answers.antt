use Rattle.std.proofs.Common.{◌≡◌, [], List, ◌++◌, ◌∙◌, ap, refl, rules}
use Rattle.fws_net.specs.declared.condition.Lit.{Lit}
use Rattle.fws_pf.specs.RuleText.{only}
use Rattle.fws_pf_words.proofs.Crossing.{put_ahead}
use Rattle.fws_pf_words.proofs.drawing.Drawing.put_cond.Goals as goal

pub returns-then-is_empty : goal.returns-then-is_empty
returns-then-is_empty c =
    let none : c.args.self.now.more ≡ [] = search rules in
    put_ahead c.args.self.now (record c.args.self.now { front = c.put_copies.new.cond }) c.args.cond.now (only c.args.cond.now) none
    (c.in_ok-put_copies.ensures ∙ ap (λ (l : List Lit). c.args.self.now.front ++ l) c.lits.ensures) refl refl
