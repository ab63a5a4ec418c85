use Rattle.std.proofs.Common.{◌≡◌, ℕ, List, Bool, true, false, Option, Some, None, option_and_then, cond, refl, ap, ◌∙◌}
use Rattle.std.proofs.lemmas.Result.{IfOk-weaker}
use Rattle.fws_box.specs.Sides.{sides_have}
use Rattle.fws_net.specs.declared.outcome.Outcome.{Outcome}
use Rattle.fws_table.specs.QueryText.{IsQuery, asked_leaf}
use Rattle.fws_top.specs.Asks.{asks_have}
use Rattle.fws_top.specs.Tables.{IsAskedTable}
use Rattle.fws_top.specs.Walked.{walked_at}
use Rattle.fws_top.proofs.tables.asked_text.Goals as goal
use Rattle.fws_tree.specs.Plain.{value}

-- what a tree has off the asked sides isn't asked for
asked_alone : (b : Bool) (verdict : Option Bool) (v : Option Outcome) (outcome : Outcome) → (b ≡ true → v ≡ Some outcome)
    → cond b (option_and_then (asked_leaf verdict) v) None ≡ cond b (asked_leaf verdict outcome) None
asked_alone true verdict v outcome h = ap (option_and_then (asked_leaf verdict)) (h refl)
asked_alone false verdict v outcome h = refl

pub returns : goal.returns
returns c = λ asks walk sides verdict does.
    let site = c.args.site.now in
    let ask = c.args.ask.now in
    let given : List ℕ → Type 0 = IsQuery site c.args.state c.in_ok-tree.tree.1 ask in
    IfOk-weaker c.query.result given (IsAskedTable site c.args.state asks walk) (λ text made. record {
      tree = made.tree;
      reduced = made.reduced;
      asked = λ p w.
          let walked : Outcome = walked_at walk c.args.state p in
          let of_asked : Option Outcome → Option (Option Outcome) = λ o. Some o in
          let of_sides : Bool → Option (Option Outcome) = λ b. Some (cond b (asked_leaf ask.verdict walked) None) in
          let of_verdict : Option Bool → Option (Option Outcome) = λ d. Some (cond (asks_have site asks p) (asked_leaf d walked) None) in
          made.changed p w
          ∙ ap of_asked (asked_alone (sides_have ask.sides p) ask.verdict (value c.in_ok-tree.tree.1 p) walked (λ asked. c.in_ok-tree.ensures.walked walk does p w asked))
          ∙ ap of_sides (sides p w)
          ∙ ap of_verdict verdict;
      spelled = made.spelled;
    }) c.query.ensures
