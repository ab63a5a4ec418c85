use Rattle.std.proofs.Common.{◌≡◌, ℕ, Ok, List, take, ◌∙◌}
use Rattle.std.proofs.lemmas.Result.{IfOk-weaker}
use Rattle.fws_pfo.specs.StatementText.{fault, statement_step, words_taken}
use Rattle.fws_pfo_read.specs.declared.statement.Statement.{Statement}
use Rattle.fws_pfo_read.specs.Statements.{seen}
use Rattle.fws_pf_read.specs.Taking.{words_taken as any_words}
use Rattle.fws_pfo_read.proofs.SameWords.{same_words}
use Rattle.fws_pfo_read.proofs.statement.StatementTakesWords.take_within.Goals as goal

pub returns-clause-taken : goal.returns-clause-taken
returns-clause-taken c = λ macros piece are.
    let P : Statement × ℕ → Type 0 = λ r. (t : List (List ℕ)) → words_taken c.args.setting.now t (take r.1 c.args.words.now) (seen c.args.self) ≡ Ok (seen r.0) in
    let Q : Statement × ℕ → Type 0 = λ r. (t : List (List ℕ)) → any_words (statement_step c.args.setting.now t) fault (take r.1 c.args.words.now) (seen c.args.self) ≡ Ok (seen r.0) in
    IfOk-weaker c.statement_within.result P Q (λ r h t. same_words c.args.setting.now t (take r.1 c.args.words.now) (seen c.args.self) ∙ h t)
    (c.statement_within.ensures.taken macros piece are)
