use Rattle.std.proofs.Common.{◌≡◌, ℕ, Ok, List, take, IfOk, subst, sym}
use Rattle.fws_pfo.specs.StatementText.{words_taken}
use Rattle.fws_pf_words.specs.UsesKnown.{AreUses}
use Rattle.fws_pfo_read.specs.declared.statement.Statement.{Statement}
use Rattle.fws_pfo_read.specs.Statements.{items_of, seen}
use Rattle.fws_pfo_read.proofs.statement.statement_within.Goals as goal

pub returns-in-Rule-clause-taken : goal.returns-in-Rule-clause-taken
returns-in-Rule-clause-taken c = λ macros piece are.
    subst
    (λ (s : Statement). IfOk c.rule_piece.result (λ r. (t : List (List ℕ)) → words_taken c.args.setting.now t (take r.1 c.args.words.now) (seen s) ≡ Ok (seen r.0)))
    (sym c.in-Rule.is)
    (c.rule_piece.ensures.taken macros piece (subst (λ (s : Statement). AreUses c.args.setting.now macros (items_of (seen s)) c.args.uses.now) c.in-Rule.is are))

pub returns-in-Rule-clause-known : goal.returns-in-Rule-clause-known
returns-in-Rule-clause-known c = λ macros piece are.
    c.rule_piece.ensures.known macros piece (subst (λ (s : Statement). AreUses c.args.setting.now macros (items_of (seen s)) c.args.uses.now) c.in-Rule.is are)

pub returns-in-Table-clause-taken : goal.returns-in-Table-clause-taken
returns-in-Table-clause-taken c = λ macros piece are.
    subst
    (λ (s : Statement). IfOk c.table_piece.result (λ r. (t : List (List ℕ)) → words_taken c.args.setting.now t (take r.1 c.args.words.now) (seen s) ≡ Ok (seen r.0)))
    (sym c.in-Table.is)
    (c.table_piece.ensures.taken macros piece (subst (λ (s : Statement). AreUses c.args.setting.now macros (items_of (seen s)) c.args.uses.now) c.in-Table.is are))

pub returns-in-Table-clause-known : goal.returns-in-Table-clause-known
returns-in-Table-clause-known c = λ macros piece are.
    c.table_piece.ensures.known macros piece (subst (λ (s : Statement). AreUses c.args.setting.now macros (items_of (seen s)) c.args.uses.now) c.in-Table.is are)

pub returns-in-SkipOn-clause-taken : goal.returns-in-SkipOn-clause-taken
returns-in-SkipOn-clause-taken c = λ macros piece are.
    subst
    (λ (s : Statement). IfOk c.skip_piece.result (λ r. (t : List (List ℕ)) → words_taken c.args.setting.now t (take r.1 c.args.words.now) (seen s) ≡ Ok (seen r.0)))
    (sym c.in-SkipOn.is)
    (c.skip_piece.ensures.taken macros piece (subst (λ (s : Statement). AreUses c.args.setting.now macros (items_of (seen s)) c.args.uses.now) c.in-SkipOn.is are))

pub returns-in-SkipOn-clause-known : goal.returns-in-SkipOn-clause-known
returns-in-SkipOn-clause-known c = λ macros piece are.
    c.skip_piece.ensures.known macros piece (subst (λ (s : Statement). AreUses c.args.setting.now macros (items_of (seen s)) c.args.uses.now) c.in-SkipOn.is are)
