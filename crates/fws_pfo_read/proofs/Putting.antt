-- Rules that are put behind others.
use Rattle.std.proofs.Common.{◌≡◌, ℕ, suc, ◌+◌, ◌*◌, Option, None, Result, Ok, List, [], ◌∷◌, ◌++◌, length, length-append, map, refl, sym, ap, ◌∙◌, subst, arith}
use Rattle.std.proofs.lemmas.List.{length-map}
use Rattle.fws_net.specs.declared.answer.LineFault.{LineFault}
use Rattle.fws_net.specs.declared.cause.Cause.{Cause}
use Rattle.fws_net.specs.declared.condition.Lit.{Lit}
use Rattle.fws_net.specs.declared.site.Site.{Site}
use Rattle.fws_net.specs.Causes.{first_cause, unless}
use Rattle.fws_net.specs.Reading.{StepGiven}
use Rattle.fws_pf.specs.declared.tables.Table.{Table}
use Rattle.fws_pfo_read.specs.declared.statement.Statement.{Statement}
use Rattle.fws_pfo_read.specs.declared.statement.Statement.TheVariants as own
use Rattle.fws_pfo_read.specs.Statements.{seen}
use Rattle.fws_pf.specs.declared.rule_draft.Choice.{Choice}
use Rattle.fws_pf.specs.Drawn.{choices, condition_count, conditions, crossed, expanded_with}
use Rattle.fws_net.specs.declared.outcome.End.{End}
use Rattle.fws_pfo.specs.declared.rule_draft.PfoRuleDraft.{PfoRuleDraft}
use Rattle.fws_pfo.specs.declared.text_draft.PfoDraft.{PfoDraft}
use Rattle.fws_pfo.specs.Drawn.{ends_with, rule_checks, rule_of}
use Rattle.fws_pfo.specs.FileText.{rule_put, statement_put, with_rule}
use Rattle.fws_pfo_read.specs.Texts.{put, with_tags}
use Rattle.fws_pfo_read.specs.Views.{draft_of}
use Rattle.fws_pfo_read.specs.declared.draft.Draft.{Draft}

-- How many conditions there are

length-crossed : (fronts rests : List (List Lit)) → length (crossed fronts rests) ≡ length fronts * length rests
length-crossed [] rests = none_at_all (length rests)
  where
    none_at_all : (b : ℕ) → 0 ≡ 0 * b
    none_at_all b = omega arith
length-crossed (front ∷ fronts) rests =
    length-append (map (λ rest. front ++ rest) rests) (crossed fronts rests)
    ∙ ap (λ n. n + length (crossed fronts rests)) (length-map rests (λ rest. front ++ rest))
    ∙ ap (λ n. length rests + n) (length-crossed fronts rests)
    ∙ sym (one_more (length fronts) (length rests))
  where
    one_more : (a b : ℕ) → suc a * b ≡ b + a * b
    one_more a b = omega arith

pub length-conditions : (cs : List Choice) → length (conditions cs) ≡ condition_count cs
length-conditions [] = refl
length-conditions (c ∷ cs) = length-crossed c.conds (conditions cs) ∙ ap (λ n. length c.conds * n) (length-conditions cs)

-- Tags ahead of a rule don't matter, since it has its own

-- the rule of choices
pub put_choices : (d : PfoRuleDraft) (cs : List Choice) (conds : List (List Lit)) (tags : List (List ℕ)) (old t new : PfoDraft) → conds ≡ conditions cs → old ≡ with_tags tags t →
    new ≡ put d conds old → new ≡ with_rule cs d t
put_choices d cs conds tags old t new is from e =
    e ∙ ap (put d conds) from ∙ ap (λ (l : List (List Lit)). put d l t) is
    ∙ ap
    (λ n. record t {
      expanded = expanded_with t.expanded n;
      ends = ends_with t.ends d;
      config = record t.config { rules = t.config.rules ++ map (rule_of d) (conditions cs); tags = d.shared.tags };
    })
    (length-conditions cs)

-- a rule whose checks pass
pub put_checked : (tables : List Table) (d : PfoRuleDraft) (expanded : ℕ) (ends : List End) (tags : List (List ℕ)) (old t new : PfoDraft)
    → first_cause (rule_checks tables expanded ends d) ≡ None → expanded ≡ old.expanded → ends ≡ old.ends → old ≡ with_tags tags t
    → new ≡ with_rule (choices tables d.shared) d t → rule_put tables d t ≡ Ok new
put_checked tables d expanded ends tags old t new passes n m from e =
    let counted : expanded ≡ t.expanded = n ∙ ap (λ (x : PfoDraft). x.expanded) from in
    let held : ends ≡ t.ends = m ∙ ap (λ (x : PfoDraft). x.ends) from in
    let check : Option Cause → Result PfoDraft Cause = λ o. unless o (with_rule (choices tables d.shared) d t) in
    let said : PfoDraft → Result PfoDraft Cause = λ x. Ok x in
    ap (λ i. check (first_cause (rule_checks tables i t.ends d))) (sym counted) ∙ ap (λ l. check (first_cause (rule_checks tables expanded l d))) (sym held)
    ∙ ap check passes ∙ ap said (sym e)

-- a statement that is a rule
pub rule_said : (site : Site) (tables : List Table) (s : Statement) (d : Draft) (t : PfoDraft) (r : Result (Unit {0}) (LineFault Cause)) (new : PfoDraft) → s ≡ own.Rule d →
    StepGiven r new (rule_put tables (draft_of d) t) → StepGiven r new (statement_put site tables (seen s) t)
rule_said site tables s d t r new is h = subst (λ (x : Statement). StepGiven r new (statement_put site tables (seen x) t)) (sym is) h
