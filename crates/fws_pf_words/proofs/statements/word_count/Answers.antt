use Rattle.std.proofs.Common.{◌≡◌, ◌≤◌, ℕ, List, IfSome, take, drop, sym, subst}
use Rattle.fws_pf.specs.declared.statement.Mode.TheVariants.{Between, Plain}
use Rattle.fws_pf.specs.Statements.{words_from}
use Rattle.fws_pf_words.proofs.statements.word_count.Goals as goal

pub returns-in-Some-clause-word : goal.returns-in-Some-clause-word
returns-in-Some-clause-word c =
    subst (λ (bs : List ℕ). IfSome c.begun_count.result (λ n. (line : ℕ) (text : List ℕ) → words_from line Between text bs ≡ words_from line Plain (take n bs) (drop n bs)))
    (sym c.in-Some.ensures.cases.0) c.begun_count.ensures.word
