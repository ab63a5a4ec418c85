use Rattle.std.proofs.Common.{◌≡◌, ◌∷◌, true, false, nat_eq, refl, rules, sym, ◌∙◌, arith}
use Rattle.std.proofs.lemmas.Bool.Decides.{nat_tests}
use Rattle.fws_pf_words.proofs.Reading.{word_begins}
use Rattle.fws_pf_words.proofs.statements.begun_count.Goals as goal

pub returns-clause-word : goal.returns-clause-word
returns-clause-word c =
    let quote : nat_eq c.args.c 34 ≡ false = grind (arith, nat_tests, c.if-c-eq34.false) in
    let on : c.goes_on.result ≡ true = search rules in
    word_begins c.args.c c.args.rest.now (c.args.c ∷ c.args.rest.now) c.plain_count.result _ refl quote (sym c.goes_on.ensures ∙ on) c.plain_count.ensures.plain refl
