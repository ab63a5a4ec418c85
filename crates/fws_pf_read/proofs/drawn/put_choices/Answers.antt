use Rattle.std.proofs.Common.{[], ◌∷◌, ◌++◌, cond, ap, ◌∙◌}
use Rattle.fws_pf.specs.Drawn.{implied_flags, implies_flags}
use Rattle.fws_pf.specs.RuleText.{only}
use Rattle.fws_pf_words.specs.Drawings.{drawn}
use Rattle.fws_pf_read.specs.Views.{draft_of}
use Rattle.fws_pf_read.proofs.Ahead.{choices_ahead}
use Rattle.fws_pf_read.proofs.drawn.put_choices.Goals as goal

pub returns : goal.returns
returns c =
    let d = draft_of c.args.d.now in
    let implied = cond (implies_flags d) (only implied_flags ∷ []) [] in
    c.in_ok-put_implied.ensures [] ∙ c.in_ok-put_to.ensures (implied ++ []) ∙ c.in_ok-put_places.ensures (d.options ++ (implied ++ []))
    ∙ ap (drawn c.args.all.now) (choices_ahead c.args.tables.now d)
