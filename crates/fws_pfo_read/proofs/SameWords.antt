-- The words of a statement, by what a word makes of it, are those of pf.conf(5) of OpenBSD.
use Rattle.std.proofs.Common.{◌≡◌, ℕ, cond, Result, Ok, Err, List, [], ◌∷◌, refl, ap, ◌∙◌}
use Rattle.fws_num.specs.declared.word.Word.{Word}
use Rattle.fws_num.specs.Words.{is_sound}
use Rattle.fws_net.specs.declared.cause.Cause.{Cause}
use Rattle.fws_net.specs.declared.cause.Cause.TheVariants.{Syntax}
use Rattle.fws_net.specs.Reading.{and_then}
use Rattle.fws_pf.specs.declared.macros.Macro.{Macro}
use Rattle.fws_pfo.specs.declared.statement.PfoStatement.{PfoStatement}
use Rattle.fws_pf.specs.Macros.{meant}
use Rattle.fws_pfo.specs.StatementText.{fault, meant_taken, raw_taken, raws_taken, statement_step, word_taken, words_taken}
use Rattle.fws_pf.specs.Values.{Setting}
use Rattle.fws_pf_read.specs.Taking.{meant_taken as any_meant, raws_taken as any_raws, words_taken as any_words}

and_then_same : (r : Result PfoStatement Cause) (f g : PfoStatement → Result PfoStatement Cause) → ((s : PfoStatement) → f s ≡ g s) → and_then r f ≡ and_then r g
and_then_same (Ok s) f g h = h s
and_then_same (Err cause) f g h = refl

pub same_words : (setting : Setting) (tags : List (List ℕ)) (ws : List Word) (s : PfoStatement) → any_words (statement_step setting tags) fault ws s ≡ words_taken setting tags ws s
same_words setting tags [] s = refl
same_words setting tags (w ∷ ws) s =
    and_then_same (word_taken setting tags w s) (any_words (statement_step setting tags) fault ws) (words_taken setting tags ws) (λ t. same_words setting tags ws t)

same_meant : (setting : Setting) (tags : List (List ℕ)) (m : Result (List Word) Cause) (s : PfoStatement) → any_meant (statement_step setting tags) fault m s ≡ meant_taken setting tags m s
same_meant setting tags (Ok ws) s = same_words setting tags ws s
same_meant setting tags (Err cause) s = refl

pub same_raws : (setting : Setting) (macros : List Macro) (tags : List (List ℕ)) (ws : List Word) (s : PfoStatement)
    → any_raws (statement_step setting tags) fault macros ws s ≡ raws_taken setting macros tags ws s
same_raws setting macros tags [] s = refl
same_raws setting macros tags (w ∷ ws) s =
    ap (λ m. and_then (cond (is_sound w) m (Err (fault s Syntax))) (any_raws (statement_step setting tags) fault macros ws)) (same_meant setting tags (meant macros w) s)
    ∙ and_then_same (raw_taken setting macros tags w s) (any_raws (statement_step setting tags) fault macros ws) (raws_taken setting macros tags ws) (λ t. same_raws setting macros tags ws t)
