-- The causes for which a line of a configuration is refused, and the order in which they are tried.
use Rattle.std.specs.Prelude.{Option, Some, None, Result, Ok, Err, List, [], ◌∷◌, if◌then◌else◌}
use Rattle.fws_num.specs.declared.word.Word.{Word}
use Rattle.fws_num.specs.Words.{is_sound}
use Rattle.fws_net.specs.declared.cause.Cause.{Cause}
use Rattle.fws_net.specs.declared.cause.Cause.TheVariants.{Syntax, LeftOut, Backward, Shape, Expand}
use Rattle.fws_net.specs.declared.cause.Checks.{Checks}
use Rattle.fws_net.specs.Reading.{and_then, sound_read}

-- the first check of a whole line that fails, in the order in which they are tried
abbrev pub first_cause : Checks → Option Cause
first_cause checks =
    if checks.left_out then Some LeftOut
    else if checks.backward then Some Backward
    else if checks.shape then Some Shape
    else if checks.expand then Some Expand else None

abbrev pub unless : {A : Type 0} → Option Cause → A → Result A Cause
unless None x = Ok x
unless (Some cause) x = Err cause

-- what was read of a line's words, unless a check of the whole line fails
abbrev pub checked : {A : Type 0} → Checks → A → Result A Cause
checked checks x = unless (first_cause checks) x

-- a word that is judged: one with a bad byte or an open quote is Syntax, whatever it would be
abbrev pub judged : {A : Type 0} → Word → Result A Cause → Result A Cause
judged w read = sound_read Syntax (is_sound w) read

-- the words from left to right; the first that is refused decides
abbrev pub words_read : {S : Type 0} → (S → Word → Result S Cause) → S → List Word → Result S Cause
words_read step state [] = Ok state
words_read step state (w ∷ ws) = and_then (judged w (step state w)) (λ next. words_read step next ws)
