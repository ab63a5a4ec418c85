-- The words of a statement from left to right, macros replaced: by what a word makes of what was read so far, and why one is refused that
-- can't be judged or whose macro isn't there.
use Rattle.std.specs.Prelude.{◌≡◌, Result, Ok, Err, List, [], ◌∷◌, if◌then◌else◌}
use Rattle.fws_num.specs.declared.word.Word.{Word}
use Rattle.fws_num.specs.Words.{is_sound}
use Rattle.fws_net.specs.declared.answer.LineFault.{LineFault}
use Rattle.fws_net.specs.declared.cause.Cause.{Cause}
use Rattle.fws_net.specs.declared.cause.Cause.TheVariants.{Syntax}
use Rattle.fws_net.specs.Reading.{FaultGiven, and_then}
use Rattle.fws_pf.specs.declared.macros.Macro.{Macro}
use Rattle.fws_pf.specs.Macros.{meant}

-- a word out of a macro, or one that stands there
abbrev pub word_taken : {S : Type 0} → (Word → S → Result S Cause) → (S → Cause → Cause) → Word → S → Result S Cause
word_taken step fault w s = if is_sound w then step w s else Err (fault s Syntax)

abbrev pub words_taken : {S : Type 0} → (Word → S → Result S Cause) → (S → Cause → Cause) → List Word → S → Result S Cause
words_taken step fault [] s = Ok s
words_taken step fault (w ∷ ws) s = and_then (word_taken step fault w s) (words_taken step fault ws)

-- the words for which a word stands
abbrev pub meant_taken : {S : Type 0} → (Word → S → Result S Cause) → (S → Cause → Cause) → Result (List Word) Cause → S → Result S Cause
meant_taken step fault (Ok ws) s = words_taken step fault ws s
meant_taken step fault (Err cause) s = Err (fault s cause)

abbrev pub raw_taken : {S : Type 0} → (Word → S → Result S Cause) → (S → Cause → Cause) → List Macro → Word → S → Result S Cause
raw_taken step fault macros w s = if is_sound w then meant_taken step fault (meant macros w) s else Err (fault s Syntax)

-- the words of a statement; the first that is refused decides
abbrev pub raws_taken : {S : Type 0} → (Word → S → Result S Cause) → (S → Cause → Cause) → List Macro → List Word → S → Result S Cause
raws_taken step fault macros [] s = Ok s
raws_taken step fault macros (w ∷ ws) s = and_then (raw_taken step fault macros w s) (raws_taken step fault macros ws)

-- what is read is what reading gives, as contracts see it, unless memory ran out
abbrev pub SaidGiven : {O S : Type 0} → (O → S) → Result O (LineFault Cause) → Result S Cause → Type 0
SaidGiven seen (Ok s) read = read ≡ Ok (seen s)
SaidGiven seen (Err fault) read = FaultGiven fault read
