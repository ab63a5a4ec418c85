-- The words of a value, which are kept while they aren't too large.
use Rattle.std.specs.Prelude.{Option, Some, None, Result, Ok, List, [], ◌∷◌, ◌++◌, if◌then◌else◌}
use Rattle.fws_num.specs.declared.word.Word.{Word}
use Rattle.fws_net.specs.declared.cause.Cause.{Cause}
use Rattle.fws_net.specs.Causes.{judged}
use Rattle.fws_net.specs.Reading.{and_then}
use Rattle.fws_pf.specs.declared.macros.Macro.{Macro}
use Rattle.fws_pf.specs.Macros.{is_too_large, meant, value_words}

-- the words, unless they are too large
abbrev pub kept : List Word → Option (List Word)
kept ws = if is_too_large ws then None else Some ws

-- what is kept with a further word, once it was too large nothing
abbrev pub with_word : Option (List Word) → Word → Option (List Word)
with_word None w = None
with_word (Some ws) w = kept (ws ++ w ∷ [])

abbrev pub with_more : Option (List Word) → List Word → Option (List Word)
with_more k [] = k
with_more k (w ∷ ws) = with_more (with_word k w) ws

-- what is kept of a value with further words, as definitions have them
abbrev pub kept_words : Option (List Word) → List Word → Result (Option (List Word)) Cause
kept_words k [] = Ok k
kept_words k (w ∷ ws) = and_then (judged w (value_words w)) (λ more. kept_words (with_more k more) ws)

-- what is kept of the value that words define
abbrev pub kept_read : List Macro → Option (List Word) → List Word → Result (Option (List Word)) Cause
kept_read macros k [] = Ok k
kept_read macros k (w ∷ ws) = and_then (judged w (and_then (meant macros w) (kept_words k))) (λ next. kept_read macros next ws)
