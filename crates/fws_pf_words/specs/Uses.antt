-- Macros by their names, and their uses.
use Rattle.std.specs.Prelude.{ℕ, nat_eq, Option, Some, None, Result, Ok, Err, List, [], ◌∷◌, ◌++◌, if◌then◌else◌}
use Rattle.fws_num.specs.declared.word.Word.{Word}
use Rattle.fws_num.specs.Words.{plain_word}
use Rattle.fws_net.specs.declared.cause.Cause.{Cause}
use Rattle.fws_pf.specs.declared.macros.Macro.{Macro}
use Rattle.fws_pf.specs.Macros.{is_name_byte, joined_last, value_of}

-- a name and its words as a macro
abbrev pub macro_of : List ℕ × List Word → Macro
macro_of entry = record { name = entry.0; words = entry.1 }

-- the bytes of a name from here on
abbrev pub name_ahead : List ℕ → List ℕ
name_ahead [] = []
name_ahead (c ∷ cs) = if is_name_byte c then c ∷ name_ahead cs else []

-- what stands behind them
abbrev pub behind_name : List ℕ → List ℕ
behind_name [] = []
behind_name (c ∷ cs) = if is_name_byte c then behind_name cs else c ∷ cs

-- the words with a text joined to the last of them
abbrev pub joined_words : List Word → List ℕ → List Word
joined_words [] text = []
joined_words (w ∷ ws) text = joined_last w ws text

-- what stands behind a macro without words and the `$` of a further use
abbrev pub further : Result (List Word) Cause → List ℕ → Option (List ℕ)
further (Ok []) (c ∷ cs) = if nat_eq c 36 then Some cs else None
further (Ok []) [] = None
further (Ok (w ∷ ws)) text = None
further (Err cause) text = None

abbrev pub further_use : List Macro → List ℕ → Option (List ℕ)
further_use macros text = further (value_of macros (name_ahead text)) (behind_name text)

-- a text by itself as words
abbrev pub alone_words : ℕ → List ℕ → List Word
alone_words line [] = []
alone_words line (c ∷ cs) = plain_word line (c ∷ cs) ∷ []

-- the words that stand for a name; none where no macro has it
abbrev pub words_or_none : Result (List Word) Cause → List Word
words_or_none (Ok ws) = ws
words_or_none (Err cause) = []

abbrev pub words_named : List Macro → List ℕ → List Word
words_named macros name = words_or_none (value_of macros name)

-- words without the last one, and the last one with a text joined to it
abbrev pub all_but_last : List Word → List Word
all_but_last [] = []
all_but_last (w ∷ []) = []
all_but_last (w ∷ v ∷ ws) = w ∷ all_but_last (v ∷ ws)

abbrev pub last_joined : List Word → List ℕ → List Word
last_joined [] text = []
last_joined (w ∷ []) text = record w { text = w.text ++ text } ∷ []
last_joined (w ∷ v ∷ ws) text = last_joined (v ∷ ws) text
