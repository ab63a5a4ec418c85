-- Macros: what stands for `$` and a name, and what a definition defines (pf.conf(5)).
use Rattle.std.specs.Prelude.{ℕ, ◌+◌, Bool, true, false, ◌&&◌, ◌||◌, not, nat_eq, nat_le, nat_lt, option_map, Result, Ok, Err, List, [], ◌∷◌, ◌++◌, length, if◌then◌else◌}
use Rattle.std.specs.List.{find, list_all}
use Rattle.std.specs.Option.{ok_or}
use Rattle.std.specs.Str.{bytes_eq}
use Rattle.fws_num.specs.declared.word.Word.{Word}
use Rattle.fws_num.specs.Numbers.{is_digit}
use Rattle.fws_num.specs.Words.{is_printed, plain_word}
use Rattle.fws_net.specs.declared.cause.Cause.{Cause}
use Rattle.fws_net.specs.declared.cause.Cause.TheVariants.{Syntax, NoName}
use Rattle.fws_net.specs.declared.cause.Checks.{Checks}
use Rattle.fws_net.specs.Causes.{checked, judged}
use Rattle.fws_net.specs.Reading.{and_then}
use Rattle.fws_pf.specs.declared.macros.Macro.{Macro}
use Rattle.fws_pf.specs.Statements.{words_of}

-- Names

-- a letter, a digit or `_`
abbrev pub is_name_byte : ℕ → Bool
is_name_byte c = is_digit c || (nat_le 65 c && nat_le c 90) || (nat_le 97 c && nat_le c 122) || nat_eq c 95

-- a name of a macro
abbrev pub is_name : List ℕ → Bool
is_name text = nat_le 1 (length text) && list_all is_name_byte text

-- Uses

-- the words that stand for a name
abbrev pub value_of : List Macro → List ℕ → Result (List Word) Cause
value_of macros name = ok_or (option_map (λ m. m.words) (find (λ m. bytes_eq name m.name) macros)) NoName

-- the text behind the last of the words
abbrev pub joined_last : Word → List Word → List ℕ → List Word
joined_last w [] text = record w { text = w.text ++ text } ∷ []
joined_last w (v ∷ ws) text = w ∷ joined_last v ws text

-- what stands for a name and the text behind it: the text is joined to the last word; behind no words it stands for itself
abbrev pub with_behind : List Word → List ℕ → Result (List Word) Cause → Result (List Word) Cause
with_behind [] text alone = alone
with_behind (w ∷ ws) text alone = Ok (joined_last w ws text)

-- the words for which `$` and the name stand that has begun so; a further `$` behind a macro without words is a use of its own
abbrev pub meant_from : List Macro → ℕ → List ℕ → List ℕ → Result (List Word) Cause
meant_from macros line name [] = value_of macros name
meant_from macros line name (c ∷ cs) =
    if is_name_byte c then meant_from macros line (name ++ c ∷ []) cs
    else and_then (value_of macros name)
    (λ words. with_behind words (c ∷ cs) (if nat_eq c 36 then meant_from macros line [] cs else Ok (plain_word line (c ∷ cs) ∷ [])))

abbrev pub meant_by : List Macro → Word → List ℕ → Result (List Word) Cause
meant_by macros w [] = Ok (w ∷ [])
meant_by macros w (c ∷ cs) = if nat_eq c 36 then meant_from macros w.line [] cs else Ok (w ∷ [])

-- the words for which a word stands: those of its macro, where it begins with `$` outside quotes, and else itself
abbrev pub meant : List Macro → Word → Result (List Word) Cause
meant macros w = if w.quoted then Ok (w ∷ []) else meant_by macros w w.text

-- Definitions

abbrev pub begins_use : List ℕ → Bool
begins_use [] = false
begins_use (c ∷ cs) = nat_eq c 36

-- a word out of quotes is no use of a macro: where it looks like one it can't be judged. Its bytes stood in quotes: one with a
-- byte that isn't printed counts as a quoted word
abbrev pub out_of_quotes : Word → Word
out_of_quotes w =
    if w.quoted then w
    else if begins_use w.text then record w { quoted = true; whole = false }
    else if list_all is_printed w.text then w
    else record w { quoted = true; whole = true }

-- the words out of quotes, in which each quote is closed
abbrev pub all_out_of_quotes : List Word → Result (List Word) Cause
all_out_of_quotes [] = Ok []
all_out_of_quotes (w ∷ ws) =
    if w.quoted && not w.whole then Err Syntax else and_then (all_out_of_quotes ws) (λ rest. Ok (out_of_quotes w ∷ rest))

-- what a word adds to a value: the words within its quotes, or itself
abbrev pub value_words : Word → Result (List Word) Cause
value_words w = if w.quoted then all_out_of_quotes (words_of w.line w.text) else Ok (w ∷ [])

-- a value with further words, as definitions have them
abbrev pub with_words : List Word → List Word → Result (List Word) Cause
with_words value [] = Ok value
with_words value (w ∷ ws) = and_then (judged w (value_words w)) (λ more. with_words (value ++ more) ws)

abbrev pub value_read : List Macro → List Word → List Word → Result (List Word) Cause
value_read macros value [] = Ok value
value_read macros value (w ∷ ws) = and_then (judged w (and_then (meant macros w) (with_words value))) (λ next. value_read macros next ws)

-- the bytes of words with a blank ahead of each
abbrev pub size_with_blanks : List Word → ℕ
size_with_blanks [] = 0
size_with_blanks (w ∷ ws) = 1 + length w.text + size_with_blanks ws

-- more than 65,536 bytes, with a blank between words
abbrev pub is_too_large : List Word → Bool
is_too_large ws = nat_lt 65537 (size_with_blanks ws)

-- the checks of a definition
abbrev pub value_checks : List Word → Checks
value_checks ws = record { left_out = false; backward = false; shape = false; expand = is_too_large ws }

-- the value that words define, of which there is at least one
abbrev pub value_defined : List Macro → List Word → Result (List Word) Cause
value_defined macros [] = Err Syntax
value_defined macros (w ∷ ws) = and_then (value_read macros [] (w ∷ ws)) (λ value. checked (value_checks value) value)

-- the macros with a name that stands for these words from now on
abbrev pub with_macro : List ℕ → List Word → List Macro → List Macro
with_macro name words [] = record { name = name; words = words } ∷ []
with_macro name words (m ∷ ms) =
    if bytes_eq name m.name then record { name = m.name; words = words } ∷ ms else m ∷ with_macro name words ms
