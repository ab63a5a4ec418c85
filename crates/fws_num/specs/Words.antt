-- The words of a line: divided by blanks and tabs, or in quotes.
use Rattle.std.specs.Prelude.{ℕ, Bool, true, false, ◌||◌, ◌&&◌, nat_eq, nat_le, List, [], ◌∷◌, ◌++◌, if◌then◌else◌}
use Rattle.std.specs.List.{list_all}
use Rattle.fws_num.specs.declared.word.Word.{Word}
use Rattle.fws_num.specs.declared.word.Mode.{Mode}
use Rattle.fws_num.specs.declared.word.Reader.{Reader}
use Rattle.fws_num.specs.declared.word.Mode.TheVariants.{Between, Plain, Quoted, Escaped}

-- a space or a tab
abbrev pub is_blank : ℕ → Bool
is_blank c = nat_eq c 32 || nat_eq c 9

abbrev pub plain_word : ℕ → List ℕ → Word
plain_word line text = record { text = text; line = line; quoted = false; whole = true }

abbrev pub quoted_word : ℕ → List ℕ → Word
quoted_word line text = record { text = text; line = line; quoted = true; whole = true }

abbrev pub unclosed_word : ℕ → List ℕ → Word
unclosed_word line text = record { text = text; line = line; quoted = true; whole = false }

-- what a backslash and the byte behind it stand for within quotes: it is taken off before a quote or a backslash
abbrev pub unescaped : ℕ → List ℕ
unescaped c = if nat_eq c 34 || nat_eq c 92 then c ∷ [] else 92 ∷ c ∷ []

-- the words of a line from here on, of which the current one has begun with the text
abbrev pub words_from : ℕ → Mode → List ℕ → List ℕ → List Word
words_from line Between text [] = []
words_from line Plain text [] = plain_word line text ∷ []
words_from line Quoted text [] = unclosed_word line text ∷ []
words_from line Escaped text [] = unclosed_word line (text ++ 92 ∷ []) ∷ []
words_from line Between text (c ∷ cs) =
    if is_blank c then words_from line Between [] cs
    else if nat_eq c 34 then words_from line Quoted [] cs
    else words_from line Plain (c ∷ []) cs
words_from line Plain text (c ∷ cs) =
    if is_blank c then plain_word line text ∷ words_from line Between [] cs else words_from line Plain (text ++ c ∷ []) cs
words_from line Quoted text (c ∷ cs) =
    if nat_eq c 34 then quoted_word line text ∷ words_from line Between [] cs
    else if nat_eq c 92 then words_from line Escaped text cs
    else words_from line Quoted (text ++ c ∷ []) cs
words_from line Escaped text (c ∷ cs) = words_from line Quoted (text ++ unescaped c) cs

-- the words of the line with this number
abbrev pub words_of : ℕ → List ℕ → List Word
words_of line bytes = words_from line Between [] bytes

-- the words of a line that was read so far, and of what is left of it
abbrev pub words_ahead : Reader → List ℕ → List Word
words_ahead reader rest = reader.words.items ++ words_from reader.line reader.mode reader.text rest

-- a byte that may stand outside quotes within a word
abbrev pub is_printed : ℕ → Bool
is_printed c = nat_le 33 c && nat_le c 126

-- a word that can be judged: closed where it is quoted, and else of printed bytes alone
abbrev pub is_sound : Word → Bool
is_sound w = if w.quoted then w.whole else list_all is_printed w.text
