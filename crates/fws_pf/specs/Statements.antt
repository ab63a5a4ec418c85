-- The statements of a text: lines that are joined, and their words and punctuation (pf.conf(5)).
use Rattle.std.specs.Prelude.{ℕ, suc, Bool, false, ◌&&◌, not, nat_eq, List, [], ◌∷◌, ◌++◌, length, codes, if◌then◌else◌}
use Rattle.std.specs.List.{list_any}
use Rattle.std.specs.Option.{option_map_or}
use Rattle.std.specs.Str.{bytes_eq}
use Rattle.fws_num.specs.declared.comments.Comments.TheVariants.{Pf}
use Rattle.fws_num.specs.declared.lines.Line.{Line}
use Rattle.fws_num.specs.declared.lines.Lines.{Lines}
use Rattle.fws_num.specs.declared.word.Word.{Word}
use Rattle.fws_num.specs.Comments.{is_punctuation, uncommented}
use Rattle.fws_num.specs.Lines.{is_indented, line_of, lines_of}
use Rattle.fws_num.specs.Words.{is_blank, plain_word, quoted_word, unclosed_word, unescaped}
use Rattle.fws_rules.specs.Interfaces.{before_mark}
use Rattle.fws_pf.specs.declared.statement.Mode.{Mode}
use Rattle.fws_pf.specs.declared.statement.Mode.TheVariants.{Between, Plain, Quoted, Escaped, Second}

-- Words

-- two bytes that stand as one word
abbrev pub pairs : List (List ℕ)
pairs = codes "->" ∷ codes "><" ∷ codes "<>" ∷ codes "!=" ∷ codes "<=" ∷ codes ">=" ∷ []

-- with the next byte the byte makes such a pair
abbrev pub begins_pair : ℕ → List ℕ → Bool
begins_pair c [] = false
begins_pair c (d ∷ cs) = list_any (bytes_eq (c ∷ d ∷ [])) pairs

-- the words of a statement from here on, of which the current one has begun with the text. Punctuation stands as words of
-- its own, and a quote opens where a word may begin
abbrev pub words_from : ℕ → Mode → List ℕ → List ℕ → List Word
words_from line Between text [] = []
words_from line Plain text [] = plain_word line text ∷ []
words_from line Quoted text [] = unclosed_word line text ∷ []
words_from line Escaped text [] = unclosed_word line (text ++ 92 ∷ []) ∷ []
words_from line (Second a) text [] = []
words_from line Between text (c ∷ cs) =
    if is_blank c then words_from line Between [] cs
    else if nat_eq c 34 then words_from line Quoted [] cs
    else if begins_pair c cs then words_from line (Second c) [] cs
    else if is_punctuation c then plain_word line (c ∷ []) ∷ words_from line Between [] cs
    else words_from line Plain (c ∷ []) cs
words_from line Plain text (c ∷ cs) =
    if is_blank c then plain_word line text ∷ words_from line Between [] cs
    else if begins_pair c cs then plain_word line text ∷ words_from line (Second c) [] cs
    else if is_punctuation c then plain_word line text ∷ plain_word line (c ∷ []) ∷ words_from line Between [] cs
    else words_from line Plain (text ++ c ∷ []) cs
words_from line Quoted text (c ∷ cs) =
    if nat_eq c 34 then quoted_word line text ∷ words_from line Between [] cs
    else if nat_eq c 92 then words_from line Escaped text cs
    else words_from line Quoted (text ++ c ∷ []) cs
words_from line Escaped text (c ∷ cs) = words_from line Quoted (text ++ unescaped c) cs
words_from line (Second a) text (c ∷ cs) = plain_word line (a ∷ c ∷ []) ∷ words_from line Between [] cs

-- the words of a text that stands in the statement of this line
abbrev pub words_of : ℕ → List ℕ → List Word
words_of line bytes = words_from line Between [] bytes

-- the word is this punctuation, which counts outside quotes alone
abbrev pub is_mark : Word → List ℕ → Bool
is_mark w text = not w.quoted && bytes_eq w.text text

-- Lines

-- a front, and behind it what the next line begins; at the end of the text nothing follows
abbrev pub joined_with : ℕ → List ℕ → List (ℕ × List ℕ) → List (ℕ × List ℕ)
joined_with n front [] = (n, front) ∷ []
joined_with n front (next ∷ rest) = (n, front ++ next.1) ∷ rest

-- the statements of lines that are numbered from n on, each with the number of its first line: a backslash at the end of a
-- line joins it with what follows
abbrev pub joined : ℕ → List (List ℕ) → List (ℕ × List ℕ)
joined n [] = []
joined n (l ∷ ls) = option_map_or (λ front. joined_with n front (joined (suc n) ls)) (before_mark 92 l) ((n, l) ∷ joined (suc n) ls)

-- a statement as it is read, without its comment; one without words is skipped
abbrev pub read_statement : ℕ → List ℕ → List Line
read_statement n bytes = line_of n (is_indented bytes) (words_of n (uncommented Pf bytes))

abbrev pub read_statements : List (ℕ × List ℕ) → List Line
read_statements [] = []
read_statements (s ∷ ss) = read_statement s.0 s.1 ++ read_statements ss

-- the statements of a text that have words outside comments, and the number past its last line
abbrev pub statements_of : List ℕ → Lines
statements_of text = record { lines = read_statements (joined 1 (lines_of text)); past = suc (length (lines_of text)) }
