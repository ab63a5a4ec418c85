-- The lines of a text, with their numbers and words.
use Rattle.std.specs.Prelude.{ℕ, suc, Bool, false, nat_eq, List, [], ◌∷◌, ◌++◌, length, if◌then◌else◌}
use Rattle.std.specs.Str.Lines.{strip_carriage_return}
use Rattle.fws_num.specs.declared.lines.Line.{Line}
use Rattle.fws_num.specs.declared.lines.Lines.{Lines}
use Rattle.fws_num.specs.declared.word.Word.{Word}
use Rattle.fws_num.specs.declared.comments.Comments.{Comments}
use Rattle.fws_num.specs.Comments.{uncommented}
use Rattle.fws_num.specs.Words.{is_blank, words_of}

-- what is left behind the last line feed is a line, unless it is empty
abbrev pub last_line : List ℕ → List (List ℕ)
last_line [] = []
last_line (b ∷ line) = (b ∷ line) ∷ []

-- the lines from here on, of which the current one has begun with the bytes; a carriage return before a line feed is ignored
abbrev pub lines_from : List ℕ → List ℕ → List (List ℕ)
lines_from line [] = last_line line
lines_from line (c ∷ cs) = if nat_eq c 10 then strip_carriage_return line ∷ lines_from [] cs else lines_from (line ++ c ∷ []) cs

-- the lines of a text
abbrev pub lines_of : List ℕ → List (List ℕ)
lines_of text = lines_from [] text

-- the line begins with a blank
abbrev pub is_indented : List ℕ → Bool
is_indented [] = false
is_indented (c ∷ cs) = is_blank c

-- the line of these words, if it has any
abbrev pub line_of : ℕ → Bool → List Word → List Line
line_of n indented [] = []
line_of n indented (w ∷ ws) = record { number = n; indented = indented; words = w ∷ ws } ∷ []

-- a line as it is read, without its comment; one without words is skipped
abbrev pub read_line : Comments → ℕ → List ℕ → List Line
read_line kind n bytes = line_of n (is_indented bytes) (words_of n (uncommented kind bytes))

-- the lines that are read, numbered from n on
abbrev pub numbered : Comments → ℕ → List (List ℕ) → List Line
numbered kind n [] = []
numbered kind n (l ∷ ls) = read_line kind n l ++ numbered kind (suc n) ls

-- the lines of a text that have words outside comments, and the number past its last line
abbrev pub read_of : Comments → List ℕ → Lines
read_of kind text = record { lines = numbered kind 1 (lines_of text); past = suc (length (lines_of text)) }
