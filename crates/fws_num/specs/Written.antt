-- Lines and words as they are written, and that they are read as what was written.
use Rattle.std.specs.Prelude.{◌≡◌, ℕ, suc, Bool, true, false, ◌||◌, ◌&&◌, not, nat_eq, nat_le, List, [], ◌∷◌, ◌++◌, length, map, if◌then◌else◌}
use Rattle.std.specs.List.{list_all, join_with_byte}
use Rattle.fws_num.specs.declared.lines.Line.{Line}
use Rattle.fws_num.specs.declared.comments.Comments.{Comments}
use Rattle.fws_num.specs.declared.comments.Comments.TheVariants.{HashLine, Pf, Ipfw, Ios}
use Rattle.fws_num.specs.Comments.{begins_hash, begins_slashes, is_exclamation}
use Rattle.fws_num.specs.Lines.{lines_of, read_of}
use Rattle.fws_num.specs.Numbers.{lacks}
use Rattle.fws_num.specs.Words.{is_printed, plain_word, words_of}

-- a byte of a word without quotes: printed, and no quote
abbrev pub is_plain_byte : ℕ → Bool
is_plain_byte c = is_printed c && not (nat_eq c 34)

-- a word that stands without quotes: not empty, and of such bytes alone
abbrev pub is_plain : List ℕ → Bool
is_plain word = nat_le 1 (length word) && list_all is_plain_byte word

-- the words with one blank between
abbrev pub spaced : List (List ℕ) → List ℕ
spaced words = join_with_byte 32 words

-- a line as it is written: whether it begins with a blank, and its words
pub record Written : Type 0 where
  pub indented : Bool
  pub words : List (List ℕ)

-- the bytes of a written line
abbrev pub line_bytes : Written → List ℕ
line_bytes line = if line.indented then 32 ∷ spaced line.words else spaced line.words

-- the lines, each with a line feed behind it
abbrev pub ended : List (List ℕ) → List ℕ
ended [] = []
ended (line ∷ lines) = line ++ 10 ∷ ended lines

-- the text of written lines
abbrev pub text_of : List Written → List ℕ
text_of lines = ended (map line_bytes lines)

-- the first of the words; empty where there are none
abbrev pub first_word : List (List ℕ) → List ℕ
first_word [] = []
first_word (word ∷ words) = word

-- two slashes in a row stand in the text
abbrev pub has_slashes : List ℕ → Bool
has_slashes [] = false
has_slashes (c ∷ cs) = begins_slashes (c ∷ cs) || has_slashes cs

-- no comment begins in the line
abbrev pub is_clear : Comments → Written → Bool
is_clear HashLine line = not (begins_hash (first_word line.words))
is_clear Ios line = line.indented || not (is_exclamation (first_word line.words))
is_clear Pf line = list_all (lacks 35) line.words
is_clear Ipfw line = list_all (λ word. lacks 35 word && not (has_slashes word)) line.words

-- a line that is read as what was written: it has words, all plain, and no comment
abbrev pub is_writable : Comments → Written → Bool
is_writable kind line = nat_le 1 (length line.words) && list_all is_plain line.words && is_clear kind line

-- the lines as they are read, numbered from n on
abbrev pub lines_written : ℕ → List Written → List Line
lines_written n [] = []
lines_written n (line ∷ lines) =
    record { number = n; indented = line.indented; words = map (plain_word n) line.words } ∷ lines_written (suc n) lines

-- the last byte is this one
abbrev pub ends_in : ℕ → List ℕ → Bool
ends_in byte [] = false
ends_in byte (c ∷ []) = nat_eq c byte
ends_in byte (c ∷ d ∷ cs) = ends_in byte (d ∷ cs)

-- it can be one line of a text: it has no line feed, and no carriage return at its end
abbrev pub is_one_line : List ℕ → Bool
is_one_line line = lacks 10 line && not (ends_in 13 line)

-- plain words with a blank between are read as they are
abbrev pub WordsAreRead : Type 0
WordsAreRead = (n : ℕ) (ws : List (List ℕ)) → list_all is_plain ws ≡ true → words_of n (spaced ws) ≡ map (plain_word n) ws

-- lines with a line feed behind each are read as they are
abbrev pub LinesAreRead : Type 0
LinesAreRead = (ls : List (List ℕ)) → list_all is_one_line ls ≡ true → lines_of (ended ls) ≡ ls

-- a text of writable lines is read as those lines
abbrev pub TextsAreRead : Type 0
TextsAreRead = (kind : Comments) (ls : List Written) → list_all (is_writable kind) ls ≡ true
    → read_of kind (text_of ls) ≡ record { lines = lines_written 1 ls; past = suc (length ls) }
