-- Texts that list values, one on a line: the values, or the first line that spells none.
use Rattle.std.specs.Prelude.{◌≡◌, ℕ, Option, Some, None, Result, Ok, Err, List, [], ◌∷◌, ◌++◌, if◌then◌else◌}
use Rattle.std.specs.List.{list_all}
use Rattle.fws_num.specs.declared.comments.Comments.TheVariants.{HashLine}
use Rattle.fws_num.specs.declared.lines.Line.{Line}
use Rattle.fws_num.specs.declared.word.Word.{Word}
use Rattle.fws_num.specs.Lines.{read_of}
use Rattle.fws_num.specs.Words.{is_sound}
use Rattle.fws_trace.specs.declared.answer.LineAnswer.{LineAnswer}
use Rattle.fws_trace.specs.declared.answer.LineAnswer.TheVariants as answers
use Rattle.fws_trace.specs.declared.answer.Malformed.{Malformed}

-- what a line spells; nothing where a word has a bad byte or an open quote
abbrev pub spelled_line : {A : Type 0} → (List Word → Option A) → Line → Option A
spelled_line spelled l = if list_all is_sound l.words then spelled l.words else None

-- the value of a line ahead of those of the later lines; the number of the line where it spells none
abbrev pub listed : {A : Type 0} → ℕ → Option A → Result (List A) ℕ → Result (List A) ℕ
listed n None later = Err n
listed n (Some x) (Ok xs) = Ok (x ∷ xs)
listed n (Some x) (Err m) = Err m

-- the values of the lines in their order, or the number of the first line that spells none
abbrev pub lines_listed : {A : Type 0} → (List Word → Option A) → List Line → Result (List A) ℕ
lines_listed spelled [] = Ok []
lines_listed spelled (l ∷ ls) = listed l.number (spelled_line spelled l) (lines_listed spelled ls)

-- what the lines of a text list, of those that have words and aren't comments
abbrev pub text_listed : {A : Type 0} → (List Word → Option A) → List ℕ → Result (List A) ℕ
text_listed spelled text = lines_listed spelled (read_of HashLine text).lines

-- a refusal has the number of the first line that spells none
abbrev pub IsGiven : {A : Type 0} → LineAnswer → Result (List A) ℕ → Type 0
IsGiven (answers.Refused line) read = read ≡ Err line
IsGiven answers.Memory read = Unit {0}

-- Line by line

-- the list with one more value
abbrev pub with_spelled : {A : Type 0} → List A → Option A → Result (List A) Malformed
with_spelled xs (Some x) = Ok (xs ++ x ∷ [])
with_spelled xs None = Err (record {})

-- the list with what a line spells
abbrev pub line_step : {A : Type 0} → (List Word → Option A) → List A → Line → Result (List A) Malformed
line_step spelled xs l = with_spelled xs (spelled_line spelled l)
