-- How a text is read line by line, for each kind of text with causes of its own: its value, or its first refused line.
use Rattle.std.specs.Prelude.{◌≡◌, ℕ, Bool, Result, Ok, Err, List, [], ◌∷◌, ◌++◌, if◌then◌else◌}
use Rattle.fws_num.specs.declared.comments.Comments.{Comments}
use Rattle.fws_num.specs.declared.lines.Line.{Line}
use Rattle.fws_num.specs.declared.lines.Lines.{Lines}
use Rattle.fws_num.specs.Lines.{read_of}
use Rattle.fws_net.specs.declared.answer.LineFault.{LineFault}
use Rattle.fws_net.specs.declared.answer.LineFault.TheVariants as faults
use Rattle.fws_net.specs.declared.answer.TextAnswer.{TextAnswer}
use Rattle.fws_net.specs.declared.answer.TextAnswer.TheVariants as answers

-- a refused line and why
pub record Refusal (C : Type 0) : Type 0 where
  pub line : ℕ
  pub cause : C

-- goes on with what was read
abbrev pub and_then : {A B E : Type 0} → Result A E → (A → Result B E) → Result B E
and_then (Ok x) f = f x
and_then (Err e) f = Err e

infixl 10 ◌>>=◌
abbrev pub ◌>>=◌ : {A B E : Type 0} → Result A E → (A → Result B E) → Result B E
read >>= f = and_then read f

-- what is read of words that can be judged; a word with a bad byte or an open quote gives this cause, whatever it would be
abbrev pub sound_read : {A C : Type 0} → C → Bool → Result A C → Result A C
sound_read syntax sound read = if sound then read else Err syntax

-- what was read of a line, with its number where it is refused
abbrev pub located : {A C : Type 0} → ℕ → Result A C → Result A (Refusal C)
located n (Ok x) = Ok x
located n (Err cause) = Err (record { line = n; cause = cause })

-- the lines from first to last; the first that is refused decides
abbrev pub lines_read : {S C : Type 0} → (S → Line → Result S C) → S → List Line → Result S (Refusal C)
lines_read step state [] = Ok state
lines_read step state (l ∷ ls) = and_then (located l.number (step state l)) (λ next. lines_read step next ls)

-- the lines, and then what their end makes of them; a text that ends too early is refused past its last line
abbrev pub lines_ended : {S A C : Type 0} → (S → Line → Result S C) → (S → Result A C) → S → Lines → Result A (Refusal C)
lines_ended step finished start ls = and_then (lines_read step start ls.lines) (λ state. located ls.past (finished state))

-- what a text spells, whose comments are of this kind
abbrev pub text_read : {S A C : Type 0} → Comments → (S → Line → Result S C) → (S → Result A C) → S → List ℕ → Result A (Refusal C)
text_read kind step finished start text = lines_ended step finished start (read_of kind text)

-- What a reader returned is what reading gives, unless memory ran out

abbrev pub FaultGiven : {Y C : Type 0} → LineFault C → Result Y C → Type 0
FaultGiven (faults.Bad cause) read = read ≡ Err cause
FaultGiven faults.Memory read = Unit {0}

-- a value read of words
abbrev pub CauseGiven : {X C : Type 0} → Result X (LineFault C) → Result X C → Type 0
CauseGiven (Ok x) read = read ≡ Ok x
CauseGiven (Err fault) read = FaultGiven fault read

-- a state that was changed by words or by a line
abbrev pub StepGiven : {X C : Type 0} → Result (Unit {0}) (LineFault C) → X → Result X C → Type 0
StepGiven (Ok done) new read = read ≡ Ok new
StepGiven (Err fault) new read = FaultGiven fault read

abbrev pub AnswerGiven : {Y C : Type 0} → TextAnswer C → Result Y (Refusal C) → Type 0
AnswerGiven (answers.Refused line cause) read = read ≡ Err (record { line = line; cause = cause })
AnswerGiven answers.Memory read = Unit {0}

-- a value read of a text
abbrev pub ReadGiven : {X C : Type 0} → Result X (TextAnswer C) → Result X (Refusal C) → Type 0
ReadGiven (Ok x) read = read ≡ Ok x
ReadGiven (Err answer) read = AnswerGiven answer read

-- a state that was changed by lines
abbrev pub LinesGiven : {X C : Type 0} → Result (Unit {0}) (TextAnswer C) → X → Result X (Refusal C) → Type 0
LinesGiven (Ok done) new read = read ≡ Ok new
LinesGiven (Err answer) new read = AnswerGiven answer read

-- The first refused line, as a relation over lines

-- the lines ahead are read one after the other, and make the state a of the state s
pub data AreRead {S C : Type 0} (step : S → Line → Result S C) : S → List Line → S → Type 0 where
  none_left : {s : S} → AreRead step s [] s
  next_read : {s t a : S} {l : Line} {ls : List Line} → step s l ≡ Ok t → AreRead step t ls a → AreRead step s (l ∷ ls) a

-- a line is refused by itself, at its number and for its cause, and every line ahead of it is read
pub record IsFirstRefused {S C : Type 0} (step : S → Line → Result S C) (start : S) (ls : List Line) (r : Refusal C) : Type 0 where
  pub ahead : List Line
  pub refused : Line
  pub behind : List Line
  pub reached : S
  pub divides : ls ≡ ahead ++ refused ∷ behind
  pub read : AreRead step start ahead reached
  pub number : r.line ≡ refused.number
  pub by_itself : step reached refused ≡ Err r.cause
