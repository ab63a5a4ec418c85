-- Reading line by line gives what the lines list.
use Rattle.std.proofs.Common.{◌≡◌, ℕ, Option, Some, None, Result, Ok, Err, List, [], ◌∷◌, ◌++◌, refl, sym, ◌∙◌, ap, subst, append_assoc}
use Rattle.std.proofs.lemmas.List.{append-nil}
use Rattle.fws_num.specs.declared.comments.Comments.TheVariants.{HashLine}
use Rattle.fws_num.specs.declared.lines.Line.{Line}
use Rattle.fws_num.specs.declared.word.Word.{Word}
use Rattle.fws_num.specs.Lines.{read_of}
use Rattle.fws_net.specs.declared.answer.TextAnswer.{TextAnswer}
use Rattle.fws_net.specs.declared.answer.TextAnswer.TheVariants as texts
use Rattle.fws_net.specs.Reading.{Refusal, AnswerGiven, ReadGiven, and_then, located, lines_read, text_read}
use Rattle.fws_trace.specs.declared.answer.LineAnswer.{LineAnswer}
use Rattle.fws_trace.specs.declared.answer.LineAnswer.TheVariants as answers
use Rattle.fws_trace.specs.declared.answer.Malformed.{Malformed}
use Rattle.fws_trace.specs.Lines.{spelled_line, listed, lines_listed, text_listed, IsGiven, with_spelled, line_step}

-- what is listed behind some values, as reading gives it
abbrev behind : {A : Type 0} → List A → Result (List A) ℕ → Result (List A) (Refusal Malformed)
behind xs (Ok ys) = Ok (xs ++ ys)
behind xs (Err n) = Err (record { line = n; cause = record {} })

one_more : {A : Type 0} (xs : List A) (n : ℕ) (x : A) (later : Result (List A) ℕ) → behind (xs ++ x ∷ []) later ≡ behind xs (listed n (Some x) later)
one_more xs n x (Ok ys) = ap Ok (append_assoc xs (x ∷ []) ys)
one_more xs n x (Err m) = refl

next_line : {A : Type 0} (spelled : List Word → Option A) (xs : List A) (n : ℕ) (o : Option A) (ls : List Line)
    → ((ys : List A) → lines_read (line_step spelled) ys ls ≡ behind ys (lines_listed spelled ls))
    → and_then (located n (with_spelled xs o)) (λ next. lines_read (line_step spelled) next ls) ≡ behind xs (listed n o (lines_listed spelled ls))
next_line spelled xs n None ls later = refl
next_line spelled xs n (Some x) ls later = later (xs ++ x ∷ []) ∙ one_more xs n x (lines_listed spelled ls)

by_lines : {A : Type 0} (spelled : List Word → Option A) (ls : List Line) (xs : List A) → lines_read (line_step spelled) xs ls ≡ behind xs (lines_listed spelled ls)
by_lines spelled [] xs = ap Ok (sym (append-nil xs))
by_lines spelled (l ∷ ls) xs = next_line spelled xs l.number (spelled_line spelled l) ls (by_lines spelled ls)

ended : {A : Type 0} (past : ℕ) (r : Result (List A) ℕ) (s : Result (List A) (Refusal Malformed)) → s ≡ behind [] r
    → and_then s (λ state. located past (Ok state)) ≡ behind [] r
ended past (Ok ys) s e = ap (λ t. and_then t (λ state. located past (Ok state))) e
ended past (Err n) s e = ap (λ t. and_then t (λ state. located past (Ok state))) e

by_text : {A : Type 0} (spelled : List Word → Option A) (text : List ℕ) → text_read HashLine (line_step spelled) (λ xs. Ok xs) [] text ≡ behind [] (text_listed spelled text)
by_text spelled text = ended (read_of HashLine text).past (text_listed spelled text) (lines_read (line_step spelled) [] (read_of HashLine text).lines)
    (by_lines spelled (read_of HashLine text).lines [])

listed_all : {A : Type 0} (r : Result (List A) ℕ) (xs : List A) → behind [] r ≡ Ok xs → r ≡ Ok xs
listed_all (Ok ys) xs e = let same : ys ≡ xs = cc in ap Ok same
listed_all (Err n) xs e = absurd (cc)

abbrev line_of : {A : Type 0} → Result (List A) (Refusal Malformed) → ℕ
line_of (Ok ys) = 0
line_of (Err r) = r.line

refused_at : {A : Type 0} (r : Result (List A) ℕ) (line : ℕ) (cause : Malformed) → behind [] r ≡ Err (record { line = line; cause = cause }) → r ≡ Err line
refused_at (Ok ys) line cause e = absurd (cc)
refused_at (Err n) line cause e = ap Err (ap line_of e)

-- a text that is read lists these values
pub accepted : {A : Type 0} (spelled : List Word → Option A) (text : List ℕ) (read : Result (List A) (TextAnswer Malformed)) (xs items : List A) → read ≡ Ok xs
    → ReadGiven read (text_read HashLine (line_step spelled) (λ ys. Ok ys) [] text) → items ≡ xs → text_listed spelled text ≡ Ok items
accepted {A} spelled text read xs items is given same = listed_all (text_listed spelled text) items
    (sym (by_text spelled text) ∙ subst (λ (r : Result (List A) (TextAnswer Malformed)). ReadGiven r (text_read HashLine (line_step spelled) (λ ys. Ok ys) [] text)) is given
    ∙ ap Ok (sym same))

refusal : {A : Type 0} (spelled : List Word → Option A) (text : List ℕ) (answer : TextAnswer Malformed) (told : LineAnswer)
    → AnswerGiven answer (text_read HashLine (line_step spelled) (λ ys. Ok ys) [] text)
    → ((line : ℕ) (cause : Malformed) → answer ≡ texts.Refused line cause → told ≡ answers.Refused line)
    → (answer ≡ texts.Memory → told ≡ answers.Memory)
    → IsGiven told (text_listed spelled text)
refusal spelled text (texts.Refused line cause) told given is_line is_memory =
    subst (λ t. IsGiven t (text_listed spelled text)) (sym (is_line line cause refl)) (refused_at (text_listed spelled text) line cause (sym (by_text spelled text) ∙ given))
refusal spelled text texts.Memory told given is_line is_memory = subst (λ t. IsGiven t (text_listed spelled text)) (sym (is_memory refl)) tt

-- a text that is refused lists none, for its first line that spells none
pub refused : {A : Type 0} (spelled : List Word → Option A) (text : List ℕ) (read : Result (List A) (TextAnswer Malformed)) (answer : TextAnswer Malformed) (told : LineAnswer)
    → read ≡ Err answer → ReadGiven read (text_read HashLine (line_step spelled) (λ ys. Ok ys) [] text)
    → ((line : ℕ) (cause : Malformed) → answer ≡ texts.Refused line cause → told ≡ answers.Refused line)
    → (answer ≡ texts.Memory → told ≡ answers.Memory)
    → IsGiven told (text_listed spelled text)
refused {A} spelled text read answer told is given = refusal spelled text answer told
    (subst (λ (r : Result (List A) (TextAnswer Malformed)). ReadGiven r (text_read HashLine (line_step spelled) (λ ys. Ok ys) [] text)) is given)
