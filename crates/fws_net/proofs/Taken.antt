-- Lines of words that are taken one after the other.
use Rattle.std.proofs.Common.{◌≡◌, ℕ, suc, true, cond, ◌&&◌, not, nat_eq, nat_le, Ok, Err, List, [], ◌∷◌, ◌++◌, map, length, refl, ap, ◌∙◌}
use Rattle.std.proofs.lemmas.Bool.{and_parts, and_from}
use Rattle.std.specs.List.{list_all}
use Rattle.fws_num.specs.declared.comments.Comments.TheVariants.{HashLine}
use Rattle.fws_num.specs.Words.{is_printed, is_sound, plain_word}
use Rattle.fws_num.specs.Written.{is_plain_byte, is_plain, is_clear, is_writable, lines_written}
use Rattle.fws_net.specs.declared.cause.SiteCause.TheVariants.{Syntax}
use Rattle.fws_net.specs.declared.draft.Draft.{Draft}
use Rattle.fws_net.specs.Reading.{and_then, located, lines_read}
use Rattle.fws_net.specs.SiteLines.{words_step, line_step}
use Rattle.fws_net.specs.SiteSpelling.{written}
use Rattle.fws_net.proofs.SpelledWords.{if_true}

-- the words of a line, wherever it stands
abbrev pub IsTaken : List (List ℕ) → Draft → Draft → Type 0
IsTaken ws d e = (n : ℕ) → words_step (map (plain_word n) ws) d ≡ Ok e

-- the lines make the second draft of the first
pub data AreTaken : Draft → List (List (List ℕ)) → Draft → Type 0 where
  none_taken : {d : Draft} → AreTaken d [] d
  next_taken : {d e f : Draft} {ws : List (List ℕ)} {lines : List (List (List ℕ))} → IsTaken ws d e → AreTaken e lines f → AreTaken d (ws ∷ lines) f

pub taken_append : (d e f : Draft) (xs ys : List (List (List ℕ))) → AreTaken d xs e → AreTaken e ys f → AreTaken d (xs ++ ys) f
taken_append d e f xs ys none_taken k = k
taken_append d e f xs ys (next_taken {e = next} {lines = lines} h more) k = next_taken h (taken_append next e f lines ys more k)

-- a draft that takes the first line as another does
pub taken_as : (d e f : Draft) (ws : List (List ℕ)) (lines : List (List (List ℕ))) → ((n : ℕ) → words_step (map (plain_word n) ws) d ≡ words_step (map (plain_word n) ws) e)
    → AreTaken e (ws ∷ lines) f → AreTaken d (ws ∷ lines) f
taken_as d e f ws lines same (next_taken h more) = next_taken (λ n. same n ∙ h n) more

plain_sound : (text : List ℕ) → list_all is_plain_byte text ≡ true → list_all is_printed text ≡ true
plain_sound [] h = refl
plain_sound (c ∷ text) h =
    let parts = and_parts (is_plain_byte c) (list_all is_plain_byte text) h in
    and_from (is_printed c) (list_all is_printed text) (and_parts (is_printed c) (not (nat_eq c 34)) parts.0).0 (plain_sound text parts.1)

words_sound : (n : ℕ) (ws : List (List ℕ)) → list_all is_plain ws ≡ true → list_all is_sound (map (plain_word n) ws) ≡ true
words_sound n [] h = refl
words_sound n (w ∷ ws) h =
    let parts = and_parts (is_plain w) (list_all is_plain ws) h in
    let bytes = and_parts (nat_le 1 (length w)) (list_all is_plain_byte w) parts.0 in
    and_from (list_all is_printed w) (list_all is_sound (map (plain_word n) ws)) (plain_sound w bytes.1) (words_sound n ws parts.1)

-- plain words that are taken are read
pub taken_read : (d e : Draft) (lines : List (List (List ℕ))) → AreTaken d lines e → list_all (is_writable HashLine) (map written lines) ≡ true
    → (n : ℕ) → lines_read line_step d (lines_written n (map written lines)) ≡ Ok e
taken_read d e lines none_taken h n = refl
taken_read d e lines (next_taken {e = next} {ws = ws} {lines = rest} taken more) h n =
    let parts = and_parts (is_writable HashLine (written ws)) (list_all (is_writable HashLine) (map written rest)) h in
    let front = and_parts (nat_le 1 (length ws) && list_all is_plain ws) (is_clear HashLine (written ws)) parts.0 in
    let plain = and_parts (nat_le 1 (length ws)) (list_all is_plain ws) front.0 in
    let step : cond (list_all is_sound (map (plain_word n) ws)) (words_step (map (plain_word n) ws) d) (Err Syntax) ≡ Ok next =
    if_true (list_all is_sound (map (plain_word n) ws)) (words_step (map (plain_word n) ws) d) (Err Syntax) (words_sound n ws plain.1) ∙ taken n in
    ap (λ o. and_then (located n o) (λ s. lines_read line_step s (lines_written (suc n) (map written rest)))) step ∙ taken_read next e rest more parts.1 (suc n)
