-- The lines of a text by its first line feed.
use Rattle.std.proofs.Common.{◌≡◌, ℕ, suc, Bool, true, false, cond, nat_eq, Option, Some, None, List, [], ◌∷◌, ◌++◌, length, ◌<◌, append_assoc, ap, sym, ◌∙◌, refl, arith}
use Rattle.std.proofs.lemmas.List.{append-nil}
use Rattle.std.specs.Option.{option_map}
use Rattle.std.specs.Str.Lines.{strip_carriage_return}
use Rattle.fws_num.specs.Numbers.{split_once}
use Rattle.fws_num.specs.declared.word.Word.{Word}
use Rattle.fws_num.specs.Lines.{line_of, lines_from, lines_of, last_line}

-- the lines that a first part and the text behind it make
abbrev lines_at : List ℕ → List ℕ → Option (List ℕ × List ℕ) → List (List ℕ)
lines_at line text None = last_line (line ++ text)
lines_at line text (Some parts) = strip_carriage_return (line ++ parts.0) ∷ lines_from [] parts.1

with_byte : (line : List ℕ) (c : ℕ) (cs : List ℕ) (o : Option (List ℕ × List ℕ)) →
    lines_at (line ++ c ∷ []) cs o ≡ lines_at line (c ∷ cs) (option_map (λ parts. (c ∷ parts.0, parts.1)) o)
with_byte line c cs None = ap last_line (append_assoc line (c ∷ []) cs)
with_byte line c cs (Some parts) = ap (λ l. strip_carriage_return l ∷ lines_from [] parts.1) (append_assoc line (c ∷ []) parts.0)

by_byte : (b : Bool) (line : List ℕ) (c : ℕ) (cs : List ℕ) → lines_from (line ++ c ∷ []) cs ≡ lines_at (line ++ c ∷ []) cs (split_once 10 cs) →
    cond b (strip_carriage_return line ∷ lines_from [] cs) (lines_from (line ++ c ∷ []) cs)
    ≡ lines_at line (c ∷ cs) (cond b (Some ([], cs)) (option_map (λ parts. (c ∷ parts.0, parts.1)) (split_once 10 cs)))
by_byte true line c cs h = ap (λ l. strip_carriage_return l ∷ lines_from [] cs) (sym (append-nil line))
by_byte false line c cs h = h ∙ with_byte line c cs (split_once 10 cs)

lines_split : (line text : List ℕ) → lines_from line text ≡ lines_at line text (split_once 10 text)
lines_split line [] = ap last_line (sym (append-nil line))
lines_split line (c ∷ cs) = by_byte (nat_eq c 10) line c cs (lines_split (line ++ c ∷ []) cs)

pub line_first : (text before behind : List ℕ) → split_once 10 text ≡ Some (before, behind) → lines_of text ≡ strip_carriage_return before ∷ lines_of behind
line_first text before behind h = lines_split [] text ∙ ap (lines_at [] text) h

pub line_last : (text : List ℕ) → split_once 10 text ≡ None → lines_of text ≡ last_line text
line_last text h = lines_split [] text ∙ ap (lines_at [] text) h

-- what is left behind a byte is shorter
abbrev IsShorter : Option (List ℕ × List ℕ) → ℕ → Type 0
IsShorter None n = Unit {0}
IsShorter (Some parts) n = length parts.1 < n

shorter_with_byte : (b : Bool) (c : ℕ) (cs : List ℕ) (o : Option (List ℕ × List ℕ)) → IsShorter o (length cs) →
    IsShorter (cond b (Some ([], cs)) (option_map (λ parts. (c ∷ parts.0, parts.1)) o)) (suc (length cs))
shorter_with_byte true c cs o h = omega arith
shorter_with_byte false c cs None h = tt
shorter_with_byte false c cs (Some parts) h = omega arith

is_shorter : (byte : ℕ) (text : List ℕ) → IsShorter (split_once byte text) (length text)
is_shorter byte [] = tt
is_shorter byte (c ∷ cs) = shorter_with_byte (nat_eq c byte) c cs (split_once byte cs) (is_shorter byte cs)

pub behind_shorter : (byte : ℕ) (text before behind : List ℕ) → split_once byte text ≡ Some (before, behind) → length behind < length text
behind_shorter byte text before behind h = rw h at (is_shorter byte text)

-- a line with words is kept
pub line_kept : (n : ℕ) (indented : Bool) (ws : List Word) → 0 < length ws → line_of n indented ws ≡ record { number = n; indented = indented; words = ws } ∷ []
line_kept n indented [] h = absurd (omega arith)
line_kept n indented (w ∷ ws) h = refl
