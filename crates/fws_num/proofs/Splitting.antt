-- The lines of a text by its first line feed.
use Rattle.std.proofs.Common.{◌≡◌, ℕ, suc, Bool, true, false, cond, nat_eq, ◌+◌, Option, Some, None, List, [], ◌∷◌, ◌++◌, length, ◌<◌, append_assoc, add-one, ap, sym, ◌∙◌, refl, arith}
use Rattle.std.proofs.lemmas.List.{append-nil}
use Rattle.std.specs.Option.{option_map}
use Rattle.std.specs.Str.Lines.{strip_carriage_return}
use Rattle.fws_num.specs.Numbers.{split_once}
use Rattle.fws_num.specs.declared.lines.Line.{Line}
use Rattle.fws_num.specs.declared.comments.Comments.{Comments}
use Rattle.fws_num.specs.declared.word.Word.{Word}
use Rattle.fws_num.specs.Comments.{uncommented}
use Rattle.fws_num.specs.Words.{words_of}
use Rattle.fws_num.specs.Lines.{is_indented, line_of, lines_from, lines_of, last_line, numbered, read_line}

-- the lines that a first part and the text behind it make
abbrev pub lines_at : List ℕ → List ℕ → Option (List ℕ × List ℕ) → List (List ℕ)
lines_at line text None = last_line (line ++ text)
lines_at line text (Some parts) = strip_carriage_return (line ++ parts.0) ∷ lines_from [] parts.1

lines_at-more : (line : List ℕ) (c : ℕ) (cs : List ℕ) (o : Option (List ℕ × List ℕ)) → lines_at (line ++ c ∷ []) cs o ≡ lines_at line (c ∷ cs) (option_map (λ parts. (c ∷ parts.0, parts.1)) o)
lines_at-more line c cs None = ap last_line (append_assoc line (c ∷ []) cs)
lines_at-more line c cs (Some parts) = ap (λ l. strip_carriage_return l ∷ lines_from [] parts.1) (append_assoc line (c ∷ []) parts.0)

lines_from-byte : (b : Bool) (line : List ℕ) (c : ℕ) (cs : List ℕ) → lines_from (line ++ c ∷ []) cs ≡ lines_at (line ++ c ∷ []) cs (split_once 10 cs)
    → cond b (strip_carriage_return line ∷ lines_from [] cs) (lines_from (line ++ c ∷ []) cs)
    ≡ lines_at line (c ∷ cs) (cond b (Some ([], cs)) (option_map (λ parts. (c ∷ parts.0, parts.1)) (split_once 10 cs)))
lines_from-byte true line c cs h = ap (λ l. strip_carriage_return l ∷ lines_from [] cs) (sym (append-nil line))
lines_from-byte false line c cs h = h ∙ lines_at-more line c cs (split_once 10 cs)

pub lines_from-split : (line text : List ℕ) → lines_from line text ≡ lines_at line text (split_once 10 text)
lines_from-split line [] = ap last_line (sym (append-nil line))
lines_from-split line (c ∷ cs) = lines_from-byte (nat_eq c 10) line c cs (lines_from-split (line ++ c ∷ []) cs)

-- what is left behind a byte is shorter
abbrev IsShorter : Option (List ℕ × List ℕ) → ℕ → Type 0
IsShorter None n = Unit {0}
IsShorter (Some parts) n = length parts.1 < n

IsShorter-more : (b : Bool) (c : ℕ) (cs : List ℕ) (o : Option (List ℕ × List ℕ)) → IsShorter o (length cs)
    → IsShorter (cond b (Some ([], cs)) (option_map (λ parts. (c ∷ parts.0, parts.1)) o)) (suc (length cs))
IsShorter-more true c cs o h = omega arith
IsShorter-more false c cs None h = tt
IsShorter-more false c cs (Some parts) h = omega arith

split_once-shorter_any : (byte : ℕ) (text : List ℕ) → IsShorter (split_once byte text) (length text)
split_once-shorter_any byte [] = tt
split_once-shorter_any byte (c ∷ cs) = IsShorter-more (nat_eq c byte) c cs (split_once byte cs) (split_once-shorter_any byte cs)

pub split_once-shorter : (byte : ℕ) (text before behind : List ℕ) → split_once byte text ≡ Some (before, behind) → length behind < length text
split_once-shorter byte text before behind h = rw h at (split_once-shorter_any byte text)

pub lines_of-line : (text before behind : List ℕ) → split_once 10 text ≡ Some (before, behind) → lines_of text ≡ strip_carriage_return before ∷ lines_of behind
lines_of-line text before behind h = lines_from-split [] text ∙ ap (lines_at [] text) h

pub lines_of-last : (text : List ℕ) → split_once 10 text ≡ None → lines_of text ≡ last_line text
lines_of-last text h = lines_from-split [] text ∙ ap (lines_at [] text) h

-- a line that was read, and those that are left
pub line_read : (kind : Comments) (lines new all : List Line) (n m : ℕ) (line : List ℕ) (left behind : List (List ℕ)) → left ≡ line ∷ behind → new ≡ lines ++ read_line kind n line → m ≡ n + 1
    → lines ++ numbered kind n left ≡ all → new ++ numbered kind m behind ≡ all
line_read kind lines new all n m line left behind e f g h =
    rw (f, g, add-one) (append_assoc lines (read_line kind n line) (numbered kind (suc n) behind) ∙ rw e at h)

-- the last line was read
pub lines_ended : (kind : Comments) (lines new : List Line) (n past : ℕ) (rest text : List ℕ) → split_once 10 rest ≡ None → new ≡ lines ++ numbered kind n (last_line rest) → past ≡ n + length (last_line rest)
    → lines ++ numbered kind n (lines_of rest) ≡ numbered kind 1 (lines_of text) → n + length (lines_of rest) ≡ 1 + length (lines_of text)
    → (new ≡ numbered kind 1 (lines_of text)) × (past ≡ suc (length (lines_of text)))
lines_ended kind lines new n past rest text e f g h k =
    let left = lines_of-last rest e in
    (f ∙ rw left at h, omega (arith, ap length left))

pub line_of_some : (n : ℕ) (indented : Bool) (ws : List Word) → 0 < length ws
    → line_of n indented ws ≡ record { number = n; indented = indented; words = ws } ∷ []
line_of_some n indented [] h = absurd (omega arith)
line_of_some n indented (w ∷ ws) h = refl

-- a line is put that has words outside its comment
pub line_put : (kind : Comments) (lines new : List Line) (n : ℕ) (indented : Bool) (bytes : List ℕ) (ws : List Word) → indented ≡ is_indented bytes
    → ws ≡ words_of n (uncommented kind bytes) → 0 < length ws
    → new ≡ lines ++ record { number = n; indented = indented; words = ws } ∷ [] → new ≡ lines ++ read_line kind n bytes
line_put kind lines new n indented bytes ws h e k f =
    f ∙ ap (λ l. lines ++ l) (sym (line_of_some n indented ws k) ∙ ap (line_of n indented) e ∙ ap (λ b. line_of n b (words_of n (uncommented kind bytes))) h)
