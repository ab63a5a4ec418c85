-- Statements of joined lines.
use Rattle.std.proofs.Common.{◌≡◌, ℕ, suc, ◌+◌, ◌<◌, Bool, Option, Some, None, List, [], ◌∷◌, ◌++◌, length, append_assoc, add-one, ap, sym, ◌∙◌, refl, arith}
use Rattle.std.proofs.lemmas.List.{append-nil}
use Rattle.std.specs.Option.{option_map_or}
use Rattle.std.specs.Str.Lines.{strip_carriage_return}
use Rattle.fws_num.specs.declared.lines.Line.{Line}
use Rattle.fws_num.specs.declared.lines.Lines.{Lines}
use Rattle.fws_num.specs.declared.comments.Comments.TheVariants.{Pf}
use Rattle.fws_num.specs.declared.word.Word.{Word}
use Rattle.fws_num.specs.Comments.{uncommented}
use Rattle.fws_num.specs.Lines.{is_indented, line_of, last_line, lines_of}
use Rattle.fws_num.specs.Numbers.{split_once}
use Rattle.fws_rules.specs.Interfaces.{before_mark}
use Rattle.fws_pf.specs.Statements.{joined, joined_with, read_statement, read_statements, statements_of, words_of}
use Rattle.fws_pf_words.specs.declared.statements.StatementReader.{StatementReader}
use Rattle.fws_pf_words.specs.Ahead.{statements_ahead}
use Rattle.fws_pf_words.proofs.Splitting.{line_first, line_kept, line_last}

-- a statement is put that has words
pub statement_put : (lines new : List Line) (n : ℕ) (indented : Bool) (bytes : List ℕ) (ws : List Word) → indented ≡ is_indented bytes
    → ws ≡ words_of n (uncommented Pf bytes) → 0 < length ws
    → new ≡ lines ++ record { number = n; indented = indented; words = ws } ∷ [] → new ≡ lines ++ read_statement n bytes
statement_put lines new n indented bytes ws h e k f =
    f ∙ ap (λ l. lines ++ l) (sym (line_kept n indented ws k) ∙ ap (line_of n indented) e ∙ ap (λ b. line_of n b (words_of n (uncommented Pf bytes))) h)

-- nothing that has begun changes nothing
marked : (o : Option (List ℕ)) (m : ℕ) (l : List ℕ) (s : List (ℕ × List ℕ))
    → joined_with m [] (option_map_or (λ front. joined_with m front s) o ((m, l) ∷ s)) ≡ option_map_or (λ front. joined_with m front s) o ((m, l) ∷ s)
marked None m l s = refl
marked (Some front) m l [] = refl
marked (Some front) m l (t ∷ ts) = refl

pub nothing_begun : (m : ℕ) (ls : List (List ℕ)) → read_statements (joined_with m [] (joined m ls)) ≡ read_statements (joined m ls)
nothing_begun m [] = refl
nothing_begun m (l ∷ ls) = ap read_statements (marked (before_mark 92 l) m l (joined (suc m) ls))

-- a line goes on
twice_joined : (k n : ℕ) (text front : List ℕ) (s : List (ℕ × List ℕ)) → joined_with k (text ++ front) s ≡ joined_with k text (joined_with n front s)
twice_joined k n text front [] = refl
twice_joined k n text front (t ∷ ts) = ap (λ b. (k, b) ∷ ts) (append_assoc text front t.1)

pub went_on : (old new : StatementReader) (line front : List ℕ) (next : ℕ) (rest : List (List ℕ)) → before_mark 92 line ≡ Some front → next ≡ old.number + 1
    → new ≡ record old { text = old.text ++ front; number = next } → statements_ahead new rest ≡ statements_ahead old (line ∷ rest)
went_on old new line front next rest e n h =
    ap (λ r. statements_ahead r rest) h
    ∙ ap (λ b. old.lines ++ read_statements b)
    (ap (λ m. joined_with old.first (old.text ++ front) (joined m rest)) (n ∙ add-one old.number)
    ∙ twice_joined old.first old.number old.text front (joined (suc old.number) rest)
    ∙ ap (λ o. joined_with old.first old.text (option_map_or (λ f. joined_with old.number f (joined (suc old.number) rest)) o ((old.number, line) ∷ joined (suc old.number) rest))) (sym e))

-- a line ends
pub went_to_end : (old new : StatementReader) (line : List ℕ) (next : ℕ) (rest : List (List ℕ)) → before_mark 92 line ≡ None → next ≡ old.number + 1
    → new ≡ record old { lines = old.lines ++ read_statement old.first (old.text ++ line); first = next; text = []; number = next }
    → statements_ahead new rest ≡ statements_ahead old (line ∷ rest)
went_to_end old new line next rest e n h =
    let here = read_statement old.first (old.text ++ line) in
    ap (λ r. statements_ahead r rest) h
    ∙ append_assoc old.lines here (read_statements (joined_with next [] (joined next rest)))
    ∙ ap (λ ls. old.lines ++ (here ++ ls)) (nothing_begun next rest ∙ ap (λ m. read_statements (joined m rest)) (n ∙ add-one old.number))
    ∙ ap (λ o. old.lines ++ read_statements (joined_with old.first old.text (option_map_or (λ f. joined_with old.number f (joined (suc old.number) rest)) o ((old.number, line) ∷ joined (suc old.number) rest)))) (sym e)

-- the end of a text
pub all_ended : (reader : StatementReader) (lines : List Line) → lines ≡ reader.lines ++ read_statement reader.first reader.text
    → lines ≡ statements_ahead reader []
all_ended reader lines h = h ∙ ap (λ l. reader.lines ++ l) (sym (append-nil (read_statement reader.first reader.text)))

pub text_ended : (rest text : List ℕ) (reader last : StatementReader) (result : Lines) → split_once 10 rest ≡ None
    → statements_ahead last [] ≡ statements_ahead reader (last_line rest) → last.number ≡ reader.number + length (last_line rest)
    → result ≡ record { lines = statements_ahead last []; past = last.number }
    → statements_ahead reader (lines_of rest) ≡ read_statements (joined 1 (lines_of text)) → reader.number + length (lines_of rest) ≡ 1 + length (lines_of text)
    → result ≡ statements_of text
text_ended rest text reader last result e f g r h k =
    let left = line_last rest e in
    let past : last.number ≡ suc (length (lines_of text)) = omega (arith, ap length left) in
    r ∙ (λ i. record { lines = (f ∙ ap (statements_ahead reader) (sym left) ∙ h) i; past = past i })

-- ahead of the first line
pub all_left : (reader : StatementReader) (ls : List (List ℕ)) → reader.lines ≡ [] → reader.first ≡ 1 → reader.text ≡ [] → reader.number ≡ 1
    → statements_ahead reader ls ≡ read_statements (joined 1 ls)
all_left reader ls a f t n = (λ i. a i ++ read_statements (joined_with (f i) (t i) (joined (n i) ls))) ∙ nothing_begun 1 ls

-- a line that ends was taken
pub line_taken : (old new : StatementReader) (rest line behind taken : List ℕ) (all : List Line) → split_once 10 rest ≡ Some (line, behind)
    → taken ≡ strip_carriage_return line → statements_ahead new (lines_of behind) ≡ statements_ahead old (taken ∷ lines_of behind)
    → statements_ahead old (lines_of rest) ≡ all → statements_ahead new (lines_of behind) ≡ all
line_taken old new rest line behind taken all e t h k =
    h ∙ ap (λ l. statements_ahead old (l ∷ lines_of behind)) t ∙ ap (statements_ahead old) (sym (line_first rest line behind e)) ∙ k

pub line_counted : (old new total : ℕ) (rest line behind : List ℕ) → split_once 10 rest ≡ Some (line, behind) → new ≡ old + 1
    → old + length (lines_of rest) ≡ total → new + length (lines_of behind) ≡ total
line_counted old new total rest line behind e n h = omega (arith, ap length (line_first rest line behind e))

pub last_taken : (old new : StatementReader) (bytes : List ℕ) → 0 < length bytes → statements_ahead new [] ≡ statements_ahead old (bytes ∷ [])
    → statements_ahead new [] ≡ statements_ahead old (last_line bytes)
last_taken old new [] h e = absurd (omega arith)
last_taken old new (b ∷ bs) h e = e
