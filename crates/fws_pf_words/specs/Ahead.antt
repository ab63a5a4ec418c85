-- What was read of a statement, and what is left.
use Rattle.std.specs.Prelude.{ℕ, List, ◌++◌}
use Rattle.fws_num.specs.declared.lines.Line.{Line}
use Rattle.fws_num.specs.declared.word.Word.{Word}
use Rattle.fws_pf.specs.Statements.{joined, joined_with, read_statements, words_from}
use Rattle.fws_pf_words.specs.declared.statements.StatementReader.{StatementReader}
use Rattle.fws_pf_words.specs.declared.statements.WordReader.{WordReader}

-- the words of a statement that was read so far, and of what is left of it
abbrev pub words_ahead : WordReader → List ℕ → List Word
words_ahead reader rest = reader.words.items ++ words_from reader.line reader.mode reader.text rest

-- the statements of a text that was read so far, and of the lines that are left of it
abbrev pub statements_ahead : StatementReader → List (List ℕ) → List Line
statements_ahead reader ls = reader.lines ++ read_statements (joined_with reader.first reader.text (joined reader.number ls))
