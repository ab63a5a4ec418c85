-- How far words say which table they define, and which interfaces a value names.
use Rattle.std.specs.Prelude.{ℕ, ◌+◌, Bool, true, false, Option, Some, None, List, [], ◌∷◌, ◌++◌, codes, if◌then◌else◌}
use Rattle.std.specs.Str.{bytes_eq}
use Rattle.fws_iv.specs.declared.iv.Iv.{Iv}
use Rattle.fws_num.specs.declared.word.Word.{Word}
use Rattle.fws_rules.specs.Literals.{one}
use Rattle.fws_pf.specs.Statements.{is_mark}
use Rattle.fws_pf.specs.Values.{from_below, is_any_mark}
use Rattle.fws_pf_words.specs.declared.defining.Defining.{Defining}
use Rattle.fws_pf_words.specs.declared.defining.Stage.{Stage}
use Rattle.fws_pf_words.specs.declared.defining.Stage.TheVariants as stages

-- on to the next word, if this one fits
abbrev pub staged : Bool → Stage → Defining → Defining
staged fits next d = record d { stage = if fits then next else stages.Other }

-- a name, which is no punctuation
abbrev pub named : Bool → List ℕ → Defining → Defining
named mark text d = if mark then record d { stage = stages.Other } else record { stage = stages.Close; name = text }

abbrev pub word_seen : Stage → Word → Defining → Defining
word_seen stages.Table w d = staged (bytes_eq w.text (codes "table")) stages.Open d
word_seen stages.Open w d = staged (is_mark w (codes "<")) stages.Name d
word_seen stages.Name w d = named (is_any_mark w) w.text d
word_seen stages.Close w d = staged (is_mark w (codes ">")) stages.Whole d
word_seen stages.Whole w d = d
word_seen stages.Other w d = d

abbrev pub defining_step : Word → Defining → Defining
defining_step w d = word_seen d.stage w d

abbrev pub words_seen : Defining → List Word → Defining
words_seen d [] = d
words_seen d (w ∷ ws) = words_seen (defining_step w d) ws

abbrev pub name_at : Stage → List ℕ → Option (List ℕ)
name_at stages.Table name = None
name_at stages.Open name = None
name_at stages.Name name = None
name_at stages.Close name = None
name_at stages.Whole name = Some name
name_at stages.Other name = None

-- the name of the table that was defined
abbrev pub name_of : Defining → Option (List ℕ)
name_of d = name_at d.stage d.name

-- ahead of all words
abbrev pub undefined : Defining
undefined = record { stage = stages.Table; name = [] }

-- no further word changes it
abbrev pub is_over : Stage → Bool
is_over stages.Table = false
is_over stages.Open = false
is_over stages.Name = false
is_over stages.Close = false
is_over stages.Whole = true
is_over stages.Other = true

-- an interface, or all others up to the last one
abbrev pub entry_ranges : ℕ → Bool → Option ℕ → List Iv
entry_ranges last negated None = []
entry_ranges last negated (Some entry) = if negated then from_below 1 entry ++ from_below (entry + 1) (last + 1) else one entry entry
