-- What uses of macros do to a value.
use Rattle.std.specs.Prelude.{◌≡◌, ℕ, List}
use Rattle.fws_num.specs.declared.word.Word.{Word}
use Rattle.fws_pf.specs.declared.macros.Macro.{Macro}
use Rattle.fws_pf.specs.declared.value_draft.Item.{Item}
use Rattle.fws_pf.specs.Values.{Setting}
use Rattle.fws_pf_words.specs.declared.known_uses.Source.{Source}
use Rattle.fws_pf_words.specs.declared.known_uses.Source.TheVariants as sources
use Rattle.fws_pf_words.specs.declared.known_uses.KnownUses.{KnownUses}
use Rattle.fws_pf_words.specs.Uses.{all_but_last, words_named}
use Rattle.fws_pf_words.specs.WaysKnown.{AreWays}

-- what stands for a name, without its last word
abbrev pub front_named : List Macro → List ℕ → List Word
front_named macros name = all_but_last (words_named macros name)

-- what is known of uses is so among these macros, in a list with these items
abbrev pub AreUses : Setting → List Macro → List Item → KnownUses → Type 0
AreUses setting macros items uses =
    AreWays setting (words_named macros) items uses.wholes.ways.entries × AreWays setting (front_named macros) items uses.fronts.ways.entries

-- the words come from there
abbrev pub ArePiece : List Macro → Source → List ℕ → List Word → Type 0
ArePiece macros sources.Whole name words = words_named macros name ≡ words
ArePiece macros sources.Front name words = front_named macros name ≡ words
ArePiece macros sources.Other name words = Unit {0}
