-- What words that stand for names add to values, as definitions have them.
use Rattle.std.specs.Prelude.{◌≡◌, ℕ, Some, Ok, List, []}
use Rattle.std.specs.Map.{lookup}
use Rattle.std.specs.Str.{bytes_eq}
use Rattle.fws_num.specs.declared.word.Word.{Word}
use Rattle.fws_pf.specs.declared.macros.Macro.{Macro}
use Rattle.fws_pf.specs.Macros.{with_words}
use Rattle.fws_pf_words.specs.declared.defined.UseAdditions.{UseAdditions}
use Rattle.fws_pf_words.specs.Uses.{words_named}
use Rattle.fws_pf_words.specs.UsesKnown.{front_named}

-- what is known of each name is what its words add
abbrev pub AreAdditions : (List ℕ → List Word) → List (List ℕ × List Word) → Type 0
AreAdditions words_of entries = (name : List ℕ) (more : List Word) → lookup (bytes_eq name) entries ≡ Some more → with_words [] (words_of name) ≡ Ok more

-- it is so among these macros
abbrev pub AreUseAdditions : List Macro → UseAdditions → Type 0
AreUseAdditions macros uses =
    AreAdditions (words_named macros) uses.wholes.known.entries × AreAdditions (front_named macros) uses.fronts.known.entries
