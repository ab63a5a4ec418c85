-- The words of statements (pf.conf(5)).
use Rattle.std.specs.Prelude.{ℕ, Bool, ◌||◌, Option, is_some, List, [], ◌∷◌, codes, if◌then◌else◌}
use Rattle.std.specs.List.{list_any}
use Rattle.std.specs.Str.{bytes_eq}
use Rattle.fws_num.specs.Named.{named_in}
use Rattle.fws_net.specs.declared.cause.Cause.{Cause}
use Rattle.fws_net.specs.declared.cause.Cause.TheVariants.{Syntax, LeftOut}
use Rattle.fws_pf.specs.declared.words.ActionWord.{ActionWord}
use Rattle.fws_pf.specs.declared.words.ActionWord.TheVariants as actions
use Rattle.fws_pf.specs.declared.words.OptionWord.{OptionWord}
use Rattle.fws_pf.specs.declared.words.OptionWord.TheVariants as options

-- words with which rules and translations begin
abbrev pub action_words : List (List ℕ × ActionWord)
action_words =
    (codes "block", actions.Block) ∷ (codes "pass", actions.Pass) ∷ (codes "rdr", actions.Rdr) ∷ (codes "nat", actions.Nat) ∷ []

unfoldable pub action_word : List ℕ → Option ActionWord
action_word text = named_in action_words text

-- options of filter rules
abbrev pub option_words : List (List ℕ × OptionWord)
option_words =
    (codes "flags", options.Flags) ∷ (codes "icmp-type", options.IcmpType) ∷ (codes "keep", options.Keep) ∷ (codes "modulate", options.Keep) ∷
    (codes "no", options.NoState) ∷ (codes "tag", options.Tag) ∷ (codes "tagged", options.Tagged) ∷ (codes "label", options.Label) ∷ []

unfoldable pub option_word : List ℕ → Option OptionWord
option_word text = named_in option_words text

-- keywords that are neither actions nor options
abbrev pub other_words : List (List ℕ)
other_words =
    codes "drop" ∷ codes "return" ∷ codes "return-rst" ∷ codes "return-icmp" ∷ codes "in" ∷ codes "out" ∷ codes "log" ∷ codes "all" ∷
    codes "quick" ∷ codes "on" ∷ codes "inet" ∷ codes "proto" ∷ codes "from" ∷ codes "to" ∷ codes "port" ∷ codes "any" ∷ codes "self" ∷
    codes "state" ∷ codes "bitmask" ∷ codes "static-port" ∷ codes "table" ∷ codes "persist" ∷ codes "const" ∷ codes "set" ∷ codes "skip" ∷
    codes "scrub" ∷ []

unfoldable pub is_other_word : List ℕ → Bool
is_other_word text = list_any (bytes_eq text) other_words

-- a keyword of pf
abbrev pub is_keyword : List ℕ → Bool
is_keyword text = is_some (action_word text) || is_some (option_word text) || is_other_word text

-- why a word is refused that stands where a keyword may stand, and isn't one of those that may
abbrev pub misplaced : List ℕ → Cause
misplaced text = if is_keyword text then Syntax else LeftOut
