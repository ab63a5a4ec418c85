-- The words of a running configuration (Cisco IOS).
use Rattle.std.specs.Prelude.{ℕ, Bool, false, ◌||◌, Option, is_some, List, [], ◌∷◌, codes, if◌then◌else◌}
use Rattle.std.specs.List.{list_any}
use Rattle.std.specs.Str.{bytes_eq}
use Rattle.fws_num.specs.Named.{named_in}
use Rattle.fws_num.specs.Numbers.{is_digit}
use Rattle.fws_net.specs.declared.cause.Cause.{Cause}
use Rattle.fws_net.specs.declared.cause.Cause.TheVariants.{Syntax, LeftOut}
use Rattle.fws_ios.specs.declared.words.PortWord.{PortWord}
use Rattle.fws_ios.specs.declared.words.PortWord.TheVariants as ports

abbrev pub is : List ℕ → List ℕ → Bool
is text word = bytes_eq text word

-- how ports are compared
abbrev pub port_words : List (List ℕ × PortWord)
port_words =
    (codes "eq", ports.Equal) ∷ (codes "neq", ports.Unequal) ∷ (codes "lt", ports.Less) ∷ (codes "gt", ports.Greater) ∷
    (codes "range", ports.Range) ∷ []

unfoldable pub port_word : List ℕ → Option PortWord
port_word text = named_in port_words text

-- keywords that compare no ports
abbrev pub other_words : List (List ℕ)
other_words =
    codes "interface" ∷ codes "ip" ∷ codes "access-group" ∷ codes "in" ∷ codes "out" ∷ codes "nat" ∷ codes "inside" ∷ codes "outside" ∷
    codes "access-list" ∷ codes "standard" ∷ codes "extended" ∷ codes "remark" ∷ codes "permit" ∷ codes "deny" ∷ codes "evaluate" ∷
    codes "any" ∷ codes "host" ∷ codes "established" ∷ codes "reflect" ∷ codes "timeout" ∷ codes "log" ∷ codes "log-input" ∷ codes "pool" ∷
    codes "netmask" ∷ codes "prefix-length" ∷ codes "source" ∷ codes "list" ∷ codes "overload" ∷ codes "static" ∷ codes "extendable" ∷ []

unfoldable pub is_other_word : List ℕ → Bool
is_other_word text = list_any (bytes_eq text) other_words

-- a keyword of Cisco IOS
abbrev pub is_keyword : List ℕ → Bool
is_keyword text = is_some (port_word text) || is_other_word text

abbrev pub begins_with_digit : List ℕ → Bool
begins_with_digit [] = false
begins_with_digit (c ∷ cs) = is_digit c

-- why a word is refused that stands where a keyword may stand, and isn't one of those that may
abbrev pub misplaced : List ℕ → Cause
misplaced text = if is_keyword text then Syntax else LeftOut

-- why one is refused that stands where a value may stand too
abbrev pub misspelled : List ℕ → Cause
misspelled text = if begins_with_digit text then Syntax else misplaced text
