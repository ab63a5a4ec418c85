-- The words of rules and of instances (ipfw(8)).
use Rattle.std.specs.Prelude.{ℕ, Bool, false, ◌||◌, Option, is_some, List, [], ◌∷◌, codes, if◌then◌else◌}
use Rattle.std.specs.List.{list_any}
use Rattle.std.specs.Str.{bytes_eq}
use Rattle.fws_num.specs.Named.{named_in}
use Rattle.fws_num.specs.Numbers.{is_digit}
use Rattle.fws_net.specs.declared.cause.Cause.{Cause}
use Rattle.fws_net.specs.declared.cause.Cause.TheVariants.{Syntax, LeftOut}
use Rattle.fws_ipfw.specs.declared.words.ActionWord.{ActionWord}
use Rattle.fws_ipfw.specs.declared.words.ActionWord.TheVariants as actions
use Rattle.fws_ipfw.specs.declared.words.TestOption.{TestOption}
use Rattle.fws_ipfw.specs.declared.words.TestOption.TheVariants as tests
use Rattle.fws_ipfw.specs.declared.words.NatWord.{NatWord}
use Rattle.fws_ipfw.specs.declared.words.NatWord.TheVariants as options

-- actions of rules
abbrev pub action_words : List (List ℕ × ActionWord)
action_words =
    (codes "allow", actions.Allow) ∷ (codes "accept", actions.Allow) ∷ (codes "pass", actions.Allow) ∷ (codes "permit", actions.Allow) ∷
    (codes "deny", actions.Deny) ∷ (codes "drop", actions.Deny) ∷ (codes "reject", actions.Deny) ∷ (codes "reset", actions.Deny) ∷
    (codes "unreach", actions.Unreach) ∷ (codes "count", actions.Count) ∷ (codes "skipto", actions.SkipTo) ∷ (codes "nat", actions.Nat) ∷
    (codes "check-state", actions.CheckState) ∷ []

-- an action of a rule
unfoldable pub action_word : List ℕ → Option ActionWord
action_word text = named_in action_words text

-- options that test a packet
abbrev pub test_options : List (List ℕ × TestOption)
test_options =
    (codes "in", tests.In) ∷ (codes "out", tests.Out) ∷ (codes "recv", tests.Recv) ∷ (codes "xmit", tests.Xmit) ∷ (codes "via", tests.Via) ∷
    (codes "setup", tests.Setup) ∷ (codes "established", tests.Established) ∷ (codes "tcpflags", tests.TcpFlags) ∷
    (codes "icmptypes", tests.IcmpTypes) ∷ (codes "src-port", tests.SourcePort) ∷ (codes "dst-port", tests.DestinationPort) ∷
    (codes "tagged", tests.Tagged) ∷ []

-- an option that tests a packet
unfoldable pub test_option : List ℕ → Option TestOption
test_option text = named_in test_options text

-- options of instances
abbrev pub nat_words : List (List ℕ × NatWord)
nat_words =
    (codes "ip", options.Address) ∷ (codes "if", options.Interface) ∷ (codes "log", options.Plain) ∷ (codes "same_ports", options.Plain) ∷
    (codes "reset", options.Plain) ∷ (codes "redirect_port", options.RedirectPort) ∷ (codes "redirect_addr", options.RedirectAddress) ∷ []

-- an option of an instance
unfoldable pub nat_word : List ℕ → Option NatWord
nat_word text = named_in nat_words text

-- keywords that are neither actions nor options of tests or instances
abbrev pub other_words : List (List ℕ)
other_words =
    codes "ipfw" ∷ codes "-q" ∷ codes "-f" ∷ codes "add" ∷ codes "flush" ∷ codes "config" ∷ codes "logamount" ∷ codes "tag" ∷ codes "untag" ∷
    codes "all" ∷ codes "from" ∷ codes "to" ∷ codes "not" ∷ codes "any" ∷ codes "me" ∷ codes "keep-state" ∷ codes ":default" ∷ []

-- another keyword
unfoldable pub is_other_word : List ℕ → Bool
is_other_word text = list_any (bytes_eq text) other_words

-- a keyword of ipfw
abbrev pub is_keyword : List ℕ → Bool
is_keyword text = is_some (action_word text) || is_some (test_option text) || is_some (nat_word text) || is_other_word text

abbrev pub begins_with_digit : List ℕ → Bool
begins_with_digit [] = false
begins_with_digit (c ∷ cs) = is_digit c

-- why a word is refused that stands where a keyword may stand, and isn't one of those that may
abbrev pub misplaced : List ℕ → Cause
misplaced text = if is_keyword text then Syntax else LeftOut

-- why one is refused that stands where a value may stand too
abbrev pub misspelled : List ℕ → Cause
misspelled text = if begins_with_digit text then Syntax else misplaced text
