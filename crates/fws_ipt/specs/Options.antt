-- The words of a rule (iptables(8), iptables-extensions(8)).
use Rattle.std.specs.Prelude.{ℕ, Bool, true, false, Option, Some, List, [], ◌∷◌, codes}
use Rattle.std.specs.List.{list_any}
use Rattle.std.specs.Option.{option_map, option_map_or}
use Rattle.std.specs.Str.{bytes_eq}
use Rattle.fws_num.specs.Named.{named_in}
use Rattle.fws_ipt.specs.declared.words.Keyword.{Keyword}
use Rattle.fws_ipt.specs.declared.words.Keyword.TheVariants.{Not, Match, Jump, Goto, Comment, Limit, Line, Test, Target}
use Rattle.fws_ipt.specs.declared.words.TestOption.{TestOption}
use Rattle.fws_ipt.specs.declared.words.TestOption.TheVariants as tests
use Rattle.fws_ipt.specs.declared.words.TargetOption.{TargetOption}
use Rattle.fws_ipt.specs.declared.words.TargetOption.TheVariants as options
use Rattle.fws_ipt.specs.declared.words.TargetWord.{TargetWord}
use Rattle.fws_ipt.specs.declared.words.TargetWord.TheVariants as targets

-- Options

-- options that test a packet
abbrev pub test_options : List (List ℕ × TestOption)
test_options =
    (codes "-s", tests.Source) ∷ (codes "-d", tests.Destination) ∷ (codes "-i", tests.InInterface) ∷ (codes "-o", tests.OutInterface) ∷
    (codes "-p", tests.Protocol) ∷ (codes "--sport", tests.SourcePort) ∷ (codes "--dport", tests.DestinationPort) ∷
    (codes "--sports", tests.SourcePorts) ∷ (codes "--dports", tests.DestinationPorts) ∷ (codes "--tcp-flags", tests.TcpFlags) ∷
    (codes "--syn", tests.Syn) ∷ (codes "--icmp-type", tests.IcmpType) ∷ (codes "--state", tests.State) ∷
    (codes "--ctstate", tests.ConnectionState) ∷ (codes "--mark", tests.Mark) ∷ (codes "--src-range", tests.SourceRange) ∷
    (codes "--dst-range", tests.DestinationRange) ∷ (codes "--src-type", tests.SourceType) ∷ (codes "--dst-type", tests.DestinationType) ∷ []

-- an option that tests a packet
unfoldable pub test_option : List ℕ → Option TestOption
test_option text = named_in test_options text

-- options of targets
abbrev pub target_options : List (List ℕ × TargetOption)
target_options =
    (codes "--reject-with", options.RejectWith) ∷ (codes "--log-prefix", options.LogPrefix) ∷ (codes "--log-level", options.LogLevel) ∷
    (codes "--log-tcp-sequence", options.LogTcpSequence) ∷ (codes "--log-tcp-options", options.LogTcpOptions) ∷
    (codes "--log-ip-options", options.LogIpOptions) ∷ (codes "--log-uid", options.LogUid) ∷ (codes "--nflog-group", options.NflogGroup) ∷
    (codes "--nflog-prefix", options.NflogPrefix) ∷ (codes "--set-xmark", options.SetXmark) ∷ (codes "--set-mark", options.SetMark) ∷
    (codes "--to-source", options.ToSource) ∷ (codes "--to-destination", options.ToDestination) ∷ (codes "--to-ports", options.ToPorts) ∷
    (codes "--to", options.ToNetwork) ∷ []

-- an option of a target
unfoldable pub target_option : List ℕ → Option TargetOption
target_option text = named_in target_options text

-- keywords that are no options of tests or targets
abbrev pub other_keywords : List (List ℕ × Keyword)
other_keywords =
    (codes "!", Not) ∷ (codes "-m", Match) ∷ (codes "-j", Jump) ∷ (codes "-g", Goto) ∷ (codes "--comment", Comment) ∷ (codes "--limit", Limit) ∷
    (codes "--limit-burst", Limit) ∷ (codes "-A", Line) ∷ (codes "COMMIT", Line) ∷ []

-- a keyword that is no option of a test or a target
unfoldable pub other_keyword : List ℕ → Option Keyword
other_keyword text = named_in other_keywords text

-- the keyword that a word is, if it is one
abbrev pub keyword_of : List ℕ → Option Keyword
keyword_of text =
    option_map_or Some (option_map Test (test_option text))
    (option_map_or Some (other_keyword text) (option_map Target (target_option text)))

-- Modules and targets

-- the text is one of the names
abbrev pub is_one_of : List (List ℕ) → List ℕ → Bool
is_one_of names text = list_any (bytes_eq text) names

-- modules whose options are read
abbrev pub modules : List (List ℕ)
modules =
    codes "tcp" ∷ codes "udp" ∷ codes "icmp" ∷ codes "multiport" ∷ codes "state" ∷ codes "conntrack" ∷ codes "mark" ∷
    codes "iprange" ∷ codes "addrtype" ∷ codes "comment" ∷ codes "limit" ∷ []

-- a module whose options are read
unfoldable pub is_module : List ℕ → Bool
is_module text = is_one_of modules text

-- targets that are read
abbrev pub target_words : List (List ℕ × TargetWord)
target_words =
    (codes "ACCEPT", targets.Accept) ∷ (codes "DROP", targets.Drop) ∷ (codes "RETURN", targets.Return) ∷ (codes "REJECT", targets.Reject) ∷
    (codes "LOG", targets.Log) ∷ (codes "NFLOG", targets.Nflog) ∷ (codes "MARK", targets.Mark) ∷ (codes "SNAT", targets.Source) ∷
    (codes "DNAT", targets.Destination) ∷ (codes "MASQUERADE", targets.Masquerade) ∷ (codes "REDIRECT", targets.Redirect) ∷
    (codes "NETMAP", targets.Netmap) ∷ []

-- a target that is read
unfoldable pub target_word : List ℕ → Option TargetWord
target_word text = named_in target_words text

-- targets that are left out
abbrev pub left_out_targets : List (List ℕ)
left_out_targets =
    codes "CHECKSUM" ∷ codes "CLASSIFY" ∷ codes "CONNMARK" ∷ codes "CT" ∷ codes "DSCP" ∷ codes "HL" ∷
    codes "NFQUEUE" ∷ codes "NOTRACK" ∷ codes "QUEUE" ∷ codes "SECMARK" ∷ codes "SET" ∷ codes "TCPMSS" ∷ codes "TEE" ∷
    codes "TOS" ∷ codes "TPROXY" ∷ codes "TRACE" ∷ codes "TTL" ∷ codes "ULOG" ∷ []

-- a target that is left out
unfoldable pub is_left_out_target : List ℕ → Bool
is_left_out_target text = is_one_of left_out_targets text

-- the option is one of the target's
abbrev pub belongs : TargetOption → TargetWord → Bool
belongs options.RejectWith targets.Reject = true
belongs options.LogPrefix targets.Log = true
belongs options.LogLevel targets.Log = true
belongs options.LogTcpSequence targets.Log = true
belongs options.LogTcpOptions targets.Log = true
belongs options.LogIpOptions targets.Log = true
belongs options.LogUid targets.Log = true
belongs options.NflogGroup targets.Nflog = true
belongs options.NflogPrefix targets.Nflog = true
belongs options.SetXmark targets.Mark = true
belongs options.SetMark targets.Mark = true
belongs options.ToSource targets.Source = true
belongs options.ToDestination targets.Destination = true
belongs options.ToPorts targets.Redirect = true
belongs options.ToNetwork targets.Netmap = true
belongs _ _ = false

-- SNAT, DNAT, NETMAP and MARK need one of their options
abbrev pub needs_option : TargetWord → Bool
needs_option targets.Mark = true
needs_option targets.Source = true
needs_option targets.Destination = true
needs_option targets.Netmap = true
needs_option _ = false
