-- A site, and filters of any length at it.
use Rattle.std.specs.Prelude.{ℕ, ◌+◌, ◌*◌, ◌/◌, ◌%◌, List, [], ◌∷◌, ◌++◌, codes}
use Rattle.std.specs.Fmt.{decimal}
use Rattle.std.specs.List.{flat_map, range_with_len}
use Rattle.fws_num.specs.Written.{ended}

-- a router between an inner network and an outer one
unfoldable pub site_text : List ℕ
site_text = ended
    (codes "site 1"
    ∷ codes "interface lan 10.0.0.1/24 ipt=eth0 ipfw=em0 pf=em0 ios=GigabitEthernet0/0 nat=inside"
    ∷ codes "interface wan 203.0.113.2/30 ipt=eth1 ipfw=em1 pf=em1 ios=GigabitEthernet0/1 nat=outside"
    ∷ codes "loopback ipt=lo ipfw=lo0 pf=lo0 ios=Loopback0"
    ∷ codes "default wan"
    ∷ codes "forwarding yes"
    ∷ codes "one_pass 1"
    ∷ [])

-- forwarded are packets of connections, and else just what a rule accepts
abbrev pub front_text : List ℕ
front_text = ended
    (codes "*filter"
    ∷ codes ":INPUT ACCEPT [0:0]"
    ∷ codes ":FORWARD DROP [0:0]"
    ∷ codes ":OUTPUT ACCEPT [0:0]"
    ∷ codes "-A FORWARD -m state --state RELATED,ESTABLISHED -j ACCEPT"
    ∷ [])

-- a number behind its front
abbrev pub numbered : List ℕ → ℕ → List ℕ
numbered front n = front ++ decimal n

-- the line of a rule: packets from a network of its own to a port of its own, in one of 256 networks
abbrev pub rule_line : ℕ → List ℕ
rule_line k =
    numbered (codes "-A FORWARD -s 10.") (k / 256) ++ numbered (codes ".") (k % 256) ++ numbered (codes ".0/24 -d 172.16.") (7 * k % 256)
    ++ numbered (codes ".0/24 -p tcp -m tcp --dport ") (1000 + k) ++ (codes " -j ACCEPT" ++ 10 ∷ [])

-- the filter with this number of rules
unfoldable pub filter_text : ℕ → List ℕ
filter_text n = front_text ++ flat_map rule_line (range_with_len 0 n) ++ codes "COMMIT" ++ 10 ∷ []
