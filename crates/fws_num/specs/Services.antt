-- Ports as they are spelled: numbers and names of services.
use Rattle.std.specs.Prelude.{ℕ, ◌&&◌, nat_eq, Option, Some, None, is_some, List, [], ◌∷◌, ◌++◌, codes, if◌then◌else◌}
use Rattle.std.specs.Option.{option_map_or}
use Rattle.fws_num.specs.Named.{named_in}
use Rattle.fws_num.specs.Numbers.{dec_of}

-- services and their ports, as services(5) has them from IANA's registry of service names; netbios-ss, lpd, rip and non500-isakmp
-- are of Cisco IOS
abbrev pub service_names : List (List ℕ × ℕ)
service_names =
    (codes "ftp-data", 20) ∷ (codes "ftp", 21) ∷ (codes "ssh", 22) ∷ (codes "telnet", 23) ∷ (codes "smtp", 25) ∷
    (codes "domain", 53) ∷ (codes "bootps", 67) ∷ (codes "bootpc", 68) ∷ (codes "tftp", 69) ∷
    (codes "http", 80) ∷ (codes "www", 80) ∷ (codes "pop3", 110) ∷ (codes "ident", 113) ∷ (codes "nntp", 119) ∷
    (codes "ntp", 123) ∷ (codes "netbios-ns", 137) ∷ (codes "netbios-dgm", 138) ∷ (codes "netbios-ss", 139) ∷
    (codes "imap", 143) ∷ (codes "snmp", 161) ∷ (codes "snmptrap", 162) ∷ (codes "bgp", 179) ∷
    (codes "https", 443) ∷ (codes "smtps", 465) ∷ (codes "isakmp", 500) ∷ (codes "syslog", 514) ∷
    (codes "lpd", 515) ∷ (codes "rip", 520) ∷ (codes "imaps", 993) ∷ (codes "pop3s", 995) ∷
    (codes "non500-isakmp", 4500) ∷ []

-- the port of a service
unfoldable pub service_of : List ℕ → Option ℕ
service_of name = named_in service_names name

-- a port: a decimal 0 to 65535 or the name of a service
abbrev pub port_of : List ℕ → Option ℕ
port_of text = option_map_or Some (dec_of text 65535) (service_of text)

-- both ports, if both are spelled
abbrev pub both_ports : List ℕ → List ℕ → Option (ℕ × ℕ)
both_ports a b = option_map_or (λ lo. option_map_or (λ hi. Some (lo, hi)) (port_of b) None) (port_of a) None

-- two ports with the byte between; it may be part of a service's name too. The bytes of the front were passed
abbrev pub ports_behind : List ℕ → ℕ → List ℕ → Option (ℕ × ℕ)
ports_behind front divider [] = None
ports_behind front divider (c ∷ cs) =
    if nat_eq c divider && is_some (both_ports front cs) then both_ports front cs else ports_behind (front ++ c ∷ []) divider cs

-- two ports with the byte between
abbrev pub ports_between : ℕ → List ℕ → Option (ℕ × ℕ)
ports_between divider text = ports_behind [] divider text
