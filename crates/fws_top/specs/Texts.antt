-- The fixed texts of the program, and how long a file may be.
use Rattle.std.specs.Prelude.{ℕ, List, [], ◌∷◌, ◌++◌, codes}

-- the greatest number of bytes of a file
abbrev pub file_limit : ℕ
file_limit = 4194304

-- what is written where the words are no form of the command line
abbrev pub usage_text : List ℕ
usage_text = codes "usage: fws synth|query|translate|trace|load|site2|run|same|dead" ++ 10 ∷ []

-- what `--version` writes
abbrev pub version_text : List ℕ
version_text = codes "fws 0.1.0" ++ 10 ∷ []

-- what `--help` writes
abbrev pub help_text : List ℕ
help_text =
    codes "fws synth LANG SITE FILE new|est                  the table of what the configuration FILE does at the site SITE to new or established "
    ++ codes "packets" ++ 10 ∷
    codes "fws query LANG SITE FILE new|est [FIELD=SET ..]   the rows of that table for the packets that the words ask for" ++ 10 ∷
    codes "fws translate FROM TO SITE FILE                   what FILE does, written in the language TO; or packets that show why TO can't hold it" ++ 10 ∷
    codes "fws trace LANG SITE FILE CONNS PACKETS            what it does to the packets in PACKETS against the connections in CONNS" ++ 10 ∷
    codes "fws why LANG SITE FILE CONNS PACKETS              the same, and for each packet the rules of FILE that apply to it on its way, in the order "
    ++ codes "in which it meets them" ++ 10 ∷
    codes "fws run LANG SITE FILE EVENTS                     what becomes of the packets and expiries in EVENTS, one after the other, while accepted "
    ++ codes "packets open connections" ++ 10 ∷
    codes "fws same LANG SITE FILE LANG2 FILE2               whether the configurations FILE and FILE2 do the same at the site SITE, or a packet with "
    ++ codes "which they don't" ++ 10 ∷
    codes "fws dead LANG SITE FILE                           the rules of FILE that no packet uses at the site SITE, new or established, by their "
    ++ codes "numbers and labels" ++ 10 ∷
    codes "fws load N                                        how many rows the tables of a filter of N generated rules have, N from 1 to 4000, and in "
    ++ codes "how many languages it can be written" ++ 10 ∷
    codes "fws site2 SITE                                    the site file SITE in its second form" ++ 10 ∷
    codes "languages: iptables ipfw pf ios openbsd; TO, and LANG of why and dead: iptables ipfw pf ios" ++ 10 ∷
    codes "fields: entry proto dst dport src sport flags icmp, with est also rdst rdport rsrc rsport; and verdict=accept or verdict=drop" ++ 10 ∷
    codes "exit status: 0 answered, 1 can't be placed, 2 bad command line, 3 a file is refused, 4 a file can't be read, 5 the output can't be written, "
    ++ codes "6 out of memory" ++ 10 ∷ []
