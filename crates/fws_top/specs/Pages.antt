-- The pages of help: what `fws COMMAND --help` writes, one page for each command.
use Rattle.std.specs.Prelude.{ℕ, Option, Some, None, List, [], ◌∷◌, ◌++◌, codes, if◌then◌else◌}
use Rattle.std.specs.Str.{bytes_eq}
use Rattle.fws_top.specs.declared.command_name.CommandName.{CommandName}
use Rattle.fws_top.specs.declared.command_name.CommandName.TheVariants.{Synth, Query, Translate, Trace, Why, Run, Same, Dead, Load, SecondForm}

-- the command that a word names
abbrev pub named_command : List ℕ → Option CommandName
named_command word =
    if bytes_eq word (codes "synth") then Some Synth
    else if bytes_eq word (codes "query") then Some Query
    else if bytes_eq word (codes "translate") then Some Translate
    else if bytes_eq word (codes "trace") then Some Trace
    else if bytes_eq word (codes "why") then Some Why
    else if bytes_eq word (codes "run") then Some Run
    else if bytes_eq word (codes "same") then Some Same
    else if bytes_eq word (codes "dead") then Some Dead
    else if bytes_eq word (codes "load") then Some Load
    else if bytes_eq word (codes "site2") then Some SecondForm
    else None

abbrev pub synth_page : List ℕ
synth_page =
    codes "fws synth LANG SITE FILE new|est" ++ 10 ∷
    10 ∷
    codes "Writes the table of what the configuration FILE does at the site SITE. Each" ++ 10 ∷
    codes "packet is in exactly one row: entry, protocol, destination and port, source and" ++ 10 ∷
    codes "port, TCP flags and ICMP type, and behind the colon what becomes of it. A * is" ++ 10 ∷
    codes "everything. The first line says how many rows there are." ++ 10 ∷
    10 ∷
    codes "  LANG  the language of FILE: iptables, ipfw, pf, ios or openbsd" ++ 10 ∷
    codes "  SITE  the site file: interfaces, addresses and routes of the host" ++ 10 ∷
    codes "  FILE  the configuration" ++ 10 ∷
    codes "  new   for packets that belong to no connection yet" ++ 10 ∷
    codes "  est   for packets of established connections" ++ 10 ∷
    10 ∷
    codes "example: fws synth iptables site.txt router.saved new" ++ 10 ∷
    codes "exit status: 0 answered, 2 bad command line, 3 a file is refused," ++ 10 ∷
    codes "  4 a file can't be read, 5 the output can't be written, 6 out of memory" ++ 10 ∷ []

abbrev pub query_page : List ℕ
query_page =
    codes "fws query LANG SITE FILE new|est [FIELD=SET ..]" ++ 10 ∷
    10 ∷
    codes "Writes the rows of the table of FILE, as synth has it, for the packets that the" ++ 10 ∷
    codes "words FIELD=SET ask for; all rows where there is no such word. A query of one" ++ 10 ∷
    codes "port or host is fast even where the whole table is too large to read." ++ 10 ∷
    10 ∷
    codes "  LANG   the language of FILE: iptables, ipfw, pf, ios or openbsd" ++ 10 ∷
    codes "  SITE   the site file: interfaces, addresses and routes of the host" ++ 10 ∷
    codes "  FILE   the configuration" ++ 10 ∷
    codes "  new    for packets that belong to no connection yet" ++ 10 ∷
    codes "  est    for packets of established connections" ++ 10 ∷
    codes "  FIELD  entry, proto, dst, dport, src, sport, flags or icmp; with est also" ++ 10 ∷
    codes "         rdst, rdport, rsrc or rsport, the ends with which the connection" ++ 10 ∷
    codes "         sends the packet; each at most once" ++ 10 ∷
    codes "  SET    * or items with commas between: numbers or addresses and ranges LO-HI" ++ 10 ∷
    codes "         of them; for entry host, lo and names of interfaces of the site" ++ 10 ∷
    codes "  verdict=accept or verdict=drop asks for the rows with this verdict" ++ 10 ∷
    10 ∷
    codes "example: fws query iptables site.txt router.saved new entry=wan proto=6 dport=22" ++ 10 ∷
    codes "exit status: 0 answered, 2 bad command line, 3 a file is refused," ++ 10 ∷
    codes "  4 a file can't be read, 5 the output can't be written, 6 out of memory" ++ 10 ∷ []

abbrev pub translate_page : List ℕ
translate_page =
    codes "fws translate FROM TO SITE FILE" ++ 10 ∷
    10 ∷
    codes "Writes what the configuration FILE does at the site SITE in the language TO. The" ++ 10 ∷
    codes "text is proved to do the same to every packet. Where TO can't hold the policy," ++ 10 ∷
    codes "the answer is one line, with the clause that the policy breaks and a packet or" ++ 10 ∷
    codes "two that show it." ++ 10 ∷
    10 ∷
    codes "  FROM  the language of FILE: iptables, ipfw, pf, ios or openbsd" ++ 10 ∷
    codes "  TO    the language of the answer: iptables, ipfw, pf or ios" ++ 10 ∷
    codes "  SITE  the site file, with the names of the interfaces in both systems" ++ 10 ∷
    codes "  FILE  the configuration" ++ 10 ∷
    10 ∷
    codes "example: fws translate iptables pf site.txt router.saved" ++ 10 ∷
    codes "exit status: 0 answered, 1 can't be placed, 2 bad command line, 3 a file is" ++ 10 ∷
    codes "  refused, 4 a file can't be read, 5 the output can't be written, 6 out of" ++ 10 ∷
    codes "  memory" ++ 10 ∷ []

abbrev pub trace_page : List ℕ
trace_page =
    codes "fws trace LANG SITE FILE CONNS PACKETS" ++ 10 ∷
    10 ∷
    codes "Writes what the configuration FILE does to each packet in PACKETS, one line for" ++ 10 ∷
    codes "each: est where the packet belongs to a connection in CONNS, else new; then drop" ++ 10 ∷
    codes "or accept; and for an accepted packet the source and destination with which it" ++ 10 ∷
    codes "goes on." ++ 10 ∷
    10 ∷
    codes "  LANG     the language of FILE: iptables, ipfw, pf, ios or openbsd" ++ 10 ∷
    codes "  SITE     the site file: interfaces, addresses and routes of the host" ++ 10 ∷
    codes "  FILE     the configuration" ++ 10 ∷
    codes "  CONNS    a line for each tracked connection: protocol, then destination, port," ++ 10 ∷
    codes "           source and port of its first packet, and the same of its replies" ++ 10 ∷
    codes "  PACKETS  a line for each packet: entry, protocol, destination, port, source," ++ 10 ∷
    codes "           port, TCP flags as a number and ICMP type; 0 for what it doesn't have" ++ 10 ∷
    10 ∷
    codes "example: fws trace iptables site.txt router.saved connections packets" ++ 10 ∷
    codes "exit status: 0 answered, 2 bad command line, 3 a file is refused," ++ 10 ∷
    codes "  4 a file can't be read, 5 the output can't be written, 6 out of memory" ++ 10 ∷ []

abbrev pub why_page : List ℕ
why_page =
    codes "fws why LANG SITE FILE CONNS PACKETS" ++ 10 ∷
    10 ∷
    codes "Writes the lines of trace, and below the line of each packet the rules of FILE" ++ 10 ∷
    codes "that apply to it on its way, in the order in which it meets them: the number of" ++ 10 ∷
    codes "the rule and its place. A policy is no rule and has no line." ++ 10 ∷
    10 ∷
    codes "  LANG     the language of FILE: iptables, ipfw, pf or ios" ++ 10 ∷
    codes "  SITE     the site file: interfaces, addresses and routes of the host" ++ 10 ∷
    codes "  FILE     the configuration" ++ 10 ∷
    codes "  CONNS    a line for each tracked connection: protocol, then destination, port," ++ 10 ∷
    codes "           source and port of its first packet, and the same of its replies" ++ 10 ∷
    codes "  PACKETS  a line for each packet: entry, protocol, destination, port, source," ++ 10 ∷
    codes "           port, TCP flags as a number and ICMP type; 0 for what it doesn't have" ++ 10 ∷
    10 ∷
    codes "example: echo wan 6 203.0.113.2 80 198.51.100.9 50000 2 0 |" ++ 10 ∷
    codes "  fws why iptables site.txt router.saved /dev/null /dev/stdin" ++ 10 ∷
    codes "exit status: 0 answered, 2 bad command line, 3 a file is refused," ++ 10 ∷
    codes "  4 a file can't be read, 5 the output can't be written, 6 out of memory" ++ 10 ∷ []

abbrev pub run_page : List ℕ
run_page =
    codes "fws run LANG SITE FILE EVENTS" ++ 10 ∷
    10 ∷
    codes "Writes what becomes of the events in EVENTS, one after the other. The list of" ++ 10 ∷
    codes "connections is empty at first; an accepted packet opens one where the" ++ 10 ∷
    codes "configuration FILE keeps state of all that it accepts. The last lines are the" ++ 10 ∷
    codes "connections that are listed at the end." ++ 10 ∷
    10 ∷
    codes "  LANG    the language of FILE: iptables, ipfw, pf, ios or openbsd" ++ 10 ∷
    codes "  SITE    the site file: interfaces, addresses and routes of the host" ++ 10 ∷
    codes "  FILE    the configuration" ++ 10 ∷
    codes "  EVENTS  a line for each event: a packet in the words of trace, or expire K," ++ 10 ∷
    codes "          which takes connection K out of the list, counted from 0" ++ 10 ∷
    10 ∷
    codes "example: fws run iptables site.txt router.saved events" ++ 10 ∷
    codes "exit status: 0 answered, 2 bad command line, 3 a file is refused," ++ 10 ∷
    codes "  4 a file can't be read, 5 the output can't be written, 6 out of memory" ++ 10 ∷ []

abbrev pub same_page : List ℕ
same_page =
    codes "fws same LANG SITE FILE LANG2 FILE2" ++ 10 ∷
    10 ∷
    codes "Writes same where the configurations FILE and FILE2 do the same to every packet" ++ 10 ∷
    codes "at the site SITE, new or established. Else it writes differ, a packet with" ++ 10 ∷
    codes "which they don't, and what becomes of that packet in FILE and in FILE2. The" ++ 10 ∷
    codes "status is 0 in both cases." ++ 10 ∷
    10 ∷
    codes "  LANG   the language of FILE: iptables, ipfw, pf, ios or openbsd" ++ 10 ∷
    codes "  SITE   the site file: interfaces, addresses and routes of the host" ++ 10 ∷
    codes "  FILE   a configuration" ++ 10 ∷
    codes "  LANG2  the language of FILE2" ++ 10 ∷
    codes "  FILE2  another configuration" ++ 10 ∷
    10 ∷
    codes "example: fws same iptables site.txt old.saved iptables new.saved" ++ 10 ∷
    codes "exit status: 0 answered, 2 bad command line, 3 a file is refused," ++ 10 ∷
    codes "  4 a file can't be read, 5 the output can't be written, 6 out of memory" ++ 10 ∷ []

abbrev pub dead_page : List ℕ
dead_page =
    codes "fws dead LANG SITE FILE" ++ 10 ∷
    10 ∷
    codes "Writes how many rules of the configuration FILE no packet uses at the site SITE," ++ 10 ∷
    codes "new or established, and the number and place of each. A packet uses the rules" ++ 10 ∷
    codes "that it meets and that apply to it. A rule that none uses is often a mistake in" ++ 10 ∷
    codes "the order of the file: rules ahead of it take all of its packets." ++ 10 ∷
    10 ∷
    codes "  LANG  the language of FILE: iptables, ipfw, pf or ios" ++ 10 ∷
    codes "  SITE  the site file: interfaces, addresses and routes of the host" ++ 10 ∷
    codes "  FILE  the configuration" ++ 10 ∷
    10 ∷
    codes "example: fws dead iptables site.txt router.saved" ++ 10 ∷
    codes "exit status: 0 answered, 2 bad command line, 3 a file is refused," ++ 10 ∷
    codes "  4 a file can't be read, 5 the output can't be written, 6 out of memory" ++ 10 ∷ []

abbrev pub load_page : List ℕ
load_page =
    codes "fws load N" ++ 10 ∷
    10 ∷
    codes "Writes one line about a filter of N rules that the program makes itself, at a" ++ 10 ∷
    codes "site of its own: how many rows its two tables have, and on how many of the four" ++ 10 ∷
    codes "systems it can be placed. It shows how long a policy of this size takes. It" ++ 10 ∷
    codes "reads no file." ++ 10 ∷
    10 ∷
    codes "  N  the number of rules, from 1 to 4000" ++ 10 ∷
    10 ∷
    codes "example: fws load 400" ++ 10 ∷
    codes "exit status: 0 answered, 2 bad command line, 5 the output can't be written," ++ 10 ∷
    codes "  6 out of memory" ++ 10 ∷ []

abbrev pub site2_page : List ℕ
site2_page =
    codes "fws site2 SITE" ++ 10 ∷
    10 ∷
    codes "Writes the site file SITE in its second form, which has lines for further" ++ 10 ∷
    codes "addresses and for routes. Comments and blanks aren't kept. The two forms of a" ++ 10 ∷
    codes "site mean the same." ++ 10 ∷
    10 ∷
    codes "  SITE  the site file; a file with the name --help is read as ./--help" ++ 10 ∷
    10 ∷
    codes "example: fws site2 site.txt" ++ 10 ∷
    codes "exit status: 0 answered, 2 bad command line, 3 a file is refused," ++ 10 ∷
    codes "  4 a file can't be read, 5 the output can't be written, 6 out of memory" ++ 10 ∷ []

-- the page of a command
abbrev pub page_of : CommandName → List ℕ
page_of Synth = synth_page
page_of Query = query_page
page_of Translate = translate_page
page_of Trace = trace_page
page_of Why = why_page
page_of Run = run_page
page_of Same = same_page
page_of Dead = dead_page
page_of Load = load_page
page_of SecondForm = site2_page
