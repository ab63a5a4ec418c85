use Rattle.std.proofs.Common.{◌≡◌, ◌++◌, map, drop}
use Rattle.fws_net.specs.SiteSpelling.{address_line, lines_text}
use Rattle.fws_net.proofs.site_spelling.put_addresses_of.Given as goal

abbrev pub invariant-loop-own : goal.invariant-loop-own
invariant-loop-own l = l.out ++ lines_text (map (address_line l.name) (drop l.own-index l.addrs)) ≡ l.initial.out ++ lines_text (map (address_line l.name) l.addrs)
