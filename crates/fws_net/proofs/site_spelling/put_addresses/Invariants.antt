use Rattle.std.proofs.Common.{◌≡◌, ◌++◌, drop}
use Rattle.fws_net.specs.SiteSpelling.{address_lines, lines_text}
use Rattle.fws_net.proofs.site_spelling.put_addresses.Given as goal

abbrev pub invariant-loop-face : goal.invariant-loop-face
invariant-loop-face l = l.out ++ lines_text (address_lines (drop l.face-index l.faces)) ≡ l.initial.out ++ lines_text (address_lines l.faces)
