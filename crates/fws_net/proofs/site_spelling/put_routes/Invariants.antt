use Rattle.std.proofs.Common.{◌≡◌, ◌++◌, map, drop}
use Rattle.fws_net.specs.SiteSpelling.{route_line, lines_text}
use Rattle.fws_net.proofs.site_spelling.put_routes.Given as goal

abbrev pub invariant-loop-line : goal.invariant-loop-line
invariant-loop-line l = l.out ++ lines_text (map (route_line l.faces) (drop l.line-index l.routes)) ≡ l.initial.out ++ lines_text (map (route_line l.faces) l.routes)
