use Rattle.std.proofs.Common.{◌≡◌, ◌++◌, map, drop}
use Rattle.fws_net.specs.SiteSpelling.{face_line, lines_text}
use Rattle.fws_net.proofs.site_spelling.put_faces.Given as goal

abbrev pub invariant-loop-face : goal.invariant-loop-face
invariant-loop-face l = l.out ++ lines_text (map face_line (drop l.face-index l.faces)) ≡ l.initial.out ++ lines_text (map face_line l.faces)
