use Rattle.std.proofs.Common.{◌≡◌, ◌+◌, ◌++◌, drop, map}
use Rattle.fws_num.specs.Written.{ended}
use Rattle.fws_ios_print.specs.PrintedText.{interfaces_lines}
use Rattle.fws_ios_print.proofs.interfaces.put_faces.Given as goal

abbrev pub invariant-loop-face : goal.invariant-loop-face
invariant-loop-face l = record {
  counted : l.number ≡ l.face-index + 2;
  put : l.out ++ ended (interfaces_lines l.c l.number (map (λ face. face.names.ios) (drop l.face-index l.faces)) l.left)
      ≡ l.initial.out ++ ended (interfaces_lines l.c 2 (map (λ face. face.names.ios) l.faces) l.groups);
}
