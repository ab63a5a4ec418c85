use Rattle.std.proofs.Common.{◌≡◌, ◌++◌, take, drop}
use Rattle.fws_pf_words.specs.Uses.{behind_name, name_ahead}
use Rattle.fws_pf_words.proofs.macros.split_name.Given as goal

abbrev pub invariant-loop-i : goal.invariant-loop-i
invariant-loop-i l = record {
  name : name_ahead l.text ≡ take l.i l.text ++ name_ahead (drop l.i l.text);
  behind : behind_name l.text ≡ behind_name (drop l.i l.text);
}
