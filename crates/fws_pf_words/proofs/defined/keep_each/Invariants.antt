use Rattle.std.proofs.Common.{◌≡◌, drop}
use Rattle.fws_pf_words.specs.Additions.{AreUseAdditions}
use Rattle.fws_pf_words.specs.Kept.{kept_read}
use Rattle.fws_pf_words.proofs.defined.keep_each.Given as goal

abbrev pub invariant-loop-w : goal.invariant-loop-w
invariant-loop-w l = record {
  kept : kept_read l.macros l.kept (drop l.w-index l.words) ≡ kept_read l.macros l.fn.kept l.words;
  known : AreUseAdditions l.macros l.uses;
}
