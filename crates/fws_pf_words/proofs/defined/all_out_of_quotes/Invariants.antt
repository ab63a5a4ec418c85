use Rattle.std.proofs.Common.{◌≡◌, drop}
use Rattle.fws_pf.specs.Macros.{all_out_of_quotes}
use Rattle.fws_pf_words.proofs.Keeping.{put_ahead}
use Rattle.fws_pf_words.proofs.defined.all_out_of_quotes.Given as goal

abbrev pub invariant-loop-w : goal.invariant-loop-w
invariant-loop-w l = put_ahead l.all (all_out_of_quotes (drop l.w-index l.words)) ≡ all_out_of_quotes l.words
