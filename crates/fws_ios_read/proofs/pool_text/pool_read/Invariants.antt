use Rattle.std.proofs.Common.{◌≡◌, drop}
use Rattle.fws_net.specs.Causes.{words_read}
use Rattle.fws_ios.specs.declared.draft.PoolExpects.TheVariants.{First}
use Rattle.fws_ios.specs.NatText.{pool_step}
use Rattle.fws_ios_read.proofs.pool_text.pool_read.Given as goal

abbrev pub invariant-loop-word : goal.invariant-loop-word
invariant-loop-word l = words_read pool_step l.expects (drop l.word-index l.words) ≡ words_read pool_step First l.words
