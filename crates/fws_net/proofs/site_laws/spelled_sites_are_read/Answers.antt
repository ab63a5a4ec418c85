use Rattle.fws_net.proofs.SpelledRead.{spelled_read}
use Rattle.fws_net.proofs.site_laws.spelled_sites_are_read.Goals as goal

pub returns : goal.returns
returns c = spelled_read (record {
  texts = c.texts_are_read.ensures;
  decimals = c.decimals_are_read.ensures;
  quads = c.quads_are_dotted.ensures;
  digits = c.numbers_are_digits.ensures;
  dotted_bytes = c.addresses_are_dotted.ensures;
  splits = c.splits_back.ensures;
})
