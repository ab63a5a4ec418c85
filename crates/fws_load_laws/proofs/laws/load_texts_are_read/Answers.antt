use Rattle.fws_load_laws.proofs.FiltersRead.{filters_read}
use Rattle.fws_load_laws.proofs.laws.load_texts_are_read.Goals as goal

pub returns : goal.returns
returns c = filters_read (record {
  decimals = c.decimals_are_read.ensures;
  digits = c.numbers_are_digits.ensures;
  dots = c.addresses_are_dotted.ensures;
  prefixes = c.prefixes_are_read.ensures;
  texts = c.texts_are_read.ensures;
})
