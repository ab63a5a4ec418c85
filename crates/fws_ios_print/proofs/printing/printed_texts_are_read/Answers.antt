use Rattle.fws_ios_print.proofs.ReadBack.{printed_read}
use Rattle.fws_ios_print.proofs.printing.printed_texts_are_read.Goals as goal

pub returns : goal.returns
returns c = printed_read (record {
  decimals = c.decimals_are_read.ensures;
  quads = c.quads_are_dotted.ensures;
  digits = c.numbers_are_digits.ensures;
  dotted_bytes = c.addresses_are_dotted.ensures;
  words = c.words_are_read.ensures;
  lines = c.lines_are_read.ensures;
  same_members = c.same_members_same_list.ensures;
  ranges_regular = c.ranges_are_regular.ensures;
  ranges_members = c.ranges_add_members.ensures;
  named = c.orderly_sites_are_named.ensures;
})
