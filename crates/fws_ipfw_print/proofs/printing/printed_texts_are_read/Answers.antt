use Rattle.fws_ipfw_print.proofs.ReadBack.{printed_read}
use Rattle.fws_ipfw_print.proofs.printing.printed_texts_are_read.Goals as goal

pub returns : goal.returns
returns c = printed_read (record {
  decimals = c.decimals_are_read.ensures;
  quads = c.quads_are_dotted.ensures;
  prefixes = c.prefixes_are_read.ensures;
  digits = c.numbers_are_digits.ensures;
  dotted_bytes = c.addresses_are_dotted.ensures;
  splits = c.splits_back.ensures;
  joined = c.joined_are_divided.ensures;
  lines = c.lines_are_read.ensures;
  ranges = c.many_ranges_add_members.ensures;
  same = c.same_members_same_list.ensures;
  named = c.orderly_sites_are_named.ensures;
})
