use Rattle.std.proofs.Common.{ap, ◌∙◌}
use Rattle.std.specs.List.{list_any}
use Rattle.std.specs.Str.{bytes_eq}
use Rattle.fws_pf.specs.Values.{marks}
use Rattle.fws_pf_words.proofs.Marks.{plain_any, quoted_none}
use Rattle.fws_pf_words.proofs.values.is_any_mark.Goals as goal

pub returns-then-w : goal.returns-then-w
returns-then-w c = quoted_none c.args.w.now marks c.if-w.true

pub returns : goal.returns
returns c = c.is_mark_text.ensures ∙ ap (λ t. list_any (bytes_eq t) marks) c.as_slice.ensures ∙ plain_any c.args.w.now marks c.if-w.false
