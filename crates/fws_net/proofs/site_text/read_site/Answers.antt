use Rattle.std.proofs.Common.{subst}
use Rattle.fws_num.specs.declared.comments.Comments.TheVariants.{HashLine}
use Rattle.fws_net.specs.declared.draft.Draft.{Draft}
use Rattle.fws_net.specs.Reading.{ReadGiven, text_read}
use Rattle.fws_net.specs.SiteLines.{line_step}
use Rattle.fws_net.specs.SiteText.{finished}
use Rattle.fws_net.proofs.SiteOrderly.{given_sound, given_orderly}
use Rattle.fws_net.proofs.site_text.read_site.Goals as goal

pub returns-clause-given : goal.returns-clause-given
returns-clause-given c =
    subst (λ (d : Draft). ReadGiven c.read_text.result (text_read HashLine line_step finished d c.args.text.now)) c.new-reader.ensures c.read_text.ensures

pub returns-clause-sound : goal.returns-clause-sound
returns-clause-sound c =
    let given = subst (λ (d : Draft). ReadGiven c.read_text.result (text_read HashLine line_step finished d c.args.text.now)) c.new-reader.ensures c.read_text.ensures in
    given_sound c.read_sites_are_orderly.ensures c.args.text.now c.read_text.result given

pub returns-clause-orderly : goal.returns-clause-orderly
returns-clause-orderly c =
    let given = subst (λ (d : Draft). ReadGiven c.read_text.result (text_read HashLine line_step finished d c.args.text.now)) c.new-reader.ensures c.read_text.ensures in
    given_orderly c.read_sites_are_orderly.ensures c.args.text.now c.read_text.result given
